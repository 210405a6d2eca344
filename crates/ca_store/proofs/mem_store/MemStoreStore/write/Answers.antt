use Rattle.std.proofs.Common.{rules, arith, ap, take}
use Rattle.ca_store.specs.Arena.{Shelved}
use Rattle.ca_store.proofs.LastFiles.{is_writing, still_open, writes_on}
use Rattle.ca_store.proofs.mem_store.MemStoreStore.write.Goals as goal

pub invariant_of-self-2-clause-at_place : goal.invariant_of-self-2-clause-at_place
invariant_of-self-2-clause-at_place c =
    let old = c.args.self.now in
    let in_writing = is_writing old.shelf.files old.mode c.requires in
    still_open old.shelf.files _ old.mode (take c.min-taken.result c.args.from.now) in_writing
    (old.at_place.writing in_writing) (ap (λ (s : Shelved). s.files) c.extend.ensures)

pub returns-clause-ok : goal.returns-clause-ok
returns-clause-ok c =
    let old = c.args.self.now in
    let in_writing = is_writing old.shelf.files old.mode c.requires in
    rw in_writing (writes_on old.shelf.files c.extend.new.self.files c.args.from.now c.min-taken.result
    (old.at_place.writing in_writing) (ap (λ (s : Shelved). s.files) c.extend.ensures) (omega arith) (search rules))
