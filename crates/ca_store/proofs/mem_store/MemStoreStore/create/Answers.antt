use Rattle.std.proofs.Common.{ap}
use Rattle.ca_store.specs.Arena.{Shelved}
use Rattle.ca_store.proofs.LastFiles.{creates_file}
use Rattle.ca_store.proofs.mem_store.MemStoreStore.create.Goals as goal

pub returns-clause-ok : goal.returns-clause-ok
returns-clause-ok c =
    let added = rw c.as_bytes.ensures.value at c.add.ensures in
    creates_file c.args.self.now.shelf.files c.add.new.self.files c.args.name.now (ap (λ (s : Shelved). s.files) added)
