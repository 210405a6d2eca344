use Rattle.std.proofs.Common.{refl, get_or}
use Rattle.std.proofs.lemmas.Option.{slice_get-get_or}
use Rattle.ca_draft.proofs.MarkLemmas.{marks_more}
use Rattle.ca_fault_place.proofs.nets.marks_of.Goals as goal

pub loop-k-preserved : goal.loop-k-preserved
loop-k-preserved c =
    let lt = c.loop-k-test.true in
    let wire = get_or c.args.wires.now c.loop-k.k 0 in
    marks_more c.args.earliest.now c.args.wires.now c.loop-k.k wire (get_or c.args.earliest.now wire 0) c.loop-k.used.items
    (slice_get-get_or c.args.wires.now c.loop-k.k 0 lt) refl (c.requires.listed c.loop-k.k 0 lt) c.loop-k.invariant
