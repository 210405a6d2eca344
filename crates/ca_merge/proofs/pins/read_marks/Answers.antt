use Rattle.std.proofs.Common.{◌<◌, length, subst}
use Rattle.ca_linked.specs.Linked.{gate_inputs}
use Rattle.ca_merge.proofs.PinLemmas.{member_within, member_marked, inputs_within}
use Rattle.ca_merge.proofs.pins.read_marks.Goals as goal

pub part-requires : goal.part-requires
part-requires c =
    member_within c.args.chip.now c.args.members.now c.loop-k.k c.get.result.0 c.wired.ensures c.requires.gates
    (subst (λ n. c.loop-k.k < n) c.len-k-end.ensures c.loop-k-test.true) c.get.ensures

pub mark_inputs-requires : goal.mark_inputs-requires
mark_inputs-requires c =
    inputs_within c.args.chip.now c.get.result.0 (length c.loop-k.marks) c.part.result.now c.wired.ensures c.part.ensures c.loop-k.invariant.room

pub loop-k-preserved : goal.loop-k-preserved
loop-k-preserved c =
    member_marked gate_inputs c.args.chip.now c.args.members.now _ c.loop-k.k c.get.result.0 c.part.result.now c.loop-k.marks c.mark_inputs.new.marks
    (subst (λ n. c.loop-k.k < n) c.len-k-end.ensures c.loop-k-test.true) c.get.ensures c.part.ensures c.loop-k.invariant c.mark_inputs.ensures
