use Rattle.std.proofs.Common.{◌<◌, length, ap, subst, arith}
use Rattle.ca_linked.specs.Linked.{net_count, gate_outputs}
use Rattle.ca_linked.specs.Reading.{Reads}
use Rattle.ca_cluster.specs.code.Marks.{Onward, ByNet}
use Rattle.ca_merge.proofs.PinLemmas.{outputs_within}
use Rattle.ca_cluster.proofs.SpreadLemmas.{spread_same, fed_by, library_known, no_scan}
use Rattle.std.specs.List.{All}
use Rattle.std.specs.Prelude.{refl}
use Rattle.ca_cluster.proofs.marks.mark_fed.Goals as goal

pub part-requires : goal.part-requires
part-requires c = library_known c.args.chip.now c.args.u.0 c.requires.library

pub mark_readers-requires-clause-on_nets : goal.mark_readers-requires-clause-on_nets
mark_readers-requires-clause-on_nets c =
    subst (All (λ net. net < net_count c.args.chip.now)) (ap gate_outputs c.in-Gate.is)
    (outputs_within c.args.chip.now c.args.u.0 (net_count c.args.chip.now) c.part.result.now c.wired.ensures c.part.ensures refl)

pub returns : goal.returns
returns c =
    spread_same (ByNet (λ net x. Reads c.args.chip.now x net) c.in-Gate.outputs (length c.in-Gate.outputs)) (Onward c.args.chip.now c.args.u.0)
    c.args.marks.now c.mark_readers.new.marks
    (fed_by c.args.chip.now c.args.u.0 c.part.result.now c.part.ensures c.in-Gate.outputs (length c.in-Gate.outputs) (ap gate_outputs c.in-Gate.is) (omega arith))
    c.mark_readers.ensures

pub unreachable-requires : goal.unreachable-requires
unreachable-requires c = no_scan c.args.chip.now c.args.u.0 c.part.result.now _ c.requires.library c.part.ensures c.in-Scan.is
