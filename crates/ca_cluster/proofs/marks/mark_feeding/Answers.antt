use Rattle.std.proofs.Common.{◌<◌, length, ap, subst, arith}
use Rattle.ca_linked.specs.Linked.{net_count, gate_inputs}
use Rattle.ca_cluster.specs.code.Ends.{IsOnOutput}
use Rattle.ca_cluster.specs.code.Marks.{Back, ByNet}
use Rattle.ca_merge.proofs.PinLemmas.{inputs_within}
use Rattle.ca_cluster.proofs.SpreadLemmas.{spread_same, feeding_by, library_known, no_scan}
use Rattle.std.specs.List.{All}
use Rattle.std.specs.Prelude.{refl}
use Rattle.ca_cluster.proofs.marks.mark_feeding.Goals as goal

pub part-requires : goal.part-requires
part-requires c = library_known c.args.chip.now c.args.u.0 c.requires.library

pub mark_drivers-requires-clause-on_nets : goal.mark_drivers-requires-clause-on_nets
mark_drivers-requires-clause-on_nets c =
    subst (All (λ net. net < net_count c.args.chip.now)) (ap gate_inputs c.in-Gate.is)
    (inputs_within c.args.chip.now c.args.u.0 (net_count c.args.chip.now) c.part.result.now c.wired.ensures c.part.ensures refl)

pub returns : goal.returns
returns c =
    spread_same (ByNet (IsOnOutput c.args.chip.now) c.in-Gate.inputs (length c.in-Gate.inputs)) (Back c.args.chip.now c.args.u.0)
    c.args.marks.now c.mark_drivers.new.marks
    (feeding_by c.args.chip.now c.args.u.0 c.part.result.now c.part.ensures c.in-Gate.inputs (length c.in-Gate.inputs) (ap gate_inputs c.in-Gate.is) (omega arith))
    c.mark_drivers.ensures

pub unreachable-requires : goal.unreachable-requires
unreachable-requires c = no_scan c.args.chip.now c.args.u.0 c.part.result.now _ c.requires.library c.part.ensures c.in-Scan.is
