use Rattle.ca_view.specs.Core.{core_of}
use Rattle.ca_view.specs.code.Pins.{items_of, AreOutputNets}
use Rattle.ca_view.proofs.pins.all_outputs.Given as goal

abbrev pub invariant-loop-u : goal.invariant-loop-u
invariant-loop-u l = AreOutputNets (core_of l.chip) l.u (items_of l.rows.items)
