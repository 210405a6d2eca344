use Rattle.ca_view.specs.Core.{core_of}
use Rattle.ca_view.specs.code.Pins.{items_of, AreInputNets}
use Rattle.ca_view.proofs.pins.all_inputs.Given as goal

abbrev pub invariant-loop-u : goal.invariant-loop-u
invariant-loop-u l = AreInputNets (core_of l.chip) l.u (items_of l.rows.items)
