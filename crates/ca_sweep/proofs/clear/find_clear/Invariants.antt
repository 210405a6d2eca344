use Rattle.ca_net.specs.State.{value_at}
use Rattle.ca_sweep.specs.Seen.{IsClear}
use Rattle.ca_sweep.specs.Tables.{AreMarks}
use Rattle.ca_sweep.specs.code.Kept.{IsPassing}
use Rattle.ca_sweep.proofs.clear.find_clear.Given as goal

abbrev pub invariant-loop-before : goal.invariant-loop-before
invariant-loop-before l = record {
  clear : AreMarks l.chip.core (IsClear l.chip.core (value_at l.lasts)) l.clear.items;
  passing : AreMarks l.chip.core (IsPassing l.chip.core (value_at l.lasts)) l.passing.items;
}
