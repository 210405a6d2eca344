use Rattle.std.proofs.Common.{◌≡◌, length}
use Rattle.ca_engine.specs.code.Untestable.{AreMarked}
use Rattle.ca_engine.proofs.untestable.marks_of.Given as goal

abbrev pub invariant-loop-place : goal.invariant-loop-place
invariant-loop-place g l = record {
  long : length l.marks.items ≡ l.place;
  marked : AreMarked (g.R.ExposingRows.chip l.rows) l.defects l.marks.items;
}
