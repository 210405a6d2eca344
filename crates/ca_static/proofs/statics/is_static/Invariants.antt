use Rattle.std.proofs.Common.{ℕ, ◌<◌}
use Rattle.ca_cell.specs.Raw.{circuit_of}
use Rattle.ca_settle.specs.Settled.{IsRoomFor}
use Rattle.ca_static.specs.code.StaticAt.{IsStaticAt}
use Rattle.ca_static.proofs.statics.is_static.Given as goal

abbrev pub invariant-loop-number : goal.invariant-loop-number
invariant-loop-number l = record {
  each : (number : ℕ) → number < l.number → IsStaticAt l.cell number;
  room : IsRoomFor (circuit_of l.cell) l.work;
}
