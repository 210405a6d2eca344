use Rattle.std.proofs.Common.{◌≡◌, ◌+◌, ℕ, length}
use Rattle.std.specs.Prelude.{Some, slice_get}
use Rattle.ca_net.specs.declared.wave.Wave.{Wave}
use Rattle.ca_row_block.specs.Rows.{end_at}
use Rattle.ca_row_block.proofs.settle.row_ends.Given as goal

abbrev pub invariant-loop-place : goal.invariant-loop-place
invariant-loop-place g l = record {
  count : length l.waves.items ≡ l.place;
  ends : (k : ℕ) (wave : Wave) → slice_get l.waves.items k ≡ Some wave → wave.last ≡ end_at l.room (l.first + k) l.fn.lane;
}
