use Rattle.std.proofs.Common.{◌≡◌, ◌+◌, ◌*◌, ◌<◌, ℕ, length}
use Rattle.ca_planes.specs.Trits.{state_in}
use Rattle.ca_row_block.specs.code.Loaded.{IsLoadedTo, rails_and, side_of}
use Rattle.ca_row_block.proofs.load.load_rows.Given as goal

abbrev pub invariant-loop-place : goal.invariant-loop-place
invariant-loop-place l = record {
  zeros : length l.block.zeros.items ≡ length l.fn.block.zeros.items;
  ones : length l.block.ones.items ≡ length l.fn.block.ones.items;
  loaded : (lane : ℕ) → lane < 64 → IsLoadedTo (2 + l.place) (rails_and (side_of l.fn.side l.fn.inputs (l.fn.number * 64 + lane))) (state_in l.block lane);
}
