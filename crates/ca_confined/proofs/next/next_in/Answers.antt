use Rattle.std.proofs.Common.{◌<◌, ◌^◌, bit_and, w64, arith}
use Rattle.std.specs.Int.{trailing_zeros}
use Rattle.std.proofs.lemmas.Nat.{and_le_l}
use Rattle.std.proofs.lemmas.Nat.Bits.{bit_at-trailing_zeros}
use Rattle.ca_confined.proofs.NextLemmas.{found_here, none_here}
use Rattle.ca_confined.proofs.next.next_in.Goals as goal

pub returns-then-both-ne0 : goal.returns-then-both-ne0
returns-then-both-ne0 c =
    let a = c.window.result in
    let b = c.window-in-loop-place.result in
    let le = and_le_l a b in
    let small : bit_and a b < 2 ^ 64 = omega arith in
    let lowest = bit_at-trailing_zeros w64 (bit_and a b) (omega arith) small in
    found_here c.args.set.now c.args.other.now c.args.from c.loop-place.place a b c.window.ensures c.window-in-loop-place.ensures
    c.loop-place.invariant.low c.loop-place.invariant.none (trailing_zeros w64 (bit_and a b)) lowest.0 lowest.1 lowest.2

pub loop-place-preserved : goal.loop-place-preserved
loop-place-preserved c = record {
  none = none_here c.args.set.now c.args.other.now c.args.from c.loop-place.place c.window.result c.window-in-loop-place.result
      c.window.ensures c.window-in-loop-place.ensures c.loop-place.invariant.low c.loop-place.invariant.none c.if-both-ne0.false;
  low = let l = c.loop-place.invariant.low in omega arith;
}
