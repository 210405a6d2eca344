-- Where no pin is flipped, nothing is seen.
use Rattle.std.proofs.Common.{◌≡◌, ℕ, zero, suc, false, refl, sym, ap, inl}
use Rattle.std.specs.Prelude.{slice_index}
use Rattle.ca_net.specs.declared.trit.Trit.{Trit}
use Rattle.ca_net.specs.declared.trit.Trit.TheVariants.{Zero, One, X}
use Rattle.ca_flat.specs.Chip.{Chip, output_net}
use Rattle.ca_flips.specs.Flips.{IsOpposite}
use Rattle.ca_sweep.specs.declared.seen.Flips.{Flips}
use Rattle.ca_sweep.specs.declared.seen.Seen.TheVariants.{Nowhere}
use Rattle.ca_sweep.specs.Seen.{is_flipped, flipped_if, IsClear, IsSeen}

-- a value isn't its own opposite
not_own : (v : Trit) → IsOpposite v v → ⊥
not_own Zero is = let e = is.1 in absurd cc
not_own One is = let e = is.1 in absurd cc
not_own X is = is.0 refl

unflipped : (flips : Flips) (output : ℕ) → flips.first ≡ false → flips.second ≡ false → is_flipped flips output ≡ false
unflipped flips zero first second = first
unflipped flips (suc output) first second = second

pub none_seen : (chip : Chip) (goods : ℕ → Trit) (u : ℕ) (flips : Flips) → IsClear chip goods u → flips.first ≡ false → flips.second ≡ false
    → IsSeen chip goods u flips Nowhere
none_seen chip goods u flips clear first second = record {
  clear = clear;
  values = goods;
  swept = record {
    inputs = λ net less is. refl;
    given = λ output within. sym (ap (λ b. flipped_if b (goods (output_net chip u output))) (unflipped flips output first second));
    others = λ w known apart. inl (record { pins = λ pin within. refl; outputs = λ output within. refl });
  };
  first = λ place less opposite. not_own (goods (slice_index chip.outputs place)) opposite;
}
