-- Waves of which the lasts alone are known.
use Rattle.std.proofs.Common.{ℕ, zero, suc, ◌+◌, ◌-◌, ◌/◌, ◌%◌, ◌^◌, ◌<◌, ◌≡◌, refl, sym, ap, ◌∙◌, subst, List, []}
use Rattle.std.proofs.Common.{◌∷◌, ◌++◌, length, arith, append_assoc, replicate}
use Rattle.std.specs.List.{All}
use Rattle.ca_net.specs.declared.trit.Trit.TheVariants.{X}
use Rattle.ca_net.specs.declared.wave.Wave.{Wave}
use Rattle.ca_net.specs.Wave.{IsWave, pair_of}
use Rattle.ca_cell.specs.Row.{digit_value, vector_of}
use Rattle.ca_response.proofs.PairLemmas.{pairs_are_waves, length-pairs_of}
use Rattle.ca_static.specs.code.StaticAt.{waves_to}

pub length-vector_of : (inputs number : ℕ) → length (vector_of inputs number) ≡ inputs
length-vector_of zero number = refl
length-vector_of (suc after) number = ap suc (length-vector_of after number)

pub length-unknown : (count : ℕ) → length (replicate count X) ≡ count
length-unknown zero = refl
length-unknown (suc count) = ap suc (length-unknown count)

pub same_count : (inputs number : ℕ) → length (vector_of inputs number) ≡ length (replicate inputs X)
same_count inputs number = length-vector_of inputs number ∙ sym (length-unknown inputs)

pub length-waves_to : (inputs number : ℕ) → length (waves_to inputs number) ≡ inputs
length-waves_to inputs number = length-pairs_of (replicate inputs X) (vector_of inputs number) (same_count inputs number) ∙ length-unknown inputs

pub waves_to_are_waves : (inputs number : ℕ) → All IsWave (waves_to inputs number)
waves_to_are_waves inputs number = pairs_are_waves (replicate inputs X) (vector_of inputs number)

-- the waves so far and those to come are all, with one more
pub wave_pushed : (inputs before after number : ℕ) (wave : Wave) (old new all : List Wave) → before < inputs → after ≡ inputs - 1 - before
    → wave ≡ pair_of X (digit_value (number / 2 ^ after % 2)) → old ++ waves_to (inputs - before) number ≡ all → new ≡ old ++ wave ∷ []
    → new ++ waves_to (inputs - (before + 1)) number ≡ all
wave_pushed inputs before after number wave old new all below is_after is so_far pushed =
    let left : inputs - before ≡ suc after = omega arith in
    let then : inputs - (before + 1) ≡ after = omega arith in
    let split : old ++ (pair_of X (digit_value (number / 2 ^ after % 2)) ∷ waves_to after number) ≡ all = subst (λ count. old ++ waves_to count number ≡ all) left so_far in
    rw (then, pushed, is) (append_assoc old _ _ ∙ split)
