-- Decisions, and the pairs that they leave.
use Rattle.std.proofs.Common.{◌≡◌, ℕ, ◌<◌, List, [], ◌∷◌, ◌++◌, length, refl, sym, ◌∙◌}
use Rattle.std.proofs.Common.{subst}
use native.Mathlib.Decide.{ℕ_discrete}
use Rattle.std.specs.Prelude.{not, cond, slice_set}
use Rattle.std.proofs.lemmas.List.{length-set, ext_get_or, length-replicate}
use Rattle.ca_net.specs.declared.trit.Trit.{Trit}
use Rattle.ca_net.specs.declared.trit.Trit.TheVariants.{X}
use Rattle.ca_net.specs.State.{value_at}
use Rattle.ca_flat.specs.Chip.{Chip}
use Rattle.ca_flat.specs.Pair.{bit_count}
use Rattle.ca_flat.specs.Codes.{unset_pair, with_bit}
use Rattle.ca_flat.proofs.Codes.{bit_itself, bit_other, length-with_bit}
use Rattle.ca_read_code.specs.declared.walk.Decision.{Decision}
use Rattle.ca_read_code.specs.code.Walk.{pair_after, later_after, AreFresh}

-- a first decision leaves the opposite for later
abbrev pub left_for_later : Decision → List Trit → List (List Trit) → List (List Trit)
left_for_later d pair later = cond d.is_second later (with_bit pair d.bit (not d.value) ∷ later)

pub pair_after_push : (ds : List Decision) (d : Decision) (pair : List Trit)
    → pair_after (ds ++ d ∷ []) pair ≡ with_bit (pair_after ds pair) d.bit d.value
unfolding pair_after
pair_after_push [] d pair = refl
pair_after_push (e ∷ ds) d pair = pair_after_push ds d (with_bit pair e.bit e.value)

pub later_after_push : (ds : List Decision) (d : Decision) (pair : List Trit) (later : List (List Trit))
    → later_after (ds ++ d ∷ []) pair later ≡ left_for_later d (pair_after ds pair) (later_after ds pair later)
unfolding pair_after later_after
later_after_push [] d pair later = refl
later_after_push (e ∷ ds) d pair later =
    later_after_push ds d (with_bit pair e.bit e.value) (left_for_later e pair later)

pub fresh_push : (ds : List Decision) (d : Decision) (pair : List Trit) → AreFresh ds pair
    → d.bit < length (pair_after ds pair) → value_at (pair_after ds pair) d.bit ≡ X → AreFresh (ds ++ d ∷ []) pair
unfolding pair_after AreFresh
fresh_push [] d pair fresh within unset = (within, unset, tt)
fresh_push (e ∷ ds) d pair fresh within unset =
    (fresh.0, fresh.1, fresh_push ds d (with_bit pair e.bit e.value) fresh.2 within unset)

-- what is known of decisions before the last, and of the last
pub record FreshBefore (ds : List Decision) (d : Decision) (pair : List Trit) : Type 0 where
  pub before : AreFresh ds pair
  pub within : d.bit < length (pair_after ds pair)
  pub unset : value_at (pair_after ds pair) d.bit ≡ X

pub fresh_pop : (ds : List Decision) (d : Decision) (pair : List Trit) → AreFresh (ds ++ d ∷ []) pair
    → FreshBefore ds d pair
unfolding pair_after AreFresh
fresh_pop [] d pair fresh = record { before = tt; within = fresh.0; unset = fresh.1 }
fresh_pop (e ∷ ds) d pair fresh =
    let rest = fresh_pop ds d (with_bit pair e.bit e.value) fresh.2 in
    record { before = (fresh.0, fresh.1, rest.before); within = rest.within; unset = rest.unset }

pub length-pair_after : (ds : List Decision) (pair : List Trit) → length (pair_after ds pair) ≡ length pair
unfolding pair_after
length-pair_after [] pair = refl
length-pair_after (d ∷ ds) pair =
    length-pair_after ds (with_bit pair d.bit d.value) ∙ length-with_bit pair d.bit d.value

pub length-unset : (chip : Chip) → length (unset_pair chip) ≡ bit_count chip
length-unset chip = length-replicate (bit_count chip) X

-- a bit that is set twice has its latest value
pub set_twice : (pair : List Trit) (bit : ℕ) (a b : Trit) → bit < length pair
    → slice_set (slice_set pair bit a) bit b ≡ slice_set pair bit b
set_twice pair bit a b within = ext_get_or X (slice_set (slice_set pair bit a) bit b) (slice_set pair bit b)
    (length-set (slice_set pair bit a) bit b ∙ length-set pair bit a ∙ sym (length-set pair bit b))
    (λ n lt. elim (ℕ_discrete n bit) [
      | yes e ↦ subst (λ x. value_at (slice_set (slice_set pair bit a) bit b) x ≡ value_at (slice_set pair bit b) x)
          (sym e) (bit_itself (slice_set pair bit a) bit b
          (subst (λ k. bit < k) (sym (length-set pair bit a)) within) ∙ sym (bit_itself pair bit b within))
      | no other ↦ bit_other (slice_set pair bit a) bit n b other ∙ bit_other pair bit n a other
          ∙ sym (bit_other pair bit n b other)
    ])

-- a bit that was unset, and is unset again
pub set_back : (pair : List Trit) (bit : ℕ) (a : Trit) → bit < length pair → value_at pair bit ≡ X
    → slice_set (slice_set pair bit a) bit X ≡ pair
set_back pair bit a within unset = set_twice pair bit a X within
    ∙ ext_get_or X (slice_set pair bit X) pair (length-set pair bit X) (λ n lt. elim (ℕ_discrete n bit) [
      | yes e ↦ subst (λ x. value_at (slice_set pair bit X) x ≡ value_at pair x) (sym e)
          (bit_itself pair bit X within ∙ sym unset)
      | no other ↦ bit_other pair bit n X other
    ])
