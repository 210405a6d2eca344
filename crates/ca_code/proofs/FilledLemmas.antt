-- Partial pairs whose unset bits are filled with 0.
use Rattle.std.proofs.Common.{◌≢◌, ℕ, zero, suc, ◌<◌, List, [], ◌∷◌, length}
use Rattle.std.proofs.Common.{inl, inr, refl, sym, subst, arith}
use Rattle.ca_net.specs.declared.trit.Trit.{Trit}
use Rattle.ca_net.specs.declared.trit.Trit.TheVariants.{Zero, One, X}
use Rattle.ca_net.specs.Trit.{IsBelow}
use Rattle.ca_net.specs.State.{value_at}
use Rattle.ca_flat.specs.Codes.{bit_trit}
use Rattle.ca_flat.proofs.Completions.{shown_is_kept_lem}
use Rattle.ca_code.specs.Filled.{filled_bit, filled, trits_of, FilledIsShown}

below_filled : (t : Trit) → IsBelow t (bit_trit (filled_bit t))
below_filled Zero = inr refl
below_filled One = inr refl
below_filled X = inl refl

filled_definite : (t : Trit) → bit_trit (filled_bit t) ≢ X
filled_definite Zero e = cc
filled_definite One e = cc
filled_definite X e = cc

-- each value stays or is filled
pub filled_above : (partial : List Trit) (n : ℕ) → IsBelow (value_at partial n) (value_at (trits_of (filled partial)) n)
filled_above [] n = inl refl
filled_above (t ∷ partial) zero = below_filled t
filled_above (t ∷ partial) (suc n) = filled_above partial n

pub filled_at : (partial : List Trit) (n : ℕ) → n < length partial → value_at (trits_of (filled partial)) n ≢ X
filled_at [] n lt e = absurd (omega arith)
filled_at (t ∷ partial) zero lt e = filled_definite t e
filled_at (t ∷ partial) (suc n) lt e = filled_at partial n (omega arith) e

pub filled_is_shown_lem : FilledIsShown
filled_is_shown_lem chip defect partial as_many shown = shown_is_kept_lem chip defect partial (trits_of (filled partial)) (record {
  above = filled_above partial;
  sets_all = λ bit within. filled_at partial bit (subst (λ n. bit < n) (sym as_many) within);
}) shown
