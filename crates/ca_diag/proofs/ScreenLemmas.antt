-- What is known of a defect under a pair without waves.
use Rattle.std.proofs.Common.{◌≡◌, ℕ, zero, suc, ◌<◌, Bool, false, List, [], ◌∷◌, ◌∙◌}
use Rattle.std.proofs.Common.{length, arith, refl, sym, subst, get_or, inl, inr, true≢false}
use Rattle.std.specs.Prelude.{slice_index, slice_index_or}
use Rattle.ca_net.specs.declared.trit.Trit.{Trit}
use Rattle.ca_flat.specs.declared.chip_defect.ChipDefect.{ChipDefect}
use Rattle.ca_flat.specs.Chip.{Chip}
use Rattle.ca_flat.specs.Pair.{IsShown}
use Rattle.ca_credit.specs.declared.by_lasts.ByLasts.{ByLasts}
use Rattle.ca_credit.specs.declared.by_lasts.ByLasts.TheVariants as by_lasts
use Rattle.ca_credit.specs.Detection.{IsDecided}
use Rattle.ca_diag.specs.declared.screen.Screen.TheVariants.{Stays, Leaves}
use Rattle.ca_diag.specs.code.Failing.{AreMarked}
use Rattle.ca_diag.specs.code.Judged.{FailsAt, IsAgainstSome, IsScreened, IsWithin}

-- what is read within a list doesn't depend on what is answered past it
get_or_other : {T : Type 0} (xs : List T) (k : ℕ) (d e : T) → k < length xs → get_or xs k d ≡ get_or xs k e
get_or_other [] k d e within = absurd (omega (arith, within))
get_or_other (x ∷ xs) zero d e within = refl
get_or_other (x ∷ xs) (suc k) d e within = get_or_other xs k d e (omega (arith, within))

-- where the defect isn't shown, it is detected at no observed output
nowhere : (chip : Chip) (bits : List Trit) (defect : ChipDefect) → ¬ (IsShown chip defect bits) → (output : ℕ)
    → output < length chip.outputs → ¬ (FailsAt chip defect bits output)
nowhere chip bits defect hidden output within fails = hidden (record {
  output = slice_index chip.outputs output;
  observed = (output, within, get_or_other chip.outputs output (slice_index chip.outputs output) 0 within);
  detects = fails;
})

-- where nothing was logged, a defect that predicts no fail stays
none_stays : (chip : Chip) (bits : List Trit) (outputs : List ℕ) (defect : ChipDefect) → outputs ≡ []
    → ((output : ℕ) → output < length chip.outputs → ¬ (FailsAt chip defect bits output))
    → IsScreened chip bits outputs defect Stays
none_stays chip bits outputs defect none passes =
    subst (λ (xs : List ℕ). IsScreened chip bits xs defect Stays) (sym none) (against, refl)
  where
    against : ¬ (IsAgainstSome chip bits [] defect)
    against some = elim some.against [
      | inl (has, _) ↦ absurd (let lt = has.1 in omega (arith, lt))
      | inr (_, fails) ↦ passes some.output some.within fails
    ]

pub ruled_out_stays : (chip : Chip) (bits : List Trit) (outputs : List ℕ) (defect : ChipDefect) → outputs ≡ []
    → ¬ (IsShown chip defect bits) → IsScreened chip bits outputs defect Stays
ruled_out_stays chip bits outputs defect none hidden =
    none_stays chip bits outputs defect none (nowhere chip bits defect hidden)

pub nowhere_stays : (chip : Chip) (bits : List Trit) (outputs : List ℕ) (defect : ChipDefect) → outputs ≡ []
    → IsDecided chip defect bits by_lasts.Nowhere → IsScreened chip bits outputs defect Stays
nowhere_stays chip bits outputs defect none passes = none_stays chip bits outputs defect none passes

-- where the first output at which it is detected wasn't logged, it leaves
pub first_leaves : (chip : Chip) (bits : List Trit) (outputs : List ℕ) (marks : List Bool) (defect : ChipDefect) (output : ℕ)
    → AreMarked outputs marks → output < length marks → slice_index_or marks output false ≡ false
    → IsDecided chip defect bits (by_lasts.At output) → IsScreened chip bits outputs defect Leaves
first_leaves chip bits outputs marks defect output are below unmarked first = record {
  output = output;
  within = first.within;
  against = inr ((λ has. true≢false (sym ((are output below).1 has) ∙ unmarked)), first.here);
}

-- an output that is decided is one of the chip's
pub decided_within : (chip : Chip) (bits : List Trit) (defect : ChipDefect) (lasts : ByLasts) (outputs : ℕ)
    → outputs ≡ length chip.outputs → IsDecided chip defect bits lasts → IsWithin outputs lasts
decided_within chip bits defect by_lasts.Undecided outputs as_many is = tt
decided_within chip bits defect by_lasts.Nowhere outputs as_many is = tt
decided_within chip bits defect (by_lasts.At output) outputs as_many is =
    let within = is.within in omega (arith, within, as_many)
