-- Where too many pairs are found, more defects can be exposed than pairs may be listed.
use Rattle.std.proofs.Common.{ℕ, ◌≡◌, ◌<◌, ◌≤◌, ◌∙◌, refl, sym, ap, subst, arith, List, length, get_or, Bool, true, false, true≢false}
use Rattle.std.specs.Prelude.{eqb, slice_get, IsSomeAnd, Some}
use Rattle.std.specs.List.{Contains, IsDistinct, list_any}
use Rattle.std.proofs.lemmas.Bool.{eqb-true}
use Rattle.std.proofs.lemmas.Cmp.{nat_eq_equiv}
use Rattle.std.proofs.lemmas.Option.{slice_get-get_or}
use Rattle.std.proofs.lemmas.Map.Keys.{IsDistinct-from_apart}
use Rattle.std.proofs.lemmas.Map.Made.{length-le_from_is_member}
use Rattle.std.proofs.lemmas.Map.Views.{Contains-from_any, list_any-from_Contains}
use Rattle.ca_credit.specs.Defects.{Task, IsDefectAt, IsSearchable}
use Rattle.ca_credit.specs.Detection.{Detects}
use Rattle.ca_credit.specs.Listed.{AreAims, IsAim, IsAscending}
use Rattle.ca_credit.proofs.LawLemmas.{unexposable_is_undetected_lem}
use Rattle.ca_flat.specs.declared.chip_defect.ChipDefect.{ChipDefect}
use Rattle.ca_generate.specs.Laws.{HasExposable, TooManyNeedsExposable}

-- numbers that ascend differ
ascend_distinct : (numbers : List ℕ) → IsAscending numbers → IsDistinct eqb numbers
ascend_distinct numbers ascending = IsDistinct-from_apart eqb numbers apart
  where
    apart : (i j d : ℕ) → i < j → j < length numbers → eqb (get_or numbers i d) (get_or numbers j d) ≡ false
    apart i j d before within = by (eqb (get_or numbers i d) (get_or numbers j d)) refl
      where
        low : get_or numbers i d < get_or numbers j d
        low = ascending i j (get_or numbers i d) (get_or numbers j d) before
            (slice_get-get_or numbers i d (omega (arith, before, within))) (slice_get-get_or numbers j d within)

        by : (same : Bool) → eqb (get_or numbers i d) (get_or numbers j d) ≡ same → same ≡ false
        by false e = refl
        by true e = let same = eqb-true (get_or numbers i d) (get_or numbers j d) e in absurd (omega (arith, low, same))

module _ (task : Task) (pairs : List (List Bool)) (aims places : List ℕ)
    (searchable : (place : ℕ) (defect : ChipDefect) → IsDefectAt task place defect → IsSearchable (task.chip_of place) defect)
    (has : HasExposable task places) (are : AreAims task pairs aims) where
  -- an aim whose place isn't listed can't be exposed, but its pair detects it
  unlisted : (number aim : ℕ) → slice_get aims number ≡ Some aim → (Contains places aim → ⊥) → ⊥
  unlisted number aim at none =
      let is : IsAim task pairs number aim = are.each number aim at in
      let defect = is.found_at.defect in
      let detects = subst (λ found. IsSomeAnd found (Detects (task.chip_of aim) defect)) is.is_pair is.first.here in
      unexposable_is_undetected_lem (task.chip_of aim) defect is.pair (searchable aim defect is.found_at.is_defect)
      (λ exposed. none (has aim defect is.found_at.is_defect exposed)) detects

  listed : (aim : ℕ) → list_any (eqb aim) aims ≡ true → list_any (eqb aim) places ≡ true
  listed aim among = by (list_any (eqb aim) places) refl
    where
      in_aims : Contains aims aim
      in_aims = Contains-from_any eqb-true aim aims among

      by : (there : Bool) → list_any (eqb aim) places ≡ there → there ≡ true
      by true e = refl
      by false e = absurd (unlisted in_aims.0 aim (slice_get-get_or aims in_aims.0 aim in_aims.1 ∙ ap Some in_aims.2)
          (λ contains. true≢false (sym (list_any-from_Contains nat_eq_equiv aim places contains) ∙ e)))

  pub as_many : length aims ≤ length places
  as_many = length-le_from_is_member nat_eq_equiv aims places (ascend_distinct aims are.ascending) listed

pub too_many : TooManyNeedsExposable
too_many task pairs aims places searchable has (count, are) =
    let within = as_many task pairs aims places searchable has are in
    let one_each = are.one_each in
    omega (arith, within, one_each, count)
