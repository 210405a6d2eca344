-- How a pair looks is how it stands.
use Rattle.std.proofs.Common.{◌≡◌, ◌≢◌, ◌↔◌, ℕ, ◌+◌, ◌<◌, Bool, true, List, length, get_or, None, Some, refl}
use Rattle.std.proofs.Common.{sym, ◌∙◌, ap, subst, arith}
use native.Mathlib.Decide.{ℕ_discrete}
use Rattle.std.proofs.lemmas.List.{get_or_default}
use Rattle.std.specs.List.{All, Any, Contains}
use Rattle.std.proofs.lemmas.List.Elements.{All-contains, Contains-get_or}
use Rattle.ca_net.specs.declared.trit.Trit.{Trit}
use Rattle.ca_net.specs.declared.trit.Trit.TheVariants.{X}
use Rattle.ca_net.specs.declared.wave.Wave.{Wave}
use Rattle.ca_cell.specs.Exposes.{opposite_of}
use Rattle.ca_response.specs.Gives.{wave_at}
use Rattle.ca_flat.specs.declared.chip_defect.ChipDefect.{ChipDefect}
use Rattle.ca_flat.specs.Simulation.{IsFlattened}
use Rattle.ca_flat.specs.Pair.{NetEndsAt, DetectsAt, EndsAlike, IsShown, IsSettledPair}
use Rattle.ca_sim.specs.Seen.{Seen, AreNetWaves}
use Rattle.ca_sim.proofs.Exact.{definite_last_is_end_lem}
use Rattle.ca_examiner.specs.code.Ends.{are_opposite, are_alike, is_opposite_at, is_alike_at, AreAlikeBelow}
use Rattle.ca_examiner.proofs.EndLemmas.{opposite_is, is_opposite, opposite_definite, alike_is, is_alike}

-- the waves are those of the pair, without the defect and with it
pub record SeesBoth (rank : ℕ → ℕ) (defect : ChipDefect) (seen : Seen) : Type 0 where
  pub good_flat : IsFlattened seen.chip rank None
  pub faulty_flat : IsFlattened seen.chip rank (Some defect)
  pub good_are : AreNetWaves seen.chip None seen.pair seen.good
  pub faulty_are : AreNetWaves seen.chip (Some defect) seen.pair seen.faulty

module _ (rank : ℕ → ℕ) (defect : ChipDefect) (seen : Seen) (sees : SeesBoth rank defect seen) (net : ℕ)
    (within : net < length seen.chip.nets) where
  good_end : (v : Trit) → ((v ≢ X) × ((wave_at seen.good net).last ≡ v)) ↔ NetEndsAt seen.chip None seen.pair net v
  good_end v =
      definite_last_is_end_lem seen.chip rank None seen.pair seen.good net v sees.good_flat sees.good_are within

  faulty_end : (v : Trit) → ((v ≢ X) × ((wave_at seen.faulty net).last ≡ v))
      ↔ NetEndsAt seen.chip (Some defect) seen.pair net v
  faulty_end v = definite_last_is_end_lem seen.chip rank (Some defect) seen.pair seen.faulty net v
      sees.faulty_flat sees.faulty_are within

  pub detects_at : is_opposite_at seen net ≡ true → DetectsAt seen.chip defect seen.pair net
  detects_at opposite =
      let is = opposite_is (wave_at seen.good net).last (wave_at seen.faulty net).last opposite in
      record {
        value = (wave_at seen.good net).last;
        good = (good_end (wave_at seen.good net).last).0 (is.definite, refl);
        faulty = (faulty_end (opposite_of (wave_at seen.good net).last)).0
            (opposite_definite (wave_at seen.good net).last is.definite, is.opposite);
      }

  pub detected_at : DetectsAt seen.chip defect seen.pair net → is_opposite_at seen net ≡ true
  detected_at detects =
      let good = (good_end detects.value).1 detects.good in
      let faulty = (faulty_end (opposite_of detects.value)).1 detects.faulty in
      ap (λ a. are_opposite a (wave_at seen.faulty net).last) good.1 ∙ ap (are_opposite detects.value) faulty.1
      ∙ is_opposite detects.value good.0

  ends_alike : is_alike_at seen net ≡ true → EndsAlike seen.chip defect seen.pair net
  ends_alike alike =
      let is = alike_is (wave_at seen.good net).last (wave_at seen.faulty net).last alike in
      record {
        value = (wave_at seen.good net).last;
        good = (good_end (wave_at seen.good net).last).0 (is.definite, refl);
        faulty = (faulty_end (wave_at seen.good net).last).0 (is.definite, is.same);
      }

  ended_alike : EndsAlike seen.chip defect seen.pair net → is_alike_at seen net ≡ true
  ended_alike ends =
      let good = (good_end ends.value).1 ends.good in
      let faulty = (faulty_end ends.value).1 ends.faulty in
      ap (λ a. are_alike a (wave_at seen.faulty net).last) good.1 ∙ ap (are_alike ends.value) faulty.1
      ∙ is_alike ends.value good.0

module _ (rank : ℕ → ℕ) (defect : ChipDefect) (seen : Seen) (sees : SeesBoth rank defect seen) (outputs : List ℕ)
    (are : (net : ℕ) → Contains outputs net ↔ Contains seen.chip.outputs net)
    (within : (net : ℕ) → Contains seen.chip.outputs net → net < length seen.chip.nets) where
  pub shown_so : Any (λ net. is_opposite_at seen net ≡ true) outputs → IsShown seen.chip defect seen.pair
  shown_so some =
      let observed = (are some.1).0 (some.0, some.2, some.3) in
      record {
        output = some.1;
        observed = observed;
        detects = detects_at rank defect seen sees some.1 (within some.1 observed) some.4;
      }

  pub so_shown : IsShown seen.chip defect seen.pair → Any (λ net. is_opposite_at seen net ≡ true) outputs
  so_shown shown =
      let at = (are shown.output).1 shown.observed in (
        at.0,
        shown.output,
        at.1,
        at.2,
        detected_at rank defect seen sees shown.output (within shown.output shown.observed) shown.detects,
      )

  pub settled_so : All (λ net. is_alike_at seen net ≡ true) outputs → IsSettledPair seen.chip defect seen.pair
  settled_so all output observed = ends_alike rank defect seen sees output (within output observed)
      (All-contains (λ net. is_alike_at seen net ≡ true) outputs output all ((are output).1 observed))

  pub so_settled : IsSettledPair seen.chip defect seen.pair → All (λ net. is_alike_at seen net ≡ true) outputs
  so_settled settled k d lt =
      let observed = (are _).0 (Contains-get_or outputs k d lt) in
      ended_alike rank defect seen sees _ (within _ observed) (settled _ observed)

-- one more net at which the waves end with one value
pub alike_more : (seen : Seen) (nets : List ℕ) (k e : ℕ) (good faulty : Wave) (b : Bool) → k < length nets
    → AreAlikeBelow seen k nets → good ≡ wave_at seen.good (get_or nets k e)
    → faulty ≡ wave_at seen.faulty (get_or nets k e) → b ≡ are_alike good.last faulty.last → b ≡ true
    → AreAlikeBelow seen (k + 1) nets
alike_more seen nets k e good faulty b within before good_is faulty_is tested is j d lt long = elim (ℕ_discrete j k) [
  | yes same ↦ subst (λ n. is_alike_at seen (get_or nets n d) ≡ true) (sym same)
      (ap (is_alike_at seen) (get_or_default nets k d e within)
      ∙ ap (λ (w : Wave). are_alike w.last (wave_at seen.faulty (get_or nets k e)).last) (sym good_is)
      ∙ ap (λ (w : Wave). are_alike good.last w.last) (sym faulty_is) ∙ sym tested ∙ is)
  | no other ↦ before j d (omega arith) long
]
