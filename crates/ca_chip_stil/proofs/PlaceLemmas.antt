-- The places of the scan instances, from the last one to the first.
use Rattle.std.proofs.Common.{◌≡◌, ℕ, ◌+◌, ◌<◌, true, false, not, cond, List, [], ◌∷◌, ◌++◌, length, map}
use Rattle.std.proofs.Common.{drop, replicate, refl, sym, ap, ◌∙◌, subst, arith, get_or, inl, inr}
use Rattle.std.specs.Prelude.{eqb, Option, Some, None, IsSomeAnd, slice_get, take}
use Rattle.std.specs.List.{position_or_len}
use Rattle.std.proofs.lemmas.Bool.{cases_lt, ne_eqb, eq-eqb}
use Rattle.std.proofs.lemmas.List.{drop_all, get_or-set_same, get_or-set_other, length-replicate}
use Rattle.std.proofs.lemmas.List.{get_or-replicate, map-append}
use Rattle.std.proofs.lemmas.List.Sums.{fails_before_first}
use Rattle.std.proofs.Math.ListN.{set, length-set}
use native.Mathlib.Decide.{ℕ_discrete}
use Rattle.std.proofs.lemmas.Option.{slice_get_within, slice_get-get_or, get_or_from_slice_get}
use Rattle.ca_linked.specs.declared.parts.Part.{Part}
use Rattle.ca_linked.specs.Linked.{LinkedChip}
use Rattle.ca_linked.specs.Instances.{IsScan, scans_of}
use Rattle.ca_linked.proofs.EndLemmas.{drop_at, take_more}
use Rattle.ca_scan.specs.Chain.{IsScanAt}
use Rattle.ca_scan.proofs.JointLemmas.{scan_at, scan_place}
use Rattle.ca_chip_stil.specs.ChipStil.{place_of}
use Rattle.ca_chip_stil.specs.code.Kept.{ArePlacesFrom, AreScans}

-- a scan instance is one of the chip's
pub at_within : (chip : LinkedChip) (u : ℕ) → IsScanAt chip u → u < length chip.parts
at_within chip u there = by (slice_get chip.parts u) refl there
  where
    by : (o : Option Part) → slice_get chip.parts u ≡ o → IsSomeAnd o (λ part. IsScan part.body) → u < length chip.parts
    by None at is = absurd is
    by (Some part) at is = slice_get_within chip.parts u part at

pub scan_within : (chip : LinkedChip) (k u : ℕ) → slice_get (scans_of chip) k ≡ Some u → u < length chip.parts
scan_within chip k u at = at_within chip u (scan_at chip k u at)

-- no place is known yet
pub places_none : (chip : LinkedChip) (count : ℕ) (table : List ℕ) → count ≡ length (scans_of chip)
    → table ≡ replicate (length chip.parts) count → ArePlacesFrom chip count table
places_none chip count table counted is = record {
  room = ap length is ∙ length-replicate (length chip.parts) count;
  each = λ u lt.
      let last = ap (position_or_len (eqb u)) (drop_all count (scans_of chip) (omega (arith, counted))) in
      let read = ap (λ (xs : List ℕ). get_or xs u 0) is ∙ get_or-replicate (length chip.parts) u count 0 lt in
      omega (arith, last, read);
}

-- the place of one scan instance more
pub places_more : (chip : LinkedChip) (k u : ℕ) (table : List ℕ) → slice_get (scans_of chip) k ≡ Some u → u < length chip.parts
    → ArePlacesFrom chip (k + 1) table → ArePlacesFrom chip k (set table u k)
places_more chip k u table at within are = record {
  room = length-set table u k ∙ are.room;
  each = λ v lt. elim (ℕ_discrete v u) [ yes same ↦ here v same | no other ↦ there v lt other ];
}
  where
    rest : ℕ → List ℕ
    rest n = drop n (scans_of chip)

    here : (v : ℕ) → v ≡ u → get_or (set table u k) v 0 ≡ k + position_or_len (eqb v) (drop k (scans_of chip))
    here v same =
        let read = ap (λ n. get_or (set table u k) n 0) same
        ∙ get_or-set_same table u k 0 (subst (λ n. u < n) (sym are.room) within) in
        let first = ap (position_or_len (eqb v)) (drop_at (scans_of chip) k u at)
        ∙ ap (λ test. cond (not test) (1 + position_or_len (eqb v) (drop (k + 1) (scans_of chip))) 0) (eq-eqb v u same) in
        omega (arith, read, first)

    there : (v : ℕ) → v < length chip.parts → (v ≡ u → ⊥)
        → get_or (set table u k) v 0 ≡ k + position_or_len (eqb v) (drop k (scans_of chip))
    there v lt other =
        let read = get_or-set_other table u v k 0 other ∙ are.each v lt in
        let later = ap (position_or_len (eqb v)) (drop_at (scans_of chip) k u at)
        ∙ ap (λ test. cond (not test) (1 + position_or_len (eqb v) (drop (k + 1) (scans_of chip))) 0) (ne_eqb v u other) in
        omega (arith, read, later)

-- the place that the table has
pub place_is : (chip : LinkedChip) (u : ℕ) (table : List ℕ) → ArePlacesFrom chip 0 table → u < length chip.parts
    → get_or table u 0 ≡ place_of chip u
place_is chip u table are within = let is = are.each u within in omega (arith, is)

-- it is a place among the scan instances
pub place_within : (chip : LinkedChip) (u : ℕ) → IsScanAt chip u → place_of chip u < length (scans_of chip)
place_within chip u there =
    let place = scan_place chip u there in
    elim (cases_lt place.0 (place_of chip u)) [
      | inl before ↦
          let fails = fails_before_first (eqb u) (scans_of chip) place.0 u before in
          let is = get_or_from_slice_get (scans_of chip) place.0 u u place.1 in
          let clash : true ≡ false = sym (eq-eqb u _ (sym is)) ∙ fails in
          absurd cc
      | inr not_before ↦
          let lt = slice_get_within (scans_of chip) place.0 u place.1 in
          omega (arith, not_before, lt)
    ]

-- the place of one scan instance more of a chain
pub placed_more : (chip : LinkedChip) (chain : List ℕ) (k u : ℕ) (table list new : List ℕ) → ArePlacesFrom chip 0 table
    → AreScans chip chain → k < length chain → u ≡ get_or chain k 0 → list ≡ map (place_of chip) (take k chain)
    → new ≡ list ++ get_or table u 0 ∷ [] → new ≡ map (place_of chip) (take (k + 1) chain)
placed_more chip chain k u table list new are scans below is before pushed =
    let at : slice_get chain k ≡ Some u = slice_get-get_or chain k 0 below ∙ ap Some (sym is) in
    let scan = subst (IsScanAt chip) (sym is) (scans k 0 below) in
    let place = place_is chip u table are (at_within chip u scan) in
    pushed ∙ (λ j. before j ++ place j ∷ [])
    ∙ sym (ap (map (place_of chip)) (take_more chain k u at) ∙ map-append (place_of chip) (take k chain) (u ∷ []))
