-- The places of scan instances among the scan instances.
use Rattle.std.proofs.Common.{◌≡◌, ℕ, zero, suc, ◌+◌, ◌<◌, ◌≤◌, true, false, List, [], ◌∷◌, ◌++◌, length}
use Rattle.std.proofs.Common.{refl, sym, ap, ◌∙◌, arith, get_or, inl, inr}
use Rattle.std.specs.Prelude.{eqb, Option, Some, None, IsSomeAnd, slice_get}
use Rattle.std.proofs.lemmas.Bool.{cases_lt, eq-eqb, eqb-true}
use Rattle.std.proofs.lemmas.List.Sums.{fails_before_first, passes_at_first}
use Rattle.std.proofs.lemmas.Option.{slice_get_within, slice_get-get_or, get_or_from_slice_get}
use Rattle.ca_linked.specs.declared.pins.ScanPin.TheVariants.{Si}
use Rattle.ca_linked.specs.declared.parts.Body.{Body}
use Rattle.ca_linked.specs.declared.parts.Body.TheVariants.{Gate, Scan}
use Rattle.ca_linked.specs.declared.parts.Part.{Part}
use Rattle.ca_linked.specs.Linked.{LinkedChip}
use Rattle.ca_linked.specs.Instances.{HasOnPin, IsScan, if_scan, scans_from, scans_of}
use Rattle.ca_scan.specs.Chain.{IsOnPin, IsScanAt}
use Rattle.ca_scan.proofs.JointLemmas.{scan_place}
use Rattle.ca_chip_stil.specs.ChipStil.{place_of}

-- what is on a scan pin is a scan instance
pub scan_on_pin : (chip : LinkedChip) (u net : ℕ) → IsOnPin chip Si u net → IsScanAt chip u
scan_on_pin chip u net there = by (slice_get chip.parts u) there
  where
    of_body : (body : Body) → HasOnPin Si net body → IsScan body
    of_body (Gate cell inputs outputs) is = absurd is
    of_body (Scan nets) is = tt

    by : (o : Option Part) → IsSomeAnd o (λ part. HasOnPin Si net part.body) → IsSomeAnd o (λ part. IsScan part.body)
    by None is = absurd is
    by (Some part) is = of_body part.body is

-- a scan instance has a place among them, and it is there
pub place_within : (chip : LinkedChip) (u : ℕ) → IsScanAt chip u → place_of chip u < length (scans_of chip)
place_within chip u there =
    let place = scan_place chip u there in
    elim (cases_lt place.0 (place_of chip u)) [
      | inl before ↦
          let fails = fails_before_first (eqb u) (scans_of chip) place.0 u before in
          let is = get_or_from_slice_get (scans_of chip) place.0 u u place.1 in
          let clash : true ≡ false = sym (eq-eqb u _ (sym is)) ∙ fails in
          absurd cc
      | inr not_before ↦
          let lt = slice_get_within (scans_of chip) place.0 u place.1 in
          omega (arith, not_before, lt)
    ]

pub at_place : (chip : LinkedChip) (u : ℕ) → IsScanAt chip u → slice_get (scans_of chip) (place_of chip u) ≡ Some u
at_place chip u there =
    let within = place_within chip u there in
    let found = passes_at_first (eqb u) (scans_of chip) 0 within in
    let same = eqb-true u (get_or (scans_of chip) (place_of chip u) 0) found in
    slice_get-get_or (scans_of chip) (place_of chip u) 0 within ∙ ap Some (sym same)

-- scan instances are listed once
scan_from : (u : ℕ) (parts : List Part) (k v : ℕ) → slice_get (scans_from u parts) k ≡ Some v → u ≤ v
scan_from u [] k v at = absurd (let clash : None ≡ Some v = at in cc)
scan_from u (part ∷ more) k v at = by part.body k at (λ j there. scan_from (u + 1) more j v there)
  where
    by : (body : Body) (j : ℕ) → slice_get (if_scan u body ++ scans_from (u + 1) more) j ≡ Some v
        → ((j : ℕ) → slice_get (scans_from (u + 1) more) j ≡ Some v → u + 1 ≤ v) → u ≤ v
    by (Gate cell inputs outputs) j there later = let less = later j there in omega (arith, less)
    by (Scan nets) zero there later = let same : u ≡ v = cc in omega (arith, same)
    by (Scan nets) (suc j) there later = let less = later j there in omega (arith, less)

once_from : (u : ℕ) (parts : List Part) (j k v : ℕ) → slice_get (scans_from u parts) j ≡ Some v
    → slice_get (scans_from u parts) k ≡ Some v → j ≡ k
once_from u [] j k v at_j at_k = absurd (let clash : None ≡ Some v = at_j in cc)
once_from u (part ∷ more) j k v at_j at_k = by part.body j k at_j at_k (λ i l. once_from (u + 1) more i l v)
  where
    by : (body : Body) (j k : ℕ) → slice_get (if_scan u body ++ scans_from (u + 1) more) j ≡ Some v
        → slice_get (if_scan u body ++ scans_from (u + 1) more) k ≡ Some v
        → ((i l : ℕ) → slice_get (scans_from (u + 1) more) i ≡ Some v → slice_get (scans_from (u + 1) more) l ≡ Some v → i ≡ l)
        → j ≡ k
    by (Gate cell inputs outputs) j k at_j at_k later = later j k at_j at_k
    by (Scan nets) zero zero at_j at_k later = refl
    by (Scan nets) zero (suc k) at_j at_k later =
        let same : u ≡ v = cc in
        let less = scan_from (u + 1) more k v at_k in
        absurd (omega (arith, same, less))
    by (Scan nets) (suc j) zero at_j at_k later =
        let same : u ≡ v = cc in
        let less = scan_from (u + 1) more j v at_j in
        absurd (omega (arith, same, less))
    by (Scan nets) (suc j) (suc k) at_j at_k later = ap suc (later j k at_j at_k)

pub scan_once : (chip : LinkedChip) (j k v : ℕ) → slice_get (scans_of chip) j ≡ Some v → slice_get (scans_of chip) k ≡ Some v → j ≡ k
scan_once chip j k v at_j at_k = once_from 0 chip.parts j k v at_j at_k
