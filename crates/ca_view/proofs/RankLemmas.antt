-- The ranks of instances.
use Rattle.std.proofs.Common.{◌≡◌, ℕ, zero, suc, ◌+◌, ◌<◌, ◌≤◌, replicate, List, [], ◌∷◌, true, false, length}
use Rattle.std.proofs.Common.{inl, inr, refl, sym, ◌∙◌, ap, subst, arith, get_or}
use Rattle.std.proofs.Common.{get_or-set_same, get_or-set_other}
use Rattle.std.specs.Prelude.{eqb, slice_get, IsSomeAnd, Option, Some}
use Rattle.std.specs.List.{Contains, list_any, position_or_len}
use Rattle.std.proofs.Math.ListN.{set, length-set}
use Rattle.std.proofs.lemmas.List.{length-replicate}
use Rattle.std.proofs.lemmas.List.Elements.{Contains-append_cases, Contains-append_left}
use Rattle.std.proofs.lemmas.List.Elements.{Contains-append_right}
use Rattle.std.proofs.lemmas.List.Sums.{position_or_len_is}
use Rattle.std.proofs.lemmas.Bool.{cases_lt, ne_eqb, eq-eqb}
use Rattle.std.proofs.lemmas.Option.{slice_get_within, slice_get-get_or, get_or_from_slice_get, same_Some}
use Rattle.std.proofs.lemmas.Map.Keys.{IsDistinct-from_apart}
use Rattle.std.proofs.lemmas.Map.Steps.{length-le_from_distinct_below}
use native.Mathlib.Decide.{ℕ_discrete}
use Rattle.ca_linked.specs.declared.parts.Body.{Body}
use Rattle.ca_linked.specs.declared.parts.Part.{Part}
use Rattle.ca_linked.specs.declared.parts.Body.TheVariants.{Gate, Scan}
use Rattle.ca_linked.specs.Linked.{LinkedChip, IsGate, IsLibrary, IsWired}
use Rattle.ca_linked.specs.Instances.{if_gate, gates_from, gates_of}
use Rattle.ca_linked.proofs.OrderLemmas.{place_of, contained_at}
use Rattle.ca_linked.proofs.PartLemmas.{has_contains}
use Rattle.ca_linked.proofs.CellLemmas.{library_within}
use Rattle.ca_view.specs.Core.{body_rank, rank_in, rank_of}
use Rattle.ca_view.proofs.CorePartLemmas.{part_at}
use Rattle.ca_view.specs.Places.{AreRanks}
use Rattle.ca_view.proofs.CoreFacts.{core_count}
use Rattle.ca_view.proofs.PartFacts.{gate_at, some_at}

-- a library instance among these, of which the first is the instance `from`
record IsGateFrom (from : ℕ) (parts : List Part) (u : ℕ) : Type 0 where
  k : ℕ
  at : u ≡ from + k
  gate : IsSomeAnd (slice_get parts k) (λ p. IsGate p.body)

in_if : (from : ℕ) (body : Body) (u : ℕ) → Contains (if_gate from body) u → (u ≡ from) × IsGate body
in_if from (Gate cell inputs outputs) u has =
    let first : has.0 ≡ 0 = let lt = has.1 in omega arith in
    (sym has.2 ∙ ap (λ k. get_or (from ∷ []) k u) first, tt)
in_if from (Scan nets) u has = absurd (let lt = has.1 in omega arith)

listed_is_gate : (from : ℕ) (parts : List Part) (u : ℕ) → Contains (gates_from from parts) u → IsGateFrom from parts u
listed_is_gate from [] u has = absurd (let lt = has.1 in omega arith)
listed_is_gate from (part ∷ more) u has = elim (Contains-append_cases (if_gate from part.body) (gates_from (from + 1) more) u has) [
  | inl here ↦ let found = in_if from part.body u here in
      record { k = 0; at = (let e = found.0 in omega arith); gate = found.1 }
  | inr later ↦ let found = listed_is_gate (from + 1) more u later in
      record { k = suc found.k; at = (let e = found.at in omega arith); gate = found.gate }
]

gate_in_if : (from : ℕ) (body : Body) → IsGate body → Contains (if_gate from body) from
gate_in_if from (Gate cell inputs outputs) gate = (0, omega arith, refl)
gate_in_if from (Scan nets) gate = elim gate [ ]

gate_is_listed : (from : ℕ) (parts : List Part) (k : ℕ) → IsSomeAnd (slice_get parts k) (λ p. IsGate p.body) → Contains (gates_from from parts) (from + k)
gate_is_listed from [] k gate = elim gate [ ]
gate_is_listed from (part ∷ more) zero gate =
    subst (Contains (gates_from from (part ∷ more))) (let e : from ≡ from + 0 = omega arith in e)
    (Contains-append_left (if_gate from part.body) (gates_from (from + 1) more) from (gate_in_if from part.body gate))
gate_is_listed from (part ∷ more) (suc k) gate =
    subst (Contains (gates_from from (part ∷ more))) (let e : from + 1 + k ≡ from + suc k = omega arith in e)
    (Contains-append_right (if_gate from part.body) (gates_from (from + 1) more) (from + 1 + k) (gate_is_listed (from + 1) more k gate))

-- each that is listed is of the library
pub listed_is_library : (chip : LinkedChip) (k u : ℕ) → slice_get (gates_of chip) k ≡ Some u → IsLibrary chip u
listed_is_library chip k u at =
    let found = listed_is_gate 0 chip.parts u (contained_at (gates_of chip) k u at) in
    subst (λ n. IsSomeAnd (slice_get chip.parts n) (λ p. IsGate p.body)) (let e = found.at in let s : found.k ≡ u = omega arith in s) found.gate

-- an instance that isn't of the library has the rank 0
pub rank_of_other : (chip : LinkedChip) (u : ℕ) (part : Part) → slice_get chip.parts u ≡ Some part → (IsGate part.body → ⊥) → rank_of chip u ≡ 0
rank_of_other chip u part at other = ap (rank_in chip u) at ∙ by part.body other
  where
    by : (body : Body) → (IsGate body → ⊥) → body_rank (position_or_len (eqb u) chip.order) body ≡ 0
    by (Gate cell inputs outputs) none = absurd (none tt)
    by (Scan nets) none = refl

unranked : (count u : ℕ) → get_or {A = ℕ} (replicate count 0) u 0 ≡ 0
unranked zero u = refl
unranked (suc count) zero = refl
unranked (suc count) (suc u) = unranked count u

-- the place of a library instance in the order
pub record HasPlace (chip : LinkedChip) (u : ℕ) : Type 0 where
  pub place : ℕ
  pub at : slice_get chip.order place ≡ Some u
  pub rank : rank_of chip u ≡ suc place
  pub within : place < length chip.parts

-- the first library instances have their ranks, and others have 0
pub record AreFirstRanks (chip : LinkedChip) (count : ℕ) (ranks : List ℕ) : Type 0 where
  pub room : length ranks ≡ length chip.parts
  pub listed : (j u : ℕ) → j < count → slice_get (gates_of chip) j ≡ Some u → get_or ranks u 0 ≡ rank_of chip u
  pub other : (u : ℕ) → (IsLibrary chip u → ⊥) → get_or ranks u 0 ≡ 0

module _ (chip : LinkedChip) (is : IsWired chip) where
  -- no number stands twice in the order, so that it is no longer than the list of instances
  pub few_ordered : length chip.order ≤ length chip.parts
  few_ordered = length-le_from_distinct_below chip.order (length chip.parts) (IsDistinct-from_apart eqb chip.order apart) below
    where
      apart : (i j d : ℕ) → i < j → j < length chip.order → eqb (get_or chip.order i d) (get_or chip.order j d) ≡ false
      apart i j d less lt = ne_eqb (get_or chip.order i d) (get_or chip.order j d) (λ e.
          let first : slice_get chip.order i ≡ Some (get_or chip.order j d) = slice_get-get_or chip.order i d (omega arith) ∙ ap Some e in
          let second = slice_get-get_or chip.order j d lt in
          let same : i ≡ j = is.ordered.once i j (get_or chip.order j d) first second in
          omega arith)

      below : (q : ℕ) → list_any (eqb q) chip.order ≡ true → q < length chip.parts
      below q listed =
          let has = has_contains chip.order q listed in
          library_within chip is has.0 q (place_of chip.order q has)

  -- a library instance's place in the order
  pub place_is : (u k : ℕ) → slice_get chip.order k ≡ Some u → position_or_len (eqb u) chip.order ≡ k
  place_is u k at =
      let lt = slice_get_within chip.order k u at in
      position_or_len_is (eqb u) chip.order k 0 (omega arith)
      (λ j less. ne_eqb u (get_or chip.order j 0) (λ e.
      let there : slice_get chip.order j ≡ Some u = slice_get-get_or chip.order j 0 (omega arith) ∙ ap Some (sym e) in
      let same : j ≡ k = is.ordered.once j k u there at in
      omega arith))
      (λ _. eq-eqb u (get_or chip.order k 0) (sym (get_or_from_slice_get chip.order k u 0 at)))

  -- the rank of the instance at a place of the order
  pub rank_at : (u k : ℕ) → slice_get chip.order k ≡ Some u → rank_of chip u ≡ suc k
  rank_at u k at =
      let g = gate_at chip u ((is.ordered.has u).0 (contained_at chip.order k u at)) in
      ap (rank_in chip u) g.at ∙ ap (body_rank (position_or_len (eqb u) chip.order)) g.body ∙ ap suc (place_is u k at)

  -- a library instance has a place
  pub library_place : (u : ℕ) → IsLibrary chip u → HasPlace chip u
  library_place u library =
      let has = (is.ordered.has u).1 library in
      let at = place_of chip.order u has in
      record {
        place = has.0;
        at = at;
        rank = rank_at u has.0 at;
        within = (let lt = has.1 in let few = few_ordered in omega arith);
      }

  -- an instance whose rank isn't 0 is of the library
  pub ranked_is_library : (u : ℕ) → u < length chip.parts → 0 < rank_of chip u → IsLibrary chip u
  ranked_is_library u lt ranked =
      let found = part_at chip u (let e = core_count chip in omega arith) in
      some_at (λ p. IsGate p.body) chip.parts u found.part found.at (by found.part found.at found.part.body refl)
    where
      by : (part : Part) → slice_get chip.parts u ≡ Some part → (body : Body) → part.body ≡ body → IsGate part.body
      by part at (Gate cell inputs outputs) e = subst IsGate (sym e) tt
      by part at (Scan nets) e = absurd (let none = rank_of_other chip u part at (λ gate. subst IsGate e gate) in omega arith)

  pub none_ranked : (ranks : List ℕ) (count : ℕ) → ranks ≡ replicate count 0 → count ≡ length chip.parts → AreFirstRanks chip 0 ranks
  none_ranked ranks count fresh room = record {
    room = ap length fresh ∙ length-replicate count 0 ∙ room;
    listed = λ j u lt at. absurd (omega arith);
    other = λ u none. ap (λ (m : List ℕ). get_or m u 0) fresh ∙ unranked count u;
  }

  pub ranked_more : (k u place rank : ℕ) (ranks : List ℕ) → AreFirstRanks chip k ranks → slice_get (gates_of chip) k ≡ Some u
      → slice_get chip.order place ≡ Some u → rank ≡ place + 1 → AreFirstRanks chip (k + 1) (set ranks u rank)
  ranked_more k u place rank ranks first at ordered next = record {
    room = length-set ranks u rank ∙ first.room;
    listed = λ j w lt there. elim (ℕ_discrete w u) [
      | yes same ↦
          ap (λ n. get_or (set ranks u rank) n 0) same ∙ get_or-set_same ranks u rank 0 within
          ∙ (let r = rank_at u place ordered in let e : rank ≡ rank_of chip u = omega arith in e) ∙ ap (rank_of chip) (sym same)
      | no other ↦ elim (cases_lt j k) [
        | inl before ↦ get_or-set_other ranks u w rank 0 other ∙ first.listed j w before there
        | inr past ↦
            let here : j ≡ k = omega arith in
            let moved : slice_get (gates_of chip) k ≡ Some w = ap (slice_get (gates_of chip)) (sym here) ∙ there in
            absurd (other (same_Some w u (sym moved ∙ at)))
      ]
    ];
    other = λ w none. elim (ℕ_discrete w u) [
      | yes same ↦ absurd (none (subst (IsLibrary chip) (sym same) (listed_is_library chip k u at)))
      | no other ↦ get_or-set_other ranks u w rank 0 other ∙ first.other w none
    ];
  }
    where
      within : u < length ranks
      within = let lt = library_within chip is place u ordered in let room = first.room in omega arith

  pub all_ranked : (k : ℕ) (ranks : List ℕ) → AreFirstRanks chip k ranks → length (gates_of chip) ≤ k → AreRanks chip ranks
  all_ranked k ranks first all = record { room = first.room; each = each }
    where
      each : (u : ℕ) → u < length chip.parts → get_or ranks u 0 ≡ rank_of chip u
      each u lt =
          let found = part_at chip u (let e = core_count chip in omega arith) in
          by found.part found.at found.part.body refl
        where
          by : (part : Part) → slice_get chip.parts u ≡ Some part → (body : Body) → part.body ≡ body → get_or ranks u 0 ≡ rank_of chip u
          by part at (Gate cell inputs outputs) e =
              let library : IsLibrary chip u = some_at (λ p. IsGate p.body) chip.parts u part at (subst IsGate (sym e) tt) in
              let has = gate_is_listed 0 chip.parts u library in
              let there : slice_get (gates_of chip) has.0 ≡ Some (0 + u) = place_of (gates_of chip) (0 + u) has in
              first.listed has.0 u (let l = has.1 in omega arith) (there ∙ ap Some (let s : 0 + u ≡ u = omega arith in s))
          by part at (Scan nets) e =
              let none : IsGate part.body → ⊥ = λ gate. subst IsGate e gate in
              first.other u (λ library. none (subst (λ (o : Option Part). IsSomeAnd o (λ p. IsGate p.body)) at library))
              ∙ sym (rank_of_other chip u part at none)
