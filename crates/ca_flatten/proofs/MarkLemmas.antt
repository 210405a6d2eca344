-- The library instances of a chip are those that are listed.
use Rattle.std.proofs.Common.{◌≡◌, ℕ, zero, suc, ◌+◌, ◌^◌, ◌<◌, ◌≤◌, replicate, List, [], ◌∷◌, Bool, true}
use Rattle.std.proofs.Common.{false, length, inl, inr, refl, sym, ◌∙◌, ap, subst, arith, get_or}
use Rattle.std.specs.Prelude.{slice_get, IsSomeAnd, IsTrue, Some}
use Rattle.std.specs.List.{Contains}
use Rattle.std.proofs.Math.ListN.{set, length-set}
use Rattle.std.proofs.Common.{get_or-set_same, get_or-set_other}
use Rattle.std.proofs.lemmas.List.Elements.{Contains-append_cases, Contains-append_left}
use Rattle.std.proofs.lemmas.List.Elements.{Contains-append_right}
use Rattle.std.proofs.lemmas.List.{length-replicate, get_or-replicate, get_or_past}
use Rattle.std.proofs.lemmas.Bool.{cases_lt}
use Rattle.std.proofs.lemmas.Option.{same_Some}
use native.Mathlib.Decide.{ℕ_discrete}
use Rattle.ca_linked.specs.declared.parts.Body.{Body}
use Rattle.ca_linked.specs.declared.parts.Part.{Part}
use Rattle.ca_linked.specs.declared.parts.Body.TheVariants.{Gate, Scan}
use Rattle.ca_linked.specs.Linked.{LinkedChip, IsGate, IsLibrary}
use Rattle.ca_linked.specs.Instances.{if_gate, gates_from, gates_of}
use Rattle.ca_linked.proofs.OrderLemmas.{place_of, contained_at}
use Rattle.ca_flatten.specs.code.Kept.{mark_at, AreGateMarks}

-- a library instance among these, of which the first is the instance `from`
record IsGateFrom (from : ℕ) (parts : List Part) (u : ℕ) : Type 0 where
  k : ℕ
  at : u ≡ from + k
  gate : IsSomeAnd (slice_get parts k) (λ p. IsGate p.body)

in_if : (from : ℕ) (body : Body) (u : ℕ) → Contains (if_gate from body) u → (u ≡ from) × IsGate body
in_if from (Gate cell inputs outputs) u has =
    let first : has.0 ≡ 0 = let lt = has.1 in omega arith in
    (sym has.2 ∙ ap (λ k. get_or (from ∷ []) k u) first, tt)
in_if from (Scan nets) u has = absurd (let lt = has.1 in omega arith)

listed_is_gate : (from : ℕ) (parts : List Part) (u : ℕ) → Contains (gates_from from parts) u → IsGateFrom from parts u
listed_is_gate from [] u has = absurd (let lt = has.1 in omega arith)
listed_is_gate from (part ∷ more) u has = elim (Contains-append_cases (if_gate from part.body) (gates_from (from + 1) more) u has) [
  | inl here ↦ let found = in_if from part.body u here in
      record { k = 0; at = (let e = found.0 in omega arith); gate = found.1 }
  | inr later ↦ let found = listed_is_gate (from + 1) more u later in
      record { k = suc found.k; at = (let e = found.at in omega arith); gate = found.gate }
]

gate_in_if : (from : ℕ) (body : Body) → IsGate body → Contains (if_gate from body) from
gate_in_if from (Gate cell inputs outputs) gate = (0, omega arith, refl)
gate_in_if from (Scan nets) gate = elim gate [ ]

gate_is_listed : (from : ℕ) (parts : List Part) (k : ℕ) → IsSomeAnd (slice_get parts k) (λ p. IsGate p.body) → Contains (gates_from from parts) (from + k)
gate_is_listed from [] k gate = elim gate [ ]
gate_is_listed from (part ∷ more) zero gate =
    subst (Contains (gates_from from (part ∷ more))) (let e : from ≡ from + 0 = omega arith in e)
    (Contains-append_left (if_gate from part.body) (gates_from (from + 1) more) from (gate_in_if from part.body gate))
gate_is_listed from (part ∷ more) (suc k) gate =
    subst (Contains (gates_from from (part ∷ more))) (let e : from + 1 + k ≡ from + suc k = omega arith in e)
    (Contains-append_right (if_gate from part.body) (gates_from (from + 1) more) (from + 1 + k) (gate_is_listed (from + 1) more k gate))

-- each that is listed is of the library
pub listed_is_library : (chip : LinkedChip) (k u : ℕ) → slice_get (gates_of chip) k ≡ Some u → IsLibrary chip u
listed_is_library chip k u at =
    let found = listed_is_gate 0 chip.parts u (contained_at (gates_of chip) k u at) in
    subst (λ n. IsSomeAnd (slice_get chip.parts n) (λ p. IsGate p.body)) (let e = found.at in let s : found.k ≡ u = omega arith in s) found.gate

-- the first of those that are listed are marked
pub record AreFirstMarks (chip : LinkedChip) (k : ℕ) (marks : List Bool) : Type 0 where
  pub room : length marks ≡ length chip.parts
  pub library : (u : ℕ) → IsTrue (mark_at marks u) → IsLibrary chip u
  pub listed : (j u : ℕ) → j < k → slice_get (gates_of chip) j ≡ Some u → IsTrue (mark_at marks u)

pub none_marked : (chip : LinkedChip) (marks : List Bool) (count : ℕ) → marks ≡ replicate count false → count ≡ length chip.parts → AreFirstMarks chip 0 marks
none_marked chip marks count fresh room = record {
  room = ap length fresh ∙ length-replicate count false ∙ room;
  library = λ u marked. absurd (let none = unmarked u in cc);
  listed = λ j u lt at. absurd (omega arith);
}
  where
    unmarked : (u : ℕ) → mark_at marks u ≡ false
    unmarked u = ap (λ (m : List Bool). get_or m u false) fresh ∙ elim (cases_lt u count) [
      | inl in_list ↦ get_or-replicate count u false false in_list
      | inr past ↦ get_or_past (replicate count false) u false (let l = length-replicate count false in omega arith)
    ]

pub marked_more : (chip : LinkedChip) (k u : ℕ) (marks : List Bool) → AreFirstMarks chip k marks → slice_get (gates_of chip) k ≡ Some u → u < length marks
    → AreFirstMarks chip (k + 1) (set marks u true)
marked_more chip k u marks first at within = record {
  room = length-set marks u true ∙ first.room;
  library = λ w marked. elim (ℕ_discrete w u) [
    | yes same ↦ subst (IsLibrary chip) (sym same) (listed_is_library chip k u at)
    | no other ↦ first.library w (sym (get_or-set_other marks u w true false other) ∙ marked)
  ];
  listed = λ j w lt there. elim (ℕ_discrete w u) [
    | yes same ↦ ap (λ n. get_or (set marks u true) n false) same ∙ get_or-set_same marks u true false within
    | no other ↦ elim (cases_lt j k) [
      | inl before ↦ get_or-set_other marks u w true false other ∙ first.listed j w before there
      | inr past ↦
          let here : j ≡ k = omega arith in
          let moved : slice_get (gates_of chip) k ≡ Some w = ap (slice_get (gates_of chip)) (sym here) ∙ there in
          absurd (other (same_Some w u (sym moved ∙ at)))
    ]
  ];
}

pub all_marked : (chip : LinkedChip) (k : ℕ) (marks : List Bool) → AreFirstMarks chip k marks → length (gates_of chip) ≤ k → length chip.parts < 2 ^ 32
    → AreGateMarks chip marks
all_marked chip k marks first all few = record {
  room = first.room;
  each = λ u. (
    first.library u,
    λ library.
        let has = gate_is_listed 0 chip.parts u library in
        let at : slice_get (gates_of chip) has.0 ≡ Some (0 + u) = place_of (gates_of chip) (0 + u) has in
        first.listed has.0 u (let lt = has.1 in omega arith) (at ∙ ap Some (let e : 0 + u ≡ u = omega arith in e)),
  );
  few = few;
}
