-- The order has each library instance once, so that it is as long as the list of library instances.
use Rattle.std.proofs.Common.{◌≡◌, ℕ, zero, suc, ◌+◌, ◌<◌, ◌≤◌, List, [], ◌∷◌, ◌++◌, length, false, eqb, inl, inr, refl}
use Rattle.std.proofs.Common.{sym, ◌∙◌, ap, subst, arith, get_or}
use Rattle.std.specs.Prelude.{slice_get, Some, IsSomeAnd}
use Rattle.std.specs.List.{Contains, AllPairs}
use Rattle.std.specs.Cmp.{IsEquivalence}
use Rattle.std.proofs.lemmas.Bool.{cases_eq, eqb-true, eq-eqb, ne_eqb}
use Rattle.std.proofs.lemmas.List.Elements.{Contains-append_left, Contains-append_right, Contains-append_cases, Contains-get_or}
use Rattle.std.proofs.lemmas.List.Kept.{AllPairs-cons}
use Rattle.std.proofs.lemmas.Map.Keys.{IsDistinct-from_apart}
use Rattle.std.proofs.lemmas.Map.Made.{length-le_from_is_member}
use Rattle.std.proofs.lemmas.Option.{slice_get-get_or}
use Rattle.ca_linked.specs.declared.parts.Body.{Body}
use Rattle.ca_linked.specs.declared.parts.Part.{Part}
use Rattle.ca_linked.specs.declared.parts.Body.TheVariants.{Gate, Scan}
use Rattle.ca_linked.specs.Linked.{LinkedChip, IsWired, IsGate, IsLibrary}
use Rattle.ca_linked.specs.Instances.{if_gate, gates_from, gates_of}
use Rattle.ca_linked.proofs.OrderLemmas.{place_of}
use Rattle.ca_view.proofs.RankLemmas.{listed_is_library}
use Rattle.ca_merged.proofs.Lists.{listed_contains, contains_listed}

same_number : IsEquivalence eqb
same_number = record {
  refl = λ x. eq-eqb x x refl;
  symm = λ x y. elim (cases_eq x y) [
    | inl e ↦ eq-eqb x y e ∙ sym (eq-eqb y x (sym e))
    | inr ne ↦ ne_eqb x y ne ∙ sym (ne_eqb y x (λ e. ne (sym e)))
  ];
  congr = λ x y z e. ap (λ w. eqb w z) (eqb-true x y e);
}

gates_above : (from : ℕ) (parts : List Part) (u : ℕ) → Contains (gates_from from parts) u → from ≤ u
gates_above from [] u c = absurd (let lt = c.1 in omega arith)
gates_above from (part ∷ more) u c = elim (Contains-append_cases (if_gate from part.body) (gates_from (from + 1) more) u c) [
  | inl here ↦ by part.body here
  | inr later ↦ let le = gates_above (from + 1) more u later in omega arith
]
  where
    by : (body : Body) → Contains (if_gate from body) u → from ≤ u
    by (Gate cell inputs outputs) h =
        let first : h.0 ≡ 0 = let lt = h.1 in omega arith in
        let e : from ≡ u = ap (λ k. get_or (from ∷ []) k u) (sym first) ∙ h.2 in
        omega arith
    by (Scan nets) h = absurd (let lt = h.1 in omega arith)

gates_rise : (from : ℕ) (parts : List Part) → AllPairs (λ a b. a < b) (gates_from from parts)
gates_rise from [] = λ i j d lt within. absurd (omega arith)
gates_rise from (part ∷ more) = by part.body (gates_rise (from + 1) more)
  where
    by : (body : Body) → AllPairs (λ a b. a < b) (gates_from (from + 1) more) → AllPairs (λ a b. a < b) (if_gate from body ++ gates_from (from + 1) more)
    by (Gate cell inputs outputs) rest =
        AllPairs-cons (λ a b. a < b) from (gates_from (from + 1) more)
        (λ k d lt. let le = gates_above (from + 1) more (get_or (gates_from (from + 1) more) k d) (Contains-get_or (gates_from (from + 1) more) k d lt) in omega arith)
        rest
    by (Scan nets) rest = rest

gate_in_if : (from : ℕ) (body : Body) → IsGate body → Contains (if_gate from body) from
gate_in_if from (Gate cell inputs outputs) gate = (0, omega arith, refl)
gate_in_if from (Scan nets) gate = absurd gate

gate_listed : (from : ℕ) (parts : List Part) (k : ℕ) → IsSomeAnd (slice_get parts k) (λ p. IsGate p.body) → Contains (gates_from from parts) (from + k)
gate_listed from [] k gate = absurd gate
gate_listed from (part ∷ more) zero gate =
    subst (Contains (gates_from from (part ∷ more))) (let e : from ≡ from + 0 = omega arith in e)
    (Contains-append_left (if_gate from part.body) (gates_from (from + 1) more) from (gate_in_if from part.body gate))
gate_listed from (part ∷ more) (suc k) gate =
    subst (Contains (gates_from from (part ∷ more))) (let e : from + 1 + k ≡ from + suc k = omega arith in e)
    (Contains-append_right (if_gate from part.body) (gates_from (from + 1) more) (from + 1 + k) (gate_listed (from + 1) more k gate))

-- each library instance is listed
listed_gate : (chip : LinkedChip) (u : ℕ) → IsLibrary chip u → Contains (gates_of chip) u
listed_gate chip u library = subst (Contains (gates_of chip)) (let e : 0 + u ≡ u = omega arith in e) (gate_listed 0 chip.parts u library)

-- a list of different numbers that another has is no longer
no_longer : (xs ys : List ℕ) → ((i j d : ℕ) → i < j → j < length xs → eqb (get_or xs i d) (get_or xs j d) ≡ false) → ((x : ℕ) → Contains xs x → Contains ys x) → length xs ≤ length ys
no_longer xs ys apart into =
    length-le_from_is_member same_number xs ys (IsDistinct-from_apart eqb xs apart)
    (λ q h. contains_listed ys q (into q (listed_contains xs q h)))

pub ordered_count : (chip : LinkedChip) → IsWired chip → length (gates_of chip) ≡ length chip.order
ordered_count chip is =
    let one = no_longer (gates_of chip) chip.order
    (λ i j d less lt. ne_eqb (get_or (gates_of chip) i d) (get_or (gates_of chip) j d) (λ e.
    let rise : get_or (gates_of chip) i d < get_or (gates_of chip) j d = gates_rise 0 chip.parts i j d less lt in omega arith))
    (λ u c. (is.ordered.has u).1 (listed_is_library chip c.0 u (place_of (gates_of chip) u c))) in
    let two = no_longer chip.order (gates_of chip)
    (λ i j d less lt. ne_eqb (get_or chip.order i d) (get_or chip.order j d) (λ e.
    let first : slice_get chip.order i ≡ Some (get_or chip.order j d) = slice_get-get_or chip.order i d (omega arith) ∙ ap Some e in
    let same : i ≡ j = is.ordered.once i j (get_or chip.order j d) first (slice_get-get_or chip.order j d lt) in
    omega arith))
    (λ u c. listed_gate chip u ((is.ordered.has u).0 c)) in
    omega arith
