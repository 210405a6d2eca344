-- What is on the pins of an instance that keeps its rules: each connection is on a pin of its wiring, and
-- each pin of the wiring has its connection or a wire of its own.
use Rattle.std.proofs.Common.{◌≡◌, ℕ, zero, suc, ◌+◌, ◌≤◌, ◌⊎◌, List, [], ◌∷◌, ◌++◌, Bool, true, false}
use Rattle.std.proofs.Common.{map, inl, inr, refl, sym, ◌∙◌, ap, subst, arith, true≢false}
use Rattle.std.specs.Prelude.{Option, Some, None, slice_get}
use Rattle.std.specs.List.{Contains, flat_map, list_any, IsDistinct, AllByRecursion}
use Rattle.std.specs.Str.{bytes_eq}
use Rattle.std.proofs.lemmas.Bool.{or_cases, or_left, or_right}
use Rattle.std.proofs.lemmas.Slice.Eq.{bytes_eq-Decides}
use Rattle.std.proofs.lemmas.Option.{slice_get_within}
use Rattle.ca_names.specs.Names.{has_name}
use Rattle.ca_verilog.specs.declared.raw.RawBit.{RawBit}
use Rattle.ca_verilog.specs.declared.raw.RawUse.{RawUse}
use Rattle.ca_wiring.specs.Wiring.{Meaning, bit_on, wire_of, input_names, input_wire, input_wires, output_names, output_wires}
use Rattle.ca_wiring.specs.InstanceRules.{IsSound, pin_names}
use Rattle.ca_linked.proofs.DriverLemmas.{some_inj}
use Rattle.ca_linked.proofs.OrderLemmas.{place_of, contained_at}
use Rattle.ca_draft.proofs.ConstantLemmas.{value_of, value_at, any_passed, in_all, in_part}
use Rattle.ca_fault_place.specs.code.Touched.{use_wires}

-- one of two lists has what both have together
any_append : {X : Type 0} (p : X → Bool) (xs ys : List X) → list_any p (xs ++ ys) ≡ true
    → (list_any p xs ≡ true) ⊎ (list_any p ys ≡ true)
any_append p [] ys e = inr e
any_append p (x ∷ xs) ys e = elim (or_cases (p x) (list_any p (xs ++ ys)) e) [
  | inl here ↦ inl (or_left (p x) (list_any p xs) here)
  | inr later ↦ elim (any_append p xs ys later) [
    | inl front ↦ inl (or_right (p x) (list_any p xs) front)
    | inr back ↦ inr back
  ]
]

-- a name that a list has, stands in it
pub name_at : (name : List ℕ) (names : List (List ℕ)) → has_name name names ≡ true → (k : ℕ) × (slice_get names k ≡ Some name)
name_at name names e =
    let found = any_passed (bytes_eq name) names e in
    (found.place, found.at ∙ ap Some (sym ((bytes_eq-Decides name found.item).0 found.passed)))

distinct_at : (P : List ℕ → Type 0) (xs : List RawUse) (k : ℕ) (x : RawUse) → AllByRecursion P (map (λ (used : RawUse). used.pin) xs)
    → slice_get xs k ≡ Some x → P x.pin
distinct_at P [] k x all at = absurd (let lt = slice_get_within [] k x at in omega (arith, lt))
distinct_at P (first ∷ xs) zero x all at = subst (λ (used : RawUse). P used.pin) (some_inj first x at) all.0
distinct_at P (first ∷ xs) (suc k) x all at = distinct_at P xs k x all.1 at

-- what is on the pin of a connection is what the connection says
pub bit_of : (uses : List RawUse) → IsDistinct bytes_eq (map (λ (used : RawUse). used.pin) uses) → (k : ℕ) (used : RawUse)
    → slice_get uses k ≡ Some used → bit_on uses used.pin ≡ used.bit
unfolding IsDistinct
bit_of [] distinct k used at = absurd (let lt = slice_get_within [] k used at in omega (arith, lt))
bit_of (first ∷ uses) distinct zero used at =
    let same = some_inj first used at in
    rw ((bytes_eq-Decides used.pin first.pin).1 (ap (λ (u : RawUse). u.pin) (sym same))) (ap (λ (u : RawUse). u.bit) same)
bit_of (first ∷ uses) distinct (suc k) used at = by (bit_of uses distinct.1 k used at) (bytes_eq used.pin first.pin) refl
  where
    by : bit_on uses used.pin ≡ used.bit → (same : Bool) → bytes_eq used.pin first.pin ≡ same → bit_on (first ∷ uses) used.pin ≡ used.bit
    by rest true e =
        let equal : used.pin ≡ first.pin = (bytes_eq-Decides used.pin first.pin).0 e in
        let other : bytes_eq first.pin used.pin ≡ false = distinct_at (λ name. bytes_eq first.pin name ≡ false) uses k used distinct.0 at in
        absurd (true≢false (sym ((bytes_eq-Decides first.pin used.pin).1 (sym equal)) ∙ other))
    by rest false e = rw e rest

-- what is on a pin comes from a connection
pub use_of : (bits : ℕ) (uses : List RawUse) (name : List ℕ) (bit : RawBit) → bit_on uses name ≡ Some bit
    → Contains (flat_map (λ (used : RawUse). use_wires bits used.bit) uses) (wire_of bits bit)
use_of bits [] name bit e = let clash : None ≡ Some bit = e in cc
use_of bits (first ∷ uses) name bit e = by (λ rest. use_of bits uses name bit rest) (bytes_eq name first.pin) refl
  where
    by : (bit_on uses name ≡ Some bit → Contains (flat_map (λ (used : RawUse). use_wires bits used.bit) uses) (wire_of bits bit))
        → (same : Bool) → bytes_eq name first.pin ≡ same
        → Contains (flat_map (λ (used : RawUse). use_wires bits used.bit) (first ∷ uses)) (wire_of bits bit)
    by later true same =
        let here : first.bit ≡ Some bit = rw same at e in
        in_all (λ (used : RawUse). use_wires bits used.bit) (first ∷ uses) 0 first (wire_of bits bit) refl
        (subst (λ b. Contains (use_wires bits b) (wire_of bits bit)) (sym here) (0, omega arith, refl))
    by later false same =
        let rest : bit_on uses name ≡ Some bit = rw same at e in
        let found = in_part (λ (used : RawUse). use_wires bits used.bit) uses (wire_of bits bit) (later rest) in
        in_all (λ (used : RawUse). use_wires bits used.bit) (first ∷ uses) (suc found.place) found.part (wire_of bits bit) found.at found.has

module _ (bits : ℕ) (uses : List RawUse) where
  -- the wires of an output pin that this is on, and of those after it
  abbrev outputs_with : ℕ → List (List ℕ) → Option RawBit → List ℕ
  outputs_with own names b =
      elim b [
        | None ↦ own ∷ output_wires bits uses (own + 1) names
        | Some bit ↦ wire_of bits bit ∷ output_wires bits uses own names
      ]

  -- the wire of an output pin that is connected
  pub output_at : (own : ℕ) (names : List (List ℕ)) (j : ℕ) (name : List ℕ) (bit : RawBit) → slice_get names j ≡ Some name
      → bit_on uses name ≡ Some bit → slice_get (output_wires bits uses own names) j ≡ Some (wire_of bits bit)
  output_at own [] j name bit at on = absurd (let lt = slice_get_within [] j name at in omega (arith, lt))
  output_at own (first ∷ names) zero name bit at on = by (bit_on uses first) (ap (bit_on uses) (some_inj first name at) ∙ on)
    where
      by : (b : Option RawBit) → b ≡ Some bit → slice_get (outputs_with own names b) 0 ≡ Some (wire_of bits bit)
      by None e = let clash : None ≡ Some bit = e in cc
      by (Some b) e = ap (λ b. Some (wire_of bits b)) (some_inj b bit e)
  output_at own (first ∷ names) (suc j) name bit at on =
      by (bit_on uses first) (output_at (own + 1) names j name bit at on) (output_at own names j name bit at on)
    where
      by : (b : Option RawBit) → slice_get (output_wires bits uses (own + 1) names) j ≡ Some (wire_of bits bit)
          → slice_get (output_wires bits uses own names) j ≡ Some (wire_of bits bit)
          → slice_get (outputs_with own names b) (suc j) ≡ Some (wire_of bits bit)
      by None next same = next
      by (Some b) next same = same

  -- a wire of an output pin is that of a connection, or one of its own
  pub output_from : (own : ℕ) (names : List (List ℕ)) (j m : ℕ) → slice_get (output_wires bits uses own names) j ≡ Some m
      → Contains (flat_map (λ (used : RawUse). use_wires bits used.bit) uses) m ⊎ (own ≤ m)
  output_from own [] j m at = absurd (let lt = slice_get_within [] j m at in omega (arith, lt))
  output_from own (first ∷ names) j m at =
      by (λ k there. output_from (own + 1) names k m there) (λ k there. output_from own names k m there) (bit_on uses first) refl j at
    where
      by : ((k : ℕ) → slice_get (output_wires bits uses (own + 1) names) k ≡ Some m
          → Contains (flat_map (λ (used : RawUse). use_wires bits used.bit) uses) m ⊎ (own + 1 ≤ m))
          → ((k : ℕ) → slice_get (output_wires bits uses own names) k ≡ Some m
          → Contains (flat_map (λ (used : RawUse). use_wires bits used.bit) uses) m ⊎ (own ≤ m))
          → (b : Option RawBit) → bit_on uses first ≡ b → (j : ℕ) → slice_get (outputs_with own names b) j ≡ Some m
          → Contains (flat_map (λ (used : RawUse). use_wires bits used.bit) uses) m ⊎ (own ≤ m)
      by next same None on zero at = inr (let same = some_inj own m at in omega (arith, same))
      by next same None on (suc j) at = elim (next j at) [
        | inl has ↦ inl has
        | inr le ↦ inr (omega (arith, le))
      ]
      by next same (Some bit) on zero at = inl (subst (Contains (flat_map (λ (used : RawUse). use_wires bits used.bit) uses))
          (some_inj (wire_of bits bit) m at) (use_of bits uses first bit on))
      by next same (Some bit) on (suc j) at = same j at

  module _ (meaning : Meaning) (sound : IsSound meaning uses) where
    -- a wire of an input pin is that of a connection
    pub input_from : (m : ℕ) → Contains (input_wires bits uses (input_names meaning)) m
        → Contains (flat_map (λ (used : RawUse). use_wires bits used.bit) uses) m
    input_from m has =
        let found = value_of (λ (name : List ℕ). input_wire bits (bit_on uses name)) (input_names meaning) has.0 m
        (place_of (input_wires bits uses (input_names meaning)) m has) in
        by has.0 found.item found.at (bit_on uses found.item) refl found.is
      where
        by : (j : ℕ) (name : List ℕ) → slice_get (input_names meaning) j ≡ Some name → (b : Option RawBit) → bit_on uses name ≡ b
            → input_wire bits (bit_on uses name) ≡ m → Contains (flat_map (λ (used : RawUse). use_wires bits used.bit) uses) m
        by j name at None on is = absurd (sound.no_open j name (record { at = at; is_open = on }))
        by j name at (Some bit) on is =
            subst (Contains (flat_map (λ (used : RawUse). use_wires bits used.bit) uses)) (ap (input_wire bits) (sym on) ∙ is) (use_of bits uses name bit on)

    -- a connection is on an input pin or an output pin
    pub use_at : IsDistinct bytes_eq (map (λ (used : RawUse). used.pin) uses) → (own k : ℕ) (used : RawUse) (bit : RawBit)
        → slice_get uses k ≡ Some used → used.bit ≡ Some bit
        → Contains (input_wires bits uses (input_names meaning)) (wire_of bits bit)
        ⊎ ((j : ℕ) × (slice_get (output_wires bits uses own (output_names meaning)) j ≡ Some (wire_of bits bit)))
    use_at distinct own k used bit at is =
        let on : bit_on uses used.pin ≡ Some bit = bit_of uses distinct k used at ∙ is in
        elim (any_append (bytes_eq used.pin) (input_names meaning) (output_names meaning) known) [
          | inl input ↦ let place = name_at used.pin (input_names meaning) input in
              inl (contained_at (input_wires bits uses (input_names meaning)) place.0 (wire_of bits bit)
              (value_at (λ (name : List ℕ). input_wire bits (bit_on uses name)) (input_names meaning) place.0 used.pin place.1
              ∙ ap (λ b. Some (input_wire bits b)) on))
          | inr output ↦ let place = name_at used.pin (output_names meaning) output in
              inr (place.0, output_at own (output_names meaning) place.0 used.pin bit place.1 on)
        ]
      where
        known : has_name used.pin (pin_names meaning) ≡ true
        known = by (has_name used.pin (pin_names meaning)) refl
          where
            by : (b : Bool) → has_name used.pin (pin_names meaning) ≡ b → has_name used.pin (pin_names meaning) ≡ true
            by true e = e
            by false e = absurd (sound.no_stray k used.pin (record { used = used; at = at; named = refl; stray = e }))
