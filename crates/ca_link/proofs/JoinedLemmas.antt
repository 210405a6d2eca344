-- Joined wires and nets: wires of a linked chip are joined where their nets are the same.
use Rattle.std.proofs.Common.{◌≡◌, ℕ, zero, suc, List, [], ◌∷◌, Bool, true, inl, inr, refl, sym, ◌∙◌, ap}
use Rattle.std.proofs.Common.{subst, arith, true≢false}
use Rattle.std.specs.Prelude.{Some, slice_get, eqb, ◌↔◌}
use Rattle.std.specs.List.{Contains, flat_map, list_any}
use Rattle.std.proofs.lemmas.Bool.{or_cases, or_left, or_right, eqb-true, eq-eqb}
use Rattle.std.proofs.lemmas.List.Elements.{Contains-append_left, Contains-append_right}
use Rattle.std.proofs.lemmas.List.Elements.{Contains-append_cases}
use Rattle.std.proofs.lemmas.Option.{slice_get_within}
use Rattle.ca_wiring.specs.Wiring.{WiredPart, Wiring}
use Rattle.ca_wiring.specs.Nets.{IsNet, AreNets, IsNetOf, AreNetsOf}
use Rattle.ca_wiring.specs.Rules.{IsJoinedWithOne}
use Rattle.ca_linked.specs.declared.parts.Body.{Body}
use Rattle.ca_linked.specs.declared.parts.Part.{Part}
use Rattle.ca_linked.specs.Linked.{has, LinkedChip}
use Rattle.ca_wiring.specs.Linking.{IsPartOf, IsLinkOf}
use Rattle.ca_linked.proofs.OrderLemmas.{contained_at, place_of}
use Rattle.ca_linked.proofs.DriverLemmas.{some_inj}
use Rattle.ca_link.proofs.NetsLemmas.{wire_at, net_at, one_net_joined, joined_one_net, also_there}

-- one of a list passes a test, at a place
pub any_at : {X : Type 0} (p : X → Bool) (xs : List X) → list_any p xs ≡ true
    → (k : ℕ) × (x : X) × (slice_get xs k ≡ Some x) × (p x ≡ true)
any_at p [] e = absurd (true≢false (sym e))
any_at p (x ∷ xs) e = elim (or_cases (p x) (list_any p xs) e) [
  | inl here ↦ (0, x, refl, here)
  | inr later ↦ (let found = any_at p xs later in (suc found.0, found.1, found.2, found.3))
]

pub at_any : {X : Type 0} (p : X → Bool) (xs : List X) (k : ℕ) (x : X) → slice_get xs k ≡ Some x → p x ≡ true
    → list_any p xs ≡ true
at_any p [] k x at e = absurd (let lt = slice_get_within [] k x at in omega (arith, lt))
at_any p (first ∷ xs) zero x at e = or_left (p first) (list_any p xs) (ap p (some_inj first x at) ∙ e)
at_any p (first ∷ xs) (suc k) x at e = or_right (p first) (list_any p xs) (at_any p xs k x at e)

-- a list has what it contains
pub has_contains : (xs : List ℕ) (n : ℕ) → has xs n ≡ true → Contains xs n
has_contains xs n e =
    let found = any_at (eqb n) xs e in
    contained_at xs found.0 n (found.2 ∙ ap Some (sym (eqb-true n found.1 found.3)))

pub contains_has : (xs : List ℕ) (n : ℕ) → Contains xs n → has xs n ≡ true
contains_has xs n contains = at_any (eqb n) xs contains.0 n (place_of xs n contains) (eq-eqb n n refl)

-- what lists have together, one of them has
pub flat_at : {X : Type 0} (f : X → List ℕ) (xs : List X) (n : ℕ) → Contains (flat_map f xs) n
    → (k : ℕ) × (x : X) × (slice_get xs k ≡ Some x) × Contains (f x) n
flat_at f [] n contains = absurd (let lt = contains.1 in omega (arith, lt))
flat_at f (x ∷ xs) n contains = elim (Contains-append_cases (f x) (flat_map f xs) n contains) [
  | inl here ↦ (0, x, refl, here)
  | inr later ↦ (let found = flat_at f xs n later in (suc found.0, found.1, found.2, found.3))
]

pub at_flat : {X : Type 0} (f : X → List ℕ) (xs : List X) (k : ℕ) (x : X) (n : ℕ) → slice_get xs k ≡ Some x
    → Contains (f x) n → Contains (flat_map f xs) n
at_flat f [] k x n at contains = absurd (let lt = slice_get_within [] k x at in omega (arith, lt))
at_flat f (first ∷ xs) zero x n at contains =
    Contains-append_left (f first) (flat_map f xs) n (subst (λ y. Contains (f y) n) (sym (some_inj first x at)) contains)
at_flat f (first ∷ xs) (suc k) x n at contains =
    Contains-append_right (f first) (flat_map f xs) n (at_flat f xs k x n at contains)

module _ (wiring : Wiring) (nets : List ℕ) where
  -- the wire that a net is known by is on the net
  pub known_by : (are : AreNets wiring nets) (net wire : ℕ) → slice_get nets net ≡ Some wire → IsNetOf wiring nets wire net
  known_by are net wire at =
      let known : IsNet wiring wire = (are.has wire).0 (contained_at nets net wire at) in
      record { earliest = wire; is_earliest = known.earliest; at = at }

  -- a list has the net where one of its wires is joined with one of the net
  pub list_joined : (wires list : List ℕ) (net wire : ℕ) → AreNetsOf wiring nets wires list → IsNetOf wiring nets wire net
      → Contains list net → IsJoinedWithOne wiring wires wire
  list_joined wires list net wire are is contains =
      let found = wire_at wiring nets wires list contains.0 net are (place_of list net contains) in
      (found.wire, contained_at wires contains.0 found.wire found.at, one_net_joined wiring nets found.wire wire net found.is_net is)

  pub joined_list : (of : AreNets wiring nets) (wires list : List ℕ) (net wire : ℕ) → AreNetsOf wiring nets wires list → IsNetOf wiring nets wire net
      → IsJoinedWithOne wiring wires wire → Contains list net
  joined_list of wires list net wire are is (other, contains, joined) =
      let found = net_at wiring nets wires list contains.0 other are (place_of wires other contains) in
      contained_at list contains.0 net (found.at ∙ ap Some (joined_one_net wiring nets of.ascending other wire found.net net found.is_net is joined))

module _ (wiring : Wiring) (chip : LinkedChip) (link : IsLinkOf wiring chip) where
  -- an instance has the net among some of its nets where one of some of its wires is joined with it
  abbrev pub Matches : (Body → List ℕ) → (WiredPart → List ℕ) → Type 0
  Matches nets wires = (wired : WiredPart) (part : Part) → IsPartOf wiring link.nets chip.cells wired part
      → (net wire : ℕ) → IsNetOf wiring link.nets wire net
      → Contains (nets part.body) net ↔ IsJoinedWithOne wiring (wires wired) wire

  -- and so has one of the instances
  pub one_joined : (nets : Body → List ℕ) (wires : WiredPart → List ℕ) → Matches nets wires → (net wire : ℕ)
      → IsNetOf wiring link.nets wire net → list_any (λ (part : Part). has (nets part.body) net) chip.parts ≡ true
      → IsJoinedWithOne wiring (flat_map wires wiring.parts) wire
  one_joined nets wires match net wire is e =
      let found = any_at (λ (part : Part). has (nets part.body) net) chip.parts e in
      let u = found.0 in
      let part = found.1 in
      let wired = also_there wiring.parts chip.parts u part link.same_parts found.2 in
      let joined = (match wired.0 part (link.parts u wired.0 part wired.1 found.2) net wire is).0
      (has_contains (nets part.body) net found.3) in
      (joined.0, at_flat wires wiring.parts u wired.0 joined.0 wired.1 joined.1, joined.2)

  pub joined_one : (nets : Body → List ℕ) (wires : WiredPart → List ℕ) → Matches nets wires → (net wire : ℕ)
      → IsNetOf wiring link.nets wire net → IsJoinedWithOne wiring (flat_map wires wiring.parts) wire
      → list_any (λ (part : Part). has (nets part.body) net) chip.parts ≡ true
  joined_one nets wires match net wire is (other, contains, joined) =
      let found = flat_at wires wiring.parts other contains in
      let u = found.0 in
      let wired = found.1 in
      let part = also_there chip.parts wiring.parts u wired (sym link.same_parts) found.2 in
      at_any (λ (p : Part). has (nets p.body) net) chip.parts u part.0 part.1
      (contains_has (nets part.0.body) net
      ((match wired part.0 (link.parts u wired part.0 found.2 part.1) net wire is).1 (other, found.3, joined)))
