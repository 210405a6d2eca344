-- What drives a net is in one order, and the first two are one pair.
use Rattle.std.proofs.Common.{◌≡◌, ℕ, ◌<◌, ◌⊎◌, ◌∙◌, true, false, List, inl, inr, refl, sym, ap, subst, arith}
use Rattle.std.proofs.Math.Decide.{dec_lt}
use Rattle.std.specs.Prelude.{slice_get}
use Rattle.std.proofs.lemmas.Option.{same_Some}
use Rattle.ca_wiring.specs.declared.fault.Driver.{Driver}
use Rattle.ca_wiring.specs.declared.fault.Driver.TheVariants as driver
use Rattle.ca_wiring.specs.Wiring.{WiredPart, Wiring, output_names}
use Rattle.ca_wiring.specs.Nets.{Driving, PortBit, ConstantBit, OutputPin, ComesBefore, Drives}
use Rattle.ca_wiring.specs.Rules.{IsNetAt, IsDriver, IsDoubleDriven, IsUndriven}
use Rattle.ca_link.proofs.NetsLemmas.{same_nets}

-- a number is below another, is it, or is above it
order_of : (a b : ℕ) → (a < b) ⊎ ((a ≡ b) ⊎ (b < a))
order_of a b = elim (dec_lt a b) [
  | yes less ↦ inl less
  | no not ↦ elim (dec_lt b a) [
    | yes more ↦ inr (inr more)
    | no neither ↦ inr (inl (omega (arith, not, neither)))
  ]
]

in_turn : (a b : Driving) → ComesBefore a b ⊎ ((a ≡ b) ⊎ ComesBefore b a)
in_turn (PortBit a) (PortBit b) = elim (order_of a b) [
  | inl less ↦ inl less
  | inr (inl same) ↦ inr (inl (ap PortBit same))
  | inr (inr more) ↦ inr (inr more)
]
in_turn (PortBit a) (ConstantBit b) = inl tt
in_turn (PortBit a) (OutputPin u pin) = inl tt
in_turn (ConstantBit a) (PortBit b) = inr (inr tt)
in_turn (ConstantBit false) (ConstantBit false) = inr (inl refl)
in_turn (ConstantBit false) (ConstantBit true) = inl (omega arith)
in_turn (ConstantBit true) (ConstantBit false) = inr (inr (omega arith))
in_turn (ConstantBit true) (ConstantBit true) = inr (inl refl)
in_turn (ConstantBit a) (OutputPin u pin) = inl tt
in_turn (OutputPin u pin) (PortBit b) = inr (inr tt)
in_turn (OutputPin u pin) (ConstantBit b) = inr (inr tt)
in_turn (OutputPin u pin) (OutputPin w other) = elim (order_of u w) [
  | inl less ↦ inl (inl less)
  | inr (inr more) ↦ inr (inr (inl more))
  | inr (inl same) ↦ elim (order_of pin other) [
    | inl less ↦ inl (inr (same, less))
    | inr (inl equal) ↦ inr (inl (λ j. OutputPin (same j) (equal j)))
    | inr (inr more) ↦ inr (inr (inr (sym same, more)))
  ]
]

before_self : (a : Driving) → ComesBefore a a → ⊥
before_self (PortBit a) before = omega (arith, before)
before_self (ConstantBit a) before = omega (arith, before)
before_self (OutputPin u pin) (inl less) = omega (arith, less)
before_self (OutputPin u pin) (inr (same, less)) = omega (arith, less)

before_then : (a b c : Driving) → ComesBefore a b → ComesBefore b c → ComesBefore a c
before_then (PortBit a) (PortBit b) (PortBit c) ab bc = omega (arith, ab, bc)
before_then (PortBit a) (ConstantBit b) (PortBit c) ab bc = absurd bc
before_then (PortBit a) (OutputPin u pin) (PortBit c) ab bc = absurd bc
before_then (PortBit a) b (ConstantBit c) ab bc = tt
before_then (PortBit a) b (OutputPin u pin) ab bc = tt
before_then (ConstantBit a) (PortBit b) c ab bc = absurd ab
before_then (ConstantBit a) (ConstantBit b) (PortBit c) ab bc = absurd bc
before_then (ConstantBit a) (ConstantBit b) (ConstantBit c) ab bc = omega (arith, ab, bc)
before_then (ConstantBit a) (ConstantBit b) (OutputPin u pin) ab bc = tt
before_then (ConstantBit a) (OutputPin u pin) (PortBit c) ab bc = absurd bc
before_then (ConstantBit a) (OutputPin u pin) (ConstantBit c) ab bc = absurd bc
before_then (ConstantBit a) (OutputPin u pin) (OutputPin w other) ab bc = tt
before_then (OutputPin u pin) (PortBit b) c ab bc = absurd ab
before_then (OutputPin u pin) (ConstantBit b) c ab bc = absurd ab
before_then (OutputPin u pin) (OutputPin w other) (PortBit c) ab bc = absurd bc
before_then (OutputPin u pin) (OutputPin w other) (ConstantBit c) ab bc = absurd bc
before_then (OutputPin u pin) (OutputPin w other) (OutputPin v last) ab bc = elim ab [
  | inl less ↦ elim bc [
    | inl more ↦ inl (omega (arith, less, more))
    | inr here ↦ (let same = here.0 in inl (omega (arith, less, same)))
  ]
  | inr here ↦ elim bc [
    | inl more ↦ (let same = here.0 in inl (omega (arith, same, more)))
    | inr there ↦ (let first = here.1 in let next = there.1 in inr (here.0 ∙ there.0, omega (arith, first, next)))
  ]
]

-- the wire of a net is one
pub one_wire : (wiring : Wiring) (net wire other : ℕ) → IsNetAt wiring net wire → IsNetAt wiring net other → wire ≡ other
one_wire wiring net wire other is also =
    same_Some wire other (sym is.at ∙ ap (λ (nets : List ℕ). slice_get nets net) (same_nets wiring is.nets also.nets is.are also.are) ∙ also.at)

-- a driver has one name
one_driver : (wiring : Wiring) (net : ℕ) (driving : Driving) (first other : Driver) → IsDriver wiring net driving first → IsDriver wiring net driving other
    → first ≡ other
one_driver wiring net (PortBit bit) first other is also = is ∙ sym also
one_driver wiring net (ConstantBit value) first other is also = is ∙ sym also
one_driver wiring net (OutputPin u pin) first other (part, name, at, named, is) (part_too, name_too, at_too, named_too, also) =
    let same : part ≡ part_too = same_Some part part_too (sym at ∙ at_too) in
    let names : name ≡ name_too = same_Some name name_too (sym named ∙ ap (λ (it : WiredPart). slice_get (output_names it.meaning) pin) same ∙ named_too) in
    is ∙ ap (λ (word : List ℕ). driver.Pin (record { 0 = u }) word) names ∙ sym also

module _ (wiring : Wiring) (net : ℕ) (first second third fourth : Driver) (is : IsDoubleDriven wiring net first second)
    (also : IsDoubleDriven wiring net third fourth) where
  wires : also.wire ≡ is.wire
  wires = one_wire wiring net also.wire is.wire also.is_net is.is_net

  here : (driving : Driving) → Drives wiring also.wire driving → Drives wiring is.wire driving
  here driving = subst (λ wire. Drives wiring wire driving) wires

  there : (driving : Driving) → Drives wiring is.wire driving → Drives wiring also.wire driving
  there driving = subst (λ wire. Drives wiring wire driving) (sym wires)

  seconds : is.two ≡ also.two
  seconds = elim (in_turn is.two also.two) [
    | inl before ↦ absurd (
        let one = also.none_before is.two (there is.two is.drives_two) before in
        let other = also.none_before is.one (there is.one is.drives_one) (before_then is.one is.two also.two is.in_order before) in
        before_self is.two (subst (λ driving. ComesBefore driving is.two) (other ∙ sym one) is.in_order))
    | inr (inl same) ↦ same
    | inr (inr following) ↦ absurd (
        let one = is.none_before also.two (here also.two also.drives_two) following in
        let other = is.none_before also.one (here also.one also.drives_one) (before_then also.one also.two is.two also.in_order following) in
        before_self also.two (subst (λ driving. ComesBefore driving also.two) (other ∙ sym one) also.in_order))
  ]

  firsts : is.one ≡ also.one
  firsts = also.none_before is.one (there is.one is.drives_one) (subst (λ driving. ComesBefore is.one driving) seconds is.in_order)

  -- the first two that drive a net are reported as one pair
  pub one_pair : (first ≡ third) × (second ≡ fourth)
  one_pair = (
    one_driver wiring net also.one first third (subst (λ driving. IsDriver wiring net driving first) firsts is.reported_one) also.reported_one,
    one_driver wiring net also.two second fourth (subst (λ driving. IsDriver wiring net driving second) seconds is.reported_two) also.reported_two,
  )

-- a net that is driven twice isn't undriven
pub driven : (wiring : Wiring) (net : ℕ) (first second : Driver) → IsDoubleDriven wiring net first second → IsUndriven wiring net → ⊥
driven wiring net first second is none =
    none.driven_by_none is.one (subst (λ wire. Drives wiring wire is.one) (one_wire wiring net is.wire none.wire is.is_net none.is_net) is.drives_one)
