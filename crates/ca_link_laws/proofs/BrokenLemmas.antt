-- The first rule that a netlist breaks is one.
use Rattle.std.proofs.Common.{◌≡◌, ℕ, ◌+◌, ◌*◌, ◌⊎◌, ◌∙◌, List, [], ◌∷◌, length, inl, inr, sym, ap, subst, arith}
use Rattle.std.specs.Prelude.{Option, Some, None, IsSomeAnd, slice_get, nat_lt, if◌then◌else◌}
use Rattle.std.proofs.lemmas.Option.{same_Some}
use Rattle.ca_cell.specs.declared.rule.CellRule.{CellRule}
use Rattle.ca_cell.specs.Library.{Named}
use Rattle.ca_verilog.specs.declared.raw.RawUse.{RawUse}
use Rattle.ca_verilog.specs.declared.raw.RawInstance.{RawInstance}
use Rattle.ca_verilog.specs.declared.raw.RawNetlist.{RawNetlist}
use Rattle.ca_linked.specs.declared.instances.InstanceId.{InstanceId}
use Rattle.ca_linked.specs.declared.parts.NetId.{NetId}
use Rattle.ca_wiring.specs.declared.scan_row.ScanRow.{ScanRow}
use Rattle.ca_wiring.specs.declared.fault.ChipFault.{ChipFault}
use Rattle.ca_wiring.specs.declared.fault.ChipFault.TheVariants.{UnknownCell, Cell, UnknownPin, MissingPin, DoubleDriven, Undriven, ControlPin}
use Rattle.ca_wiring.specs.declared.fault.ChipFault.TheVariants.{ControlObserved, QnUsed, Loop, TooManyInstances, TooManyInputs, TooManyOutputs}
use Rattle.ca_wiring.specs.declared.fault.ChipFault.TheVariants.{TooManyDefects, NoMemory}
use Rattle.ca_wiring.specs.Wiring.{Meaning, Unknown, Broken, WiredPart, meaning_of, wiring_of, input_names}
use Rattle.ca_wiring.specs.InstanceRules.{HasStrayPin, LacksPin}
use Rattle.ca_wiring.specs.Rules.{BreaksAt, BreaksControl, IsDoubleDriven, IsFirstBroken, OfInstance, control_names}
use Rattle.ca_link_laws.specs.Laws.{AreLoops, FirstBrokenIsOne}
use Rattle.ca_link_laws.proofs.AlikeLemmas.{links_alike}
use Rattle.ca_link_laws.proofs.TraceLemmas.{one_ports}
use Rattle.ca_link_laws.proofs.DrivingLemmas.{one_pair, driven}
use Rattle.ca_link_laws.proofs.PlaceLemmas.{in_order}

-- a number for each kind of fault, the same for two that may be at one place
abbrev code_of : ChipFault → ℕ
code_of (UnknownCell u) = 100
code_of (Cell u rule) = 100
code_of (UnknownPin u pin) = 111
code_of (MissingPin u pin) = 112
code_of (DoubleDriven net first second) = 200
code_of (Undriven net) = 200
code_of (ControlPin u pin) = 300
code_of (QnUsed u) = 300
code_of (ControlObserved net) = 400
code_of (Loop instances) = 500
code_of (TooManyInstances count) = 600
code_of (TooManyInputs count) = 601
code_of (TooManyOutputs count) = 602
code_of (TooManyDefects count) = 603
code_of NoMemory = 0

-- and the same number for each place
abbrev code_at : List ℕ → ℕ
code_at [] = 0
code_at (stage ∷ []) = 100 * stage
code_at (stage ∷ place ∷ []) = 100 * stage + (if nat_lt 5 stage then place else 0)
code_at (stage ∷ place ∷ pin ∷ []) = 100 * stage
code_at (stage ∷ place ∷ kind ∷ pin ∷ more) = 110 * stage + kind

module _ (raw : RawNetlist) (library : List Named) (scan : List ScanRow) where
  placed : (at : List ℕ) (broken : ChipFault) → BreaksAt raw library scan at broken → code_at at ≡ code_of broken
  placed at (UnknownCell u) breaks = ap code_at breaks.0
  placed at (Cell u rule) breaks = ap code_at breaks.0
  placed at (UnknownPin u pin) breaks = ap code_at breaks.1
  placed at (MissingPin u pin) breaks = ap code_at breaks.1
  placed at (DoubleDriven net first second) breaks = ap code_at breaks.0
  placed at (Undriven net) breaks = ap code_at breaks.0
  placed at (ControlPin u pin) breaks = ap code_at breaks.1
  placed at (QnUsed u) breaks = ap code_at breaks.0
  placed at (ControlObserved net) breaks = ap code_at breaks.0
  placed at (Loop instances) breaks = ap code_at breaks.0
  placed at (TooManyInstances count) breaks = ap code_at breaks.0
  placed at (TooManyInputs count) breaks = ap code_at breaks.0
  placed at (TooManyOutputs count) breaks = ap code_at breaks.0
  placed at (TooManyDefects count) breaks = ap code_at breaks.0
  placed at NoMemory breaks = absurd breaks

  same_instance : (u v : InstanceId) → u.0 ≡ v.0 → u ≡ v
  same_instance u v same = λ j. record { 0 = same j }

  same_net : (net other : NetId) → net.0 ≡ other.0 → net ≡ other
  same_net net other same = λ j. record { 0 = same j }

  -- two numbers of places of one form
  one_second : (at : List ℕ) (stage m n : ℕ) → at ≡ stage ∷ m ∷ [] → at ≡ stage ∷ n ∷ [] → m ≡ n
  one_second at stage m n is also = let same : stage ∷ m ∷ [] ≡ stage ∷ n ∷ [] = sym is ∙ also in cc

  one_third : (at : List ℕ) (stage u k v l : ℕ) → at ≡ stage ∷ u ∷ k ∷ [] → at ≡ stage ∷ v ∷ l ∷ [] → (u ≡ v) × (k ≡ l)
  one_third at stage u k v l is also = let same : stage ∷ u ∷ k ∷ [] ≡ stage ∷ v ∷ l ∷ [] = sym is ∙ also in (cc, cc)

  one_fourth : (at : List ℕ) (stage kind u k v l : ℕ) → at ≡ stage ∷ u ∷ kind ∷ k ∷ [] → at ≡ stage ∷ v ∷ kind ∷ l ∷ [] → (u ≡ v) × (k ≡ l)
  one_fourth at stage kind u k v l is also =
      let same : stage ∷ u ∷ kind ∷ k ∷ [] ≡ stage ∷ v ∷ kind ∷ l ∷ [] = sym is ∙ also in (cc, cc)

  -- what two rules say of one instance
  of_one : {R : Type 0} (P Q : Meaning → List RawUse → Type 0) (u v : ℕ) → u ≡ v → OfInstance raw library scan u P → OfInstance raw library scan v Q
      → ((meaning : Meaning) (uses : List RawUse) → P meaning uses → Q meaning uses → R) → R
  of_one {R = R} P Q u v same here there next = by (slice_get raw.instances v) (subst (λ n. OfInstance raw library scan n P) same here) there
    where
      by : (o : Option RawInstance) → IsSomeAnd o (λ instance. P (meaning_of library scan instance.cell) instance.pins)
          → IsSomeAnd o (λ instance. Q (meaning_of library scan instance.cell) instance.pins) → R
      by None here there = absurd here
      by (Some instance) here there = next (meaning_of library scan instance.cell) instance.pins here there

  one_control : (u v : ℕ) (k l : ℕ) (pin other : List ℕ) → u ≡ v → k ≡ l → BreaksControl (wiring_of raw library scan) u k pin
      → BreaksControl (wiring_of raw library scan) v l other → pin ≡ other
  one_control u v k l pin other same places here there =
      let part : here.control.part ≡ there.control.part =
      same_Some here.control.part there.control.part
      (sym here.control.is_part ∙ ap (slice_get (wiring_of raw library scan).parts) same ∙ there.control.is_part) in
      same_Some pin other (sym here.named ∙ ap (λ (it : WiredPart). slice_get (control_names it.meaning) k) part
      ∙ ap (slice_get (control_names there.control.part.meaning)) places ∙ there.named)

  unknown_or_broken : (rule : CellRule) (meaning : Meaning) (uses : List RawUse) → meaning ≡ Unknown → meaning ≡ Broken rule → ⊥
  unknown_or_broken rule meaning uses is also = let both : Unknown ≡ Broken rule = sym is ∙ also in cc

  one_rule : (rule again : CellRule) (meaning : Meaning) (uses : List RawUse) → meaning ≡ Broken rule → meaning ≡ Broken again → rule ≡ again
  one_rule rule again meaning uses is also = let both : Broken rule ≡ Broken again = sym is ∙ also in cc

  one_stray : (place also_place : ℕ) (pin other : List ℕ) → place ≡ also_place → (meaning : Meaning) (uses : List RawUse)
      → HasStrayPin meaning uses place pin → HasStrayPin meaning uses also_place other → pin ≡ other
  one_stray place also_place pin other same meaning uses is also =
      sym is.named ∙ ap (λ (used : RawUse). used.pin) (same_Some is.used also.used (sym is.at ∙ ap (slice_get uses) same ∙ also.at)) ∙ also.named

  one_lacking : (place also_place : ℕ) (pin other : List ℕ) → place ≡ also_place → (meaning : Meaning) (uses : List RawUse)
      → LacksPin meaning uses place pin → LacksPin meaning uses also_place other → pin ≡ other
  one_lacking place also_place pin other same meaning uses is also =
      same_Some pin other (sym is.at ∙ ap (slice_get (input_names meaning)) same ∙ also.at)

  -- at one place one rule is broken
  at_place : (at : List ℕ) (broken other : ChipFault) → BreaksAt raw library scan at broken → BreaksAt raw library scan at other
      → code_of broken ≡ code_of other → (broken ≡ other) ⊎ AreLoops broken other
  at_place at (UnknownCell u) (UnknownCell v) here there code =
      inl (ap UnknownCell (same_instance u v (one_third at 1 u.0 0 v.0 0 here.0 there.0).0))
  at_place at (UnknownCell u) (Cell v rule) here there code =
      absurd (of_one (λ meaning uses. meaning ≡ Unknown) (λ meaning uses. meaning ≡ Broken rule) u.0 v.0
      (one_third at 1 u.0 0 v.0 0 here.0 there.0).0 here.1 there.1 (unknown_or_broken rule))
  at_place at (Cell u rule) (UnknownCell v) here there code =
      absurd (of_one (λ meaning uses. meaning ≡ Unknown) (λ meaning uses. meaning ≡ Broken rule) v.0 u.0
      (one_third at 1 v.0 0 u.0 0 there.0 here.0).0 there.1 here.1 (unknown_or_broken rule))
  at_place at (Cell u rule) (Cell v again) here there code =
      let places = one_third at 1 u.0 0 v.0 0 here.0 there.0 in
      let instance = same_instance u v places.0 in
      let rules : rule ≡ again = of_one (λ meaning uses. meaning ≡ Broken rule) (λ meaning uses. meaning ≡ Broken again) u.0 v.0 places.0
      here.1 there.1 (one_rule rule again) in
      inl (λ j. Cell (instance j) (rules j))
  at_place at (UnknownPin u pin) (UnknownPin v other) here there code =
      let places = one_fourth at 1 1 u.0 here.0 v.0 there.0 here.1 there.1 in
      let instance = same_instance u v places.0 in
      let pins : pin ≡ other = of_one (λ meaning uses. HasStrayPin meaning uses here.0 pin) (λ meaning uses. HasStrayPin meaning uses there.0 other)
      u.0 v.0 places.0 here.2 there.2 (one_stray here.0 there.0 pin other places.1) in
      inl (λ j. UnknownPin (instance j) (pins j))
  at_place at (MissingPin u pin) (MissingPin v other) here there code =
      let places = one_fourth at 1 2 u.0 here.0 v.0 there.0 here.1 there.1 in
      let instance = same_instance u v places.0 in
      let pins : pin ≡ other = of_one (λ meaning uses. LacksPin meaning uses here.0 pin) (λ meaning uses. LacksPin meaning uses there.0 other)
      u.0 v.0 places.0 here.2 there.2 (one_lacking here.0 there.0 pin other places.1) in
      inl (λ j. MissingPin (instance j) (pins j))
  at_place at (DoubleDriven net first second) (DoubleDriven other third fourth) here there code =
      let same = one_second at 2 net.0 other.0 here.0 there.0 in
      let nets = same_net net other same in
      let pair = one_pair (wiring_of raw library scan) other.0 first second third fourth (subst (λ n. IsDoubleDriven (wiring_of raw library scan) n first second) same here.1) there.1 in
      inl (λ j. DoubleDriven (nets j) (pair.0 j) (pair.1 j))
  at_place at (DoubleDriven net first second) (Undriven other) here there code =
      absurd (driven (wiring_of raw library scan) other.0 first second (subst (λ n. IsDoubleDriven (wiring_of raw library scan) n first second) (one_second at 2 net.0 other.0 here.0 there.0) here.1) there.1)
  at_place at (Undriven net) (DoubleDriven other first second) here there code =
      absurd (driven (wiring_of raw library scan) net.0 first second (subst (λ n. IsDoubleDriven (wiring_of raw library scan) n first second) (one_second at 2 other.0 net.0 there.0 here.0) there.1) here.1)
  at_place at (Undriven net) (Undriven other) here there code =
      inl (ap Undriven (same_net net other (one_second at 2 net.0 other.0 here.0 there.0)))
  at_place at (ControlPin u pin) (ControlPin v other) here there code =
      let places = one_third at 3 u.0 here.0 v.0 there.0 here.1 there.1 in
      let instance = same_instance u v places.0 in
      let pins = one_control u.0 v.0 here.0 there.0 pin other places.0 places.1 here.2 there.2 in
      inl (λ j. ControlPin (instance j) (pins j))
  at_place at (ControlPin u pin) (QnUsed v) here there code =
      let places = one_third at 3 u.0 here.0 v.0 3 here.1 there.0 in
      let few = here.2.control.few in let third = places.1 in absurd (omega (arith, few, third))
  at_place at (QnUsed u) (ControlPin v pin) here there code =
      let places = one_third at 3 u.0 3 v.0 there.0 here.0 there.1 in
      let few = there.2.control.few in let third = places.1 in absurd (omega (arith, few, third))
  at_place at (QnUsed u) (QnUsed v) here there code =
      inl (ap QnUsed (same_instance u v (one_third at 3 u.0 3 v.0 3 here.0 there.0).0))
  at_place at (ControlObserved net) (ControlObserved other) here there code =
      inl (ap ControlObserved (same_net net other (one_second at 4 net.0 other.0 here.0 there.0)))
  at_place at (Loop instances) (Loop others) here there code = inr tt
  at_place at (TooManyInstances count) (TooManyInstances other) here there code = inl (ap TooManyInstances (here.1 ∙ sym there.1))
  at_place at (TooManyInputs count) (TooManyInputs other) here there code =
      let one = here.1 in
      let two = there.1 in
      let ports = one_ports one.0 two.0 (links_alike (wiring_of raw library scan) one.0 two.0 one.1 two.1) in
      inl (ap TooManyInputs (one.2 ∙ ap length ports.inputs ∙ sym two.2))
  at_place at (TooManyOutputs count) (TooManyOutputs other) here there code =
      let one = here.1 in
      let two = there.1 in
      let ports = one_ports one.0 two.0 (links_alike (wiring_of raw library scan) one.0 two.0 one.1 two.1) in
      inl (ap TooManyOutputs (one.2 ∙ ap length ports.outputs ∙ sym two.2))
  at_place at (TooManyDefects count) (TooManyDefects other) here there code = inl (ap TooManyDefects (here.1 ∙ sym there.1))
  at_place at broken other here there code = absurd (omega (arith, code))

  one_first : (broken other : ChipFault) → IsFirstBroken raw library scan broken → IsFirstBroken raw library scan other
      → (broken ≡ other) ⊎ AreLoops broken other
  one_first broken other here there = elim (in_order here.at there.at) [
    | inl before ↦ absurd (there.none_before here.at broken before here.breaks)
    | inr (inl same) ↦
        let also : BreaksAt raw library scan here.at other = subst (λ at. BreaksAt raw library scan at other) (sym same) there.breaks in
        at_place here.at broken other here.breaks also (sym (placed here.at broken here.breaks) ∙ placed here.at other also)
    | inr (inr following) ↦ absurd (here.none_before there.at other following there.breaks)
  ]

pub first_broken : FirstBrokenIsOne
first_broken raw library scan broken other here there = one_first raw library scan broken other here there
