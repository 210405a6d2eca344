-- A net of a link that nothing drives, or two do, breaks a rule of its wiring; one with one driver breaks
-- none.
use Rattle.std.proofs.Common.{◌≡◌, ℕ, ◌<◌, ◌⊎◌, inl, inr, refl, sym, ◌∙◌, ap, subst, arith}
use Rattle.std.specs.Prelude.{Some, slice_get}
use Rattle.ca_wiring.specs.declared.fault.Driver.{Driver}
use Rattle.ca_wiring.specs.Wiring.{Wiring}
use Rattle.ca_wiring.specs.Nets.{Driving, PortBit, ConstantBit, OutputPin, IsNet, IsLoaded}
use Rattle.ca_wiring.specs.Nets as nets
use Rattle.ca_wiring.specs.Linking.{IsLinkOf}
use Rattle.ca_wiring.specs.Same.{driving_of}
use Rattle.ca_wiring.specs.Rules.{IsDriver, IsDoubleDriven, IsUndriven}
use Rattle.ca_wiring.proofs.SameLemmas.{same_drivers, same_first_two}
use Rattle.ca_linked.specs.declared.drivers.Sources.{Sources}
use Rattle.ca_linked.specs.declared.parts.Source.{Source}
use Rattle.ca_linked.specs.declared.parts.Source.TheVariants.{FromPort, FromConstant, FromPin}
use Rattle.ca_linked.specs.Linked.{LinkedChip, net_count, Drives}
use Rattle.ca_linked.specs.Drivers.{AreFirst}
use Rattle.ca_linked.specs.Wired.{HasOneDriver, IsFirstMisdriven, AreDriven}
use Rattle.ca_linked.proofs.OrderLemmas.{contained_at}
use Rattle.ca_link.specs.code.Stages.{IsMisdriven}
use Rattle.ca_link.proofs.NetsLemmas.{net_of_chip, net_of_wiring, net_within, wire_of_net}

-- each that drives is that of a source
source_of : (driving : Driving) → (source : Source) × (driving_of source ≡ driving)
source_of (PortBit p) = (FromPort p, refl)
source_of (ConstantBit value) = (FromConstant value, refl)
source_of (OutputPin u pin) = (FromPin u pin, refl)

-- none comes before itself
not_before : (driving : Driving) → nets.ComesBefore driving driving → ⊥
not_before (PortBit p) before = omega (arith, before)
not_before (ConstantBit value) before = omega (arith, before)
not_before (OutputPin u pin) (inl less) = omega (arith, less)
not_before (OutputPin u pin) (inr same) = let lt = same.1 in omega (arith, lt)

module _ (wiring : Wiring) (chip : LinkedChip) (link : IsLinkOf wiring chip) where
  -- what drives the wires of a net drives it
  drives_net : (net wire : ℕ) → slice_get link.nets net ≡ Some wire → (driving : Driving) → nets.Drives wiring wire driving
      → (source : Source) × (driving_of source ≡ driving) × Drives chip net source
  drives_net net wire at driving drives =
      let source = source_of driving in
      (source.0, source.1, (same_drivers wiring chip link net wire at source.0).1 (subst (nets.Drives wiring wire) (sym source.1) drives))

  -- a net with one driver keeps the rules
  pub one_driver_keeps : (net : ℕ) → HasOneDriver chip net → IsMisdriven wiring net → ⊥
  one_driver_keeps net one (inl (first, second, double)) =
      let at = net_of_chip wiring chip link net double.wire double.is_net in
      let a = drives_net net double.wire at double.one double.drives_one in
      let b = drives_net net double.wire at double.two double.drives_two in
      let same : double.one ≡ double.two =
      sym a.1 ∙ ap driving_of (one.only.none_other a.0 a.2 ∙ sym (one.only.none_other b.0 b.2)) ∙ b.1 in
      not_before double.two (subst (λ d. nets.ComesBefore d double.two) same double.in_order)
  one_driver_keeps net one (inr undriven) =
      let at = net_of_chip wiring chip link net undriven.wire undriven.is_net in
      undriven.driven_by_none (driving_of one.source) ((same_drivers wiring chip link net undriven.wire at one.source).0 one.only.has)

  -- a rule is broken at a net of the chip alone
  pub misdriven_within : (net : ℕ) → IsMisdriven wiring net → net < net_count chip
  misdriven_within net (inl (first, second, double)) =
      net_within wiring chip link net double.wire (net_of_chip wiring chip link net double.wire double.is_net)
  misdriven_within net (inr undriven) =
      net_within wiring chip link net undriven.wire (net_of_chip wiring chip link net undriven.wire undriven.is_net)

  -- where each net has one driver, no rule on drivers is broken
  pub driven_keeps : AreDriven chip → (net : ℕ) → IsMisdriven wiring net → ⊥
  driven_keeps driven net broken = one_driver_keeps net (driven net (misdriven_within net broken)) broken

  -- the nets before the first that breaks a rule keep them
  pub none_misdriven_before : (net : ℕ) (sources : Sources) → IsFirstMisdriven chip net sources → (before : ℕ) → before < net
      → IsMisdriven wiring before → ⊥
  none_misdriven_before net sources first before less = one_driver_keeps before (first.none_before before less)

  -- nothing drives the net
  pub is_undriven : (net : ℕ) → net < net_count chip → ((source : Source) → Drives chip net source → ⊥) → IsUndriven wiring net
  is_undriven net lt none =
      let wire = wire_of_net wiring chip link net lt in
      let is : IsNet wiring wire.0 = (link.are.has wire.0).0 (contained_at link.nets net wire.0 wire.1) in
      record {
        wire = wire.0;
        is_net = net_of_wiring wiring chip link net wire.0 wire.1;
        loaded = loaded wire.0 wire.1 is.used;
        driven_by_none = no_driving wire.0 wire.1;
      }
    where
      no_driving : (wire : ℕ) → slice_get link.nets net ≡ Some wire → (driving : Driving) → nets.Drives wiring wire driving → ⊥
      no_driving wire at driving drives = let source = drives_net net wire at driving drives in none source.0 source.2

      loaded : (wire : ℕ) → slice_get link.nets net ≡ Some wire → ((driving : Driving) × nets.Drives wiring wire driving) ⊎ IsLoaded wiring wire
          → IsLoaded wiring wire
      loaded wire at (inl driven) = absurd (no_driving wire at driven.0 driven.1)
      loaded wire at (inr load) = load

  -- two drive the net, the first two of all that do
  pub is_double_driven : (net : ℕ) → net < net_count chip → (one two : Source) → AreFirst (Drives chip net) (Some one) (Some two)
      → (first second : Driver) → IsDriver wiring net (driving_of one) first → IsDriver wiring net (driving_of two) second
      → IsDoubleDriven wiring net first second
  is_double_driven net lt one two are first second reported_one reported_two =
      let wire = wire_of_net wiring chip link net lt in
      let same = same_first_two wiring chip link net wire.0 wire.1 one two are in
      record {
        wire = wire.0;
        is_net = net_of_wiring wiring chip link net wire.0 wire.1;
        one = driving_of one;
        two = driving_of two;
        drives_one = same.drives_one;
        drives_two = same.drives_two;
        in_order = same.in_order;
        none_before = same.none_before;
        reported_one = reported_one;
        reported_two = reported_two;
      }
