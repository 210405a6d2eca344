-- The waves of a scope are those of the flat networks, and a pair shows a defect exactly where they say so.
use Rattle.std.proofs.Common.{◌≡◌, ◌≢◌, ◌⊎◌, ℕ, ◌+◌, ◌<◌, List, length, Option, None, Some, inl, inr, refl, sym, ◌∙◌, ap, subst, arith, true}
use Rattle.std.proofs.lemmas.Bool.{cases_eq}
use Rattle.ca_net.specs.declared.trit.Trit.{Trit}
use Rattle.ca_net.specs.declared.trit.Trit.TheVariants.{X}
use Rattle.ca_net.specs.declared.wave.Wave.{Wave}
use Rattle.ca_cell.specs.Exposes.{opposite_of}
use Rattle.ca_response.specs.Gives.{wave_at}
use Rattle.ca_flat.specs.declared.chip_defect.ChipDefect.{ChipDefect}
use Rattle.ca_flat.specs.Chip.{Chip, inputs_at, net_of, count_of}
use Rattle.ca_flat.specs.Chain.{IsReachedFrom}
use Rattle.ca_flat.specs.Pair.{IsShown, DetectsAt}
use Rattle.ca_flat.specs.Simulation.{IsFlattened}
use Rattle.ca_flat.specs.Waves.{FlatWaves, wave_of, IsFlatChip}
use Rattle.ca_flat.proofs.InstanceWaves.{ends_last}
use Rattle.ca_flips.proofs.ReachLemmas.{unreached_same}
use Rattle.ca_view.specs.Linked.{IsLinked, IsPinned, IsPlaced, IsPlacedDefect, place_in}
use Rattle.ca_flat.specs.Codes.{unset_pair}
use Rattle.std.specs.Prelude.{slice_set}
use Rattle.std.proofs.lemmas.List.{get_or-set_other}
use Rattle.ca_net.specs.State.{value_at}
use Rattle.std.proofs.Common.{Bor}
use Rattle.ca_places.specs.declared.place_set.PlaceSet.{PlaceSet}
use Rattle.ca_places.specs.PlaceSet.{Has}
use Rattle.ca_sim.specs.declared.network.Network.{Network}
use Rattle.ca_sim.specs.code.Current.{IsDrivenIn}
use Rattle.ca_sim.specs.Network.{IsDue, IsReady, IsAtRest, IsFedAt}
use Rattle.ca_sim.specs.code.Network.{IsUnderway}
use Rattle.ca_sim.specs.Simulator.{Simulator}
use Rattle.ca_sim.proofs.SimLemmas.{underway, underway_fed}
use Rattle.ca_sim.proofs.Feeding.{SameElsewhere}
use Rattle.ca_confined.specs.Confined.{IsSimOf}
use Rattle.ca_confined.specs.code.Settle.{IsTwinIn, IsSettledIn}
use Rattle.ca_sim.proofs.Exact.{exact_where_driven, last_is_end_where, waves_are_there_lem}
use Rattle.ca_confined.specs.declared.scope.Scope.{Scope}
use Rattle.ca_confined.specs.code.Scope.{IsScopeRoom, IsScope}
use Rattle.ca_confined.specs.code.Kept.{IsConfined}
use Rattle.ca_confined.specs.code.Ends.{are_opposite, AreOppositeAt, IsOppositeIn}
use Rattle.std.specs.Prelude.{IsTrue, IsFalse}
use Rattle.std.proofs.Common.{◌↔◌, Bool, false}
use Rattle.ca_net.specs.Circuit.{IsWellFormed}
use Rattle.ca_flat.specs.Flat.{flat}
use Rattle.ca_confined.proofs.EndLemmas.{opposite_is, is_opposite, opposite_definite, not_own_opposite}

module _ (chip : Chip) (place_of number_of : ℕ → ℕ) (linked : IsLinked chip place_of number_of) (u : ℕ) (scope : Scope) (room : IsScopeRoom chip place_of scope)
    (is_scope : IsScope chip place_of u scope) where
  -- an instance of the scope, or one that is bare
  abbrev Inside : ℕ → Type 0
  Inside w = (place_of w ≡ 0) ⊎ Has scope.places (place_of w)

  inside_by : (w : ℕ) → (0 < place_of w → Has scope.places (place_of w)) → Inside w
  inside_by w has = elim (cases_eq (place_of w) 0) [
    | inl e ↦ inl e
    | inr some ↦ inr (has (omega arith))
  ]

  -- an instance of the scope is placed
  placed_in : (w : ℕ) → w < count_of chip → Has scope.places (place_of w) → IsPlaced chip place_of w
  placed_in w known has =
      let is = room.places_within (place_of w) has in
      record { known = known; placed = let p = is.is_placed.placed in let at = is.at in omega arith }

  closed_in : (w pin : ℕ) → w < count_of chip → Inside w → pin < inputs_at chip w → IsDrivenIn chip Inside (net_of chip w pin)
  closed_in w pin known (inl bare) within drives = absurd (let none = (linked.bare w known bare).no_pin in omega arith)
  closed_in w pin known (inr has) within drives = inside_by drives.instance (is_scope.closed w (placed_in w known has) (omega arith) has pin within drives)

  module _ (o : Option ChipDefect) (bits : List Trit) (net : Network) (is : IsConfined chip place_of o bits scope.places net) (flat : IsFlattened chip place_of o) where
    current_in : (w : ℕ) → w < count_of chip → Inside w → IsDue place_of net.due w → ⊥
    current_in w known (inl bare) due =
        let is_place = is.underway.ready.within (place_of w) due in
        absurd (let p = is_place.is_placed.placed in let at = is_place.at in omega arith)
    current_in w known (inr has) due = is.none (place_of w) due has

    pub exact_at : (n : ℕ) → n < length chip.nets → Has scope.outputs n → (flat_waves : FlatWaves chip o bits) → wave_at net.waves n ≡ wave_of flat_waves n
    exact_at n within has flat_waves = exact_where_driven chip place_of o bits net.waves (IsDue place_of net.due) Inside flat is.underway.simulated
        current_in closed_in flat_waves n within (λ drives. inside_by drives.instance (is_scope.rooted n has drives))

  -- both networks, with the instance's defect
  module _ (defect : ChipDefect) (here : defect.instance ≡ u) (bits : List Trit) (good faulty : Network) (flat : IsFlatChip chip place_of defect)
      (good_is : IsConfined chip place_of None bits scope.places good) (faulty_is : IsConfined chip place_of (Some defect) bits scope.places faulty) where
    good_flat : IsFlattened chip place_of None
    good_flat = record { chip_is = flat.chip_is; defect_is = tt; formed = flat.good_is }

    faulty_flat : IsFlattened chip place_of (Some defect)
    faulty_flat = record { chip_is = flat.chip_is; defect_is = flat.defect_is; formed = flat.faulty_is }

    output_within : (net : ℕ) → Has scope.outputs net → net < length chip.nets
    output_within net has = linked.is_chip.observed net (room.outputs_within net has)

    pub opposite_shows : (net : ℕ) → Has scope.outputs net → AreOppositeAt good.waves faulty.waves net → IsShown chip defect bits
    opposite_shows net has opposite =
        let within = output_within net has in
        let value = (wave_at good.waves net).last in
        let is = opposite_is value (wave_at faulty.waves net).last opposite in
        record {
          output = net;
          observed = room.outputs_within net has;
          detects = record {
            value = value;
            good = (last_is_end_where chip place_of None bits good.waves net value good_flat (exact_at None bits good good_is good_flat net within has) within).0 (is.definite, refl);
            faulty = (last_is_end_where chip place_of (Some defect) bits faulty.waves net (opposite_of value) faulty_flat
                (exact_at (Some defect) bits faulty faulty_is faulty_flat net within has) within).0 (opposite_definite value is.definite, is.opposite);
          };
        }

    pub none_shows : ((net : ℕ) → Has scope.outputs net → AreOppositeAt good.waves faulty.waves net → ⊥) → IsShown chip defect bits → ⊥
    none_shows none shown =
        waves_are_there_lem chip place_of None bits good_flat (λ good_waves.
        waves_are_there_lem chip place_of (Some defect) bits faulty_flat (λ faulty_waves.
        let same = unreached_same chip place_of defect flat bits good_waves faulty_waves shown.output within unreached in
        let good_last = ends_last chip place_of None good_flat bits good_waves shown.output detects.value within detects.good in
        let faulty_last = ends_last chip place_of (Some defect) faulty_flat bits faulty_waves shown.output (opposite_of detects.value) within detects.faulty in
        not_own_opposite detects.value definite (sym good_last ∙ ap (λ (w : Wave). w.last) same ∙ faulty_last)))
      where
        detects : DetectsAt chip defect bits shown.output
        detects = shown.detects

        within : shown.output < length chip.nets
        within = linked.is_chip.observed shown.output shown.observed

        definite : detects.value ≢ X
        definite = detects.good.definite

        unreached : IsReachedFrom chip defect.instance shown.output → ⊥
        unreached reached =
            let has = is_scope.reached shown.output shown.observed (subst (λ w. IsReachedFrom chip w shown.output) here reached) in
            let good_end = (last_is_end_where chip place_of None bits good.waves shown.output detects.value good_flat
            (exact_at None bits good good_is good_flat shown.output within has) within).1 detects.good in
            let faulty_end = (last_is_end_where chip place_of (Some defect) bits faulty.waves shown.output (opposite_of detects.value) faulty_flat
            (exact_at (Some defect) bits faulty faulty_is faulty_flat shown.output within has) within).1 detects.faulty in
            none shown.output has (ap (λ v. are_opposite v (wave_at faulty.waves shown.output).last) good_end.1 ∙ ap (are_opposite detects.value) faulty_end.1
            ∙ is_opposite detects.value definite)

-- each instance of the scope is current in a network that is confined to it
pub twin_in : (chip : Chip) (place_of : ℕ → ℕ) (bits : List Trit) (scope : PlaceSet) (net : Network) → IsConfined chip place_of None bits scope net → IsTwinIn chip place_of scope net
twin_in chip place_of bits scope net is u placed has = record {
  count = is.underway.ready.count;
  are_waves = is.underway.ready.are_waves;
  current = is.underway.simulated.current u placed.known (λ due. is.none (place_of u) due has);
}

-- what is handed over as the twin is it
pub twin_given : (chip : Chip) (place_of : ℕ → ℕ) (scope : PlaceSet) (a b : Bor Network) → Some a ≡ Some b → IsTwinIn chip place_of scope a.now → IsTwinIn chip place_of scope b.now
twin_given chip place_of scope a b is twin = subst IsSomeTwin is twin
  where
    IsSomeTwin : Option (Bor Network) → Type 0
    IsSomeTwin None = Unit {0}
    IsSomeTwin (Some x) = IsTwinIn chip place_of scope x.now

-- a network at rest is confined to any scope
pub confined_at_rest : (chip : Chip) (place_of : ℕ → ℕ) (o : Option ChipDefect) (bits : List Trit) (scope : PlaceSet) (net : Network)
    → IsAtRest chip place_of o bits net → IsConfined chip place_of o bits scope net
confined_at_rest chip place_of o bits scope net rest = record { underway = underway chip place_of o bits net rest; none = λ place has inside. rest.none place has }

-- and one of which the scope was settled
pub confined_settled : (chip : Chip) (place_of : ℕ → ℕ) (o : Option ChipDefect) (bits : List Trit) (scope : PlaceSet) (old new : Network)
    → IsUnderway chip place_of o bits old → IsSettledIn chip place_of o scope old new → IsConfined chip place_of o bits scope new
confined_settled chip place_of o bits scope old new under settled = record {
  underway = record { ready = settled.ready; simulated = settled.current bits under.simulated };
  none = settled.none;
}

-- a bit of a chip input is changed, and the input's net is fed
pub confined_fed : (chip : Chip) (place_of number_of : ℕ → ℕ) → IsLinked chip place_of number_of → IsPinned chip → (o : Option ChipDefect) (input inputs bit : ℕ) (value : Trit)
    (bits next : List Trit) (scope : PlaceSet) (old new : Network) → inputs ≡ length chip.inputs → input < inputs → (bit ≡ input) ⊎ (bit ≡ inputs + input)
    → next ≡ slice_set bits bit value → IsConfined chip place_of o bits scope old → IsFedAt chip place_of input next old new → IsReady chip place_of new
    → IsUnderway chip place_of o next new
confined_fed chip place_of number_of linked pinned o input inputs bit value bits next scope old new inputs_are lt of is confined fed ready =
    underway_fed chip place_of number_of linked pinned o input (subst (λ n. input < n) inputs_are lt) bits next old new confined.underway same fed ready
  where
    apart : (place : ℕ) → place ≢ input → place ≢ length chip.inputs + input → (bit ≡ input) ⊎ (bit ≡ inputs + input) → place ≢ bit
    apart place first last (inl e) here = first (here ∙ e)
    apart place first last (inr e) here = last (here ∙ e ∙ ap (λ n. n + input) inputs_are)

    same : SameElsewhere chip input bits next
    same place first last = ap (λ list. value_at list place) is ∙ get_or-set_other bits bit place value X (apart place first last of)

-- what a simulator of the chip has without bits
pub unset_of : (chip : Chip) (places : List ℕ) (sim : Simulator) (net : Network) → IsSimOf chip places sim
    → IsAtRest sim.seen.chip (place_in sim.seen.places) None (unset_pair sim.seen.chip) net → IsAtRest chip (place_in places) None (unset_pair chip) net
unset_of chip places sim net is rest =
    subst (λ x. IsAtRest x (place_in places) None (unset_pair x) net) is.chip_is
    (subst (λ p. IsAtRest sim.seen.chip (place_in p) None (unset_pair sim.seen.chip) net) is.places_are rest)

-- the pair shows the defect exactly where some output says so
pub shows_exactly : (chip : Chip) (place_of number_of : ℕ → ℕ) → IsLinked chip place_of number_of → (scope : Scope) → IsScopeRoom chip place_of scope → (defect : ChipDefect)
    (bits : List Trit) (good faulty : Network) → IsWellFormed (flat chip None) → IsWellFormed (flat chip (Some defect)) → IsPlacedDefect chip place_of defect
    → IsScope chip place_of defect.instance scope → IsConfined chip place_of None bits scope.places good → IsConfined chip place_of (Some defect) bits scope.places faulty
    → (found : Bool) → (IsTrue found → IsOppositeIn scope.outputs good.waves faulty.waves) → (IsFalse found → IsOppositeIn scope.outputs good.waves faulty.waves → ⊥)
    → IsTrue found ↔ IsShown chip defect bits
shows_exactly chip place_of number_of linked scope room defect bits good faulty formed faulty_formed placed is_scope good_is faulty_is found some none = (
  λ is. let at = some is in opposite_shows chip place_of number_of linked defect.instance scope room is_scope defect refl bits good faulty is_flat good_is faulty_is at.net at.has at.opposite,
  λ shown. by found none shown,
)
  where
    is_flat : IsFlatChip chip place_of defect
    is_flat = record { chip_is = linked.is_chip; defect_is = placed.defect_is; good_is = formed; faulty_is = faulty_formed }

    by : (b : Bool) → (IsFalse b → IsOppositeIn scope.outputs good.waves faulty.waves → ⊥) → IsShown chip defect bits → IsTrue b
    by true out shown = refl
    by false out shown = absurd (none_shows chip place_of number_of linked defect.instance scope room is_scope defect refl bits good faulty is_flat good_is faulty_is
        (λ net has opposite. out refl (record { net = net; has = has; opposite = opposite })) shown)
