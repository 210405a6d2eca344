-- A network before any bit is set: nothing but constants is known, and each instance with a place is due.
use Rattle.std.proofs.Common.{◌≡◌, ◌≢◌, ℕ, suc, ◌+◌, ◌<◌, ◌==◌, List, [], ◌∷◌, length, drop, replicate}
use Rattle.std.proofs.Common.{slice_set, Bool, true, false, None, Some, inl, inr, refl, sym, ◌∙◌, ap, subst}
use Rattle.std.proofs.Common.{arith, eq-eqb}
use Rattle.std.specs.Prelude.{cond, slice_get}
use Rattle.std.proofs.lemmas.Bool.{cases_eq, cases_lt, cond-true, cond-false}
use Rattle.std.proofs.lemmas.List.{get_or-replicate, get_or_past, length-replicate, length-set}
use Rattle.std.proofs.lemmas.List.{get_or-set_same, get_or-set_other}
use Rattle.std.proofs.lemmas.Option.{get_or_from_slice_get, slice_get_within}
use Rattle.std.proofs.Math.Seq.{drop-cons}
use Rattle.ca_net.specs.declared.scale.TheConstants.{OUTPUT_NET}
use Rattle.ca_net.specs.declared.trit.Trit.{Trit}
use Rattle.ca_net.specs.declared.trit.Trit.TheVariants.{X}
use Rattle.ca_net.specs.declared.wave.Wave.{Wave}
use Rattle.ca_net.specs.declared.node.NodeKind.TheVariants.{Storage}
use Rattle.ca_net.specs.Circuit.{Circuit, IsStorage, kind_at}
use Rattle.ca_net.specs.State.{value_at}
use Rattle.ca_net.specs.Wave.{IsWave, pair_of}
use Rattle.ca_response.specs.Outputs.{wave_in, output_node}
use Rattle.ca_response.proofs.PairLemmas.{pair_is_wave}
use Rattle.ca_response.specs.Gives.{unknown_wave, wave_at}
use Rattle.ca_flat.specs.Chip.{Chip, Constant, cell_at, inputs_at, outputs_at, output_net, count_of, net_kind}
use Rattle.ca_flat.specs.Flat.{circuit_in}
use Rattle.ca_flat.specs.Pair.{bit_count, input_value, constant_value, net_value}
use Rattle.ca_flat.specs.Codes.{unset_pair}
use Rattle.ca_flat.proofs.Clashes.{wave_ext}
use Rattle.ca_flat.proofs.Spots.{body}
use Rattle.ca_flat.proofs.Undriven.{first_unknown, middle_unknown, last_unknown, not_input}
use Rattle.ca_view.specs.Linked.{IsLinked, IsPinned}
use Rattle.ca_sim.specs.Current.{IsCurrent, pair_wave}
use Rattle.ca_places.specs.PlaceSet.{Has, HoldsUpTo}
use Rattle.ca_sim.specs.code.Marking.{HasPlacesTo, HasAllPlaces}
use Rattle.ca_places.specs.declared.place_set.PlaceSet.{PlaceSet}
use Rattle.ca_sim.specs.code.Network.{HasConstantsFrom, HasConstants, IsUnderway}
use Rattle.ca_sim.proofs.Feeding.{neq-eqb}
use Rattle.ca_sim.proofs.WaveLemmas.{length-waves_from, wave_at-waves_from}

-- no constant
pub constants_none : (chip : Chip) (count : ℕ) (waves : List Wave) → count ≡ length chip.nets → waves ≡ replicate count unknown_wave
    → HasConstantsFrom chip [] waves
constants_none chip count waves count_is is = (
  ap length is ∙ length-replicate count unknown_wave ∙ count_is,
  (λ net within. ap (λ list. wave_at list net) is ∙ get_or-replicate count net unknown_wave unknown_wave (omega arith)),
)

-- one more constant, which comes before the others
pub constants_more : (chip : Chip) (k : ℕ) (constant : Constant) (wave : Wave) (old new : List Wave)
    → slice_get chip.constants k ≡ Some constant → constant.net < length chip.nets
    → wave ≡ pair_of constant.value constant.value → new ≡ slice_set old constant.net wave
    → HasConstantsFrom chip (drop (suc k) chip.constants) old → HasConstantsFrom chip (drop k chip.constants) new
constants_more chip k constant wave old new at fits wave_is is has = (
  ap length is ∙ length-set old constant.net wave ∙ has.0,
  (λ net within. subst (λ list. wave_at new net ≡ pair_of (constant_value list X net) (constant_value list X net)) (sym split) (each net within)),
)
  where
    split : drop k chip.constants ≡ constant ∷ drop (suc k) chip.constants
    split = drop-cons chip.constants k constant (slice_get_within chip.constants k constant at)
        ∙ ap (λ c. c ∷ drop (suc k) chip.constants) (get_or_from_slice_get chip.constants k constant constant at)

    each : (net : ℕ) → net < length chip.nets
        → wave_at new net ≡ pair_of (constant_value (constant ∷ drop (suc k) chip.constants) X net) (constant_value (constant ∷ drop (suc k) chip.constants) X net)
    each net within = elim (cases_eq net constant.net) [
      | inl e ↦
          let held = has.0 in
          let value : constant_value (constant ∷ drop (suc k) chip.constants) X net ≡ constant.value = cond-true (net == constant.net) _ _ (eq-eqb net constant.net e) in
          ap (λ list. wave_at list net) is ∙ ap (λ n. wave_at (slice_set old constant.net wave) n) e
          ∙ get_or-set_same old constant.net wave unknown_wave (omega arith) ∙ wave_is ∙ sym (ap (λ v. pair_of v v) value)
      | inr apart ↦
          let value : constant_value (constant ∷ drop (suc k) chip.constants) X net ≡ constant_value (drop (suc k) chip.constants) X net =
          cond-false (net == constant.net) _ _ (neq-eqb net constant.net apart) in
          ap (λ list. wave_at list net) is ∙ get_or-set_other old constant.net net wave unknown_wave apart ∙ has.1 net within ∙ sym (ap (λ v. pair_of v v) value)
    ]

-- an unset pair gives no value
unset_at : (count bit : ℕ) → value_at (replicate count X) bit ≡ X
unset_at count bit = elim (cases_lt bit count) [
  | inl within ↦ get_or-replicate count bit X X within
  | inr past ↦ get_or_past (replicate count X) bit X (let l = length-replicate count X in omega arith)
]

either_unset : (b : Bool) (one other : Trit) → one ≡ X → other ≡ X → cond b one other ≡ X
either_unset true one other one_is other_is = one_is
either_unset false one other one_is other_is = other_is

unset_input : (inputs : List ℕ) (count bit net : ℕ) → input_value inputs (replicate count X) bit net ≡ X
unset_input [] count bit net = refl
unset_input (input ∷ inputs) count bit net = either_unset (net == input) _ _ (unset_at count bit) (unset_input inputs count (bit + 1) net)

pub unset_wave : (chip : Chip) (net : ℕ) → pair_wave chip (unset_pair chip) net ≡ pair_of (constant_value chip.constants X net) (constant_value chip.constants X net)
unset_wave chip net =
    let first : net_value chip (unset_pair chip) 0 net ≡ constant_value chip.constants X net =
    ap (λ v. constant_value chip.constants v net) (unset_input chip.inputs (bit_count chip) 0 net) in
    let last : net_value chip (unset_pair chip) (length chip.inputs) net ≡ constant_value chip.constants X net =
    ap (λ v. constant_value chip.constants v net) (unset_input chip.inputs (bit_count chip) (length chip.inputs) net) in
    ap (λ v. pair_of v (net_value chip (unset_pair chip) (length chip.inputs) net)) first ∙ ap (pair_of (constant_value chip.constants X net)) last

-- where no constant is on the net
constant_elsewhere : (constants : List Constant) (net : ℕ) → ((k : ℕ) (constant : Constant) → slice_get constants k ≡ Some constant → net ≡ constant.net → ⊥)
    → constant_value constants X net ≡ X
constant_elsewhere [] net none = refl
constant_elsewhere (constant ∷ constants) net none =
    cond-false (net == constant.net) _ _ (neq-eqb net constant.net (λ e. none 0 constant refl e))
    ∙ constant_elsewhere constants net (λ k other at. none (suc k) other at)

module _ (chip : Chip) (place_of number_of : ℕ → ℕ) (linked : IsLinked chip place_of number_of) (pinned : IsPinned chip) (waves : List Wave) (has : HasConstants chip waves) where
  -- the output nets of instances are unknown
  output_unknown : (u output : ℕ) → u < count_of chip → output < outputs_at chip u → wave_at waves (output_net chip u output) ≡ unknown_wave
  output_unknown u output lt within =
      let on = linked.is_chip.on_nets u (inputs_at chip u + output) lt (omega arith) in
      let stored = linked.is_chip.drives (output_net chip u output) (record { instance = u; output = output; known = lt; within = within; on = refl }) in
      has.1 (output_net chip u output) on
      ∙ ap (λ v. pair_of v v) (constant_elsewhere chip.constants (output_net chip u output)
      (λ k constant at e. not_input _ OUTPUT_NET stored (ap (net_kind chip) e ∙ pinned.constant_kind k constant at)))

  -- an instance without a place is current
  bare_current : (u : ℕ) → u < count_of chip → place_of u ≡ 0 → IsCurrent chip None waves u
  bare_current u lt none = record {
    count = length-waves_from (output_net chip u) waves 0 (outputs_at chip u);
    each = λ first middle last limits output within.
        let net : Circuit = circuit_in chip None u in
        let n : ℕ = output_node (cell_at chip u) output in
        let no_device = (linked.bare u lt none).no_device in
        let stored : kind_at net n ≡ Storage OUTPUT_NET = (body chip place_of None linked.is_chip tt u lt).driven n (omega arith) (omega arith) in
        let st : IsStorage net n = not_input (kind_at net n) OUTPUT_NET stored in
        wave_at-waves_from (output_net chip u) waves 0 (outputs_at chip u) output within
        ∙ ap (λ k. wave_at waves (output_net chip u k)) (let e : 0 + output ≡ output = omega arith in e)
        ∙ output_unknown u output lt within
        ∙ sym (wave_ext (wave_in first middle last n) unknown_wave
        (first_unknown net no_device _ _ _ first middle last limits n st)
        (middle_unknown net no_device _ _ _ first middle last limits n st)
        (last_unknown net no_device _ _ _ first middle last limits n st));
  }

  pub begins : (due : PlaceSet) → HasAllPlaces chip place_of due → IsUnderway chip place_of None (unset_pair chip) (record { waves = waves; due = due })
  begins due places = record {
    ready = record { count = has.0; are_waves = are_waves; room = places.room; within = places.within };
    simulated = record {
      count = has.0;
      are_waves = are_waves;
      inputs = λ net within kind. has.1 net within ∙ sym (unset_wave chip net);
      current = λ u lt free. elim (cases_eq (place_of u) 0) [
        | inl none ↦ bare_current u lt none
        | inr some ↦ absurd (free (places.each u lt (omega arith)))
      ];
    };
  }
    where
      are_waves : (net : ℕ) → IsWave (wave_at waves net)
      are_waves net = elim (cases_lt net (length chip.nets)) [
        | inl within ↦ subst IsWave (sym (has.1 net within)) (pair_is_wave _ _)
        | inr past ↦ subst IsWave (sym (get_or_past waves net unknown_wave (let l = has.0 in omega arith))) (record { below_first = inl refl; below_last = inl refl })
      ]

-- no instance is due
pub places_none : (chip : Chip) (place_of : ℕ → ℕ) (due : PlaceSet) → HoldsUpTo due (count_of chip + 1) → ((place : ℕ) → Has due place → ⊥) → HasPlacesTo chip place_of 0 due
places_none chip place_of due room none =
    record { each = λ u less. absurd (omega arith); within = λ place has. absurd (none place has); room = room }

-- one more instance is due
pub places_more : (chip : Chip) (place_of : ℕ → ℕ) (end place : ℕ) (old new : PlaceSet) → end < count_of chip → place ≡ place_of end → 0 < place
    → Has new place → ((other : ℕ) → other ≢ place → (Has new other → Has old other) × (Has old other → Has new other))
    → HoldsUpTo new (count_of chip + 1) → HasPlacesTo chip place_of end old → HasPlacesTo chip place_of (end + 1) new
places_more chip place_of end place old new lt place_is some here others room so_far = record {
  each = λ u less placed. elim (cases_eq (place_of u) place) [
    | inl e ↦ subst (Has new) (sym e) here
    | inr apart ↦ (others (place_of u) apart).1 (so_far.each u (elim (cases_eq u end) [
      | inl same ↦ absurd (apart (ap place_of same ∙ sym place_is))
      | inr other ↦ omega arith
    ]) placed)
  ];
  within = λ other has. elim (cases_eq other place) [
    | inl e ↦ record { instance = end; is_placed = record { known = lt; placed = subst (λ k. 0 < k) place_is some }; at = sym (e ∙ place_is) }
    | inr apart ↦ so_far.within other ((others other apart).0 has)
  ];
  room = room;
}

-- the next instance has no place
pub places_skip : (chip : Chip) (place_of : ℕ → ℕ) (end place : ℕ) (due : PlaceSet) → place ≡ place_of end → (0 < place → ⊥)
    → HasPlacesTo chip place_of end due → HasPlacesTo chip place_of (end + 1) due
places_skip chip place_of end place due place_is none so_far = record {
  each = λ u less placed. elim (cases_eq u end) [
    | inl same ↦ absurd (none (subst (λ k. 0 < k) (ap place_of same ∙ sym place_is) placed))
    | inr other ↦ so_far.each u (omega arith) placed
  ];
  within = so_far.within;
  room = so_far.room;
}
