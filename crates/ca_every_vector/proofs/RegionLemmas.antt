-- The last values that a few bits of the last vector give.
use Rattle.std.specs.List.{All, Contains}
use Rattle.std.specs.Prelude.{slice_index}
use Rattle.std.proofs.Common.{◌≡◌, ◌≢◌, ℕ, ◌+◌, ◌^◌, ◌<◌, ◌⊎◌, Bool, true, false, List, length, map, inl, inr, refl, sym, ◌∙◌, ap, subst, arith, get_or, slice_set}
use Rattle.std.proofs.lemmas.Bool.{cases_eq}
use Rattle.std.proofs.lemmas.List.{get_or-map, get_or-set_other, length-map, length-set}
use Rattle.std.proofs.lemmas.List.Elements.{All-contains}
use Rattle.ca_net.specs.declared.trit.Trit.{Trit}
use Rattle.ca_net.specs.declared.trit.Trit.TheVariants.{X}
use Rattle.ca_net.specs.declared.wave.Wave.{Wave}
use Rattle.ca_net.specs.declared.scale.TheConstants.{OUTPUT_NET}
use Rattle.ca_net.specs.declared.node.NodeKind.TheVariants.{Input, Storage}
use Rattle.ca_net.specs.State.{value_at}
use Rattle.ca_flat.specs.Chip.{Chip, IsChip, outputs_at, output_net, count_of, net_kind}
use Rattle.ca_cell.specs.Row.{vector_of}
use Rattle.ca_cell.proofs.NumberLemmas.{number_of, number_within, vector_again}
use Rattle.ca_flat.specs.Codes.{bit_trit}
use Rattle.ca_flat.specs.Detection.{trits_of}
use Rattle.ca_flat.specs.Pair.{bit_count, input_value, net_value}
use Rattle.ca_net.specs.Trit.{IsBelow}
use Rattle.ca_flips.specs.Known.{AreKnownLasts}
use Rattle.ca_view.specs.Linked.{IsLinked, IsPinned}
use Rattle.ca_sim.proofs.Feeding.{wave_of_input}
use Rattle.ca_every_vector.specs.code.Region.{AreKnownWithin, AreNetsIn, AreSameOutside, HaveDigits, IsForNumber, IsGivenOrUnknown, IsInputNet, IsOutIn, IsPartNet}
use Rattle.ca_every_vector.specs.code.Region.{input_at}
use Rattle.ca_every_vector.specs.code.Fixed.{fixed_value}
use Rattle.ca_every_vector.proofs.FixedLemmas.{fixed_below, unfixed_output}
use Rattle.ca_every_vector.proofs.VectorLemmas.{digit_at}

module _ (chip : Chip) (rank number_of : ℕ → ℕ) (linked : IsLinked chip rank number_of) (pinned : IsPinned chip) (inputs parts : List ℕ) (number : ℕ) (values : List Trit)
    (inputs_known : (j : ℕ) → j < length inputs → input_at inputs j < length chip.inputs) (within : AreKnownWithin chip inputs parts values)
    (digits : HaveDigits chip inputs number values) (given : All (IsGivenOrUnknown chip values) parts) where
  is : IsChip chip rank
  is = linked.is_chip

  -- a part's net isn't an input net
  part_no_input : (net : ℕ) → IsPartNet chip parts net → net_kind chip net ≡ Input → ⊥
  part_no_input net part kind =
      let storage = is.drives net (record { instance = part.part; output = part.output; known = part.known; within = part.within; on = part.on }) in
      let clash : Input ≡ Storage OUTPUT_NET = sym kind ∙ storage in cc

  input_no_driver : (net u output : ℕ) → u < count_of chip → output < outputs_at chip u → output_net chip u output ≡ net → IsInputNet chip inputs net → ⊥
  input_no_driver net u output known low on input =
      let kind : net_kind chip net ≡ Input = subst (λ n. net_kind chip n ≡ Input) input.on (pinned.kind (input_at inputs input.place) (inputs_known input.place input.within)) in
      let storage = is.drives net (record { instance = u; output = output; known = known; within = low; on = on }) in
      let clash : Input ≡ Storage OUTPUT_NET = sym kind ∙ storage in cc

  -- values that were checked are known lasts of each pair with the digits
  pub known_of_checks : (pair : List Trit) → IsForNumber chip inputs number pair → AreKnownLasts chip pair (value_at values)
  known_of_checks pair for = record {
    inputs = λ net low kind. elim (within net) [
      | inl fixed ↦ subst (λ value. IsBelow value (net_value chip pair (length chip.inputs) net)) (sym fixed)
          (fixed_below chip.constants (input_value chip.inputs pair (length chip.inputs) net) net)
      | inr (inl input) ↦
          let i = input_at inputs input.place in
          let bit : net_value chip pair (length chip.inputs) (slice_index chip.inputs i) ≡ value_at pair (length chip.inputs + i) =
          ap (λ (w : Wave). w.last) (wave_of_input chip rank number_of linked pinned i (inputs_known input.place input.within) pair) in
          inr (ap (value_at values) (sym input.on) ∙ digits input.place input.within ∙ sym (for input.place input.within) ∙ sym bit
          ∙ ap (net_value chip pair (length chip.inputs)) input.on)
      | inr (inr part) ↦ absurd (part_no_input net part kind)
    ];
    outputs = λ u output known low definite. elim (within (output_net chip u output)) [
      | inl fixed ↦ absurd (definite (fixed ∙ unfixed_output chip (output_net chip u output) pinned
          (is.drives (output_net chip u output) (record { instance = u; output = output; known = known; within = low; on = refl }))))
      | inr (inl input) ↦ absurd (input_no_driver (output_net chip u output) u output known low refl input)
      | inr (inr part) ↦
          let same : part.part ≡ u = (is.one_driver (output_net chip u output) (record { instance = part.part; output = part.output; known = part.known; within = part.within; on = part.on })
          (record { instance = u; output = output; known = known; within = low; on = refl })).0 in
          elim (All-contains (IsGivenOrUnknown chip values) parts u given (subst (Contains parts) same part.has)) [
            | inl by ↦ by.evaluated output low
            | inr unknown ↦ absurd (definite (unknown output low))
          ]
    ];
  }

-- a net of the region is given a value
pub within_put : (chip : Chip) (inputs parts : List ℕ) (old new : List Trit) (net : ℕ) (value : Trit) → AreKnownWithin chip inputs parts old
    → IsInputNet chip inputs net ⊎ IsPartNet chip parts net → new ≡ slice_set old net value → AreKnownWithin chip inputs parts new
within_put chip inputs parts old new net value within is put n = elim (cases_eq n net) [
  | inl e ↦ inr (subst (λ k. IsInputNet chip inputs k ⊎ IsPartNet chip parts k) (sym e) is)
  | inr other ↦ elim (within n) [
    | inl fixed ↦ inl (ap (λ list. value_at list n) put ∙ get_or-set_other old net n value X other ∙ fixed)
    | inr at ↦ inr at
  ]
]

pub put_room : (old new : List Trit) (net count : ℕ) (value : Trit) → length old ≡ count → new ≡ slice_set old net value → length new ≡ count
put_room old new net count value room put = ap length put ∙ length-set old net value ∙ room

-- nets that are known otherwise than by constants are listed
pub known_listed : (chip : Chip) (inputs parts nets : List ℕ) (values : List Trit) → AreKnownWithin chip inputs parts values → AreNetsIn chip inputs parts nets
    → (net : ℕ) → (value_at values net ≡ fixed_value chip net) ⊎ Contains nets net
known_listed chip inputs parts nets values within listed net = elim (within net) [
  | inl fixed ↦ inl fixed
  | inr (inl input) ↦ inr (subst (Contains nets) input.on (listed.inputs_in input.place input.within))
  | inr (inr part) ↦ inr (subst (Contains nets) part.on (All-contains (IsOutIn chip nets) parts part.part listed.parts_in part.has part.output part.within))
]

-- two lists that are known within a region are the same outside
pub same_outside : (chip : Chip) (inputs parts nets : List ℕ) (values others : List Trit) → AreKnownWithin chip inputs parts values → AreKnownWithin chip inputs parts others
    → AreNetsIn chip inputs parts nets → AreSameOutside values others nets
same_outside chip inputs parts nets values others one two listed net = elim (known_listed chip inputs parts nets values one listed net) [
  | inr has ↦ inr has
  | inl fixed ↦ elim (known_listed chip inputs parts nets others two listed net) [
    | inr has ↦ inr has
    | inl same ↦ inl (same ∙ sym fixed)
  ]
]

bit_definite : (bit : Bool) → bit_trit bit ≢ X
bit_definite true e = cc
bit_definite false e = cc

-- each definite pair has a number at the inputs
module _ (chip : Chip) (inputs : List ℕ) (known : (j : ℕ) → j < length inputs → input_at inputs j < length chip.inputs) (bits : List Bool) (count : length bits ≡ bit_count chip) where
  value_of : ℕ → Trit
  value_of input = value_at (trits_of bits) (length chip.inputs + input)

  digits : List Trit
  digits = map value_of inputs

  long : length digits ≡ length inputs
  unfolding digits
  long = length-map inputs value_of

  digit_is : (j : ℕ) (d : Trit) → j < length inputs → get_or digits j d ≡ value_of (input_at inputs j)
  unfolding digits
  digit_is j d low = get_or-map value_of inputs j 0 d low

  value_definite : (j : ℕ) → j < length inputs → value_of (input_at inputs j) ≢ X
  unfolding value_of
  value_definite j low e = bit_definite (get_or bits (length chip.inputs + input_at inputs j) false)
      (sym (get_or-map bit_trit bits (length chip.inputs + input_at inputs j) false X (let l = known j low in let c = count in omega arith)) ∙ e)

  definite : All (λ value. value ≢ X) digits
  definite j d low e = value_definite j (let l = long in omega arith) (sym (digit_is j d (let l = long in omega arith)) ∙ e)

  pub number_for : ℕ
  number_for = number_of digits

  pub number_fits : number_for < 2 ^ length inputs
  unfolding number_for
  number_fits = subst (λ n. number_of digits < 2 ^ n) long (number_within digits)

  again : vector_of (length inputs) number_for ≡ digits
  unfolding number_for
  again = ap (λ n. vector_of n (number_of digits)) (sym long) ∙ vector_again digits definite

  pub is_for_number : IsForNumber chip inputs number_for (trits_of bits)
  unfolding value_of
  is_for_number j low = sym (digit_is j X low) ∙ sym (ap (λ v. value_at v j) again) ∙ digit_at (length inputs) number_for j low
