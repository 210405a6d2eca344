-- Nets whose good last values are definite under each definite pair.
use Rattle.std.proofs.Common.{◌≡◌, ◌≢◌, ℕ, Bool, true, false, get_or, ◌+◌, ◌<◌, List, length, replicate, None, inl, inr, refl, sym, ◌∙◌, ap, subst, arith}
use Rattle.ca_net.specs.declared.trit.Trit.{Trit}
use Rattle.ca_net.specs.declared.trit.Trit.TheVariants.{X}
use Rattle.ca_net.specs.Circuit.{IsWellFormed}
use Rattle.ca_flat.specs.Chip.{Chip, Constant, IsChip, cell_at, inputs_at, outputs_at, net_of, output_net, count_of}
use Rattle.std.specs.Prelude.{slice_index, slice_get, Some}
use Rattle.std.proofs.Common.{slice_set}
use Rattle.std.proofs.lemmas.Bool.{cases_eq}
use Rattle.std.proofs.lemmas.List.{get_or-map, get_or-set_other}
use Rattle.ca_net.specs.declared.wave.Wave.{Wave}
use Rattle.ca_net.specs.State.{value_at}
use Rattle.ca_flat.specs.Codes.{bit_trit}
use Rattle.ca_flat.specs.Pair.{input_value, net_value}
use Rattle.ca_flat.proofs.InstanceWaves.{input_wave}
use Rattle.ca_view.specs.Linked.{IsLinked, IsPinned}
use Rattle.ca_sim.proofs.Feeding.{wave_of_input}
use Rattle.ca_flat.specs.Flat.{flat}
use Rattle.ca_flat.specs.Simulation.{IsFlattened}
use Rattle.ca_flat.specs.Detection.{trits_of}
use Rattle.ca_flips.specs.Static.{IsStatic}
use Rattle.ca_flips.specs.Flips.{lasts_of, vector_at}
use Rattle.ca_flips.proofs.PinLemmas.{output_is}
use Rattle.ca_flips.proofs.VectorLemmas.{vector_definite}
use Rattle.ca_sweep.specs.Seen.{IsClear}
use Rattle.ca_every_vector.specs.Inside.{IsSureAfter}
use Rattle.ca_every_vector.specs.code.Sure.{AreSure, IsSure}
use Rattle.ca_every_vector.specs.code.Fixed.{fixed_value}
use Rattle.ca_every_vector.proofs.FixedLemmas.{fixed_below}
use Rattle.ca_every_vector.proofs.VectorLemmas.{unknown}

-- the output nets of a static instance whose input nets are sure
pub sure_part : (chip : Chip) (rank : ℕ → ℕ) → IsChip chip rank → IsWellFormed (flat chip None) → (w output : ℕ) → w < count_of chip → output < outputs_at chip w
    → IsStatic (cell_at chip w) → ((pin : ℕ) → pin < inputs_at chip w → IsSure chip (net_of chip w pin)) → IsSure chip (output_net chip w output)
sure_part chip rank is formed w output known within static pins pair count good e =
    let flattened : IsFlattened chip rank None = record { chip_is = is; defect_is = tt; formed = formed } in
    let end = static (vector_at chip w (lasts_of good)) (vector_definite chip w (lasts_of good) (λ pin k. pins pin k pair count good)) output within in
    let value : lasts_of good (output_net chip w output) ≡ end.value =
    output_is chip rank None flattened w known (trits_of pair) good refl (lasts_of good) output end.value within end.ends (λ pin k. inr refl) in
    end.ends.definite (sym value ∙ e)

bit_definite : (bit : Bool) → bit_trit bit ≢ X
bit_definite true e = cc
bit_definite false e = cc

-- the net of a chip input
pub sure_input : (chip : Chip) (place_of number_of : ℕ → ℕ) → IsLinked chip place_of number_of → IsPinned chip → IsWellFormed (flat chip None) → (input : ℕ) → input < length chip.inputs
    → IsSure chip (slice_index chip.inputs input)
sure_input chip place_of number_of linked pinned formed input low pair count good e =
    let net = slice_index chip.inputs input in
    let flattened : IsFlattened chip place_of None = record { chip_is = linked.is_chip; defect_is = tt; formed = formed } in
    let last : lasts_of good net ≡ net_value chip (trits_of pair) (length chip.inputs) net =
    ap (λ (w : Wave). w.last) (input_wave chip place_of None flattened (trits_of pair) good net (pinned.within input low) (pinned.kind input low)) in
    let bit : net_value chip (trits_of pair) (length chip.inputs) net ≡ value_at (trits_of pair) (length chip.inputs + input) =
    ap (λ (w : Wave). w.last) (wave_of_input chip place_of number_of linked pinned input low (trits_of pair)) in
    bit_definite (get_or pair (length chip.inputs + input) false)
    (sym (get_or-map bit_trit pair (length chip.inputs + input) false X (let long = count in omega arith)) ∙ sym bit ∙ sym last ∙ e)

-- the net of a constant with a definite value
pub sure_constant : (chip : Chip) (place_of number_of : ℕ → ℕ) → IsLinked chip place_of number_of → IsPinned chip → IsWellFormed (flat chip None) → (k : ℕ) (constant : Constant)
    → slice_get chip.constants k ≡ Some constant → fixed_value chip constant.net ≢ X → IsSure chip constant.net
sure_constant chip place_of number_of linked pinned formed k constant there definite pair count good e =
    let net = constant.net in
    let flattened : IsFlattened chip place_of None = record { chip_is = linked.is_chip; defect_is = tt; formed = formed } in
    let last : lasts_of good net ≡ net_value chip (trits_of pair) (length chip.inputs) net =
    ap (λ (w : Wave). w.last) (input_wave chip place_of None flattened (trits_of pair) good net (pinned.constant_within k constant there) (pinned.constant_kind k constant there)) in
    elim (fixed_below chip.constants (input_value chip.inputs (trits_of pair) (length chip.inputs) net) net) [
      | inl unknown ↦ definite unknown
      | inr same ↦ definite (same ∙ sym last ∙ e)
    ]

-- a sure net is given a value
pub sure_put : (chip : Chip) (old new : List Trit) (net : ℕ) (value : Trit) → AreSure chip old → (IsWellFormed (flat chip None) → IsSure chip net) → new ≡ slice_set old net value
    → AreSure chip new
sure_put chip old new net value sure here put formed n known = elim (cases_eq n net) [
  | inl e ↦ subst (IsSure chip) (sym e) (here formed)
  | inr other ↦ sure formed n (λ unknown. known (ap (λ list. value_at list n) put ∙ get_or-set_other old net n value X other ∙ unknown))
]

-- no value is known
pub sure_none : (chip : Chip) (values : List Trit) (count : ℕ) → values ≡ replicate count X → AreSure chip values
sure_none chip values count is formed net known = absurd (known (ap (λ list. value_at list net) is ∙ unknown count net))

-- clear instances where definite values are sure
pub sure_after : (chip : Chip) (values : List Trit) → IsWellFormed (flat chip None) → AreSure chip values → (u : ℕ) → IsClear chip (value_at values) u → IsSureAfter chip u
sure_after chip values formed sure u clear = record {
  all_static = clear.all_static;
  definite = λ pair count good. record {
    outputs = λ output within. sure formed (output_net chip u output) (clear.definite.outputs output within) pair count good;
    read = λ w pin following within. sure formed (net_of chip w pin) (clear.definite.read w pin following within) pair count good;
  };
}
