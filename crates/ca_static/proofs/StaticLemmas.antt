-- A cell is static where it is so at the vector of each number.
use Rattle.std.proofs.Common.{ℕ, zero, suc, ◌^◌, ◌<◌, ◌≡◌, ◌≢◌, refl, sym, ap, ◌∙◌, subst, List, [], ◌∷◌, ◌++◌}
use Rattle.std.proofs.Common.{length, replicate, get_or}
use Rattle.std.specs.List.{All}
use Rattle.std.proofs.lemmas.Option.{slice_get-get_or}
use Rattle.std.proofs.lemmas.List.Elements.{All-from_get_or}
use Rattle.ca_net.specs.declared.trit.Trit.{Trit}
use Rattle.ca_net.specs.declared.trit.Trit.TheVariants.{One, Zero, X}
use Rattle.ca_net.specs.declared.node.NodeKind.{NodeKind}
use Rattle.ca_net.specs.declared.node.NodeKind.TheVariants.{Input, Storage}
use Rattle.ca_net.specs.declared.wave.Wave.{Wave}
use Rattle.ca_net.specs.Wave.{at_inputs}
use Rattle.ca_net.specs.PairRun.{EndsAt}
use Rattle.ca_cell.specs.declared.raw.RawCell.{RawCell}
use Rattle.ca_cell.specs.Raw.{is_input, is_output, role_count, circuit_of}
use Rattle.ca_cell.specs.Row.{vector_of}
use Rattle.ca_cell.specs.Exposes.{pin_vector, CellEndsAt}
use Rattle.ca_cell.proofs.NumberLemmas.{number_of, number_within, vector_again, vector_definite}
use Rattle.ca_response.specs.Outputs.{output_node, AreEndsOf}
use Rattle.ca_flips.specs.Static.{EndsByLast, LastEnd, IsStatic}
use Rattle.ca_static.specs.code.StaticAt.{IsStaticAt}
use Rattle.ca_static.proofs.WaveLemmas.{length-vector_of}

-- unknown values may be left out at the end of a vector
unknown_left_out : (kinds : List NodeKind) (values : List Trit) (count : ℕ) → at_inputs kinds (values ++ replicate count X) ≡ at_inputs kinds values
unknown_left_out [] values count = refl
unknown_left_out (Storage size ∷ kinds) values count = ap (λ rest. X ∷ rest) (unknown_left_out kinds values count)
unknown_left_out (Input ∷ kinds) [] zero = refl
unknown_left_out (Input ∷ kinds) [] (suc count) = ap (λ rest. X ∷ rest) (unknown_left_out kinds [] count)
unknown_left_out (Input ∷ kinds) (value ∷ values) count = ap (λ rest. value ∷ rest) (unknown_left_out kinds values count)

unknown_pins : (raw : RawCell) (count : ℕ) → pin_vector (circuit_of raw) (replicate count X) ≡ pin_vector (circuit_of raw) []
unknown_pins raw count = unknown_left_out (circuit_of raw).nodes (One ∷ Zero ∷ []) count

-- the outputs of a cell under waves of which the lasts alone are known, and are the vector of a number
module _ (raw : RawCell) (number : ℕ) (outputs : List Wave) (count : length outputs ≡ role_count is_output raw.pins)
    (ends : AreEndsOf raw (circuit_of raw) (replicate (role_count is_input raw.pins) X) (vector_of (role_count is_input raw.pins) number) outputs) where
  inputs : ℕ
  inputs = role_count is_input raw.pins

  -- what the cell ends with from unknown values is what it ends with by the last vector
  to_last : (output : ℕ) (v : Trit) → CellEndsAt (circuit_of raw) (replicate (role_count is_input raw.pins) X) (vector_of (role_count is_input raw.pins) number) (output_node raw output) v
      → EndsByLast raw (vector_of (role_count is_input raw.pins) number) output v
  to_last output v at = subst (λ x. EndsAt (circuit_of raw) x (pin_vector (circuit_of raw) (vector_of (role_count is_input raw.pins) number)) (output_node raw output) v)
      (unknown_pins raw (role_count is_input raw.pins)) at

  from_last : (output : ℕ) (v : Trit) → EndsByLast raw (vector_of (role_count is_input raw.pins) number) output v
      → CellEndsAt (circuit_of raw) (replicate (role_count is_input raw.pins) X) (vector_of (role_count is_input raw.pins) number) (output_node raw output) v
  from_last output v at = subst (λ x. EndsAt (circuit_of raw) x (pin_vector (circuit_of raw) (vector_of (role_count is_input raw.pins) number)) (output_node raw output) v)
      (sym (unknown_pins raw (role_count is_input raw.pins))) at

  abbrev past : Wave
  past = record { first = X; mid = X; last = X }

  pub static_of_definite : All (λ (wave : Wave). wave.last ≢ X) outputs → IsStaticAt raw number
  static_of_definite all output within =
      let inside : output < length outputs = subst (λ n. output < n) (sym count) within in
      record {
        value = (get_or outputs output past).last;
        ends = to_last output _ ((ends output (get_or outputs output past) _ (slice_get-get_or outputs output past inside)).0 (all output past inside, refl));
      }

  pub definite_of_static : IsStaticAt raw number → All (λ (wave : Wave). wave.last ≢ X) outputs
  definite_of_static static = All-from_get_or (λ (wave : Wave). wave.last ≢ X) outputs past (λ output inside.
      let end = static output (subst (λ n. output < n) count inside) in
      let at = (ends output (get_or outputs output past) end.value (slice_get-get_or outputs output past inside)).1 (from_last output end.value end.ends) in
      λ e. at.0 (sym at.1 ∙ e))

  -- where the cell is static at the vector, it ends with the last values of the outputs
  pub ends_with_lasts : IsStaticAt raw number → (output : ℕ) → output < role_count is_output raw.pins
      → EndsByLast raw (vector_of (role_count is_input raw.pins) number) output (get_or outputs output past).last
  ends_with_lasts static output within =
      let end = static output within in
      let inside : output < length outputs = subst (λ n. output < n) (sym count) within in
      let at = (ends output (get_or outputs output past) end.value (slice_get-get_or outputs output past inside)).1 (from_last output end.value end.ends) in
      subst (EndsByLast raw (vector_of (role_count is_input raw.pins) number) output) (sym at.1) end.ends

-- each definite vector is that of a number
pub static_of_each : (raw : RawCell) → ((number : ℕ) → number < 2 ^ role_count is_input raw.pins → IsStaticAt raw number) → IsStatic raw
static_of_each raw each vector definite output within =
    let again : vector_of (role_count is_input raw.pins) (number_of vector) ≡ vector =
    ap (λ n. vector_of n (number_of vector)) (sym definite.count) ∙ vector_again vector definite.definite in
    let small : number_of vector < 2 ^ role_count is_input raw.pins = subst (λ n. number_of vector < 2 ^ n) definite.count (number_within vector) in
    subst (λ v. LastEnd raw v output) again (each (number_of vector) small output within)

pub each_of_static : (raw : RawCell) → IsStatic raw → (number : ℕ) → IsStaticAt raw number
each_of_static raw static number output within = static (vector_of (role_count is_input raw.pins) number) (record {
  count = length-vector_of (role_count is_input raw.pins) number;
  definite = vector_definite (role_count is_input raw.pins) number;
}) output within
