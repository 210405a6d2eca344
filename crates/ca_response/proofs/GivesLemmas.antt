-- What one has of the limits of a cell, each has.
use Rattle.std.proofs.Common.{◌≡◌, List, sym, ◌∙◌, ap, arith}
use Rattle.std.proofs.lemmas.List.{ext_get_or}
use Rattle.ca_response.specs.Laws.{GivenIsResponse}
use Rattle.std.proofs.lemmas.Option.{get_or_from_slice_get}
use Rattle.ca_net.specs.declared.wave.Wave.{Wave}
use Rattle.ca_net.specs.Circuit.{Circuit}
use Rattle.ca_cell.specs.declared.raw.RawCell.{RawCell}
use Rattle.ca_parts.proofs.Glue.{limits_are_unique_lem}
use Rattle.ca_response.specs.Outputs.{AreOutputWaves, wave_in, output_node}
use Rattle.ca_response.specs.Gives.{unknown_wave, Gives}

-- waves of equal values are one
pub wave_ext : (a b : Wave) → a.first ≡ b.first → a.mid ≡ b.mid → a.last ≡ b.last → a ≡ b
wave_ext a b one mid two =
    ap (λ x. record { first = x; mid = a.mid; last = a.last }) one
    ∙ ap (λ x. record { first = b.first; mid = x; last = a.last }) mid
    ∙ ap (λ x. record { first = b.first; mid = b.mid; last = x }) two

-- what `respond` computes, each limits have
pub gives : (raw : RawCell) (net : Circuit) (pins outputs : List Wave)
    → AreOutputWaves raw net pins outputs → Gives raw net pins outputs
gives raw net pins outputs are = record {
  count = are.count;
  each = λ first middle last limits output within.
      let same = limits_are_unique_lem net _ _ _ are.first are.middle are.last first middle last
      are.limits limits (output_node raw output) in
      get_or_from_slice_get outputs output _ unknown_wave (are.each output within)
      ∙ wave_ext _ (wave_in first middle last (output_node raw output)) same.0 same.1 same.2;
}

pub given_is_response_lem : GivenIsResponse
given_is_response_lem raw net pins outputs given are gives_are =
    let same = gives raw net pins outputs are in
    ext_get_or unknown_wave given outputs (gives_are.count ∙ sym same.count)
    (λ output within. let count = gives_are.count in
    gives_are.each are.first are.middle are.last are.limits output (omega arith)
    ∙ sym (same.each are.first are.middle are.last are.limits output (omega arith)))
