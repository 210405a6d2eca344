-- Values and logs of a linked chip are of its core.
use Rattle.std.proofs.Common.{◌≡◌, ℕ, Bool, List, length, arith}
use Rattle.std.specs.List.{All}
use Rattle.std.proofs.lemmas.List.{length-map}
use Rattle.ca_net.specs.declared.trit.Trit.{Trit}
use Rattle.ca_linked.specs.Linked.{LinkedChip, inputs_of, outputs_of}
use Rattle.ca_view.specs.Core.{core_net}
use Rattle.ca_outputs.specs.Outputs.{output_names}
use Rattle.ca_outputs.specs.Laws.{NamesAreAsManyAsOutputs}
use Rattle.ca_log.specs.declared.record.LogRecord.{LogRecord}
use Rattle.ca_log.specs.LogText.{IsLog}
use Rattle.ca_chip_stil.specs.ChipStil.{AreOfChip}
use Rattle.ca_chip_diag.specs.Diagnosed.{CanBeDiagnosed}

-- there is a value for each name
pub values_named : (names : List (List ℕ)) (outputs : List ℕ) (expected : List (List Trit)) → length names ≡ length outputs
    → All (λ values. length values ≡ length outputs) expected → All (λ values. length values ≡ length names) expected
values_named names outputs expected many values k d below = let given = values k d below in omega (arith, given, many)

pub logged_fit : NamesAreAsManyAsOutputs → (chip : LinkedChip) (chains : List (List ℕ)) (pairs : List (List Bool))
    (expected : List (List Trit)) (log : List LogRecord) → AreOfChip chip chains pairs expected
    → IsLog (output_names chip) expected log → CanBeDiagnosed chip pairs log
logged_fit many chip chains pairs expected log of is = record {
  bits = λ k d below.
      let given = of.bits k d below in
      let count = length-map (inputs_of chip) (core_net chip) in
      omega (arith, given, count);
  places = λ k d below.
      let here = is.logged k d below in
      let listed = here.listed in
      let observed = here.observed in
      let counted = of.counted in
      let names = many chip in
      let nets = length-map (outputs_of chip) (core_net chip) in
      (omega (arith, listed, counted), omega (arith, observed, names, nets));
  few = is.few;
}
