-- A cell without devices has rows of unknown values alone.
use Rattle.std.proofs.Common.{◌≡◌, ℕ, ◌+◌, ◌*◌, ◌^◌, List, [], replicate, zero, suc, refl, sym, ◌∙◌, arith}
use Rattle.std.proofs.lemmas.List.{length-replicate}
use Rattle.ca_net.specs.declared.scale.TheConstants.{OUTPUT_NET}
use Rattle.ca_net.specs.declared.node.NodeKind.TheVariants.{Storage}
use Rattle.ca_net.specs.declared.trit.Trit.{Trit}
use Rattle.ca_net.specs.declared.trit.Trit.TheVariants.{X}
use Rattle.ca_net.specs.Circuit.{Circuit, IsWellFormed, IsStorage, kind_at}
use Rattle.ca_net.specs.State.{value_at}
use Rattle.ca_net.specs.PairRun.{EndsAt}
use Rattle.ca_net.proofs.StateLemmas.{storage_within}
use Rattle.ca_net.proofs.LastLimit.{last_limit_is_end_lem}
use Rattle.ca_parts.proofs.RisingLimits.{limits_exist_lem}
use Rattle.ca_parts.proofs.EndLaws.{meets, are_meets, meets_under_first, meets_under_last}
use Rattle.ca_flat.specs.Chip.{circuit_at, inputs_at, outputs_at}
use Rattle.ca_flat.proofs.Spots.{shape}
use Rattle.ca_flat.proofs.Undriven.{last_unknown, not_input}
use Rattle.ca_lanes.specs.GoodRows.{BareRowsAreUnknown}

-- no run's end is sure at a node that no device reaches
never_ends : (net : Circuit) → net.devices ≡ [] → IsWellFormed net → (v1 v2 : List Trit) (n : ℕ) (v : Trit) → IsStorage net n → EndsAt net v1 v2 n v → ⊥
never_ends net bare formed v1 v2 n v st ends =
    limits_exist_lem net v1 (meets net v1 v2) v2 formed (meets_under_first net v1 v2) (meets_under_last net v1 v2) (λ first middle last limits.
    let sure = (last_limit_is_end_lem net v1 (meets net v1 v2) v2 first middle last n v formed (storage_within net n st) (are_meets net v1 v2) limits).1 ends in
    sure.0 (sym sure.1 ∙ last_unknown net bare v1 (meets net v1 v2) v2 first middle last limits n st))

all_unknown : (count place : ℕ) → value_at (replicate count X) place ≡ X
all_unknown zero place = refl
all_unknown (suc count) zero = refl
all_unknown (suc count) (suc place) = all_unknown count place

pub bare_rows_are_unknown_lem : BareRowsAreUnknown
bare_rows_are_unknown_lem chip rank u is known bare =
    let rows = (2 ^ inputs_at chip u * 2 ^ inputs_at chip u) * outputs_at chip u in
    record {
      whole = record { whole = length-replicate rows X };
      each = λ first last output first_within last_within within v definite.
          let n : ℕ = 2 + inputs_at chip u + output in
          let cell = shape chip rank is u known in
          let stored : kind_at (circuit_at chip u) n ≡ Storage OUTPUT_NET = cell.driven n (omega arith) (omega arith) in
          let st : IsStorage (circuit_at chip u) n = not_input (kind_at (circuit_at chip u) n) OUTPUT_NET stored in (
            λ same. absurd (definite (sym same ∙ all_unknown rows _)),
            λ ends. absurd (never_ends (circuit_at chip u) bare cell.formed _ _ n v st ends),
          );
    }
