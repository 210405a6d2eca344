-- A cell without devices gives no value at an output pin, and so its net has no plain value.
use Rattle.std.proofs.Common.{◌≡◌, ℕ, ◌+◌, List, [], sym, ◌∙◌, arith}
use Rattle.ca_net.specs.declared.scale.TheConstants.{OUTPUT_NET}
use Rattle.ca_net.specs.declared.node.NodeKind.TheVariants.{Storage}
use Rattle.ca_net.specs.declared.trit.Trit.{Trit}
use Rattle.ca_net.specs.Circuit.{Circuit, IsWellFormed, IsStorage, kind_at}
use Rattle.ca_net.specs.State.{value_at}
use Rattle.ca_net.specs.PairRun.{EndsAt}
use Rattle.ca_net.proofs.StateLemmas.{storage_within}
use Rattle.ca_net.proofs.LastLimit.{last_limit_is_end_lem}
use Rattle.ca_parts.proofs.TritLemmas.{same_stable}
use Rattle.ca_parts.proofs.RisingLimits.{limits_exist_lem}
use Rattle.ca_parts.proofs.EndLaws.{meets, are_meets, meets_under_first, meets_under_last}
use Rattle.ca_flat.specs.Chip.{circuit_at, inputs_at, net_of, output_net}
use Rattle.ca_flat.specs.TwoFrame.{IsVectorOver, FirstRowsGive, LastRowsGive, UndrivenIsPlainlyUnknown}
use Rattle.ca_flat.proofs.Spots.{shape}
use Rattle.ca_flat.proofs.Filled.{fill, fill_definite, fill_above}
use Rattle.ca_flat.proofs.TwoFrames.{common_gives}
use Rattle.ca_flat.proofs.Undriven.{last_unknown, not_input}

-- no run's end is sure at a node that no device reaches
never_ends : (net : Circuit) → net.devices ≡ [] → IsWellFormed net → (v1 v2 : List Trit) (n : ℕ) (v : Trit) → IsStorage net n → EndsAt net v1 v2 n v → ⊥
never_ends net bare formed v1 v2 n v st ends =
    limits_exist_lem net v1 (meets net v1 v2) v2 formed (meets_under_first net v1 v2) (meets_under_last net v1 v2) (λ first middle last limits.
    let sure = (last_limit_is_end_lem net v1 (meets net v1 v2) v2 first middle last n v formed (storage_within net n st) (are_meets net v1 v2) limits).1 ends in
    sure.0 (sym sure.1 ∙ last_unknown net bare v1 (meets net v1 v2) v2 first middle last limits n st))

pub undriven_is_plainly_unknown_lem : UndrivenIsPlainlyUnknown
undriven_is_plainly_unknown_lem chip rank pair firsts lasts u output is plain lt within bare =
    let net : Circuit = circuit_at chip u in
    let n : ℕ = 2 + inputs_at chip u + output in
    let cell = shape chip rank is u lt in
    let stored : kind_at net n ≡ Storage OUTPUT_NET = cell.driven n (omega arith) (omega arith) in
    let st : IsStorage net n = not_input (kind_at net n) OUTPUT_NET stored in
    let first : ℕ → Trit = λ pin. value_at firsts (net_of chip u pin) in
    let last : ℕ → Trit = λ pin. value_at lasts (net_of chip u pin) in
    let over_firsts : IsVectorOver chip u firsts (fill chip u first) = record { definite = fill_definite chip u first; over = fill_above chip u first } in
    let over_lasts : IsVectorOver chip u lasts (fill chip u last) = record { definite = fill_definite chip u last; over = fill_above chip u last } in (
      same_stable _ _ (λ known. never_ends net bare cell.formed _ _ n _ st
          (common_gives (FirstRowsGive chip u firsts output) (value_at firsts (output_net chip u output)) (plain.output_first u output lt within) known
          (fill chip u first) over_firsts)),
      same_stable _ _ (λ known. never_ends net bare cell.formed _ _ n _ st
          (common_gives (LastRowsGive chip u firsts lasts output) (value_at lasts (output_net chip u output)) (plain.output_last u output lt within) known
          (fill chip u first) (fill chip u last) over_firsts over_lasts)),
    )
