-- Rows of a report on bridges.
use Rattle.std.proofs.Common.{◌≡◌, ℕ, ◌+◌, ◌<◌, ◌≤◌, List, [], ◌∷◌, ◌++◌, ◌∙◌, length, take, get_or, refl, sym, ap, ap₂, arith}
use Rattle.std.specs.Prelude.{Option, Some, None, IsSomeAnd, slice_get}
use Rattle.std.specs.List.{All}
use Rattle.std.proofs.lemmas.Simd.{length-zip2, get_or-zip2}
use Rattle.std.proofs.lemmas.List.{take_all, take_more}
use Rattle.std.proofs.lemmas.List.Elements.{All-nil, All-cons, All-head, All-tail}
use Rattle.std.proofs.lemmas.Option.{slice_get_within, get_or_from_slice_get}
use Rattle.ca_linked.specs.declared.parts.Part.{Part}
use Rattle.ca_linked.specs.Linked.{LinkedChip, IsGate}
use Rattle.ca_cluster.specs.declared.bridge.Bridge.{Bridge}
use Rattle.ca_cluster.specs.Bridges.{IsKnown}
use Rattle.ca_bridge_verdicts.specs.declared.verdict.BridgeVerdict.{BridgeVerdict}
use Rattle.ca_bridge_verdicts.specs.declared.verdict.BridgeVerdict.TheVariants.{Credited, Unexposable, Untestable, Aborted, Port, Wide}
use Rattle.ca_report.specs.declared.rows.ReportRow.{ReportRow}
use Rattle.ca_report.specs.Report.{IsVerdictOf, IsRowOf}
use Rattle.ca_bridge_report.specs.BridgeReport.{reported_of, bridge_row, bridge_rows, IsWithin}

-- the instance of a bridge is one of the chip's
pub known_within : (chip : LinkedChip) (bridge : Bridge) → IsKnown chip bridge → bridge.instance.0 < length chip.parts
known_within chip bridge is = by (slice_get chip.parts bridge.instance.0) refl is.library
  where
    by : (o : Option Part) → slice_get chip.parts bridge.instance.0 ≡ o → IsSomeAnd o (λ part. IsGate part.body)
        → bridge.instance.0 < length chip.parts
    by None at gate = absurd gate
    by (Some part) at gate = slice_get_within chip.parts bridge.instance.0 part at

-- one row more
pub rows_more : (chip : LinkedChip) (bridges : List Bridge) (verdicts : List BridgeVerdict) (k : ℕ) (bridge : Bridge) (verdict : BridgeVerdict)
    → slice_get bridges k ≡ Some bridge → slice_get verdicts k ≡ Some verdict → length verdicts ≡ length bridges
    → take k (bridge_rows chip bridges verdicts) ++ bridge_row chip bridge verdict ∷ [] ≡ take (k + 1) (bridge_rows chip bridges verdicts)
rows_more chip bridges verdicts k bridge verdict at also one_each =
    let row = bridge_row chip bridge verdict in
    let rows = bridge_rows chip bridges verdicts in
    let within = slice_get_within bridges k bridge at in
    let too = slice_get_within verdicts k verdict also in
    let long = length-zip2 (bridge_row chip) bridges verdicts (sym one_each) in
    let here : get_or rows k row ≡ row = get_or-zip2 (bridge_row chip) bridges verdicts k bridge verdict row within too
    ∙ ap₂ (bridge_row chip) (get_or_from_slice_get bridges k bridge bridge at) (get_or_from_slice_get verdicts k verdict verdict also) in
    ap (λ (last : ReportRow). take k rows ++ last ∷ []) (sym here) ∙ sym (take_more rows k row (omega (arith, within, long)))

-- all rows
pub rows_all : (chip : LinkedChip) (bridges : List Bridge) (verdicts : List BridgeVerdict) (k : ℕ) → length bridges ≤ k
    → length verdicts ≡ length bridges → take k (bridge_rows chip bridges verdicts) ≡ bridge_rows chip bridges verdicts
rows_all chip bridges verdicts k past one_each =
    let long = length-zip2 (bridge_row chip) bridges verdicts (sym one_each) in
    take_all k (bridge_rows chip bridges verdicts) (omega (arith, past, long))

-- each row credits an observed output, if it credits one
row_fits : (outputs : ℕ) (verdict : BridgeVerdict) → IsWithin outputs verdict → IsVerdictOf outputs (reported_of verdict)
row_fits outputs (Credited pair output) is = is
row_fits outputs Unexposable is = tt
row_fits outputs Untestable is = tt
row_fits outputs (Aborted code) is = tt
row_fits outputs Port is = tt
row_fits outputs (Wide rule) is = tt

pub rows_fit : (outputs : ℕ) (chip : LinkedChip) (bridges : List Bridge) (verdicts : List BridgeVerdict)
    → All (IsWithin outputs) verdicts → All (IsRowOf outputs) (bridge_rows chip bridges verdicts)
rows_fit outputs chip [] verdicts all = All-nil (IsRowOf outputs)
rows_fit outputs chip (bridge ∷ bridges) [] all = All-nil (IsRowOf outputs)
rows_fit outputs chip (bridge ∷ bridges) (verdict ∷ verdicts) all =
    All-cons (IsRowOf outputs) (bridge_row chip bridge verdict) (bridge_rows chip bridges verdicts)
    (row_fits outputs verdict (All-head (IsWithin outputs) verdict verdicts all))
    (rows_fit outputs chip bridges verdicts (All-tail (IsWithin outputs) verdict verdicts all))
