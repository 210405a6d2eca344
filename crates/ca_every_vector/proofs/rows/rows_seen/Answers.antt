use Rattle.std.proofs.Common.{◌≡◌, ◌^◌, ap, ◌∙◌, inr, arith}
use Rattle.std.proofs.lemmas.Nat.Bits.{bit_at_ones}
use Rattle.ca_cell.specs.Raw.{is_input, role_count}
use Rattle.ca_cell.specs.declared.raw.RawCell.{RawCell}
use Rattle.ca_flat.specs.Chip.{inputs_at}
use Rattle.ca_every_vector.proofs.VectorLemmas.{row_count}
use Rattle.ca_every_vector.proofs.rows.rows_seen.Goals as goal

pub returns-then-not-is_clear-clause-seen : goal.returns-then-not-is_clear-clause-seen
returns-then-not-is_clear-clause-seen c =
    let count : c.inputs-inputs.result ≡ inputs_at c.args.chip.now.core c.args.u = c.inputs-inputs.ensures.count ∙ ap (λ (raw : RawCell). role_count is_input raw.pins) c.cell.ensures in
    let k = row_count c.inputs-inputs.result c.inputs-inputs.ensures.few in
    let e : 2 ^ c.inputs-inputs.result ≡ 2 ^ inputs_at c.args.chip.now.core c.args.u = ap (λ n. 2 ^ n) count in
    inr (inr (λ number less. bit_at_ones 64 number (omega arith)))
