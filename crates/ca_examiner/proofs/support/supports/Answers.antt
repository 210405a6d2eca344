use Rattle.std.proofs.Common.{◌≡◌, ◌+◌, ◌-◌, length, true, false, inr, arith}
use Rattle.ca_examiner.proofs.SupportLemmas.{support_to, support_from, not_support}
use Rattle.ca_examiner.proofs.support.supports.Goals as goal

pub returns-then-bit-inputs-2 : goal.returns-then-bit-inputs-2
returns-then-bit-inputs-2 c =
    let chip = c.args.chip.now.core in
    let is_bit : c.args.bit ≡ length chip.inputs + (c.args.bit - c.input_count-inputs.result) = (let e = c.input_count-inputs.ensures in let f = c.if-bit-inputs.false in omega arith) in (
      λ yes. support_to chip c.args.defect c.args.leading.now (record { size = c.requires.size; each = c.requires.each; leads = c.requires.leads })
          (c.args.bit - c.input_count-inputs.result) c.args.bit c.input-then-bit-inputs-2.result
          (let e = c.input_count-inputs.ensures in let f = c.if-bit-inputs.false in omega arith) (inr is_bit) c.input-then-bit-inputs-2.ensures yes,
      λ supports. support_from chip c.args.defect c.args.leading.now (record { size = c.requires.size; each = c.requires.each; leads = c.requires.leads })
          (c.args.bit - c.input_count-inputs.result) c.args.bit c.input-then-bit-inputs-2.result
          (let e = c.input_count-inputs.ensures in let f = c.if-bit-inputs.false in omega arith) (inr is_bit) c.input-then-bit-inputs-2.ensures supports,
    )

pub returns-else-bit-inputs-2 : goal.returns-else-bit-inputs-2
returns-else-bit-inputs-2 c = (
  λ yes. absurd (let clash : false ≡ true = yes in cc),
  λ supports. absurd (not_support c.args.chip.now.core c.args.defect c.args.bit
      (let e = c.input_count-inputs.ensures in let f = c.if-bit-inputs-2.false in omega arith) supports),
)
