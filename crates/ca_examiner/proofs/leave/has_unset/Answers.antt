use Rattle.std.proofs.Common.{◌≡◌, length, ap, true, false, arith}
use Rattle.ca_flat.specs.Chip.{Chip}
use Rattle.ca_examiner.proofs.LeaveLemmas.{no_unset_more, no_unset_all}
use Rattle.ca_examiner.proofs.leave.has_unset.Goals as goal

pub loop-bit-preserved : goal.loop-bit-preserved
loop-bit-preserved g c = no_unset_more (g.V.NetWaves.seen c.args.waves.now) c.args.defect c.loop-bit.bit c.is_unset_support.result
    c.is_unset_support.ensures.only c.if-is_unset_support.false c.loop-bit.invariant

pub returns : goal.returns
returns g c = (
  λ yes. absurd (let clash : false ≡ true = yes in cc),
  λ has. absurd (no_unset_all (g.V.NetWaves.seen c.args.waves.now) c.args.defect c.loop-bit.bit
      (let e = ap (λ (x : Chip). length x.inputs) c.requires.chip in omega (arith, c.loop-bit-test.false, c.input_count-bit-end.ensures, e)) c.loop-bit.invariant has),
)
