use Rattle.std.proofs.Common.{arith}
use Rattle.ca_chip_report.proofs.LawLemmas.{counted_more}
use Rattle.ca_certifying.specs.Certified.{is_claim_of}
use Rattle.ca_certifying.proofs.summary.claim_count.Goals as goal

pub loop-k-preserved : goal.loop-k-preserved
loop-k-preserved c = record {
  few = let before = c.loop-k.invariant.few in let one = c.one_if-count.ensures.few in omega arith;
  counted = counted_more (is_claim_of c.args.kind) c.args.claims.now c.loop-k.k c.loop-k.count c.one_if-count.result _
      c.is_claim_of.result c.claim_at.ensures c.is_claim_of.ensures c.one_if-count.ensures.is c.loop-k.invariant.counted;
}
