use Rattle.std.proofs.Common.{arith}
use Rattle.ca_chip_report.proofs.LawLemmas.{counted_more}
use Rattle.ca_bridge_report.specs.Summary.{is_bridge_kind}
use Rattle.ca_bridge_report.proofs.summary.bridge_count.Goals as goal

pub loop-k-preserved : goal.loop-k-preserved
loop-k-preserved c = record {
  few = let before = c.loop-k.invariant.few in let one = c.one_if-count.ensures.few in omega arith;
  counted = counted_more (is_bridge_kind c.args.kind) c.args.verdicts.now c.loop-k.k c.loop-k.count c.one_if-count.result _
      c.is_bridge_kind.result c.verdict_at.ensures c.is_bridge_kind.ensures c.one_if-count.ensures.is c.loop-k.invariant.counted;
}
