use Rattle.std.proofs.Common.{length, map}
use Rattle.ca_stil_read.specs.code.Frames.{chain_seen}
use Rattle.ca_stil_read.proofs.FrameLemmas.{chains_large, chains_kept, chains_none, below_three}
use Rattle.ca_stil_read.proofs.frame.chains_of.Goals as goal

pub returns-in_default : goal.returns-in_default
returns-in_default c =
    let below = below_three c.loop-k.k c.min.result c.min-count.result (length c.args.scan_ins.now) (length c.args.scan_outs.now) (length c.args.cells.now)
    c.min.ensures c.min-count.ensures c.loop-k-test.true in
    let bytes = c.as_bytes.ensures in
    chains_large c.loop-k.k _ c.args.scan_ins.now c.args.scan_outs.now c.args.cells.now c.index-cells-k.result (map chain_seen c.loop-k.chains) _
    below.0 below.1 below.2 c.index-cells-k.is (rw bytes at c.in_default.ensures) c.loop-k.invariant

pub loop-k-preserved : goal.loop-k-preserved
loop-k-preserved c =
    let below = below_three c.loop-k.k c.min.result c.min-count.result (length c.args.scan_ins.now) (length c.args.scan_outs.now) (length c.args.cells.now)
    c.min.ensures c.min-count.ensures c.loop-k-test.true in
    let bytes = c.as_bytes.ensures in
    chains_kept c.loop-k.k c.args.scan_ins.now c.args.scan_outs.now c.args.cells.now c.loop-k.chains c.push.new.self _
    c.index-scan_ins-k.result c.index-scan_outs-k.result c.index-cells-k.result _
    c.in_ok-push.ensures.ok c.in_ok-copy.ensures.ok c.in_ok-copy-2.ensures.ok (rw bytes at c.in-Some.ensures)
    below.0 below.1 below.2 c.index-scan_ins-k.is c.index-scan_outs-k.is c.index-cells-k.is c.loop-k.invariant

pub returns : goal.returns
returns c =
    chains_none c.loop-k.k c.min.result c.min-count.result c.args.scan_ins.now c.args.scan_outs.now c.args.cells.now (map chain_seen c.loop-k.chains) _
    c.min.ensures c.min-count.ensures c.loop-k-test.false c.loop-k.invariant
