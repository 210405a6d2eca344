use Rattle.std.proofs.Common.{length, rules}
use Rattle.ca_stil_form.specs.Tokens.{tokens_of}
use Rattle.ca_stil_form.specs.Whole.{chain_form}
use Rattle.ca_stil_read.proofs.ChainLemmas.{cells_step, cells_stop, cells_end, numbered_end, below_both}
use Rattle.ca_stil_read.proofs.chain.cells_of.Goals as goal

pub returns-in_err-digits : goal.returns-in_err-digits
returns-in_err-digits c =
    let below = below_both c.loop-number.number c.min-count.result (length c.args.scan_ins.now) (length c.args.scan_outs.now) c.min-count.ensures c.loop-number-test.true in
    let ins = c.as_bytes.ensures in
    let outs = c.as_bytes-in-loop-number.ensures in
    let stopped = cells_stop (λ ports. (chain_form ports).read) c.in_err-digits.field-0.0 _ c.loop-number.cells c.loop-number.number
    c.args.scan_ins.now c.args.scan_outs.now c.index-scan_ins-number.result c.index-scan_outs-number.result (tokens_of c.loop-number.rest.now)
    c.loop-number.invariant below.0 below.1 c.index-scan_ins-number.is c.index-scan_outs-number.is
    (rw ins at (rw outs at c.in_err-digits.ensures)) in
    search rules

pub loop-number-preserved : goal.loop-number-preserved
loop-number-preserved c =
    let below = below_both c.loop-number.number c.min-count.result (length c.args.scan_ins.now) (length c.args.scan_outs.now) c.min-count.ensures c.loop-number-test.true in
    let ins = c.as_bytes.ensures in
    let outs = c.as_bytes-in-loop-number.ensures in
    let stepped = cells_step (λ ports. (chain_form ports).read) _ c.loop-number.cells c.loop-number.number
    c.args.scan_ins.now c.args.scan_outs.now c.index-scan_ins-number.result c.index-scan_outs-number.result c.in_ok-digits.digits
    (tokens_of c.loop-number.rest.now) (tokens_of c.in_ok-digits.after.now)
    c.loop-number.invariant below.0 below.1 c.index-scan_ins-number.is c.index-scan_outs-number.is
    (rw ins at (rw outs at c.in_ok-digits.ensures)) in
    rw c.in_ok-push.ensures.ok stepped

pub returns : goal.returns
returns c =
    cells_end (λ ports. (chain_form ports).read) _ c.loop-number.cells c.loop-number.number c.args.scan_ins.now c.args.scan_outs.now
    (tokens_of c.loop-number.rest.now) c.loop-number.invariant
    (numbered_end c.loop-number.number c.min-count.result c.args.scan_ins.now c.args.scan_outs.now c.min-count.ensures c.loop-number-test.false)
