use Rattle.std.proofs.Common.{codes}
use Rattle.ca_stil_form.specs.Tokens.{tokens_of}
use Rattle.ca_stil_form.specs.Whole.{frame_of}
use Rattle.ca_stil_read.specs.Groups.{scan_in}
use Rattle.ca_stil_read.proofs.LoopLemmas.{closes_so, begins_so}
use Rattle.ca_stil_read.proofs.LongLemmas.{pairs_early, pairs_close, pairs_stop}
use Rattle.ca_stil_read.proofs.long.no_pairs.Goals as goal

pub returns-in_default : goal.returns-in_default
returns-in_default c =
    pairs_early (frame_of c.args.groups.now.inputs c.args.groups.now.outputs (scan_in c.args.groups.now.scan) c.args.cells.now)
    (tokens_of c.args.text.now) c.in_default.ensures

pub returns-then-eq : goal.returns-then-eq
returns-then-eq c =
    pairs_close (frame_of c.args.groups.now.inputs c.args.groups.now.outputs (scan_in c.args.groups.now.scan) c.args.cells.now)
    (tokens_of c.args.text.now) c.in-Some.token.now (tokens_of c.in-Some.after.now) c.new.result c.in-Some.ensures.0
    (closes_so (codes "}") c.as_slice.result.now c.in-Some.token.now c.eq.result c.eq.ensures c.as_slice.ensures c.if-eq.true)
    c.new.ensures

pub returns : goal.returns
returns c =
    pairs_stop (frame_of c.args.groups.now.inputs c.args.groups.now.outputs (scan_in c.args.groups.now.scan) c.args.cells.now)
    (tokens_of c.args.text.now) c.no_first.result
    (begins_so (codes "}") c.as_slice.result.now c.in-Some.token.now c.eq.result (tokens_of c.args.text.now) _ c.in-Some.ensures.0
    c.eq.ensures c.as_slice.ensures c.if-eq.false) c.no_first.ensures
