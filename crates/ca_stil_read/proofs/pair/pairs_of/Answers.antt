use Rattle.std.proofs.Common.{map, length, codes, rules}
use Rattle.ca_stil_form.specs.Tokens.{tokens_of}
use Rattle.ca_stil_read.specs.code.Frames.{frame_seen}
use Rattle.ca_stil_read.specs.Kept.{pair_seen}
use Rattle.ca_stil_read.specs.Whole.{read_pairs}
use Rattle.ca_stil_read.proofs.LoopLemmas.{pairs_loop, loop_early, loop_close, loop_stop, loop_step}
use Rattle.ca_stil_read.proofs.LoopLemmas.{loop_push, closes_so, begins_so}
use Rattle.ca_stil_read.proofs.pair.pairs_of.Goals as goal

pub returns-in_default : goal.returns-in_default
returns-in_default c =
    loop_early (pairs_loop (frame_seen c.args.frame.now)) _ (map pair_seen c.pairs.pairs) (length c.pairs.pairs) (tokens_of c.pairs.rest.now)
    c.pairs.invariant c.in_default.ensures

pub returns-then-eq : goal.returns-then-eq
returns-then-eq c =
    loop_close (pairs_loop (frame_seen c.args.frame.now)) _ (map pair_seen c.pairs.pairs) (length c.pairs.pairs) (tokens_of c.pairs.rest.now)
    c.in-Some.token.now (tokens_of c.in-Some.after.now) c.pairs.invariant c.in-Some.ensures.0
    (closes_so (codes "}") c.as_slice.result.now c.in-Some.token.now c.eq.result c.eq.ensures c.as_slice.ensures c.if-eq.true)

pub returns-in_err-pair : goal.returns-in_err-pair
returns-in_err-pair c =
    let counted = c.len.ensures in
    let stopped = loop_stop (pairs_loop (frame_seen c.args.frame.now)) c.in_err-pair.field-0.0 _ (map pair_seen c.pairs.pairs) (length c.pairs.pairs)
    (tokens_of c.pairs.rest.now) c.pairs.invariant
    (begins_so (codes "}") c.as_slice.result.now c.in-Some.token.now c.eq.result (tokens_of c.pairs.rest.now) _ c.in-Some.ensures.0
    c.eq.ensures c.as_slice.ensures c.if-eq.false) (rw counted at c.in_err-pair.ensures) in
    search rules

pub pairs-smaller : goal.pairs-smaller
pairs-smaller c =
    (pairs_loop (frame_seen c.args.frame.now)).shorter c.len.result (tokens_of c.pairs.rest.now) (tokens_of c.in_ok-pair.more.now)
    (pair_seen c.in_ok-pair.pair) c.in_ok-pair.ensures

pub pairs-preserved : goal.pairs-preserved
pairs-preserved c =
    let counted = c.len.ensures in
    loop_push pair_seen _ (read_pairs (frame_seen c.args.frame.now)) c.pairs.pairs c.push.new.self c.in_ok-pair.pair (tokens_of c.in_ok-pair.more.now)
    c.in_ok-push.ensures.ok
    (loop_step (pairs_loop (frame_seen c.args.frame.now)) _ (map pair_seen c.pairs.pairs) (length c.pairs.pairs) (tokens_of c.pairs.rest.now)
    (tokens_of c.in_ok-pair.more.now) (pair_seen c.in_ok-pair.pair) c.pairs.invariant
    (begins_so (codes "}") c.as_slice.result.now c.in-Some.token.now c.eq.result (tokens_of c.pairs.rest.now) _ c.in-Some.ensures.0
    c.eq.ensures c.as_slice.ensures c.if-eq.false) (rw counted at c.in_ok-pair.ensures))
