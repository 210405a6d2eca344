use Rattle.std.proofs.Common.{map, length, codes, rules}
use Rattle.ca_stil_form.specs.Form.{read_items}
use Rattle.ca_stil_form.specs.Tokens.{tokens_of}
use Rattle.ca_stil_form.specs.Whole.{signal_form}
use Rattle.ca_stil_form.specs.Value.{signal_seen}
use Rattle.ca_stil_read.proofs.LoopLemmas.{signals_loop, loop_early, loop_close, loop_stop, loop_step}
use Rattle.ca_stil_read.proofs.LoopLemmas.{loop_push, closes_so, begins_so}
use Rattle.ca_stil_read.proofs.signal.all_signals.Goals as goal

pub returns-in_default : goal.returns-in_default
returns-in_default c =
    loop_early signals_loop _ (map signal_seen c.signals.signals) (length c.signals.signals) (tokens_of c.signals.rest.now)
    c.signals.invariant c.in_default.ensures

pub returns-then-eq : goal.returns-then-eq
returns-then-eq c =
    loop_close signals_loop _ (map signal_seen c.signals.signals) (length c.signals.signals) (tokens_of c.signals.rest.now)
    c.in-Some.token.now (tokens_of c.in-Some.after.now) c.signals.invariant c.in-Some.ensures.0
    (closes_so (codes "}") c.as_slice.result.now c.in-Some.token.now c.eq.result c.eq.ensures c.as_slice.ensures c.if-eq.true)

pub returns-in_err-signal : goal.returns-in_err-signal
returns-in_err-signal c =
    let stopped = loop_stop signals_loop c.in_err-signal.field-0.0 _ (map signal_seen c.signals.signals) (length c.signals.signals)
    (tokens_of c.signals.rest.now) c.signals.invariant
    (begins_so (codes "}") c.as_slice.result.now c.in-Some.token.now c.eq.result (tokens_of c.signals.rest.now) _ c.in-Some.ensures.0
    c.eq.ensures c.as_slice.ensures c.if-eq.false) c.in_err-signal.ensures in
    search rules

pub signals-smaller : goal.signals-smaller
signals-smaller c =
    signals_loop.shorter 0 (tokens_of c.signals.rest.now) (tokens_of c.in_ok-signal.more.now) (signal_seen c.in_ok-signal.signal) c.in_ok-signal.ensures

pub signals-preserved : goal.signals-preserved
signals-preserved c =
    loop_push signal_seen _ (read_items (codes "}") (λ number. signal_form.read)) c.signals.signals c.push.new.self c.in_ok-signal.signal (tokens_of c.in_ok-signal.more.now)
    c.in_ok-push.ensures.ok
    (loop_step signals_loop _ (map signal_seen c.signals.signals) (length c.signals.signals) (tokens_of c.signals.rest.now)
    (tokens_of c.in_ok-signal.more.now) (signal_seen c.in_ok-signal.signal) c.signals.invariant
    (begins_so (codes "}") c.as_slice.result.now c.in-Some.token.now c.eq.result (tokens_of c.signals.rest.now) _ c.in-Some.ensures.0
    c.eq.ensures c.as_slice.ensures c.if-eq.false) c.in_ok-signal.ensures)
