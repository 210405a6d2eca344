use Rattle.std.proofs.Common.{subst, arith}
use Rattle.std.proofs.lemmas.Option.{slice_get-get_or}
use Rattle.ca_wiring.specs.declared.joined.Span.{Span}
use Rattle.ca_wiring.specs.code.Spans.{IsWith}
use Rattle.ca_wiring.proofs.SpanLemmas.{spans_more, spans_end}
use Rattle.ca_wiring.proofs.spans.spans_of.Goals as goal

pub loop-k-preserved : goal.loop-k-preserved
loop-k-preserved c =
    let lt = c.loop-k-test.true in
    spans_more c.args.bits c.args.raws.now c.loop-k.k _ c.loop-k.spans c.add.new.self
    (slice_get-get_or c.args.raws.now c.loop-k.k _ lt) c.loop-k.invariant
    (subst (λ (s : Span). IsWith s c.loop-k.spans c.add.new.self) c.span_of.ensures (c.in_ok-add.ensures {u = tt}))

pub returns : goal.returns
returns c = spans_end c.args.bits c.args.raws.now c.loop-k.k c.loop-k.spans (let ge = c.loop-k-test.false in omega (arith, ge)) c.loop-k.invariant
