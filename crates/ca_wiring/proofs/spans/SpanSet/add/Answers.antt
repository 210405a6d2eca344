use Rattle.std.proofs.Common.{subst}
use Rattle.ca_wiring.specs.code.Spans.{IsWith}
use Rattle.ca_wiring.specs.contracts.joined.SpanPartialEq.TheImpl as same
use Rattle.ca_wiring.proofs.SpanLemmas.{same_span, with_inserted}
use Rattle.ca_wiring.proofs.spans.SpanSet.add.Goals as goal

pub returns : goal.returns
returns c =
    subst (λ old. IsWith c.args.span old c.insert.new.self.keys) c.self.view_is
    (with_inserted {eq = same.eq-value.it} same_span c.self.inside.spans.keys c.insert.new.self.keys c.args.span
    (c.in_ok-insert.ensures {u = tt}).keys)
