use Rattle.std.proofs.Common.{◌≡◌, ◌∙◌, ◌+◌, List, length, ap, sym, rules, Some, None}
use Rattle.ca_lex.specs.FirstFault.{steps_from}
use Rattle.ca_order.specs.declared.event.Event.{Event}
use Rattle.ca_lex.specs.Physical.{lines_of}
use Rattle.ca_order.specs.Order.{event_at, line_step, numbered}
use Rattle.ca_order.proofs.OrderLemmas.{begins, all_read, one_event, no_line}
use Rattle.ca_order.proofs.order.read_order.Goals as goal

pub loop-line-init : goal.loop-line-init
loop-line-init c = begins c.args.places.now c.args.bytes.now c.new-events.result c.new-events.ensures

pub returns-then-is_empty : goal.returns-then-is_empty
returns-then-is_empty c =
    let none : length c.loop-line.rest.now ≡ 0 = search rules in
    record { exact = c.loop-line.invariant ∙ all_read c.args.places.now c.loop-line.line c.loop-line.events c.loop-line.rest.now none }

pub returns-in_default : goal.returns-in_default
returns-in_default c =
    let none : event_at c.args.places.now c.loop-line.line c.first_line.result.0.now ≡ None = search rules in
    record {
      exact = c.loop-line.invariant ∙ no_line c.args.places.now c.loop-line.line c.loop-line.events c.loop-line.rest.now c.first_line.result.0.now
          c.first_line.result.1.now c.first_line.ensures.lines none;
    }

pub loop-line-preserved : goal.loop-line-preserved
loop-line-preserved c =
    let some : event_at c.args.places.now c.loop-line.line c.first_line.result.0.now ≡ Some c.in-Some.event = search rules in
    c.loop-line.invariant ∙ (one_event c.args.places.now c.loop-line.line c.loop-line.events c.loop-line.rest.now c.first_line.result.0.now
    c.first_line.result.1.now c.in-Some.event c.first_line.ensures.lines some
    ∙ ap (λ (events : List Event). steps_from (line_step c.args.places.now) events (numbered (c.loop-line.line + 1) (lines_of c.first_line.result.1.now)))
    (sym c.in_ok-push.ensures.ok))
