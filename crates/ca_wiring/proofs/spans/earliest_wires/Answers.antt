use Rattle.std.proofs.Common.{subst, sym, ap, length}
use Rattle.std.specs.Prelude.{flat_map}
use Rattle.std.specs.List.{All}
use Rattle.ca_verilog.specs.Joins.{pairs_of}
use Rattle.ca_verilog.specs.IsNetlist.{IsJoinOf}
use Rattle.ca_wiring.specs.Wiring.{joins_of}
use Rattle.ca_wiring.specs.Joined.{AreEarliest}
use Rattle.ca_wiring.specs.code.Spans.{AreSpansOf}
use Rattle.ca_wiring.proofs.SpanLemmas.{are_joins, spans_within}
use Rattle.ca_wiring.proofs.spans.earliest_wires.Goals as goal

pub earliest-requires-clause-within : goal.earliest-requires-clause-within
earliest-requires-clause-within c =
    let are : AreSpansOf c.args.bits c.spans.result.now (length c.spans.result.now) c.as_slice.result.now =
    subst (AreSpansOf c.args.bits c.spans.result.now (length c.spans.result.now)) (sym c.as_slice.ensures) (c.in_ok-spans.ensures {u = tt}) in
    spans_within c.args.bits c.spans.result.now c.as_slice.result.now are c.args.wires c.requires.constants
    (subst (All (IsJoinOf c.args.bits)) (sym c.spans.ensures) c.requires.declared)

pub returns : goal.returns
returns c =
    let are : AreSpansOf c.args.bits c.spans.result.now (length c.spans.result.now) c.as_slice.result.now =
    subst (AreSpansOf c.args.bits c.spans.result.now (length c.spans.result.now)) (sym c.as_slice.ensures) (c.in_ok-spans.ensures {u = tt}) in
    subst (λ joins. AreEarliest joins c.args.wires c.in_ok-list.list.items) (ap (joins_of c.args.bits) c.spans.ensures)
    (c.in_ok-list.ensures {u = tt} (joins_of c.args.bits (flat_map pairs_of c.spans.result.now)) (are_joins c.args.bits c.spans.result.now c.as_slice.result.now are))
