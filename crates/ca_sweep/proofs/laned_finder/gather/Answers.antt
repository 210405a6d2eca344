use Rattle.std.proofs.Common.{subst, sym, arith}
use Rattle.ca_view.specs.Linked.{IsPlaced, place_in}
use Rattle.ca_sweep.specs.Seen.{Laned}
use Rattle.ca_sweep.proofs.NextLemmas.{span_placed}
use Rattle.ca_sweep.proofs.laned_finder.gather.Goals as goal

pub span_at-span-requires : goal.span_at-span-requires
span_at-span-requires c = c.requires.within c.in-Some.place c.in-Some.ensures.1

pub want-requires : goal.want-requires
want-requires c =
    let list = c.args.defects.now.list in
    let span = c.span_at-span.result in
    let said = c.span_at-span.ensures in
    subst (λ (s : Laned). IsPlaced s.chip (place_in s.places) c.span_at-span.result.instance) (sym c.spans.invariant)
    (span_placed c.args.lanes.now.chip (place_in c.args.lanes.now.places) list c.in-Some.place span.start span.end span.instance
    (c.requires.within c.in-Some.place c.in-Some.ensures.1) said.within said.past said.span c.requires.defects)

pub spans-smaller : goal.spans-smaller
spans-smaller c =
    let within = c.requires.within c.in-Some.place c.in-Some.ensures.1 in
    let onward = c.in-Some.ensures.0 in
    let past = c.span_at-span.ensures.past in
    omega arith
