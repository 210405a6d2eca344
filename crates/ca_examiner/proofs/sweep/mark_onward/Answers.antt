use Rattle.std.proofs.Common.{◌+◌, Some, sym, ◌∙◌, ap, subst, arith}
use Rattle.std.proofs.lemmas.Option.{slice_get-get_or}
use Rattle.ca_flat.specs.Chip.{inputs_at, outputs_at}
use Rattle.ca_view.specs.Linked.{place_in}
use Rattle.ca_view.specs.Places.{cell_number}
use Rattle.ca_examiner.specs.code.Marks.{MarksPins}
use Rattle.ca_examiner.specs.code.Sweep.{IsSweptTo}
use Rattle.ca_examiner.proofs.MarkLemmas.{passes_at}
use Rattle.ca_examiner.proofs.OrderLemmas.{none_of}
use Rattle.ca_examiner.proofs.SweepLemmas.{swept_begin, swept_more, swept_skip, swept_all}
use Rattle.ca_examiner.proofs.sweep.mark_onward.Goals.{in-Some, in_default}
use Rattle.ca_examiner.proofs.sweep.mark_onward.Goals as goal

pub loop-place-init : goal.loop-place-init
loop-place-init c =
    let core = c.args.chip.now.core in
    let place_of = place_in c.args.chip.now.ranks in
    let marks = subst (λ n. MarksPins core c.args.open_nets.now c.args.u n (outputs_at core c.args.u) c.unmark.new.marks.items c.mark_pins.new.marks.items) c.output_pins.ensures.from
    (subst (λ n. MarksPins core c.args.open_nets.now c.args.u c.output_pins.result.from n c.unmark.new.marks.items c.mark_pins.new.marks.items) c.output_pins.ensures.count c.mark_pins.ensures) in
    subst (IsSweptTo core place_of c.args.open_nets.now c.args.u c.mark_pins.new.marks.items) (sym c.rank-place.ensures)
    (swept_begin core place_of (cell_number c.args.chip.now.chip) c.linked.ensures.linked c.args.open_nets.now c.args.u c.requires.placed
    c.unmark.new.marks.items c.mark_pins.new.marks.items c.unmark.ensures.none (c.unmark.ensures.length ∙ c.requires.count) marks)

pub input_pins-requires : goal.input_pins-requires
input_pins-requires c =
    (c.requires.order.only c.loop-place.place c.in-Some.w (slice_get-get_or c.args.order.now c.loop-place.place _ c.loop-place-test.true ∙ ap Some c.in-Some.is)).0

pub output_pins-requires-in-Some : goal.output_pins-requires-in-Some
output_pins-requires-in-Some c =
    (c.requires.order.only c.loop-place.place c.in-Some.w (slice_get-get_or c.args.order.now c.loop-place.place _ c.loop-place-test.true ∙ ap Some c.in-Some.is)).0

pub pass-requires-clause-placed : goal.pass-requires-clause-placed
pass-requires-clause-placed c =
    (c.requires.order.only c.loop-place.place c.in-Some.w (slice_get-get_or c.args.order.now c.loop-place.place _ c.loop-place-test.true ∙ ap Some c.in-Some.is)).0

pub loop-place-preserved : goal.loop-place-preserved
loop-place-preserved c =
    let core = c.args.chip.now.core in
    let place_of = place_in c.args.chip.now.ranks in
    elim c.match-order-place.branch [
      | in-Some w ↦ subst (λ m. IsSweptTo core place_of c.args.open_nets.now c.args.u m (c.loop-place.place + 1)) (sym (ap (λ v. v.items) w.marks-is))
          (swept_more core place_of (cell_number c.args.chip.now.chip) c.linked.ensures.linked c.args.open_nets.now c.args.u c.requires.placed
          c.loop-place.marks.items w.pass.new.marks.items c.args.order.now c.loop-place.place w.in-Some.w c.requires.order
          (slice_get-get_or c.args.order.now c.loop-place.place _ c.loop-place-test.true ∙ ap Some w.in-Some.is) c.loop-place.invariant
          (passes_at core c.args.open_nets.now w.in-Some.w w.input_pins.result.from w.input_pins.result.count w.output_pins-in-Some.result.from w.output_pins-in-Some.result.count
          0 (inputs_at core w.in-Some.w) (inputs_at core w.in-Some.w) (outputs_at core w.in-Some.w) c.loop-place.marks.items w.pass.new.marks.items
          w.input_pins.ensures.from w.input_pins.ensures.count w.output_pins-in-Some.ensures.from w.output_pins-in-Some.ensures.count w.pass.ensures))
      | in_default w ↦ subst (λ m. IsSweptTo core place_of c.args.open_nets.now c.args.u m (c.loop-place.place + 1)) (sym (ap (λ v. v.items) w.marks-is))
          (swept_skip core place_of (cell_number c.args.chip.now.chip) c.linked.ensures.linked c.args.open_nets.now c.args.u c.requires.placed
          c.loop-place.marks.items c.args.order.now c.loop-place.place c.requires.order
          (slice_get-get_or c.args.order.now c.loop-place.place _ c.loop-place-test.true ∙ ap Some (none_of _ w.in_default.not-Some)) c.loop-place.invariant)
    ]

pub returns : goal.returns
returns c =
    swept_all c.args.chip.now.core (place_in c.args.chip.now.ranks) (cell_number c.args.chip.now.chip) c.linked.ensures.linked
    c.args.open_nets.now c.args.u c.requires.placed c.loop-place.marks.items c.loop-place.place
    (omega (arith, c.requires.order.size, c.loop-place-test.false)) c.loop-place.invariant
