use Rattle.std.proofs.Common.{◌≡◌, ◌+◌, ◌-◌, ◌<◌, length, Some, sym, ◌∙◌, ap, subst, arith}
use Rattle.std.proofs.lemmas.Option.{slice_get-get_or}
use Rattle.ca_flat.specs.Chip.{inputs_at, outputs_at}
use Rattle.ca_view.specs.Linked.{place_in}
use Rattle.ca_view.specs.Places.{cell_number}
use Rattle.ca_examiner.specs.code.Sweep.{IsSweptFrom}
use Rattle.ca_examiner.proofs.MarkLemmas.{passes_at}
use Rattle.ca_examiner.proofs.OrderLemmas.{none_of}
use Rattle.ca_examiner.proofs.SweepLemmas.{back_begin, back_more, back_skip, back_all}
use Rattle.ca_examiner.proofs.sweep.mark_back.Goals.{in-Some, in_default}
use Rattle.ca_examiner.proofs.sweep.mark_back.Goals as goal

pub loop-done-init : goal.loop-done-init
loop-done-init c =
    let whole : length c.args.order.now ≡ length c.args.order.now - 0 = omega arith in
    subst (IsSweptFrom c.args.chip.now.core (place_in c.args.chip.now.ranks) c.args.marks.now.items c.args.marks.now.items) whole
    (back_begin c.args.chip.now.core (place_in c.args.chip.now.ranks) (cell_number c.args.chip.now.chip) c.linked.ensures.linked
    c.args.all_nets.now c.args.marks.now.items c.requires.all c.requires.all_count c.args.order.now c.requires.order c.requires.count)

pub input_pins-requires : goal.input_pins-requires
input_pins-requires c =
    let within : length c.args.order.now - 1 - c.loop-done.done < length c.args.order.now = omega (arith, c.loop-done-test.true) in
    (c.requires.order.only (length c.args.order.now - 1 - c.loop-done.done) c.in-Some.w (slice_get-get_or c.args.order.now (length c.args.order.now - 1 - c.loop-done.done) _ within ∙ ap Some c.in-Some.is)).0

pub output_pins-requires : goal.output_pins-requires
output_pins-requires c =
    let within : length c.args.order.now - 1 - c.loop-done.done < length c.args.order.now = omega (arith, c.loop-done-test.true) in
    (c.requires.order.only (length c.args.order.now - 1 - c.loop-done.done) c.in-Some.w (slice_get-get_or c.args.order.now (length c.args.order.now - 1 - c.loop-done.done) _ within ∙ ap Some c.in-Some.is)).0

pub pass-requires-clause-placed : goal.pass-requires-clause-placed
pass-requires-clause-placed c =
    let within : length c.args.order.now - 1 - c.loop-done.done < length c.args.order.now = omega (arith, c.loop-done-test.true) in
    (c.requires.order.only (length c.args.order.now - 1 - c.loop-done.done) c.in-Some.w (slice_get-get_or c.args.order.now (length c.args.order.now - 1 - c.loop-done.done) _ within ∙ ap Some c.in-Some.is)).0

pub loop-done-preserved : goal.loop-done-preserved
loop-done-preserved c =
    let core = c.args.chip.now.core in
    let place_of = place_in c.args.chip.now.ranks in
    let place = length c.args.order.now - 1 - c.loop-done.done in
    let within : length c.args.order.now - 1 - c.loop-done.done < length c.args.order.now = omega (arith, c.loop-done-test.true) in
    let next : length c.args.order.now - c.loop-done.done ≡ length c.args.order.now - 1 - c.loop-done.done + 1 = omega (arith, c.loop-done-test.true) in
    let here : length c.args.order.now - 1 - c.loop-done.done ≡ length c.args.order.now - (c.loop-done.done + 1) = omega arith in
    let before = subst (IsSweptFrom core place_of c.args.marks.now.items c.loop-done.marks.items) next c.loop-done.invariant in
    elim c.match-order-place.branch [
      | in-Some w ↦ subst (λ m. IsSweptFrom core place_of c.args.marks.now.items m (length c.args.order.now - (c.loop-done.done + 1))) (sym (ap (λ v. v.items) w.marks-is))
          (subst (IsSweptFrom core place_of c.args.marks.now.items w.pass.new.marks.items) here
          (back_more core place_of (cell_number c.args.chip.now.chip) c.linked.ensures.linked c.args.all_nets.now c.args.marks.now.items c.requires.all c.requires.all_count
          c.loop-done.marks.items w.pass.new.marks.items c.args.order.now (length c.args.order.now - 1 - c.loop-done.done) w.in-Some.w c.requires.order
          (slice_get-get_or c.args.order.now (length c.args.order.now - 1 - c.loop-done.done) _ within ∙ ap Some w.in-Some.is) before
          (passes_at core c.args.all_nets.now w.in-Some.w w.output_pins.result.from w.output_pins.result.count w.input_pins.result.from w.input_pins.result.count
          (inputs_at core w.in-Some.w) (outputs_at core w.in-Some.w) 0 (inputs_at core w.in-Some.w) c.loop-done.marks.items w.pass.new.marks.items
          w.output_pins.ensures.from w.output_pins.ensures.count w.input_pins.ensures.from w.input_pins.ensures.count w.pass.ensures)))
      | in_default w ↦ subst (λ m. IsSweptFrom core place_of c.args.marks.now.items m (length c.args.order.now - (c.loop-done.done + 1))) (sym (ap (λ v. v.items) w.marks-is))
          (subst (IsSweptFrom core place_of c.args.marks.now.items c.loop-done.marks.items) here
          (back_skip core place_of (cell_number c.args.chip.now.chip) c.linked.ensures.linked c.args.all_nets.now c.args.marks.now.items c.requires.all c.requires.all_count
          c.loop-done.marks.items c.args.order.now (length c.args.order.now - 1 - c.loop-done.done) c.requires.order
          (slice_get-get_or c.args.order.now (length c.args.order.now - 1 - c.loop-done.done) _ within ∙ ap Some (none_of _ w.in_default.not-Some)) before))
    ]

pub returns : goal.returns
returns c =
    let end : length c.args.order.now - c.loop-done.done ≡ 0 = omega (arith, c.loop-done-test.false) in
    back_all c.args.chip.now.core (place_in c.args.chip.now.ranks) (cell_number c.args.chip.now.chip) c.linked.ensures.linked
    c.args.all_nets.now c.args.marks.now.items c.requires.all c.requires.all_count c.loop-done.marks.items
    (subst (IsSweptFrom c.args.chip.now.core (place_in c.args.chip.now.ranks) c.args.marks.now.items c.loop-done.marks.items) end c.loop-done.invariant)
