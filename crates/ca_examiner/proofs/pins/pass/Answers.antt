use Rattle.std.proofs.Common.{◌≡◌, ◌∙◌, sym, subst, true, false}
use Rattle.ca_examiner.specs.code.Marks.{HasMarkedPin}
use Rattle.ca_examiner.proofs.MarkLemmas.{pass_some, pass_none}
use Rattle.ca_examiner.proofs.pins.pass.Goals as goal

pub returns-then-not-has_marked_pin : goal.returns-then-not-has_marked_pin
returns-then-not-has_marked_pin c =
    pass_none c.args.chip.now.core c.args.others.now c.args.u c.args.pins.from c.args.pins.count c.args.onto.from c.args.onto.count
    c.args.marks.now.items (λ has. let clash : true ≡ false = sym (c.has_marked_pin.ensures.1
    (subst (λ m. HasMarkedPin c.args.chip.now.core m c.args.u c.args.pins.from c.args.pins.count) (sym c.deref.ensures.value) has)) ∙ c.if-not-has_marked_pin.true in cc)

pub returns : goal.returns
returns c =
    pass_some c.args.chip.now.core c.args.others.now c.args.u c.args.pins.from c.args.pins.count c.args.onto.from c.args.onto.count
    c.args.marks.now.items c.mark_pins.new.marks.items
    (subst (λ m. HasMarkedPin c.args.chip.now.core m c.args.u c.args.pins.from c.args.pins.count) c.deref.ensures.value
    (c.has_marked_pin.ensures.0 c.if-not-has_marked_pin.false)) c.mark_pins.ensures
