use Rattle.std.proofs.Common.{◌≡◌, ◌∙◌, refl, sym, subst, Result, List, true}
use Rattle.ca_lex.specs.Reading.{IsFault}
use Rattle.ca_spice.specs.declared.fault.SpiceKind.{SpiceKind}
use Rattle.ca_spice.specs.declared.pin.Pin.{Pin}
use Rattle.ca_spice.specs.code.SpiceFault.{kind_reported}
use Rattle.ca_spice.specs.code.Names.{texts}
use Rattle.ca_spice.specs.PinInfo.{are_pin_words}
use Rattle.ca_spice.proofs.PinLemmas.{all_words, first_within, after_are, after_goes_on, after_stops}
use Rattle.ca_spice.proofs.PinLemmas.{rest_ends, pin_info-steps}
use Rattle.ca_spice.proofs.pin_info.pin_info.Goals as goal

pub words-init : goal.words-init
words-init c = record {
  steps = refl;
  count = refl;
  form = all_words (texts c.args.words.now) (sym c.are_pin_words.ensures ∙ c.if-not-are_pin_words.false);
}

pub take_role-requires : goal.take_role-requires
take_role-requires c = first_within c.words.rest.now _ c.in-len1-up.len_at_least c.words.invariant.form

pub returns-in-Err-clause-read : goal.returns-in-Err-clause-read
returns-in-Err-clause-read c =
    let are : are_pin_words (texts c.args.words.now) ≡ true = sym c.are_pin_words.ensures ∙ c.if-not-are_pin_words.false in
    subst (λ (wanted : Result (List Pin) SpiceKind). IsFault (kind_reported c.in-Err.refusal) wanted)
    (sym (pin_info-steps c.args.nets.now (texts c.args.words.now) c.args.pins.items are))
    (after_stops c.args.nets.now c.words.rest.now _ c.words.pins.items (kind_reported c.in-Err.refusal) _ c.in-len1-up.len_at_least c.in-Err.ensures.read c.words.invariant.steps)

pub words-preserved : goal.words-preserved
words-preserved c = record {
  steps = after_goes_on c.args.nets.now c.words.rest.now _ c.words.pins.items c.take_role.new.pins.items _ c.in-len1-up.len_at_least
      c.in_default-take_role.ensures.read c.words.invariant.steps;
  count = c.in_default-take_role.ensures.count ∙ c.words.invariant.count;
  form = after_are c.words.rest.now c.in-len1-up.len_at_least c.words.invariant.form;
}

pub returns-clause-read : goal.returns-clause-read
returns-clause-read c =
    let are : are_pin_words (texts c.args.words.now) ≡ true = sym c.are_pin_words.ensures ∙ c.if-not-are_pin_words.false in
    pin_info-steps c.args.nets.now (texts c.args.words.now) c.args.pins.items are
    ∙ rest_ends c.args.nets.now c.words.rest.now c.words.pins.items _ c.in_default.len_below c.words.invariant.steps
