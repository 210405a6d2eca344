use Rattle.std.proofs.Common.{◌≡◌, ◌∙◌, sym, subst, Result, List}
use Rattle.std.specs.Prelude.{slice_get}
use Rattle.ca_lex.specs.code.Reading.{Steps}
use Rattle.ca_spice.specs.declared.fault.SpiceKind.{SpiceKind}
use Rattle.ca_spice.specs.declared.pin.Pin.{Pin}
use Rattle.ca_spice.specs.code.SpiceFault.{kind_reported}
use Rattle.ca_spice.specs.PinInfo.{with_role, role_step}
use Rattle.ca_spice.proofs.PinLemmas.{role_step-is}
use Rattle.ca_spice.proofs.pin_info.take_role.Goals as goal

pub returns-clause-read : goal.returns-clause-read
returns-clause-read c =
    let pins = c.args.pins.now.items in
    let is : role_step c.args.nets.now c.args.word.now pins ≡ with_role c.in-Some.role pins c.in-Some-place_of.place (slice_get pins c.in-Some-place_of.place) =
    role_step-is c.args.nets.now c.args.word.now pins c.colon_place-place.result c.in-Some.role c.in-Some-place_of.place c.colon_place-place.ensures.place
    (sym c.role_of.ensures ∙ c.in-Some.is) (sym c.place_of.ensures ∙ c.in-Some-place_of.is) in
    subst (λ (wanted : Result (List Pin) SpiceKind). Steps kind_reported c.give_role.new.pins.items c.give_role.result wanted) (sym is) c.give_role.ensures.read
