use Rattle.std.proofs.Common.{◌∙◌, ap}
use Rattle.ca_wiring.specs.code.Pins.{has_pin}
use Rattle.ca_wiring.proofs.PinLemmas.{has_pin-names}
use Rattle.ca_wiring.proofs.pins.library_has.Goals as goal

pub returns : goal.returns
returns c =
    c.has_pin.ensures ∙ ap (λ pins. has_pin pins c.args.name.now) c.as_slice.ensures ∙ has_pin-names c.args.raw.now.pins c.args.name.now
