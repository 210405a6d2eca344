use Rattle.std.proofs.Common.{◌∙◌, sym}
use Rattle.ca_cell.proofs.FindLemmas.{found_as_open, found_as_pin, found_as_short}
use Rattle.ca_cell.proofs.search.find_listed.Goals as goal

pub returns-then-is_some : goal.returns-then-is_some
returns-then-is_some c =
    found_as_open c.args.cell.now c.args.text.now c.find_device_open-found.result c.find_device_open-found.ensures
    (sym c.is_some.ensures ∙ c.if-is_some.true)

pub returns-then-is_some-2 : goal.returns-then-is_some-2
returns-then-is_some-2 c =
    found_as_pin c.args.cell.now c.args.text.now c.find_device_open-found.result c.find_pin_open-found.result c.find_device_open-found.ensures
    (sym c.is_some.ensures ∙ c.if-is_some.false) c.find_pin_open-found.ensures (sym c.is_some-2.ensures ∙ c.if-is_some-2.true)

pub returns : goal.returns
returns c =
    found_as_short c.args.cell.now c.args.text.now c.find_device_open-found.result c.find_pin_open-found.result c.find_short.result
    c.find_device_open-found.ensures (sym c.is_some.ensures ∙ c.if-is_some.false) c.find_pin_open-found.ensures
    (sym c.is_some-2.ensures ∙ c.if-is_some-2.false) c.find_short.ensures
