use Rattle.std.proofs.Common.{◌∙◌, [], sym, ap}
use Rattle.ca_spice.specs.OpenCell.{pins_after}
use Rattle.ca_spice.proofs.ReadingLemmas.{placed_ended}
use Rattle.ca_spice.proofs.open_cell.OpenCell.ended.Goals as goal

pub returns-clause-placed : goal.returns-clause-placed
returns-clause-placed c =
    placed_ended c.args.self.pins.items c.in-Some.pins c.args.self.nets c.in_ok-nets.nets c.args.self.devices c.args.self.placed
    (ap (pins_after []) (sym c.deref.ensures.value) ∙ sym c.in_ok-pins.ensures ∙ c.in-Some.is) c.in_ok-nets.ensures
