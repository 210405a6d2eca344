use Rattle.std.proofs.Common.{ℕ, sym, subst}
use Rattle.ca_spice.specs.code.Kept.{IsPlaced}
use Rattle.ca_spice.proofs.open_cell.OpenCell.pin_info.Goals as goal

pub invariant_of-result-clause-placed : goal.invariant_of-result-clause-placed
invariant_of-result-clause-placed c =
    subst (λ (count : ℕ). IsPlaced count c.args.self.nets c.args.self.devices) (sym c.in_ok-pins.ensures.count) c.args.self.placed
