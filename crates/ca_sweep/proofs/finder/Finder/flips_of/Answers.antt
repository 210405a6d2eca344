use Rattle.std.proofs.Common.{◌≤◌, subst, sym, ap, ◌∙◌}
use Rattle.ca_net.specs.State.{value_at}
use Rattle.ca_cell.specs.declared.raw.RawCell.{RawCell}
use Rattle.ca_cell.specs.Raw.{is_output, role_count}
use Rattle.ca_flat.specs.Chip.{outputs_at}
use Rattle.ca_sweep.specs.Seen.{Loaded}
use Rattle.ca_sweep.proofs.FaultyLemmas.{flips_are}
use Rattle.ca_sweep.proofs.finder.Finder.flips_of.Goals as goal

pub returns : goal.returns
returns c =
    flips_are c.args.self.now.chip (value_at c.args.self.now.lasts) c.args.u c.args.outputs.now c.is_flipped.result c.is_flipped-2.result
    (subst (λ (s : Loaded). outputs_at s.chip c.args.u ≤ 2) c.self.view_is (subst (λ chip. outputs_at chip c.args.u ≤ 2) (sym c.self.invariant.chip_is)
    (subst (λ n. n ≤ 2) (c.outputs-outputs.ensures.count ∙ ap (λ (raw : RawCell). role_count is_output raw.pins) c.cell.ensures) c.outputs-outputs.ensures.few))) c.is_flipped.ensures c.is_flipped-2.ensures
