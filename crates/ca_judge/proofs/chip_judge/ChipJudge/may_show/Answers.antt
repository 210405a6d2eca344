use Rattle.std.proofs.Common.{sym, subst, None}
use Rattle.ca_flat.specs.Chip.{IsDefectIn}
use Rattle.ca_flat.specs.Pair.{IsShown}
use Rattle.ca_flat.specs.RuleOut.{RowsRuleOut}
use Rattle.ca_flat.specs.Waves.{FlatWaves}
use Rattle.ca_guide.specs.PinRows.{IsNoneAllowed, IsSomeAllowed}
use Rattle.ca_sim.specs.Simulator.{Simulator}
use Rattle.ca_judge.proofs.ScreenLemmas.{none_shows, some_allows}
use Rattle.ca_judge.proofs.chip_judge.ChipJudge.may_show.Goals as goal

pub returns-clause-not_shown : goal.returns-clause-not_shown
returns-clause-not_shown g c denied shown =
    let inside = c.self.inside in
    none_shows inside.sim.seen _ _ _ _ _ _ c.self.invariant.0 c.exact.ensures c.args.defect
    (subst (λ sim. IsDefectIn sim.seen.chip c.args.defect) (sym c.self.view_is) c.requires) c.rows.result.now c.rows.ensures
    (subst (λ pins. IsNoneAllowed inside.sim.seen.good pins c.rows.result.now) c.input_pins-pins.ensures.same
    (c.is_some_row_allowed.ensures.none denied))
    (subst (λ sim. IsShown sim.seen.chip c.args.defect sim.seen.pair) (sym c.self.view_is) shown)

pub returns-clause-allowed : goal.returns-clause-allowed
returns-clause-allowed g c granted =
    let inside = c.self.inside in
    subst (λ (sim : Simulator). (good : FlatWaves sim.seen.chip None sim.seen.pair)
    → RowsRuleOut sim.seen.chip c.args.defect sim.seen.pair good → ⊥) c.self.view_is
    (some_allows inside.sim.seen _ _ _ _ _ _ c.self.invariant.0 c.exact.ensures c.args.defect
    (subst (λ sim. IsDefectIn sim.seen.chip c.args.defect) (sym c.self.view_is) c.requires) c.rows.result.now c.rows.ensures
    (subst (λ pins. IsSomeAllowed inside.sim.seen.good pins c.rows.result.now) c.input_pins-pins.ensures.same
    (c.is_some_row_allowed.ensures.some granted)))
