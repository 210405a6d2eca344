use Rattle.std.proofs.Common.{◌∙◌, length, sym, ap, subst}
use Rattle.std.specs.Prelude.{IfOk, Option}
use Rattle.ca_flat.specs.declared.chip_defect.ChipDefect.{ChipDefect}
use Rattle.ca_linked.specs.Linked.{LinkedChip, IsWired, inputs_of}
use Rattle.ca_view.specs.Core.{core_of}
use Rattle.ca_flatten.specs.Few.{IsFew}
use Rattle.ca_view.specs.Places.{AreRanks}
use Rattle.ca_request.specs.Asked.{IsLibraryDefect}
use Rattle.ca_simulate.specs.Simulated.{pair_of, AreSimulated}
use Rattle.ca_simulate.proofs.simulation.simulate.Goals as goal

pub simulate_on-ends-requires-clause-chip : goal.simulate_on-ends-requires-clause-chip
simulate_on-ends-requires-clause-chip c =
    let view = c.in_ok-view.ensures {u = tt} in
    record {
      wired = subst IsWired (sym view.chip_is) c.wired.ensures;
      core_is = view.core_is ∙ ap core_of (sym view.chip_is);
      ranked = subst (λ (chip : LinkedChip). AreRanks chip c.in_ok-view.view.ranks) (sym view.chip_is) view.ranked;
      few = subst (λ (chip : LinkedChip). (given : Option ChipDefect) → IsFew (core_of chip) given) (sym view.chip_is) (c.in_ok-judge_size.ensures {u = tt});
    }

pub simulate_on-ends-requires-clause-defect : goal.simulate_on-ends-requires-clause-defect
simulate_on-ends-requires-clause-defect c =
    let view = c.in_ok-view.ensures {u = tt} in
    subst (λ (chip : LinkedChip). IsLibraryDefect chip c.args.defect) (sym view.chip_is) c.requires.defect

pub simulate_on-ends-requires-clause-first : goal.simulate_on-ends-requires-clause-first
simulate_on-ends-requires-clause-first c =
    let view = c.in_ok-view.ensures {u = tt} in
    c.requires.first ∙ ap (λ (chip : LinkedChip). length (inputs_of chip)) (sym view.chip_is)

pub simulate_on-ends-requires-clause-last : goal.simulate_on-ends-requires-clause-last
simulate_on-ends-requires-clause-last c =
    let view = c.in_ok-view.ensures {u = tt} in
    c.requires.last ∙ ap (λ (chip : LinkedChip). length (inputs_of chip)) (sym view.chip_is)

pub returns : goal.returns
returns c =
    let view = c.in_ok-view.ensures {u = tt} in
    subst (λ (chip : LinkedChip). IfOk c.simulate_on-ends.result (λ ends. AreSimulated (core_of chip) c.args.defect
    (pair_of c.args.vectors.first.now c.args.vectors.last.now) ends.good.items ends.faulty.items)) view.chip_is c.simulate_on-ends.ensures
