use Rattle.std.proofs.Common.{◌≡◌, ◌≤◌, ◌<◌, ℕ, length, ap, ◌∙◌, arith}
use Rattle.std.specs.Prelude.{slice_get, Some}
use Rattle.ca_pin_sets.proofs.ForestLemmas.{read_at, found_step, group_at_root}
use Rattle.ca_pin_sets.proofs.groups.find.Goals as goal

pub up-preserved : goal.up-preserved
up-preserved c =
    let parent : slice_get c.up.parents.items c.up.at ≡ Some c.index-parent.result.now =
    read_at c.up.parents.items c.up.at c.index-parent.result.now c.up.invariant.2 c.index-parent.ensures in
    let below : c.index-parent.result.now ≤ c.up.at = c.up.invariant.0 c.up.at c.index-parent.result.now parent in
    let within : c.up.at < length c.up.parents.items = c.up.invariant.2 in
    found_step c.args.parents.now.items c.up.parents.items c.args.net c.up.at c.index-parent.result.now c.index-above.result.now c.up.invariant parent
    (read_at c.up.parents.items c.index-parent.result.now c.index-above.result.now (omega (arith, below, within)) c.index-above.ensures)

pub returns-clause-root : goal.returns-clause-root
returns-clause-root c =
    read_at c.up.parents.items c.up.at c.index.result.now c.up.invariant.2 c.index.ensures ∙ ap (λ (n : ℕ). Some n) c.up-test.false

pub returns-clause-found : goal.returns-clause-found
returns-clause-found c groups it =
    let kept = c.up.invariant.3 groups it in
    group_at_root c.up.parents.items groups c.args.net c.up.at kept.0 kept.1
    (read_at c.up.parents.items c.up.at c.index.result.now c.up.invariant.2 c.index.ensures ∙ ap (λ (n : ℕ). Some n) c.up-test.false)
