use Rattle.std.proofs.Common.{◌≡◌, ◌≤◌, Some, subst}
use Rattle.std.specs.Prelude.{IfOk}
use Rattle.ca_flat.specs.declared.chip_defect.ChipDefect.{ChipDefect}
use Rattle.ca_flat.specs.Codes.{branch_count}
use Rattle.ca_search.specs.Outcome.{IsOutcome}
use Rattle.ca_judge.specs.ChipJudge.{judged_of}
use Rattle.ca_generate.specs.Outcome.{IsSearchEnd}
use Rattle.ca_engine.specs.ChipBench.{Benched}
use Rattle.ca_engine.proofs.BenchLemmas.{search_ends, kept_end_is}
use Rattle.ca_engine.proofs.chip_bench.ChipBenchBench.find.Goals as goal

pub returns-clause-searched : goal.returns-clause-searched
returns-clause-searched g c =
    let inside = c.self.inside in
    let ends = c.find-outcome.ensures in
    subst (λ (bench : Benched). (defect : ChipDefect) → bench.aimed ≡ Some defect
    → IfOk c.end_of.result (IsSearchEnd bench.chip bench.budget defect)) c.self.view_is
    (λ defect aimed. kept_end_is inside.judge.seen.chip inside.search.budget defect c.find-outcome.new.self.code c.find-outcome.new.judge.seen.pair
    c.find-outcome.result c.end_of.result
    (search_ends inside.judge.seen _ inside.defects inside.view.now.core.outputs inside.aim c.self.invariant
    c.outcome_is_search.ensures c.find-outcome.new.judge.seen inside.search.budget c.find-outcome.new.self.code c.find-outcome.result
    ends.aim (subst (λ budget. branch_count c.find-outcome.new.self.code ≤ budget) ends.budget ends.within)
    (subst (λ budget. IsOutcome (judged_of c.find-outcome.new.judge.seen) budget c.find-outcome.new.self.code c.find-outcome.result)
    ends.budget ends.outcome) defect aimed) c.end_of.ensures)
