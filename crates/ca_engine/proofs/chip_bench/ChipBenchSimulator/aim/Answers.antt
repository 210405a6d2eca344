use Rattle.std.proofs.Common.{◌≡◌, subst}
use Rattle.ca_credit.proofs.DetectionLemmas.{stands_in_itself}
use Rattle.ca_engine.specs.ChipBench.{Benched}
use Rattle.ca_engine.proofs.chip_bench.ChipBenchSimulator.aim.Goals as goal

pub returns-clause-aimed_in : goal.returns-clause-aimed_in
returns-clause-aimed_in g c =
    subst (λ (bench : Benched). c.aim.new.self.seen.chip ≡ bench.chip) c.self.view_is c.aim.ensures.kept.chip.chip

pub returns-clause-stands_in : goal.returns-clause-stands_in
returns-clause-stands_in g c = stands_in_itself _
