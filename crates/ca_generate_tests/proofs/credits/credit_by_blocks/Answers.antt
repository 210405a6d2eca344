use Rattle.std.proofs.Common.{◌≡◌, ◌<◌, ◌^◌, ◌∙◌, ℕ, List, Bool, Option, length, refl, sym, ap, subst}
use Rattle.ca_credit.specs.declared.verdict.Verdict.{Verdict}
use Rattle.ca_credit.specs.Defects.{Task}
use Rattle.ca_credit.specs.Table.{CreditsBlock, Begins, Credits}
use Rattle.ca_generate_tests.proofs.credits.credit_by_blocks.Goals as goal

-- credits leave the table as long as it was
block_many : (task : Task) (pairs : List (List Bool)) (from : ℕ) (old : List (Option Verdict)) (count : ℕ)
    (new : List (Option Verdict)) → CreditsBlock task pairs from old count new → length new ≡ length old
block_many task pairs from old _ _ Begins = refl
block_many task pairs from old _ _ (Credits count pair middle new before at credits) =
    credits.as_many ∙ block_many task pairs from old count middle before

pub credit_block-requires-clause-same : goal.credit_block-requires-clause-same
credit_block-requires-clause-same g c =
    block_many (g.B.Simulator.task c.args.bench.now) c.args.pairs.now 0 c.args.credits.now _ c.credit_block-first.new.self
    c.credit_block-first.ensures.credited ∙ c.requires.same
    ∙ ap (λ (t : Task). length t.defects) (sym c.credit_block-first.ensures.task)

pub credit_block-requires-clause-few : goal.credit_block-requires-clause-few
credit_block-requires-clause-few g c =
    let many = block_many (g.B.Simulator.task c.args.bench.now) c.args.pairs.now 0 c.args.credits.now _
    c.credit_block-first.new.self c.credit_block-first.ensures.credited ∙ c.requires.same in
    subst (λ n. n < 2 ^ 32) (sym many) c.requires.few
