use Rattle.std.proofs.Common.{◌∙◌, sym, below_more}
use Rattle.std.proofs.lemmas.Bool.{false≢true}
use Rattle.ca_matrix.proofs.SingleLemmas.{nowhere_past}
use Rattle.ca_matrix.proofs.single.differ.Goals as goal

pub loop-output-preserved : goal.loop-output-preserved
loop-output-preserved c =
    below_more _ _ c.loop-output.invariant (λ shown. false≢true (sym c.if-differ_at.false ∙ c.differ_at.ensures.1 shown))

pub returns : goal.returns
returns c = (
  λ no. absurd (false≢true no),
  λ found. absurd (nowhere_past c.args.good.now c.args.faulty.now c.loop-output.output c.loop-output-test.false c.loop-output.invariant found),
)
