use Rattle.std.proofs.Common.{Some, ap, sym, subst, ◌∙◌}
use Rattle.ca_credit.specs.Good.{IsGood}
use Rattle.ca_generate.proofs.RuledOutLemmas.{ruled_out_good}
use Rattle.ca_generate.proofs.ruled_out.rule_out_at.Goals as goal

pub returns-then-is_aborted-clause-good : goal.returns-then-is_aborted-clause-good
returns-then-is_aborted-clause-good c = λ task pairs aims marked good.
    let aborted = c.is_aborted.ensures c.if-is_aborted.true in
    subst (IsGood task pairs aims) (sym c.rule_out.ensures)
    (ruled_out_good task pairs aims c.args.verdicts.now c.args.place aborted.0 c.requires
    (c.get.ensures ∙ ap Some aborted.1)
    (marked c.args.place (sym c.is_marked.ensures ∙ c.if-is_marked.true)) good)
