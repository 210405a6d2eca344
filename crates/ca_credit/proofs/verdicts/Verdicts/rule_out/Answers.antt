use Rattle.std.proofs.Common.{List, arith, ap, ◌∙◌}
use Rattle.std.specs.Prelude.{slice_set}
use Rattle.ca_credit.specs.declared.verdict.Verdict.{Verdict}
use Rattle.ca_credit.specs.declared.verdict.Verdict.TheVariants.{Untestable}
use Rattle.ca_credit.proofs.TableLemmas.{known_within, known-set, all_known-set}
use Rattle.ca_credit.proofs.verdicts.Verdicts.rule_out.Goals as goal

pub index_mut-requires : goal.index_mut-requires
index_mut-requires c =
    let within = known_within c.self.inside.gathered.items c.args.self.now c.args.place c.self.invariant c.self.view_is c.requires in
    omega arith

pub invariant_of-self : goal.invariant_of-self
invariant_of-self c = all_known-set c.self.inside.gathered.items c.args.place Untestable c.self.invariant

pub returns : goal.returns
returns c =
    known-set c.self.inside.gathered.items c.args.place Untestable c.self.invariant
    ∙ ap (λ (verdicts : List Verdict). slice_set verdicts c.args.place Untestable) c.self.view_is
