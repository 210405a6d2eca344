use Rattle.std.proofs.Common.{true, subst, sym}
use Rattle.ca_credit.specs.code.Table.{CreditsOne}
use Rattle.ca_credit.proofs.RoundLemmas.{open_left, tries_one, gives_some}
use Rattle.ca_credit.proofs.round.Round.credit.Goals as goal

pub returns-clause-tries : goal.returns-clause-tries
returns-clause-tries c task pair answers =
    let may = open_left c.args.self.now c.args.place c.requires.stands c.requires.left in
    tries_one task pair c.args.number c.args.place true c.args.self.now c.close.new.self c.requires.left
    c.close.ensures.left (λ is. c.close.ensures.stands)
    (subst (CreditsOne task pair c.args.number c.args.place true c.args.self.now.verdicts.items) (sym c.close.ensures.verdicts)
    (gives_some task pair c.args.number c.args.place c.args.output c.args.self.now.verdicts.items may.0 may.1 answers))
