use Rattle.std.proofs.Common.{Some}
use Rattle.ca_credit.proofs.RoundLemmas.{stays_open}
use Rattle.ca_credit.proofs.round.Round.settle.Goals as goal

pub returns-else-is_closing-clause-stands : goal.returns-else-is_closing-clause-stands
returns-else-is_closing-clause-stands c =
    stays_open c.args.self.now.verdicts.items c.args.self.now.open_places c.args.self.now.left c.args.place
    (Some c.args.verdict) c.requires.stands (c.is_closing.ensures.open_yet c.if-is_closing.false) c.requires.uncredited c.requires.within
