use Rattle.std.proofs.Common.{Some}
use Rattle.ca_credit.proofs.RoundLemmas.{closes_one}
use Rattle.ca_credit.proofs.round.Round.close.Goals as goal

pub returns-clause-stands : goal.returns-clause-stands
returns-clause-stands c =
    closes_one c.args.self.now.verdicts.items c.args.self.now.open_places c.args.self.now.left _ _ c.args.place
    (Some c.args.verdict) c.requires.stands c.requires.closed
    (record { here = c.remove-2.ensures.here; others = c.remove-2.ensures.others; room = c.remove-2.ensures.room })
    (record { here = c.remove.ensures.here; others = c.remove.ensures.others; room = c.remove.ensures.room })
    c.requires.within
