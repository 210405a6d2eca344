use Rattle.ca_credit.proofs.RoundLemmas.{open_left, leaves_one, tries_one, gives_none}
use Rattle.std.proofs.Common.{false}
use Rattle.ca_credit.proofs.round.Round.pass.Goals as goal

pub returns-clause-tries : goal.returns-clause-tries
returns-clause-tries c task pair number answers =
    let was = c.args.self.now in
    let may = open_left c.args.self.now c.args.place c.requires.stands c.requires.left in
    tries_one task pair number c.args.place false c.args.self.now _ c.requires.left
    (record { here = c.remove.ensures.here; others = c.remove.ensures.others; room = c.remove.ensures.room })
    (λ is. leaves_one c.args.self.now.verdicts.items c.args.self.now.open_places c.args.self.now.left _ c.args.place is
    (record { here = c.remove.ensures.here; others = c.remove.ensures.others; room = c.remove.ensures.room }))
    (gives_none task pair number c.args.place c.args.self.now.verdicts.items may.1 answers)

pub returns-clause-stands : goal.returns-clause-stands
returns-clause-stands c =
    leaves_one c.args.self.now.verdicts.items c.args.self.now.open_places c.args.self.now.left _ c.args.place c.requires.stands
    (record { here = c.remove.ensures.here; others = c.remove.ensures.others; room = c.remove.ensures.room })
