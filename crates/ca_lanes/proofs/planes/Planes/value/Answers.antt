use Rattle.std.proofs.Common.{◌∙◌, ◌<◌, subst}
use Rattle.ca_lanes.proofs.PinLemmas.{value_in}
use Rattle.ca_lanes.proofs.planes.Planes.value.Goals as goal

pub returns-clause-first : goal.returns-clause-first
returns-clause-first c =
    c.value.ensures ∙ value_in c.args.self.now.firsts.items c.args.net c.args.lane c.index.result.now c.requires.net c.index.ensures

pub returns-clause-last : goal.returns-clause-last
returns-clause-last c =
    c.value-2.ensures
    ∙ value_in c.args.self.now.lasts.items c.args.net c.args.lane c.index-2.result.now
    (subst (λ n. c.args.net < n) c.args.self.now.one_of_each c.requires.net) c.index-2.ensures
