use Rattle.ca_examiner.proofs.FlipLemmas.{flip_kept}
use Rattle.ca_examiner.proofs.flip_sim.FlipSim.aim.Goals as goal

pub invariant_of-self : goal.invariant_of-self
invariant_of-self g c =
    flip_kept c.self.inside.sim c.aim.new.self (g.F.FlipFinder.loaded c.self.inside.finder) c.self.inside.is_loaded c.aim.ensures.kept.chip.chip c.aim.ensures.kept.chip.places
    c.aim.ensures.kept.pair c.self.invariant
