use Rattle.std.proofs.Common.{None, refl, subst, sym}
use Rattle.ca_net.specs.State.{value_at}
use Rattle.ca_flips.specs.Flips.{AreLastsOf}
use Rattle.ca_sim.specs.Seen.{AreNetWaves}
use Rattle.ca_examiner.proofs.flip_sim.FlipSim.next.Goals as goal

pub next-requires-clause-lasts : goal.next-requires-clause-lasts
next-requires-clause-lasts g c =
    let finder = g.F.FlipFinder.loaded c.load_finder.new.finder in
    let loaded = c.load_finder.ensures in
    subst (λ chip. AreLastsOf chip c.self.inside.sim.seen.pair (value_at finder.lasts)) (sym loaded.chip_is) (loaded.lasts refl)

pub next-requires-clause-waves : goal.next-requires-clause-waves
next-requires-clause-waves g c =
    let finder = g.F.FlipFinder.loaded c.load_finder.new.finder in
    let loaded = c.load_finder.ensures in
    subst (λ chip. AreNetWaves chip None c.self.inside.sim.seen.pair finder.waves) (sym loaded.chip_is) (loaded.waves refl)
