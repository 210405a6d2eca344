use Rattle.std.proofs.Common.{subst, sym}
use Rattle.ca_net.specs.State.{value_at}
use Rattle.ca_flips.specs.Flips.{AreLastsOf}
use Rattle.ca_sweep.specs.Seen.{Loaded}
use Rattle.ca_sweep.proofs.laned_finder.LanedFinderFlipFinder.find.Goals as goal

pub find-requires-clause-lasts : goal.find-requires-clause-lasts
find-requires-clause-lasts g c =
    subst (λ (s : Loaded). AreLastsOf s.chip (g.V.NetWaves.seen c.args.waves.now).pair (value_at s.lasts)) (sym c.self.view_is) c.requires.lasts
