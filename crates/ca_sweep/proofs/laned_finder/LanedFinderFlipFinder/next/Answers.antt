use Rattle.std.proofs.Common.{subst, sym}
use Rattle.ca_sweep.specs.code.Asked.{AreAsked}
use Rattle.ca_sweep.proofs.laned_finder.LanedFinderFlipFinder.next.Goals as goal

pub next_in-requires-clause-asked : goal.next_in-requires-clause-asked
next_in-requires-clause-asked g c =
    subst (AreAsked (g.V.NetWaves.seen c.args.waves.now) c.args.defects.now) (sym c.self.view_is) (record {
      pair = record {
        chip_is = c.requires.chip;
        lasts_are = c.requires.lasts;
        waves_are = c.requires.waves;
        good_is = c.requires.good_is;
      };
      chip_is = c.requires.of;
      placed = c.requires.defects;
      faulty_are = c.requires.faulty_are;
    })
