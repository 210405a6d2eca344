use Rattle.ca_sweep.proofs.finder.FinderFlipFinder.next.Goals as goal

pub next_in-requires-clause-asked : goal.next_in-requires-clause-asked
next_in-requires-clause-asked g c = record {
  pair = record {
    chip_is = c.requires.chip;
    lasts_are = c.requires.lasts;
    waves_are = c.requires.waves;
    good_is = c.requires.good_is;
  };
  chip_is = c.requires.of;
  placed = c.requires.defects;
  faulty_are = c.requires.faulty_are;
}
