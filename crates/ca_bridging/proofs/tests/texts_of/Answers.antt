use Rattle.ca_bridging.proofs.tests.texts_of.Goals as goal

pub write_bridges_report-requires : goal.write_bridges_report-requires
write_bridges_report-requires c =
    let judged = c.args.judged.now in
    c.good_bridges_are_reported.ensures c.args.chip.now c.args.budget c.args.list.now judged.pairs judged.aims judged.verdicts
    c.requires.known c.requires.good
