use Rattle.ca_linked.proofs.WiredLemmas.{wired}
use Rattle.ca_linked.proofs.wiring.wire.Goals as goal

pub chip_of-requires-clause-wired : goal.chip_of-requires-clause-wired
chip_of-requires-clause-wired c =
    let judged = c.requires.judged in
    let found = judged.found in
    wired c.args.draft c.requires.drafted c.args.judged.drivers found.single judged.kept.used judged.kept.unobserved c.args.judged.order
    found.ordered
