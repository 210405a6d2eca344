use Rattle.ca_linked.proofs.ready.wire_draft.Goals as goal

pub chip_of-requires-clause-wired : goal.chip_of-requires-clause-wired
chip_of-requires-clause-wired c = c.requires.wired c.in_ok-found.found.order (c.in_ok-found.ensures {u = tt}).ordered
