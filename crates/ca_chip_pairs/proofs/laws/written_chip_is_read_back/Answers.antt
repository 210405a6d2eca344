use Rattle.ca_chip_stil.specs.ChipStil.{stil_chip}
use Rattle.ca_stil_laws.proofs.ValueLemmas.{of_text}
use Rattle.ca_stil_pairs.proofs.BackLemmas.{read_back}
use Rattle.ca_chip_pairs.proofs.laws.written_chip_is_read_back.Goals as goal

pub returns : goal.returns
returns c = λ netlist library scan chip chains pairs expected named of.
    read_back (stil_chip chip chains) pairs expected (c.chains_cover.ensures chip chains of.chains_are)
    (of_text c.sites_are_ends.ensures.set c.sites_are_ends.ensures.seen chip chains pairs expected of)
    (c.chip_text_is_read.ensures netlist library scan chip chains pairs expected named of)
