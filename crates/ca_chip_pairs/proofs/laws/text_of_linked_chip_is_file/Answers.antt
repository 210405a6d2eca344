use Rattle.ca_chip_stil.specs.ChipStil.{stil_chip}
use Rattle.ca_stil_laws.proofs.ValueLemmas.{short}
use Rattle.ca_chip_pairs.proofs.FitLemmas.{of_chip}
use Rattle.ca_chip_pairs.proofs.laws.text_of_linked_chip_is_file.Goals as goal

pub returns : goal.returns
returns c = λ netlist library scan chip chains bytes value named all reads part.
    let has = c.text_of_chip_is_file.ensures (stil_chip chip chains) bytes value (c.chains_cover.ensures chip chains all)
    (short netlist library scan chip chains named all) reads part in
    record {
      file = has.file;
      is = has.is;
      fits = of_chip c.sites_are_ends.ensures.set c.sites_are_ends.ensures.seen chip chains has.file.pairs has.file.expected all has.is.are;
    }
