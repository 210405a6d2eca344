use Rattle.std.proofs.Common.{subst}
use Rattle.ca_stil.specs.declared.chip.StilChip.{StilChip}
use Rattle.ca_stil.specs.Chip.{AreOf}
use Rattle.ca_chip_pairs.proofs.FitLemmas.{of_chip}
use Rattle.ca_chip_pairs.proofs.read.read_chip_stil.Goals as goal

pub returns-clause-fits : goal.returns-clause-fits
returns-clause-fits c =
    of_chip c.sites_are_ends.ensures.set c.sites_are_ends.ensures.seen c.args.chip.now c.args.chains.now
    c.in_ok-file.file.pairs c.in_ok-file.file.expected c.requires
    (subst (λ (made : StilChip). AreOf made c.in_ok-file.file.pairs c.in_ok-file.file.expected) c.in_ok-made.ensures.exact
    c.in_ok-file.ensures.ok.are)
