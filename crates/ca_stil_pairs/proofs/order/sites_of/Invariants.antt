use Rattle.ca_stil_pairs.specs.code.Places.{AreSitesUpTo}
use Rattle.ca_stil_pairs.proofs.order.sites_of.Given as goal

abbrev pub invariant-loop-i : goal.invariant-loop-i
invariant-loop-i l = AreSitesUpTo l.order l.i l.chip.scan_count l.sites.items
