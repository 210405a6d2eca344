use Rattle.ca_chip_stil.proofs.SiteLemmas.{set_are_inputs, seen_are_outputs}
use Rattle.ca_chip_stil.proofs.laws.sites_are_ends.Goals as goal

pub returns : goal.returns
returns c = record { set = set_are_inputs; seen = seen_are_outputs }
