use Rattle.std.proofs.Common.{◌≡◌, length}
use Rattle.std.specs.List.{list_all}
use Rattle.ca_spice.specs.Names.{is_text}
use Rattle.ca_spice.specs.code.Names.{texts}
use Rattle.ca_spice.proofs.names.all_text.Given as goal

abbrev pub invariant-words : goal.invariant-words
invariant-words l = list_all is_text (texts l.rest) ≡ list_all is_text (texts l.words)

abbrev pub decreases-words : goal.decreases-words
decreases-words l = length l.rest
