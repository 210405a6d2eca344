use Rattle.std.proofs.Common.{◌≡◌, length}
use Rattle.std.specs.List.{list_all}
use Rattle.ca_spice.specs.code.Names.{texts}
use Rattle.ca_spice.specs.Reading.{is_header_word}
use Rattle.ca_spice.proofs.reading.all_header_words.Given as goal

abbrev pub invariant-words : goal.invariant-words
invariant-words l = list_all is_header_word (texts l.rest) ≡ list_all is_header_word (texts l.words)

abbrev pub decreases-words : goal.decreases-words
decreases-words l = length l.rest
