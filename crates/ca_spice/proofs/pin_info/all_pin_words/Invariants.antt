use Rattle.std.proofs.Common.{◌≡◌, length}
use Rattle.std.specs.List.{list_all}
use Rattle.ca_spice.specs.code.Names.{texts}
use Rattle.ca_spice.specs.PinInfo.{is_pin_word}
use Rattle.ca_spice.proofs.pin_info.all_pin_words.Given as goal

abbrev pub invariant-words : goal.invariant-words
invariant-words l = list_all is_pin_word (texts l.rest) ≡ list_all is_pin_word (texts l.words)

abbrev pub decreases-words : goal.decreases-words
decreases-words l = length l.rest
