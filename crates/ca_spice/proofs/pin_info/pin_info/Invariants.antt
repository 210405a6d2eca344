use Rattle.std.proofs.Common.{◌≡◌, length, true}
use Rattle.std.specs.List.{list_all}
use Rattle.ca_lex.specs.FirstFault.{steps_from}
use Rattle.ca_spice.specs.code.Names.{texts}
use Rattle.ca_spice.specs.PinInfo.{is_pin_word, role_step}
use Rattle.ca_spice.proofs.pin_info.pin_info.Given as goal

abbrev pub invariant-words : goal.invariant-words
invariant-words l = record {
  steps : steps_from (role_step l.nets) l.pins.items (texts l.rest) ≡ steps_from (role_step l.nets) l.fn.pins.items (texts l.words);
  count : length l.pins.items ≡ length l.fn.pins.items;
  form : list_all is_pin_word (texts l.rest) ≡ true;
}

abbrev pub decreases-words : goal.decreases-words
decreases-words l = length l.rest
