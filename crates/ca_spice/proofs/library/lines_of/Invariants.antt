use Rattle.std.proofs.Common.{◌≡◌, drop}
use Rattle.ca_spice.specs.Reading.{nothing, lines_from}
use Rattle.ca_spice.specs.code.Views.{reading_seen}
use Rattle.ca_spice.proofs.library.lines_of.Given as goal

abbrev pub invariant-lines : goal.invariant-lines
invariant-lines l = lines_from l.table (reading_seen l.reading) (drop l.line-index l.lines) ≡ lines_from l.table nothing l.lines
