-- Words of the code beside those of `specs/Text.antt`. Private functions and proofs cite them.
use Rattle.std.specs.Prelude.{◌≡◌, [], map, Result, Ok, Err}
use Rattle.ca_stil_form.specs.Reading.{whole}
use Rattle.ca_stil_read.specs.declared.read.StilText.{StilText}
use Rattle.ca_stil_read.specs.Kept.{pair_seen}
use Rattle.ca_stil_read.specs.code.Views.{IsStopped}
use Rattle.ca_stil_read.specs.Whole.{FlatStil, FlatRest}
use Rattle.ca_stil_read.specs.code.Whole.{nothing_after}
use Rattle.ca_stil_read.specs.declared.read.TextRest.{TextRest}
use Rattle.ca_stil_read.specs.declared.stop.Stop.{Stop}
use Rattle.ca_stil_form.specs.Form.{Outcome, Got}
use Rattle.ca_stil_read.specs.Text.{text_seen}

-- what stands after the groups
abbrev pub rest_seen : TextRest → FlatRest
rest_seen rest = (rest.cells, map pair_seen rest.pairs)

-- a whole text was read as is wanted
abbrev pub IsWhole : Result StilText Stop → Outcome FlatStil → Type 0
IsWhole (Ok text) wanted = wanted ≡ Got (text_seen text) []
IsWhole (Err why) wanted = IsStopped why (nothing_after wanted)
