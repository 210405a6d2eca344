-- What a text reads as, and why it is refused.
use Rattle.std.specs.Prelude.{ℕ, ◌≡◌, List, map, Ok, Err}
use Rattle.ca_stil_form.specs.Reading.{whole}
use Rattle.ca_stil_form.specs.Tokens.{tokens_of}
use Rattle.ca_stil_form.specs.Value.{signal_seen}
use Rattle.ca_stil_form.specs.Whole.{Stil, stil_form}
use Rattle.ca_stil_read.specs.declared.read.StilText.{StilText}
use Rattle.ca_stil_read.specs.declared.read.TextFault.{TextFault}
use Rattle.ca_stil_read.specs.declared.read.TextFault.TheVariants as fault
use Rattle.ca_stil_read.specs.Groups.{scan_in}
use Rattle.ca_stil_read.specs.Kept.{pair_seen}
use Rattle.ca_stil_read.specs.Line.{fault_line}
use Rattle.ca_stil_read.specs.Whole.{FlatStil, flat_stil}

-- the values of a text that was read, those of each pair one after another
abbrev pub text_seen : StilText → FlatStil
text_seen text = (
  map signal_seen text.signals,
  (
    text.groups.inputs,
    (text.groups.outputs, (scan_in text.groups.scan, (text.cells, map pair_seen text.pairs))),
  ),
)

-- the text is of the form, for these values
pub record ReadsAs (bytes : List ℕ) (text : StilText) : Type 0 where
  pub value : Stil
  pub reads : whole stil_form (tokens_of bytes) ≡ Ok value
  pub same : text_seen text ≡ flat_stil value

-- it isn't, and this is the line of its first faulty token
pub record IsFaultyAt (bytes : List ℕ) (line : ℕ) : Type 0 where
  pub left : ℕ
  pub faulty : whole stil_form (tokens_of bytes) ≡ Err left
  pub is_line : line ≡ fault_line bytes left

abbrev pub IsCause : List ℕ → TextFault → Type 0
IsCause bytes (fault.At line) = IsFaultyAt bytes line
IsCause bytes fault.NoMemory = Unit {0}
