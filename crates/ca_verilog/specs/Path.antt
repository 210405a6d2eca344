-- The way of a text through the table.
use Rattle.std.specs.Prelude.{List, Result, Ok, Err}
use Rattle.ca_lex.specs.FirstFault.{steps_from}
use Rattle.ca_verilog.specs.declared.fault.VerilogKind.{VerilogKind}
use Rattle.ca_verilog.specs.declared.lexeme.Lexeme.{Lexeme}
use Rattle.ca_verilog.specs.declared.table.Place.{Place}
use Rattle.ca_verilog.specs.Table.{Move, row_of}

-- where a row leads
abbrev pub led : Move → Result Place VerilogKind
led (Ok row) = Ok row.place
led (Err kind) = Err kind

-- where a token leads from a place
abbrev pub place_step : Lexeme → Place → Result Place VerilogKind
place_step lexeme place = led (row_of place lexeme)

-- where these tokens lead from a place, or the rule that the first stray one breaks
abbrev pub places_from : Place → List Lexeme → Result Place VerilogKind
places_from place lexemes = steps_from place_step place lexemes
