-- What a text reads as: its tokens, one after another, and the first rule that a token breaks.
use Rattle.std.specs.Prelude.{ℕ, ◌-◌, Bool, true, false, List, length, Option, Some, None, Result, Ok, Err}
use Rattle.ca_lex.specs.declared.token.Token.{Token}
use Rattle.ca_lex.specs.FirstFault.{steps_from, located}
use Rattle.ca_token.specs.declared.fault.Flaw.{Flaw}
use Rattle.ca_token.specs.Scan.{Scan, scan_of, line_at, text_of}
use Rattle.ca_verilog.specs.declared.fault.VerilogKind.{VerilogKind}
use Rattle.ca_verilog.specs.declared.fault.VerilogKind.TheVariants.{Syntax}
use Rattle.ca_verilog.specs.declared.fault.VerilogFault.{VerilogFault}
use Rattle.ca_verilog.specs.declared.fault.VerilogFault.TheVariants.{At}
use Rattle.ca_verilog.specs.declared.raw.RawNetlist.{RawNetlist}
use Rattle.ca_verilog.specs.declared.table.Place.{Place}
use Rattle.ca_verilog.specs.declared.table.Place.TheVariants.{End}
use Rattle.ca_verilog.specs.Lexeme.{lexeme_of, name_of}
use Rattle.ca_verilog.specs.Netlist.{limited}
use Rattle.ca_verilog.specs.Reading.{Reading, Step, nothing, lexeme_step}
use Rattle.ca_verilog.specs.VerilogFault.{kind_of}

-- what the next token of a text makes of what was read
abbrev pub token_step : List ℕ → Token → Reading → Step
token_step text token it =
    lexeme_step (lexeme_of token.kind (text_of token text)) (name_of token.kind (text_of token text)) it

-- the fault of a token, on its line
abbrev pub at_token : List ℕ → Token → VerilogKind → VerilogFault
at_token text token kind = At (line_at token.start text) kind

-- what these tokens make of what was read; a fault is reported at the token that has it
abbrev pub tokens_from : List ℕ → Reading → List Token → Result Reading VerilogFault
tokens_from text it tokens = steps_from (located (at_token text) (token_step text)) it tokens

-- the fault after the tokens of a text, if there is one
abbrev pub then_flaw : List ℕ → Option Flaw → Result Reading VerilogFault → Result Reading VerilogFault
then_flaw text flaw (Err fault) = Err fault
then_flaw text None (Ok it) = Ok it
then_flaw text (Some flaw) (Ok it) = Err (At (line_at flaw.place text) (kind_of flaw.kind))

-- what the tokens of a text and the fault after them make of what was read
abbrev pub reads_scan : List ℕ → Reading → Scan → Result Reading VerilogFault
reads_scan text it scan = then_flaw text scan.flaw (tokens_from text it scan.tokens)

-- the reading is after `endmodule`
abbrev pub is_end : Place → Bool
is_end End = true
is_end _ = false

-- a text may end after `endmodule` alone; a fault there is reported on the line of its last byte
abbrev pub ended : List ℕ → Result Reading VerilogFault → Result Reading VerilogFault
ended text (Err fault) = Err fault
ended text (Ok it) = elim (is_end it.place) [
  | true ↦ Ok it
  | false ↦ Err (At (line_at (length text - 1) text) Syntax)
]

-- the reading of a whole text
abbrev pub reading_of : List ℕ → Result Reading VerilogFault
reading_of text = ended text (reads_scan text nothing (scan_of text))

abbrev pub limited_of : Result Reading VerilogFault → Result RawNetlist VerilogFault
limited_of (Err fault) = Err fault
limited_of (Ok it) = limited it

-- what a text reads as, or else its first fault
abbrev pub netlist_of : List ℕ → Result RawNetlist VerilogFault
netlist_of text = limited_of (reading_of text)
