-- The tokens of a text, one after another.
use Rattle.std.proofs.Common.{◌≡◌, ℕ, List, [], Option, Some, None, Result, Ok, Err, sym, ap}
use Rattle.std.proofs.Common.{◌∙◌, subst}
use Rattle.std.specs.Prelude.{option_map}
use Rattle.ca_lex.specs.declared.token.Token.{Token}
use Rattle.ca_lex.specs.FirstFault.{steps_from, located}
use Rattle.ca_lex.specs.Reading.{IsFault}
use Rattle.ca_lex.proofs.FirstFaultLemmas.{steps_from-cons, after_step, located_value, located_fault}
use Rattle.ca_token.specs.Scan.{Scan, nothing, with_token, line_at}
use Rattle.ca_token.specs.declared.fault.Flaw.{Flaw}
use Rattle.ca_verilog.specs.VerilogFault.{kind_of}
use Rattle.ca_verilog.specs.declared.fault.VerilogKind.{VerilogKind}
use Rattle.ca_verilog.specs.declared.fault.VerilogFault.{VerilogFault}
use Rattle.ca_verilog.specs.declared.fault.VerilogFault.TheVariants.{At}
use Rattle.ca_verilog.specs.Reading.{Reading}
use Rattle.ca_verilog.specs.Text.{token_step, at_token, then_flaw, reads_scan}

first_step : (text : List ℕ) (it : Reading) (token : Token) (rest : Scan) (given : Result Reading VerilogFault)
    → located (at_token text) (token_step text) token it ≡ given
    → reads_scan text it (with_token token rest) ≡ then_flaw text rest.flaw (after_step (located (at_token text) (token_step text)) given rest.tokens)
first_step text it token rest given is =
    ap (then_flaw text rest.flaw)
    (steps_from-cons (located (at_token text) (token_step text)) it token rest.tokens
    ∙ ap (λ (step : Result Reading VerilogFault). after_step (located (at_token text) (token_step text)) step rest.tokens) is)

-- a token that is taken leaves what was to be read
pub token_taken : (text : List ℕ) (it next : Reading) (token : Token) (left rest : Scan) (total : Result Reading VerilogFault) → left ≡ with_token token rest
    → token_step text token it ≡ Ok next → reads_scan text it left ≡ total → reads_scan text next rest ≡ total
token_taken text it next token left rest total is taken so_far =
    sym (first_step text it token rest (Ok next) (located_value (at_token text) (token_step text) token it next taken))
    ∙ ap (reads_scan text it) (sym is) ∙ so_far

-- a token that is refused ends the reading with its fault, or with out of memory
pub token_refused : (text : List ℕ) (it : Reading) (token : Token) (left rest : Scan) (reported : Option VerilogKind) (total : Result Reading VerilogFault) → left ≡ with_token token rest
    → IsFault reported (token_step text token it) → reads_scan text it left ≡ total → IsFault (option_map (at_token text token) reported) total
token_refused text it token left rest None total is refused so_far = tt
token_refused text it token left rest (Some kind) total is refused so_far =
    sym so_far ∙ ap (reads_scan text it) is
    ∙ first_step text it token rest (Err (at_token text token kind)) (located_fault (at_token text) (token_step text) token it (Some kind) refused)

-- the same, of the fault that the code reports
pub fault_refused : (text : List ℕ) (it : Reading) (token : Token) (left rest : Scan) (reported : Option VerilogKind) (total : Result Reading VerilogFault)
    (line : ℕ) (fault : Option VerilogFault) → left ≡ with_token token rest → IsFault reported (token_step text token it) → reads_scan text it left ≡ total
    → line ≡ line_at token.start text → fault ≡ option_map (At line) reported → IsFault fault total
fault_refused text it token left rest reported total line fault is refused so_far line_is fault_is =
    subst (λ (other : Option VerilogFault). IsFault {Reading = Reading} other total)
    (sym (fault_is ∙ ap (λ (place : ℕ). option_map (At place) reported) line_is)) (token_refused text it token left rest reported total is refused so_far)

-- a fault that no token begins with ends the reading
pub flaw_left : (text : List ℕ) (it : Reading) (left : Scan) (flaw : Flaw) (total : Result Reading VerilogFault) (line : ℕ) (kind : VerilogKind)
    → left ≡ record { tokens = []; flaw = Some flaw } → reads_scan text it left ≡ total → line ≡ line_at flaw.place text → kind ≡ kind_of flaw.kind
    → total ≡ Err (At line kind)
unfolding steps_from
flaw_left text it left flaw total line kind is so_far line_is kind_is =
    sym so_far ∙ ap (reads_scan text it) is ∙ (λ j. Err (At (sym line_is j) (sym kind_is j)))

-- nothing is left
pub end_left : (text : List ℕ) (it : Reading) (left : Scan) (total : Result Reading VerilogFault) → left ≡ nothing → reads_scan text it left ≡ total → total ≡ Ok it
unfolding steps_from
end_left text it left total is so_far = sym so_far ∙ ap (reads_scan text it) is
