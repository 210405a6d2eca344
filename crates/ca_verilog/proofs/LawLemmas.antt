-- The first fault of a text.
use Rattle.std.proofs.Common.{◌≡◌, ℕ, ◌-◌, List, Bool, true, false, cond, Option, Some, None, Result, Ok}
use Rattle.std.proofs.Common.{Err, refl, sym, ap, ◌∙◌, inl, inr, length}
use Rattle.std.specs.Prelude.{nat_lt}
use Rattle.ca_lex.specs.declared.token.Token.{Token}
use Rattle.ca_lex.specs.FirstFault.{located, IsFirstFault}
use Rattle.ca_lex.proofs.FirstFaultLemmas as first
use Rattle.ca_token.specs.declared.fault.Flaw.{Flaw}
use Rattle.ca_token.specs.Scan.{scan_of, line_at}
use Rattle.ca_verilog.specs.declared.fault.VerilogKind.{VerilogKind}
use Rattle.ca_verilog.specs.declared.fault.VerilogKind.TheVariants.{Syntax}
use Rattle.ca_verilog.specs.declared.fault.VerilogFault.{VerilogFault}
use Rattle.ca_verilog.specs.declared.fault.VerilogFault.TheVariants.{At, TooManyNets}
use Rattle.ca_verilog.specs.declared.netlist.TheConstants.{MOST_BITS}
use Rattle.ca_verilog.specs.declared.raw.RawNetlist.{RawNetlist}
use Rattle.ca_verilog.specs.Netlist.{bits_with, first_bits, netlist_with, limited}
use Rattle.ca_verilog.specs.Reading.{Reading, Step, nothing}
use Rattle.ca_verilog.specs.Text.{token_step, at_token, tokens_from, then_flaw, is_end, ended}
use Rattle.ca_verilog.specs.Text.{limited_of, netlist_of}
use Rattle.ca_verilog.specs.Laws.{IsFirstFaulty}

-- a located step that has a fault has it at its token
broken_at : (text : List ℕ) (here : Token) (line : ℕ) (kind : VerilogKind) (step : Step)
    → elim step as (λ _. Result Reading VerilogFault) [ Ok next ↦ Ok next | Err reported ↦ Err (at_token text here reported) ] ≡ Err (At line kind)
    → (step ≡ Err kind) × (line_at here.start text ≡ line)
broken_at text here line kind (Ok next) reported = absurd cc
broken_at text here line kind (Err other) reported = (cc, cc)

-- too many bits are no fault of a line
not_limited : (it : Reading) (line : ℕ) (kind : VerilogKind) → limited it ≡ Err (At line kind) → ⊥
unfolding limited
not_limited it line kind = by (nat_lt MOST_BITS (bits_with 0 it.buses))
  where
    by : (many : Bool) → cond many (Err (TooManyNets (bits_with 0 it.buses))) (Ok (netlist_with (first_bits 0 it.buses) it)) ≡ Err (At line kind) → ⊥
    by true reported = cc
    by false reported = cc

found_end : (text : List ℕ) (line : ℕ) (kind : VerilogKind) (it : Reading) → tokens_from text nothing (scan_of text).tokens ≡ Ok it → (scan_of text).flaw ≡ None
    → (is_over : Bool) → is_end it.place ≡ is_over
    → limited_of (elim is_over as (λ _. Result Reading VerilogFault) [ true ↦ Ok it | false ↦ Err (At (line_at (length text - 1) text) Syntax) ]) ≡ Err (At line kind)
    → IsFirstFaulty text line kind
found_end text line kind it read whole true is reported = absurd (not_limited it line kind reported)
found_end text line kind it read whole false is reported =
    inr (inr (record { so_far = it; read = read; whole = whole; early = is; number = cc; same_kind = cc }))

found_flaw : (text : List ℕ) (line : ℕ) (kind : VerilogKind) (it : Reading) → tokens_from text nothing (scan_of text).tokens ≡ Ok it
    → (flaw : Option Flaw) → (scan_of text).flaw ≡ flaw → limited_of (ended text (then_flaw text flaw (Ok it))) ≡ Err (At line kind) → IsFirstFaulty text line kind
found_flaw text line kind it read None whole reported = found_end text line kind it read whole (is_end it.place) refl reported
found_flaw text line kind it read (Some flaw) whole reported =
    inr (inl (record { so_far = it; flaw = flaw; read = read; found = whole; number = cc; same_kind = cc }))

fault_kept : (text : List ℕ) (flaw : Option Flaw) (fault : VerilogFault) → limited_of (ended text (then_flaw text flaw (Err fault))) ≡ Err fault
fault_kept text None fault = refl
fault_kept text (Some flaw) fault = refl

inside : (one other : VerilogFault) → ◌≡◌ {A = Result RawNetlist VerilogFault} (Err one) (Err other) → one ≡ other
inside one other is = cc

found_in : (text : List ℕ) (line : ℕ) (kind : VerilogKind) (given : Result Reading VerilogFault) → tokens_from text nothing (scan_of text).tokens ≡ given
    → limited_of (ended text (then_flaw text (scan_of text).flaw given)) ≡ Err (At line kind) → IsFirstFaulty text line kind
found_in text line kind (Ok it) read reported = found_flaw text line kind it read (scan_of text).flaw refl reported
found_in text line kind (Err fault) read reported =
    let same : fault ≡ At line kind = inside fault (At line kind) (sym (fault_kept text (scan_of text).flaw fault) ∙ reported) in
    let it : IsFirstFault (located (at_token text) (token_step text)) nothing (scan_of text).tokens (At line kind) =
    first.found (located (at_token text) (token_step text)) nothing (scan_of text).tokens (At line kind) (read ∙ ap (λ (f : VerilogFault). Err f) same) in
    let at : (token_step text it.here it.so_far ≡ Err kind) × (line_at it.here.start text ≡ line) =
    broken_at text it.here line kind (token_step text it.here it.so_far) it.broken in
    inl (record {
      before = it.before;
      here = it.here;
      after = it.after;
      so_far = it.so_far;
      whole = it.whole;
      number = at.1;
      read = it.read;
      broken = at.0;
    })

-- a fault on a line is the first of the text
pub found : (text : List ℕ) (line : ℕ) (kind : VerilogKind) → netlist_of text ≡ Err (At line kind) → IsFirstFaulty text line kind
found text line kind reported = found_in text line kind (tokens_from text nothing (scan_of text).tokens) refl reported

-- the first fault of a text is reported
pub only : (text : List ℕ) (line : ℕ) (kind : VerilogKind) → IsFirstFaulty text line kind → netlist_of text ≡ Err (At line kind)
only text line kind (inl it) =
    let at : located (at_token text) (token_step text) it.here it.so_far ≡ Err (At line kind) =
    ap (λ (step : Step). elim step as (λ _. Result Reading VerilogFault) [ Ok next ↦ Ok next | Err reported ↦ Err (at_token text it.here reported) ]) it.broken
    ∙ ap (λ (n : ℕ). Err (At n kind)) it.number in
    let read : tokens_from text nothing (scan_of text).tokens ≡ Err (At line kind) =
    first.only (located (at_token text) (token_step text)) nothing (scan_of text).tokens (At line kind)
    (record { before = it.before; here = it.here; after = it.after; so_far = it.so_far; whole = it.whole; read = it.read; broken = at }) in
    ap (λ (given : Result Reading VerilogFault). limited_of (ended text (then_flaw text (scan_of text).flaw given))) read
    ∙ fault_kept text (scan_of text).flaw (At line kind)
only text line kind (inr (inl it)) =
    ap (λ (given : Result Reading VerilogFault). limited_of (ended text (then_flaw text (scan_of text).flaw given))) it.read
    ∙ ap (λ (flaw : Option Flaw). limited_of (ended text (then_flaw text flaw (Ok it.so_far)))) it.found
    ∙ (λ j. Err (At (it.number j) (it.same_kind j)))
only text line kind (inr (inr it)) =
    ap (λ (given : Result Reading VerilogFault). limited_of (ended text (then_flaw text (scan_of text).flaw given))) it.read
    ∙ ap (λ (flaw : Option Flaw). limited_of (ended text (then_flaw text flaw (Ok it.so_far)))) it.whole
    ∙ ap (λ (is_over : Bool). limited_of (elim is_over as (λ _. Result Reading VerilogFault) [ true ↦ Ok it.so_far | false ↦ Err (At (line_at (length text - 1) text) Syntax) ])) it.early
    ∙ (λ j. Err (At (it.number j) (sym it.same_kind j)))
