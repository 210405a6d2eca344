-- What a text that was read as subcircuits or as a netlist gives.
use Rattle.std.proofs.Common.{ℕ, ◌≡◌, ◌-◌, ◌⊎◌, ◌∙◌, inl, inr, refl, sym, ap, Bool, true, false, cond, List, [], ◌∷◌, length, map, Option, Some}
use Rattle.std.proofs.Common.{None, Result, Ok, Err}
use Rattle.std.specs.Prelude.{nat_lt}
use Rattle.std.specs.List.{AllByRecursion}
use Rattle.ca_lex.specs.declared.token.Token.{Token}
use Rattle.ca_lex.specs.FirstFault.{located}
use Rattle.ca_lex.proofs.FirstFaultLemmas.{found}
use Rattle.ca_token.specs.declared.fault.Flaw.{Flaw}
use Rattle.ca_token.specs.Scan.{scan_of, line_at}
use Rattle.ca_cell.specs.declared.library.Entry.{Entry}
use Rattle.ca_cell.specs.declared.library.Entry.TheVariants.{Sound, Refused}
use Rattle.ca_cell.specs.declared.rule.CellRule.{CellRule}
use Rattle.ca_cell.specs.declared.raw.RawCell.{RawCell}
use Rattle.ca_cell.specs.Library.{Named, raw_of, IsEntry}
use Rattle.ca_cell.specs.Rules.{IsRaw, KeepsRules, IsFirstBroken}
use Rattle.ca_cell.proofs.BrokenLemmas.{broken_or_kept}
use Rattle.ca_spice.specs.Reading as spice
use Rattle.ca_spice.specs.Views.{subcircuit_seen}
use Rattle.ca_verilog.specs.declared.fault.VerilogFault.{VerilogFault}
use Rattle.ca_verilog.specs.declared.fault.VerilogFault.TheVariants.{At, TooManyNets, NoMemory}
use Rattle.ca_verilog.specs.declared.fault.VerilogKind.TheVariants.{Syntax}
use Rattle.ca_verilog.specs.declared.netlist.TheConstants.{MOST_BITS}
use Rattle.ca_verilog.specs.Netlist.{bits_with, first_bits, netlist_with, limited}
use Rattle.ca_verilog.specs.Reading.{Reading, Step, nothing}
use Rattle.ca_verilog.specs.Text.{token_step, at_token, tokens_from, then_flaw, is_end, ended, limited_of, netlist_of}
use Rattle.ca_flow_laws.proofs.RawLemmas.{AreRaw}

-- a subcircuit has an entry
record HasEntry (raw : RawCell) : Type 0 where
  pub entry : Entry
  pub is : IsEntry entry
  pub raw_is : raw_of entry ≡ raw

entry_for : (raw : RawCell) → IsRaw raw → HasEntry raw
entry_for raw is = by (broken_or_kept raw)
  where
    by : ((rule : CellRule) × IsFirstBroken raw rule) ⊎ KeepsRules raw → HasEntry raw
    by (inl broken) = record { entry = Refused raw broken.0; is = (is, broken.1); raw_is = refl }
    by (inr kept) = record { entry = Sound raw; is = (is, kept); raw_is = refl }

-- subcircuits make a library
pub record IsMade (reading : spice.Reading) : Type 0 where
  pub library : List Named
  pub seen : map subcircuit_seen library ≡ reading.cells
  pub entries : AllByRecursion (λ named. IsEntry named.entry) library

pub library_made : (reading : spice.Reading) → AreRaw reading → IsMade reading
library_made reading raw =
    let it = by reading.cells raw in record { library = it.library; seen = it.seen; entries = it.entries }
  where
    by : (cells : List _) → AreRaw (record { cells = cells; current = None }) → IsMade (record { cells = cells; current = None })
    by [] all = record { library = []; seen = refl; entries = tt }
    by (cell ∷ cells) all =
        let rest = by cells all.1 in
        let found = entry_for cell.raw all.0 in
        record {
          library = record { name = cell.name; entry = found.entry } ∷ rest.library;
          seen = λ j. record { name = cell.name; raw = found.raw_is j } ∷ rest.seen j;
          entries = (found.is, rest.entries);
        }

-- a located fault isn't that of memory
located_memory : (text : List ℕ) (here : Token) (given : Step)
    → elim given as (λ _. Result Reading VerilogFault) [ Ok next ↦ Ok next | Err kind ↦ Err (at_token text here kind) ] ≡ Err NoMemory → ⊥
located_memory text here (Ok next) reported = cc
located_memory text here (Err kind) reported = cc

tokens_memory : (text : List ℕ) (tokens : List Token) → tokens_from text nothing tokens ≡ Err NoMemory → ⊥
tokens_memory text tokens reported =
    let first = found (located (at_token text) (token_step text)) nothing tokens NoMemory reported in
    located_memory text first.here (token_step text first.here first.so_far) first.broken

-- the definition of a reading never says that memory was wanting
pub netlist_has_memory : (text : List ℕ) → netlist_of text ≡ Err NoMemory → ⊥
unfolding limited
netlist_has_memory text reported = by (tokens_from text nothing (scan_of text).tokens) refl reported
  where
    by_limit : (it : Reading) → (many : Bool)
        → cond many (Err (TooManyNets (bits_with 0 it.buses))) (Ok (netlist_with (first_bits 0 it.buses) it)) ≡ Err NoMemory → ⊥
    by_limit it true reported = cc
    by_limit it false reported = cc

    by_end : (it : Reading) (over : Bool)
        → limited_of (elim over as (λ _. Result Reading VerilogFault) [ true ↦ Ok it | false ↦ Err (At (line_at (length text - 1) text) Syntax) ])
        ≡ Err NoMemory → ⊥
    by_end it true reported = by_limit it (nat_lt MOST_BITS (bits_with 0 it.buses)) reported
    by_end it false reported = cc

    by_flaw : (it : Reading) (flaw : Option Flaw) → limited_of (ended text (then_flaw text flaw (Ok it))) ≡ Err NoMemory → ⊥
    by_flaw it None reported = by_end it (is_end it.place) reported
    by_flaw it (Some flaw) reported = cc

    fault_kept : (flaw : Option Flaw) (fault : VerilogFault) → limited_of (ended text (then_flaw text flaw (Err fault))) ≡ Err fault
    fault_kept None fault = refl
    fault_kept (Some flaw) fault = refl

    by : (given : Result Reading VerilogFault) → tokens_from text nothing (scan_of text).tokens ≡ given
        → limited_of (ended text (then_flaw text (scan_of text).flaw given)) ≡ Err NoMemory → ⊥
    by (Ok it) read reported = by_flaw it (scan_of text).flaw reported
    by (Err fault) read reported =
        let both = sym (fault_kept (scan_of text).flaw fault) ∙ reported in
        let same : fault ≡ NoMemory = cc in
        tokens_memory text (scan_of text).tokens (read ∙ ap (λ (it : VerilogFault). Err it) same)
