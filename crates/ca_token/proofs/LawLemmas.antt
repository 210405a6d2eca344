-- The first fault of a text.
use Rattle.std.proofs.Common.{◌≡◌, ℕ, ◌-◌, List, true, take, Option, Some, None, Result, Ok, Err, arith, refl}
use Rattle.std.proofs.Common.{sym, ap, ◌∙◌}
use Rattle.ca_lex.specs.declared.token.Token.{Token}
use Rattle.ca_token.specs.declared.fault.Flaw as fault
use Rattle.ca_token.specs.declared.fault.LexKind.{LexKind}
use Rattle.ca_token.specs.declared.fault.LexFault.{LexFault}
use Rattle.ca_token.specs.declared.fault.LexFault.TheVariants.{At}
use Rattle.ca_token.specs.LexFault.{fault_at, whole, tokens_of}
use Rattle.ca_token.specs.Scan.{scan_from, scan_of}
use Rattle.ca_token.proofs.BeforeLemmas.{before_flaw}

-- the bytes before it are a list of tokens
pub bytes_before : (text : List ℕ) (at line : ℕ) (kind : LexKind) → tokens_of text ≡ Err (At at line kind)
    → tokens_of (take at text) ≡ Ok (scan_of text).tokens
bytes_before text at line kind reported = by (scan_of text).flaw refl reported
  where
    by : (flaw : Option fault.Flaw) → (scan_of text).flaw ≡ flaw
        → elim flaw as (λ _. Result (List Token) LexFault) [ None ↦ Ok (scan_of text).tokens | Some flaw ↦ Err (fault_at text flaw) ]
        ≡ Err (At at line kind) → tokens_of (take at text) ≡ Ok (scan_of text).tokens
    by None is reported = absurd cc
    by (Some flaw) is reported =
        let same : flaw.at ≡ at = cc in
        let cut : flaw.at - 0 ≡ at = omega (arith, same) in
        ap (whole (take at text))
        (ap (λ (count : ℕ). scan_from true 0 0 (take count text)) (sym cut) ∙ before_flaw true 0 0 text flaw is)
