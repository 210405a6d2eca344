-- What is read of the digits of a number.
use Rattle.std.proofs.Common.{◌≡◌, ℕ, ◌<◌, ◌^◌, List, IsUtf8, subst, sym, arith}
use Rattle.std.specs.Prelude.{Result, Ok}
use Rattle.std.specs.Fmt.{decimal}
use Rattle.std.specs.Str.Parse.{ParsesUnsigned}
use Rattle.std.proofs.lemmas.Fmt.{parse-decimal, IsAscii-decimal}
use Rattle.std.proofs.lemmas.Str.{IsUtf8-from_ascii}

-- a number is read as it is written
pub written_is_read : {E : Type 0} (word : List ℕ) (number : ℕ) (answer : Result ℕ E) → number < 2 ^ 32
    → word ≡ decimal number
    → ParsesUnsigned 32 10 word answer → answer ≡ Ok number
written_is_read word number answer few is parses = parse-decimal 32 number word answer few
    (omega (arith, few)) is parses

-- how a number is written is text
pub written_is_text : (word : List ℕ) (number : ℕ) → number < 2 ^ 32 → word ≡ decimal number → IsUtf8 word
written_is_text word number few is = subst IsUtf8 (sym is)
    (IsUtf8-from_ascii (decimal number) (IsAscii-decimal number (omega (arith, few))))
