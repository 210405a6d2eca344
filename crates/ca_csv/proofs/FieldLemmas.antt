-- The fields of a record of two, and what is read of the digits of a number.
use Rattle.std.proofs.Common.{◌≡◌, ℕ, ◌<◌, ◌^◌, List, [], ◌∷◌, length, subst, sym, arith, IsUtf8}
use Rattle.std.specs.Prelude.{Some, Result, Ok}
use Rattle.std.specs.Fmt.{decimal}
use Rattle.std.specs.Str.Parse.{ParsesUnsigned}
use Rattle.std.proofs.lemmas.Fmt.{parse-decimal, IsAscii-decimal}
use Rattle.std.proofs.lemmas.Str.{IsUtf8-from_ascii}
use Rattle.csv.specs.Records.{field_at}
use Rattle.ca_csv.specs.Fields.{AreTwo}

-- two fields are all of a record of two
pub are_two : (xs : List (List ℕ)) (one other : List ℕ) → length xs ≡ 2 → field_at xs 0 ≡ Some one
    → field_at xs 1 ≡ Some other → AreTwo xs one other
unfolding field_at
are_two [] one other two first second = absurd (omega (arith, two))
are_two (x ∷ []) one other two first second = absurd (omega (arith, two))
are_two (x ∷ y ∷ []) one other two first second =
    let same : x ≡ one = cc in
    let too : y ≡ other = cc in
    (λ j. same j ∷ too j ∷ [])
are_two (x ∷ y ∷ z ∷ zs) one other two first second = absurd (omega (arith, two))

-- a number is read as it is written
pub written_is_read : {E : Type 0} (word : List ℕ) (number : ℕ) (answer : Result ℕ E) → number < 2 ^ 32
    → word ≡ decimal number
    → ParsesUnsigned 32 10 word answer → answer ≡ Ok number
written_is_read word number answer few is parses = parse-decimal 32 number word answer few
    (omega (arith, few)) is parses

-- how a number is written is text
pub written_is_text : (word : List ℕ) (number : ℕ) → number < 2 ^ 32 → word ≡ decimal number → IsUtf8 word
written_is_text word number few is = subst IsUtf8 (sym is)
    (IsUtf8-from_ascii (decimal number) (IsAscii-decimal number (omega (arith, few))))
