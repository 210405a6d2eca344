-- The grammar of a length: digits, an optional point and digits, an optional exponent and an optional suffix,
-- one after another.
use Rattle.std.specs.Prelude.{ℕ, ◌≡◌, ◌≤◌, ◌+◌, ◌*◌, ◌/◌, ◌^◌, ◌⊎◌, true, List, [], ◌∷◌, ◌++◌, length, Some}
use Rattle.std.specs.Prelude.{codes}
use Rattle.std.specs.List.{AllPass}
use Rattle.ca_lex.specs.Length.{is_digit, is_e, is_m, number_of, places_of}

-- digits alone, or nothing
abbrev pub AreDigits : List ℕ → Type 0
AreDigits text = AllPass is_digit text

-- a point, or none and then nothing after it
abbrev pub IsPoint : List ℕ → List ℕ → Type 0
IsPoint point fraction = (point ≡ codes ".") ⊎ ((point ≡ []) × (fraction ≡ []))

-- one or two digits
pub record AreOneOrTwoDigits (text : List ℕ) : Type 0 where
  pub digits : AreDigits text
  pub some : 1 ≤ length text
  pub few : length text ≤ 2

-- nothing, or E, an optional sign and one or two digits: the point moves this many places to the right and to
-- the left
pub data IsExponent : List ℕ → ℕ → ℕ → Type 0 where
  NoExponent : IsExponent [] 0 0
  Unsigned : (letter : ℕ) (digits : List ℕ) → is_e letter ≡ true → AreOneOrTwoDigits digits
      → IsExponent (letter ∷ digits) (number_of digits) 0
  Plus : (letter : ℕ) (digits : List ℕ) → is_e letter ≡ true → AreOneOrTwoDigits digits
      → IsExponent (letter ∷ 43 ∷ digits) (number_of digits) 0
  Minus : (letter : ℕ) (digits : List ℕ) → is_e letter ≡ true → AreOneOrTwoDigits digits
      → IsExponent (letter ∷ 45 ∷ digits) 0 (number_of digits)

-- nothing, or one of the letters F, P, N, U and M, which one further M may follow: the point moves this many
-- places to the left
pub data IsSuffix : List ℕ → ℕ → Type 0 where
  NoSuffix : IsSuffix [] 0
  OneLetter : (letter places : ℕ) → places_of letter ≡ Some places → IsSuffix (letter ∷ []) places
  WithM : (letter second places : ℕ) → places_of letter ≡ Some places → is_m second ≡ true
      → IsSuffix (letter ∷ second ∷ []) places

-- the word is these parts, one after another, and the value is theirs in units of 10^-18 metre, with finer
-- digits dropped
pub record IsLength (word : List ℕ) (value : ℕ) : Type 0 where
  pub whole : List ℕ
  pub point : List ℕ
  pub fraction : List ℕ
  pub exponent : List ℕ
  pub suffix : List ℕ
  pub right : ℕ
  pub left : ℕ
  pub places : ℕ
  pub joined : word ≡ whole ++ point ++ fraction ++ exponent ++ suffix
  pub whole_form : AreDigits whole
  pub point_form : IsPoint point fraction
  pub fraction_form : AreDigits fraction
  pub exponent_form : IsExponent exponent right left
  pub suffix_form : IsSuffix suffix places
  pub some : 1 ≤ length (whole ++ fraction)
  pub few : length (whole ++ fraction) ≤ 32
  pub scale : value
      ≡ number_of (whole ++ fraction) * 10 ^ (18 + right) / 10 ^ (length fraction + left + places)
  pub least : 1 ≤ value
  pub most : value ≤ 10 ^ 24
