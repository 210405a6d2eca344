-- Lengths as words spell them: digits with at most one point, an exponent and a suffix, in units of 10^-18
-- metre.
use Rattle.std.specs.Prelude.{ℕ, ◌+◌, ◌-◌, ◌*◌, ◌/◌, ◌^◌, ◌==◌, nat_le, Bool, ◌&&◌, ◌||◌, if◌then◌else◌, List}
use Rattle.std.specs.Prelude.{[], ◌∷◌, ◌++◌, length, take, drop, fold, Option, Some, None, option_and_then}
use Rattle.std.specs.List.{prefix_len}

infixl 10 ◌>>=◌
-- the second step, if the first one gives a value
abbrev pub ◌>>=◌ : {A B : Type 0} → Option A → (A → Option B) → Option B
first >>= second = option_and_then second first

-- 0 to 9
abbrev pub is_digit : ℕ → Bool
is_digit byte = nat_le 48 byte && nat_le byte 57

-- how many digits a text begins with
abbrev pub digits_len : List ℕ → ℕ
digits_len text = prefix_len is_digit text

-- a number with one more digit at its right
abbrev pub with_digit : ℕ → ℕ → ℕ
with_digit number digit = number * 10 + (digit - 48)

-- the decimal number that digits spell
abbrev pub number_of : List ℕ → ℕ
number_of digits = fold with_digit 0 digits

-- the digits before the exponent, how many of them follow the point, and the rest of the word
pub record Mantissa : Type 0 where
  pub digits : List ℕ
  pub places : ℕ
  pub rest : List ℕ

-- the digits before the point, and those that follow one in the text after them
unfoldable pub fraction_at : List ℕ → List ℕ → Mantissa
fraction_at whole [] = record { digits = whole; places = 0; rest = [] }
fraction_at whole (byte ∷ more) = if byte == 46
    then record {
      digits = whole ++ take (digits_len more) more;
      places = digits_len more;
      rest = drop (digits_len more) more;
    }
    else record { digits = whole; places = 0; rest = byte ∷ more }

-- the digits and the point that a word begins with
abbrev pub mantissa_of : List ℕ → Mantissa
mantissa_of word = fraction_at (take (digits_len word) word) (drop (digits_len word) word)

-- by how many places the point moves to the right and to the left, and the rest of the word
pub record Shift : Type 0 where
  pub right : ℕ
  pub left : ℕ
  pub rest : List ℕ

-- the number of one or two digits, and the rest
unfoldable pub places_at : List ℕ → Option (ℕ × List ℕ)
places_at text = if digits_len text == 1 || digits_len text == 2
    then Some (number_of (take (digits_len text) text), drop (digits_len text) text)
    else None

-- an optional sign and one or two digits
unfoldable pub signed_at : List ℕ → Option Shift
signed_at [] = None
signed_at (byte ∷ more) = if byte == 45 then (do
  places ← places_at more
  Some (record { right = 0; left = places.0; rest = places.1 }))
    else if byte == 43 then (do
      places ← places_at more
      Some (record { right = places.0; left = 0; rest = places.1 }))
    else (do
      places ← places_at (byte ∷ more)
      Some (record { right = places.0; left = 0; rest = places.1 }))

-- E in either case
abbrev pub is_e : ℕ → Bool
is_e byte = byte == 69 || byte == 101

-- an exponent, or none
unfoldable pub exponent_at : List ℕ → Option Shift
exponent_at [] = Some (record { right = 0; left = 0; rest = [] })
exponent_at (byte ∷ more) = if is_e byte then signed_at more
    else Some (record { right = 0; left = 0; rest = byte ∷ more })

-- M in either case
abbrev pub is_m : ℕ → Bool
is_m byte = byte == 77 || byte == 109

-- by how many places F, P, N, U and M, in either case, move the point to the left
abbrev pub places_of : ℕ → Option ℕ
places_of byte = if byte == 70 || byte == 102 then Some 15
    else (if byte == 80 || byte == 112 then Some 12
    else (if byte == 78 || byte == 110 then Some 9
    else (if byte == 85 || byte == 117 then Some 6
    else (if is_m byte then Some 3 else None))))

-- by how many places a suffix moves the point to the left: nothing, or a letter that one M may follow
unfoldable pub suffix_of : List ℕ → Option ℕ
suffix_of [] = Some 0
suffix_of (letter ∷ []) = places_of letter
suffix_of (letter ∷ second ∷ []) = if is_m second then places_of letter else None
suffix_of (letter ∷ second ∷ third ∷ more) = None

-- a number with its point moved to the right and to the left, with what then follows it dropped
abbrev pub scaled : ℕ → ℕ → ℕ → ℕ
scaled number right left = number * 10 ^ right / 10 ^ left

-- a number from 1 to 10^24
unfoldable pub in_range : ℕ → Option ℕ
in_range number = if nat_le 1 number && nat_le number (10 ^ 24) then Some number else None

-- 1 to 32 digits
abbrev pub has_digits : List ℕ → Bool
has_digits digits = nat_le 1 (length digits) && nat_le (length digits) 32

-- the length that a word spells, if it spells one
unfoldable pub length_of : List ℕ → Option ℕ
length_of word = if has_digits (mantissa_of word).digits then (do
  exponent ← exponent_at (mantissa_of word).rest
  suffix ← suffix_of exponent.rest
  in_range (scaled (number_of (mantissa_of word).digits) (18 + exponent.right)
      ((mantissa_of word).places + exponent.left + suffix)))
    else None
