-- The parts of a length, as the code keeps them.
use Rattle.std.specs.Prelude.{ℕ, List, ◌≡◌, ◌<◌, ◌≤◌, ◌++◌, length, slice_index}
use Rattle.ca_lex.specs.Length.{Mantissa, Shift}
use Rattle.ca_lex.specs.declared.length.Mantissa as code
use Rattle.ca_lex.specs.declared.length.Shift as moved

-- each byte is a digit
abbrev pub AllDigits : List ℕ → Type 0
AllDigits text = (k : ℕ) → k < length text → (48 ≤ slice_index text k) × (slice_index text k ≤ 57)

-- the code's digits before and after the point are those of the definition
pub record IsMantissa (found : code.Mantissa) (wanted : Mantissa) : Type 0 where
  pub digits : found.whole.now ++ found.fraction.now ≡ wanted.digits
  pub places : length found.fraction.now ≡ wanted.places
  pub rest : found.rest.now ≡ wanted.rest
  pub whole_digits : AllDigits found.whole.now
  pub fraction_digits : AllDigits found.fraction.now

-- the definition's view of the code's shift
abbrev pub shift_of : moved.Shift → Shift
shift_of shift = record { right = shift.right; left = shift.left; rest = shift.rest.now }

-- each side is a number of two digits at most
abbrev pub IsSmallShift : moved.Shift → Type 0
IsSmallShift shift = (shift.right < 100) × (shift.left < 100)
