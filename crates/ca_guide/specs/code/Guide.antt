-- Words of the code beside those of `specs/Guide.antt`. Private functions and proofs cite them.
use Rattle.std.specs.Prelude.{ℕ, ◌≡◌, Bool, List, Option, None, Some, slice_get}
use Rattle.std.specs.List.{All}
use Rattle.ca_guide.specs.Guide.{IsUnsetIn}

-- such a bit, or none where each bit of the support is set
abbrev pub IsUnsetAnswer : List ℕ → List (Option Bool) → Option ℕ → Type 0
IsUnsetAnswer support bits None = All (λ bit. slice_get bits bit ≡ Some None → ⊥) support
IsUnsetAnswer support bits (Some bit) = IsUnsetIn support bits bit
