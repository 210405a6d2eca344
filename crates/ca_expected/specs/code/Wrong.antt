-- Words of the code beside those of `specs/Wrong.antt`. Private functions and proofs cite them.
use Rattle.std.specs.Prelude.{ℕ, ◌<◌, Bool, List, [], slice_index_or}
use Rattle.ca_net.specs.declared.trit.Trit.{Trit}
use Rattle.ca_flat.specs.Chip.{Chip}
use Rattle.ca_code.specs.Filled.{trits_of}
use Rattle.ca_expected.specs.Expected.{AreGoodEnds}
use Rattle.ca_expected.specs.Wrong.{IsRightAt}

-- at the first outputs it is
abbrev pub AreRightUpTo : Chip → List Trit → List Trit → ℕ → Type 0
AreRightUpTo chip pair values count = (o : ℕ) → o < count → IsRightAt chip pair values o

-- under the first pairs all are right
abbrev pub AreRightRows : Chip → List (List Bool) → List (List Trit) → ℕ → Type 0
AreRightRows chip pairs rows count =
    (place : ℕ) → place < count
    → AreGoodEnds chip (trits_of (slice_index_or pairs place [])) (slice_index_or rows place [])
