-- Blocks that stand one after another, in the order of a list.
use Rattle.std.specs.Prelude.{ℕ, ◌+◌, ◌==◌, if◌then◌else◌, List, [], ◌∷◌}

-- where the block of u begins, if each number of the list has a block of its size
abbrev pub block_start : (ℕ → ℕ) → List ℕ → ℕ → ℕ
block_start size [] u = 0
block_start size (w ∷ more) u = if w == u then 0 else size w + block_start size more u
