-- How the code keeps groups: each net has a parent of its group, at most as high as itself, and the lowest
-- net of a group has itself.
use Rattle.std.specs.Prelude.{ℕ, ◌≡◌, ◌≤◌, List, length, slice_get, Some}

abbrev pub IsForest : List ℕ → Type 0
IsForest parents = (k parent : ℕ) → slice_get parents k ≡ Some parent → parent ≤ k

-- the parents are those of these groups
pub record Realizes (parents groups : List ℕ) : Type 0 where
  pub count : length groups ≡ length parents
  pub same : (k parent : ℕ) → slice_get parents k ≡ Some parent → slice_get groups parent ≡ slice_get groups k
  pub root : (k : ℕ) → slice_get parents k ≡ Some k → slice_get groups k ≡ Some k
