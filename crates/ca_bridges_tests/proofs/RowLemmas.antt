-- A list of no rows has different ones.
use Rattle.std.proofs.Common.{◌≡◌, ℕ, List, [], sym, subst}
use Rattle.std.specs.Prelude.{map}
use Rattle.std.specs.List.{IsDistinct}
use Rattle.std.specs.Str.{bytes_eq}

pub none_double : {X : Type 0} (name : X → List ℕ) (rows : List X) → rows ≡ [] → IsDistinct bytes_eq (map name rows)
unfolding IsDistinct
none_double name rows none = subst (λ xs. IsDistinct bytes_eq (map name xs)) (sym none) tt
