-- Opposite and equal last values.
use Rattle.std.proofs.Common.{◌≡◌, ◌≢◌, true, false, refl}
use Rattle.ca_net.specs.declared.trit.Trit.{Trit}
use Rattle.ca_net.specs.declared.trit.Trit.TheVariants.{Zero, One, X}
use Rattle.ca_cell.specs.Exposes.{opposite_of}
use Rattle.ca_judge.specs.code.Ends.{are_opposite, are_alike}

pub record IsOpposite (a b : Trit) : Type 0 where
  pub definite : a ≢ X
  pub opposite : b ≡ opposite_of a

pub opposite_is : (a b : Trit) → are_opposite a b ≡ true → IsOpposite a b
opposite_is Zero Zero e = absurd (let clash : false ≡ true = e in cc)
opposite_is Zero One e = record { definite = λ clash. cc; opposite = refl }
opposite_is Zero X e = absurd (let clash : false ≡ true = e in cc)
opposite_is One Zero e = record { definite = λ clash. cc; opposite = refl }
opposite_is One One e = absurd (let clash : false ≡ true = e in cc)
opposite_is One X e = absurd (let clash : false ≡ true = e in cc)
opposite_is X b e = absurd (let clash : false ≡ true = e in cc)

pub is_opposite : (a : Trit) → a ≢ X → are_opposite a (opposite_of a) ≡ true
is_opposite Zero definite = refl
is_opposite One definite = refl
is_opposite X definite = absurd (definite refl)

pub opposite_definite : (a : Trit) → a ≢ X → opposite_of a ≢ X
opposite_definite Zero definite e = let clash : One ≡ X = e in cc
opposite_definite One definite e = let clash : Zero ≡ X = e in cc
opposite_definite X definite e = definite refl

pub record IsAlike (a b : Trit) : Type 0 where
  pub definite : a ≢ X
  pub same : b ≡ a

pub alike_is : (a b : Trit) → are_alike a b ≡ true → IsAlike a b
alike_is Zero Zero e = record { definite = λ clash. cc; same = refl }
alike_is Zero One e = absurd (let clash : false ≡ true = e in cc)
alike_is Zero X e = absurd (let clash : false ≡ true = e in cc)
alike_is One Zero e = absurd (let clash : false ≡ true = e in cc)
alike_is One One e = record { definite = λ clash. cc; same = refl }
alike_is One X e = absurd (let clash : false ≡ true = e in cc)
alike_is X b e = absurd (let clash : false ≡ true = e in cc)

pub is_alike : (a : Trit) → a ≢ X → are_alike a a ≡ true
is_alike Zero definite = refl
is_alike One definite = refl
is_alike X definite = absurd (definite refl)
