-- Words of the code beside those of `specs/Instances.antt`. Private functions and proofs cite them.
use Rattle.std.specs.Prelude.{ℕ, ◌≡◌, List, Some, slice_get}
use Rattle.ca_linked.specs.Linked.{LinkedChip}
use Rattle.ca_linked.specs.Instances.{IsNamedGate}

-- the library instance at a place of the order has this name
pub record HasNamed (chip : LinkedChip) (name : List ℕ) (k : ℕ) : Type 0 where
  pub u : ℕ
  pub at : slice_get chip.order k ≡ Some u
  pub is : IsNamedGate chip name u
