-- How far a walk along those that feed has come. Only the proofs of the code cite this.
use Rattle.std.specs.Prelude.{ℕ, ◌-◌, List}
use Rattle.ca_linked.specs.declared.order.Mark.{Mark}
use Rattle.ca_linked.specs.declared.order.Visit.{Visit}

-- how far each has come, those that are on the trail, and those that are in order
pub record WalkState : Type 0 where
  pub marks : List Mark
  pub trail : List Visit
  pub order : List ℕ
