-- Floods: the nets to which links lead from some roots, through nets that may be entered.
use Rattle.std.specs.Prelude.{ℕ, Bool}

-- `count` nets; which of them may be entered, and at which of them the flood ends
pub record Area : Type 0 where
  pub count : ℕ
  pub enters : ℕ → Bool
  pub ends : ℕ → Bool
