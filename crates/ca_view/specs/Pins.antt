-- The nets of the pins of the core's instances.
use Rattle.std.specs.Prelude.{ℕ, List}

-- the number of nets and of instances, and the nets of the input pins and of the output pins of each instance
pub record Pins : Type 0 where
  pub nets : ℕ
  pub count : ℕ
  pub inputs : List (List ℕ)
  pub outputs : List (List ℕ)
