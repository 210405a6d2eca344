-- When a netlist whose nets are numbered by hand may be wired.
use Rattle.std.specs.Prelude.{ℕ, ◌<◌, ◌^◌, List, length, get_or}
use Rattle.std.specs.List.{All}
use Rattle.ca_linked.specs.declared.parts.Body.{Body}
use Rattle.ca_linked.specs.declared.parts.Body.TheVariants.{Gate, Scan}
use Rattle.ca_linked.specs.Linked.{input_nets, output_nets}

-- each entry before this place has the property
abbrev pub AllBefore : {X : Type 0} → (X → Type 0) → ℕ → List X → Type 0
AllBefore {X} P count xs = (k : ℕ) (d : X) → k < count → P (get_or xs k d)

-- the instance is a scan instance
abbrev pub IsScan : Body → Type 0
IsScan (Gate cell inputs outputs) = ⊥
IsScan (Scan nets) = Unit {0}

-- the instance is a scan instance, and its pins are on the first nets
pub record IsFit (nets : ℕ) (body : Body) : Type 0 where
  pub scan : IsScan body
  pub inputs : All (λ net. net < nets) (input_nets body)
  pub outputs : All (λ net. net < nets) (output_nets body)
  pub few : length (output_nets body) < 2 ^ 32
