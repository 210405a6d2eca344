-- What only proofs of code cite: values of nets that change, and the readers of these nets, which are due.
use Rattle.std.specs.Prelude.{ℕ, ◌+◌, ◌^◌, ◌≡◌, ◌<◌, ◌≤◌, ◌⊎◌, List, length}
use Rattle.ca_net.specs.declared.trit.Trit.{Trit}
use Rattle.ca_net.specs.declared.node.NodeKind.TheVariants.{Input}
use Rattle.ca_net.specs.State.{value_at}
use Rattle.ca_cell.specs.Row.{vector_of}
use Rattle.ca_flat.specs.Chip.{Chip, cell_at, inputs_at, outputs_at, net_of, output_net, count_of, net_kind}
use Rattle.ca_flips.specs.Static.{EndsByLast}
use Rattle.ca_flips.specs.Flips.{IsAfter, vector_at, KeepsGood, IsEvaluated}
use Rattle.ca_view.specs.Linked.{Reads, IsPlaced}
use Rattle.ca_places.specs.declared.place_set.PlaceSet.{PlaceSet}
use Rattle.ca_sweep.specs.declared.values.Values.{Values}
use Rattle.ca_places.specs.PlaceSet.{Has, HoldsUpTo}

-- the instance at this place is due
abbrev pub IsDue : PlaceSet → ℕ → Type 0
IsDue due place = Has due place

-- a value for each net, and room for each place
pub record AreRoomy (chip : Chip) (values : Values) : Type 0 where
  pub nets : length values.values ≡ length chip.nets
  pub places : HoldsUpTo values.due (count_of chip + 1)

-- the readers of the net are due, and all that was, and nothing else
pub record IsMarked (chip : Chip) (place_of : ℕ → ℕ) (net : ℕ) (old new : PlaceSet) : Type 0 where
  pub room : (count : ℕ) → HoldsUpTo old count → HoldsUpTo new count
  pub kept : (place : ℕ) → IsDue old place → IsDue new place
  pub readers : (w : ℕ) → Reads chip w net → IsDue new (place_of w)
  pub added : (place : ℕ) → IsDue new place
      → IsDue old place ⊎ ((w : ℕ) × Reads chip w net × (place_of w ≡ place))

-- Some nets are given values: the readers of those that change are due, and all that was. What comes to be
-- due reads a net with the property.
pub record Changes (chip : Chip) (place_of : ℕ → ℕ) (given : ℕ → Type 0) (old new : Values) : Type 0 where
  pub nets : length new.values ≡ length old.values
  pub places : (count : ℕ) → HoldsUpTo old.due count → HoldsUpTo new.due count
  pub changed : (net : ℕ) → (value_at new.values net ≡ value_at old.values net) ⊎ given net
  pub others : (net : ℕ) → ¬ (given net) → value_at new.values net ≡ value_at old.values net
  pub kept : (place : ℕ) → IsDue old.due place → IsDue new.due place
  pub readers : (w net : ℕ) → Reads chip w net
      → (value_at new.values net ≡ value_at old.values net) ⊎ IsDue new.due (place_of w)
  pub added : (place : ℕ) → IsDue new.due place → IsDue old.due place
      ⊎ ((w : ℕ) × (net : ℕ) × given net × Reads chip w net × (place_of w ≡ place))

-- the net is given a value
pub record IsPut (chip : Chip) (place_of : ℕ → ℕ) (net : ℕ) (value : Trit) (old new : Values) : Type 0 where
  pub here : value_at new.values net ≡ value
  pub changes : Changes chip place_of (λ other. other ≡ net) old new

-- the net is on one of the first `count` output pins of the instance
pub record IsOutputBelow (chip : Chip) (u count net : ℕ) : Type 0 where
  pub output : ℕ
  pub within : output < count
  pub on : output_net chip u output ≡ net

-- the nets of the first `count` output pins of an instance are given these values
pub record IsWrittenTo (chip : Chip) (place_of : ℕ → ℕ) (u count : ℕ) (outputs : ℕ → Trit)
    (old new : Values) : Type 0 where
  pub written : (output : ℕ) → output < count
      → value_at new.values (output_net chip u output) ≡ outputs output
  pub changes : Changes chip place_of (IsOutputBelow chip u count) old new

-- so are those of all its output pins
abbrev pub IsWritten : Chip → (ℕ → ℕ) → ℕ → (ℕ → Trit) → Values → Values → Type 0
IsWritten chip place_of u outputs old new = IsWrittenTo chip place_of u (outputs_at chip u) outputs old new

-- the vector of this many inputs is that of the number
pub record IsNumberOf (inputs : ℕ) (vector : List Trit) (number : ℕ) : Type 0 where
  pub within : number < 2 ^ inputs
  pub vector_is : vector_of inputs number ≡ vector

-- the output nets of the instance are given what its cell ends with by the values of its input nets alone
pub record IsEvaluatedOut (chip : Chip) (place_of : ℕ → ℕ) (w : ℕ) (old new : Values) : Type 0 where
  pub outputs : ℕ → Trit
  pub written : IsWritten chip place_of w outputs old new
  pub ends : (output : ℕ) → output < outputs_at chip w
      → EndsByLast (cell_at chip w) (vector_at chip w (value_at old.values)) output (outputs output)

-- so is the instance at a place
pub record IsEvaluatedAt (chip : Chip) (place_of : ℕ → ℕ) (place : ℕ) (old new : Values) : Type 0 where
  pub instance : ℕ
  pub placed : IsPlaced chip place_of instance
  pub at : place_of instance ≡ place
  pub evaluated : IsEvaluatedOut chip place_of instance old new

-- the net is an output net of an instance that is due
pub record IsTouched (chip : Chip) (place_of : ℕ → ℕ) (due : PlaceSet) (net : ℕ) : Type 0 where
  pub instance : ℕ
  pub placed : IsPlaced chip place_of instance
  pub is_due : IsDue due (place_of instance)
  pub out : IsOutputBelow chip instance (outputs_at chip instance) net

-- Values that are found an instance at a time, in the order, where the output pins of u have these: before
-- this place each instance keeps good values or is evaluated. From there on the output nets have good values,
-- and so have the input nets unless the instance is due. What is due is after u. Only output nets of u and
-- of instances that are due have other values than the good ones.
pub record IsSweptTo (chip : Chip) (place_of : ℕ → ℕ) (u : ℕ) (goods outputs : ℕ → Trit) (place : ℕ)
    (values : Values) : Type 0 where
  pub room : AreRoomy chip values
  pub inputs : (net : ℕ) → net < length chip.nets → net_kind chip net ≡ Input
      → value_at values.values net ≡ goods net
  pub given : (output : ℕ) → output < outputs_at chip u
      → value_at values.values (output_net chip u output) ≡ outputs output
  pub before : (w : ℕ) → w < count_of chip → (w ≡ u → ⊥) → place_of w < place
      → KeepsGood chip w goods (value_at values.values) ⊎ IsEvaluated chip w (value_at values.values)
  pub ahead : (w output : ℕ) → w < count_of chip → (w ≡ u → ⊥) → place ≤ place_of w
      → output < outputs_at chip w
      → value_at values.values (output_net chip w output) ≡ goods (output_net chip w output)
  pub waiting : (w pin : ℕ) → w < count_of chip → (w ≡ u → ⊥) → place ≤ place_of w → pin < inputs_at chip w
      → (value_at values.values (net_of chip w pin) ≡ goods (net_of chip w pin))
      ⊎ IsDue values.due (place_of w)
  pub due : (at : ℕ) → IsDue values.due at → (w : ℕ) × IsAfter chip u w × (place_of w ≡ at)
  pub changed : (net : ℕ) → (value_at values.values net ≡ goods net)
      ⊎ (IsOutputBelow chip u (outputs_at chip u) net ⊎ IsTouched chip place_of values.due net)
