-- The syntax tree of a gate netlist, with its names.
use Rattle.std.specs.Prelude.{ℕ, Bool, List, [], ◌∷◌, map, flat_map, Option, Some, None}
use Rattle.ca_verilog.specs.declared.table.Direction.{Direction}
use Rattle.ca_verilog.specs.declared.table.Range.{Range}

-- a side of an `assign`, or what is on a pin: a name, the bit of a name that has an index, or a constant
pub data Operand : Type 0 where
  whole : List ℕ → Operand
  bit : List ℕ → ℕ → Operand
  constant : Bool → Operand

-- a pin, with what is on it, if anything is
pub record Connection : Type 0 where
  pub pin : List ℕ
  pub value : Option Operand

-- names that are declared together: the first, and more
pub record Declaration : Type 0 where
  pub direction : Direction
  pub range : Option Range
  pub first : List ℕ
  pub more : List (List ℕ)

-- two sides that are joined
pub record Assign : Type 0 where
  pub left : Operand
  pub right : Operand

-- an instance of a cell
pub record Instance : Type 0 where
  pub cell : List ℕ
  pub name : List ℕ
  pub connections : List Connection

-- an item of a module
pub data Item : Type 0 where
  declaration : Declaration → Item
  assign : Assign → Item
  instance : Instance → Item

-- a module; its header may have no parentheses
pub record Module : Type 0 where
  pub name : List ℕ
  pub header : Option (List (List ℕ))
  pub items : List Item

-- the names of a header
abbrev pub header_names : Option (List (List ℕ)) → List (List ℕ)
header_names None = []
header_names (Some names) = names

-- the names of the module's header
abbrev pub ports_of : Module → List (List ℕ)
ports_of tree = header_names tree.header

-- one name with what it is declared as
pub record Declared : Type 0 where
  pub direction : Direction
  pub range : Option Range
  pub name : List ℕ

-- a name of a declaration
abbrev pub declared_as : Direction → Option Range → List ℕ → Declared
declared_as direction range name = record { direction = direction; range = range; name = name }

-- the names that an item declares
abbrev pub declared_by : Item → List Declared
declared_by (Item.declaration it) = map (declared_as it.direction it.range) (it.first ∷ it.more)
declared_by other = []

-- the names that items declare, in text order
abbrev pub declarations : List Item → List Declared
declarations items = flat_map declared_by items

-- the `assign` that an item is
abbrev pub assigned_by : Item → List Assign
assigned_by (Item.assign it) = it ∷ []
assigned_by other = []

-- all `assign` of items, in text order
abbrev pub assigns : List Item → List Assign
assigns items = flat_map assigned_by items

-- the instance that an item is
abbrev pub instance_by : Item → List Instance
instance_by (Item.instance it) = it ∷ []
instance_by other = []

-- the instances of items, in text order
abbrev pub instances : List Item → List Instance
instances items = flat_map instance_by items
