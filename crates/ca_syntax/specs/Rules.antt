-- When the names and ranges of a tree are right.
use Rattle.std.specs.Prelude.{ℕ, ◌≡◌, Bool, true, false, if◌then◌else◌, List, ◌∷◌, ◌++◌, map}
use Rattle.std.specs.Prelude.{Option, Some, None, ⊤}
use Rattle.std.specs.List.{All}
use Rattle.ca_lex.specs.Words.{upper_case}
use Rattle.ca_names.specs.Names.{has_name, has_double}
use Rattle.ca_verilog.specs.declared.table.Range.{Range}
use Rattle.ca_verilog.specs.Bus.{is_inner}
use Rattle.ca_verilog.specs.Reading.{has_index, width_in}
use Rattle.ca_syntax.specs.Tree.{Operand, Assign, Instance, Item, Module, Declared, declarations}
use Rattle.ca_syntax.specs.Tree.{instances, ports_of}
use Rattle.ca_syntax.specs.Names.{is_declared, is_directed, is_wire, range_of}

-- each of these has the property, given those before it
abbrev pub EachAfter : {T : Type 0} → (List T → T → Type 0) → List T → Type 0
EachAfter {T} P list = (before : List T) (here : T) (after : List T) → list ≡ before ++ here ∷ after
    → P before here

-- the name has a declaration of this kind already: as `wire`, or with a direction
abbrev pub is_again : List Declared → Declared → Bool
is_again before here =
    if is_inner here.direction then is_wire here.name before else is_directed here.name before

-- a direction is for a name of the header, no name is declared twice with a direction or twice as `wire`, and
-- a name that is declared both ways has the same range both times
pub record IsRightDeclared (ports : List (List ℕ)) (before : List Declared) (here : Declared) : Type 0 where
  pub of_header : is_inner here.direction ≡ false → has_name here.name ports ≡ true
  pub once : is_again before here ≡ false
  pub same_range : is_declared here.name before ≡ true → here.range ≡ range_of here.name before

-- the index is one of the range's, between its ends or one of them
abbrev pub IsIndexOf : ℕ → Option Range → Type 0
IsIndexOf index None = ⊥
IsIndexOf index (Some range) = has_index index range ≡ true

-- the name is declared, and a bit of it is one of its range
abbrev pub IsRightOperand : List Declared → Operand → Type 0
IsRightOperand declared (Operand.whole name) = is_declared name declared ≡ true
IsRightOperand declared (Operand.bit name index) =
    (is_declared name declared ≡ true) × IsIndexOf index (range_of name declared)
IsRightOperand declared (Operand.constant value) = ⊤

-- the number of bits of an operand
abbrev pub width_of : List Declared → Operand → ℕ
width_of declared (Operand.whole name) = width_in (range_of name declared)
width_of declared other = 1

-- no vector as a whole
abbrev pub IsScalar : List Declared → Operand → Type 0
IsScalar declared (Operand.whole name) = range_of name declared ≡ None
IsScalar declared other = ⊤

-- nothing is on the pin, or one bit
abbrev pub IsRightValue : List Declared → Option Operand → Type 0
IsRightValue declared None = ⊤
IsRightValue declared (Some operand) = IsRightOperand declared operand × IsScalar declared operand

-- both sides have as many bits
pub record IsRightAssign (declared : List Declared) (it : Assign) : Type 0 where
  pub left_side : IsRightOperand declared it.left
  pub right_side : IsRightOperand declared it.right
  pub same_width : width_of declared it.left ≡ width_of declared it.right

-- the pins are different once they are folded, and on each is one bit or nothing
pub record IsRightInstance (declared : List Declared) (it : Instance) : Type 0 where
  pub different : has_double (map (λ on. upper_case on.pin) it.connections) ≡ false
  pub values : All (λ on. IsRightValue declared on.value) it.connections

-- what an item names is declared before it
abbrev pub IsRightItem : List Item → Item → Type 0
IsRightItem before (Item.declaration it) = ⊤
IsRightItem before (Item.assign it) = IsRightAssign (declarations before) it
IsRightItem before (Item.instance it) = IsRightInstance (declarations before) it

-- the names of the header are different, and each has a direction; what is declared is right given what was
-- declared before it; items are right given those before them; the names of instances are different
pub record IsRight (tree : Module) : Type 0 where
  pub ports : has_double (ports_of tree) ≡ false
  pub directed : All (λ name. is_directed name (declarations tree.items) ≡ true) (ports_of tree)
  pub declared : EachAfter (IsRightDeclared (ports_of tree)) (declarations tree.items)
  pub items : EachAfter IsRightItem tree.items
  pub instances : has_double (map (λ it. it.name) (instances tree.items)) ≡ false
