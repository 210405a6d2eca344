-- A reading item by item, up to the first item that has a fault.
use Rattle.std.specs.Prelude.{◌≡◌, List, [], ◌∷◌, ◌++◌, Result, Ok, Err}

-- what these items make of what was read before them: each item's step in turn, up to the first fault
unfoldable pub steps_from : {State Item Fault : Type 0} → (Item → State → Result State Fault)
    → State → List Item → Result State Fault
steps_from step start [] = Ok start
steps_from step start (item ∷ items) = elim (step item start) [
  | Ok next ↦ steps_from step next items
  | Err fault ↦ Err fault
]

-- the items before `here` have no fault and make `so_far`, and `here` has this fault then
pub record IsFirstFault {State Item Fault : Type 0} (step : Item → State → Result State Fault)
    (start : State) (items : List Item) (fault : Fault) : Type 0 where
  pub before : List Item
  pub here : Item
  pub after : List Item
  pub so_far : State
  pub whole : items ≡ before ++ here ∷ after
  pub read : steps_from step start before ≡ Ok so_far
  pub broken : step here so_far ≡ Err fault

-- a step whose fault is reported with the item that has it
abbrev pub located : {State Item Kind Fault : Type 0} → (Item → Kind → Fault)
    → (Item → State → Result State Kind) → Item → State → Result State Fault
located at step item state = elim (step item state) [
  | Ok next ↦ Ok next
  | Err kind ↦ Err (at item kind)
]
