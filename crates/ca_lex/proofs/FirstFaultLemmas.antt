-- Items, one after another, up to the first that has a fault.
use Rattle.std.proofs.Common.{◌≡◌, ℕ, ◌+◌, ◌<◌, ◌≤◌, List, [], ◌∷◌, ◌++◌, length, get_or, drop, Option, Some}
use Rattle.std.proofs.Common.{None, Result, Ok, Err, refl, sym, ap, ◌∙◌}
use Rattle.std.proofs.lemmas.List.{at_drop_more, at_drop_all}
use Rattle.std.specs.Prelude.{option_map}
use Rattle.ca_lex.specs.FirstFault.{steps_from, IsFirstFault, located}
use Rattle.ca_lex.specs.Reading.{IsFault}

-- what the items after a step make of what it gave
abbrev pub after_step : {State Item Fault : Type 0} → (Item → State → Result State Fault) → Result State Fault → List Item → Result State Fault
after_step step (Ok next) items = steps_from step next items
after_step step (Err fault) items = Err fault

pub steps_from-cons : {State Item Fault : Type 0} (step : Item → State → Result State Fault) (start : State) (item : Item) (items : List Item)
    → steps_from step start (item ∷ items) ≡ after_step step (step item start) items
unfolding steps_from
steps_from-cons {State} {Item} {Fault} step start item items = by_step (step item start)
  where
    by_step : (given : Result State Fault) → elim given [ Ok next ↦ steps_from step next items | Err fault ↦ Err fault ] ≡ after_step step given items
    by_step (Ok next) = refl
    by_step (Err fault) = refl

-- an item whose step gives `next` leaves what was to be read
pub goes_on : {State Item Fault : Type 0} (step : Item → State → Result State Fault) (start next : State) (items : List Item) (place : ℕ) (item : Item) (total : Result State Fault)
    → place < length items → item ≡ get_or items place item → step item start ≡ Ok next
    → steps_from step start (drop place items) ≡ total → steps_from step next (drop (place + 1) items) ≡ total
goes_on {State} {Item} {Fault} step start next items place item total within here stepped so_far =
    sym (at_drop_more (steps_from step start) items place item within
    ∙ ap (λ (found : Item). steps_from step start (found ∷ drop (place + 1) items)) (sym here)
    ∙ steps_from-cons step start item (drop (place + 1) items)
    ∙ ap (λ (given : Result State Fault). after_step step given (drop (place + 1) items)) stepped) ∙ so_far

-- an item whose step has a fault ends the reading with it
pub stops : {State Item Fault : Type 0} (step : Item → State → Result State Fault) (start : State) (items : List Item) (place : ℕ) (item : Item) (fault : Fault) (total : Result State Fault)
    → place < length items → item ≡ get_or items place item → step item start ≡ Err fault
    → steps_from step start (drop place items) ≡ total → total ≡ Err fault
stops {State} {Item} {Fault} step start items place item fault total within here stepped so_far =
    sym so_far ∙ at_drop_more (steps_from step start) items place item within
    ∙ ap (λ (found : Item). steps_from step start (found ∷ drop (place + 1) items)) (sym here)
    ∙ steps_from-cons step start item (drop (place + 1) items)
    ∙ ap (λ (given : Result State Fault). after_step step given (drop (place + 1) items)) stepped

-- a fault that an item's step reports, or out of memory, is what the reading reports
pub refused : {State Item Fault : Type 0} (step : Item → State → Result State Fault) (start : State) (items : List Item) (place : ℕ) (item : Item) (reported : Option Fault) (total : Result State Fault)
    → place < length items → item ≡ get_or items place item → IsFault reported (step item start)
    → steps_from step start (drop place items) ≡ total → IsFault reported total
refused step start items place item None total within here stepped so_far = tt
refused step start items place item (Some fault) total within here stepped so_far = stops step start items place item fault total within here stepped so_far

-- after the last item the reading is over
pub ends : {State Item Fault : Type 0} (step : Item → State → Result State Fault) (start : State) (items : List Item) (place : ℕ) (total : Result State Fault)
    → length items ≤ place → steps_from step start (drop place items) ≡ total → total ≡ Ok start
unfolding steps_from
ends step start items place total over so_far = sym so_far ∙ at_drop_all (steps_from step start) items place over

-- a step that gives a value gives it with its place reported too
pub located_value : {State Item Kind Fault : Type 0} (at : Item → Kind → Fault) (step : Item → State → Result State Kind) (item : Item) (state next : State)
    → step item state ≡ Ok next → located at step item state ≡ Ok next
located_value {State} {Item} {Kind} {Fault} at step item state next is =
    ap (λ (given : Result State Kind). elim given as (λ _. Result State Fault) [ Ok next ↦ Ok next | Err kind ↦ Err (at item kind) ]) is

-- a fault that a step reports is reported with the item that has it
pub located_fault : {State Item Kind Fault : Type 0} (at : Item → Kind → Fault) (step : Item → State → Result State Kind) (item : Item) (state : State) (reported : Option Kind)
    → IsFault reported (step item state) → IsFault (option_map (at item) reported) (located at step item state)
located_fault at step item state None is = tt
located_fault {State} {Item} {Kind} {Fault} at step item state (Some kind) is =
    ap (λ (given : Result State Kind). elim given as (λ _. Result State Fault) [ Ok next ↦ Ok next | Err other ↦ Err (at item other) ]) is

found_after : {State Item Fault : Type 0} (step : Item → State → Result State Fault) (start : State) (here : Item) (items : List Item) (fault : Fault) (given : Result State Fault)
    → step here start ≡ given
    → ((next : State) → steps_from step next items ≡ Err fault → IsFirstFault step next items fault)
    → after_step step given items ≡ Err fault → IsFirstFault step start (here ∷ items) fault
unfolding steps_from
found_after {State} {Item} {Fault} step start here items fault (Ok next) is later reported =
    let first = later next reported in
    record {
      before = here ∷ first.before;
      here = first.here;
      after = first.after;
      so_far = first.so_far;
      whole = ap (λ (rest : List Item). here ∷ rest) first.whole;
      read = steps_from-cons step start here first.before ∙ ap (λ (given : Result State Fault). after_step step given first.before) is ∙ first.read;
      broken = first.broken;
    }
found_after step start here items fault (Err other) is later reported =
    record { before = []; here = here; after = items; so_far = start; whole = refl; read = refl; broken = is ∙ reported }

-- a reading with a fault has a first item with it
pub found : {State Item Fault : Type 0} (step : Item → State → Result State Fault) (start : State) (items : List Item) (fault : Fault)
    → steps_from step start items ≡ Err fault → IsFirstFault step start items fault
unfolding steps_from
found step start [] fault reported = absurd cc
found step start (here ∷ items) fault reported =
    found_after step start here items fault (step here start) refl (λ next. found step next items fault) (sym (steps_from-cons step start here items) ∙ reported)

only_after : {State Item Fault : Type 0} (step : Item → State → Result State Fault) (before after : List Item) (so_far : State) (total : Result State Fault) (given : Result State Fault)
    → ((next : State) → steps_from step next before ≡ Ok so_far → steps_from step next (before ++ after) ≡ total)
    → after_step step given before ≡ Ok so_far → after_step step given (before ++ after) ≡ total
only_after step before after so_far total (Ok next) later read = later next read
only_after step before after so_far total (Err other) later read = absurd cc

-- items that are read are read before others
pub over : {State Item Fault : Type 0} (step : Item → State → Result State Fault) (start so_far : State) (before after : List Item) (total : Result State Fault)
    → steps_from step so_far after ≡ total → steps_from step start before ≡ Ok so_far → steps_from step start (before ++ after) ≡ total
unfolding steps_from
over {State} {Item} {Fault} step start so_far [] after total rest read =
    let same : start ≡ so_far = cc in
    ap (λ (state : State). steps_from step state after) same ∙ rest
over {State} {Item} {Fault} step start so_far (here ∷ before) after total rest read =
    steps_from-cons step start here (before ++ after)
    ∙ only_after step before after so_far total (step here start) (λ next. over step next so_far before after total rest) (sym (steps_from-cons step start here before) ∙ read)

-- a first item with a fault gives the reading that fault
pub only : {State Item Fault : Type 0} (step : Item → State → Result State Fault) (start : State) (items : List Item) (fault : Fault)
    → IsFirstFault step start items fault → steps_from step start items ≡ Err fault
only {State} {Item} {Fault} step start items fault first =
    ap (steps_from step start) first.whole
    ∙ over step start first.so_far first.before (first.here ∷ first.after) (Err fault)
    (steps_from-cons step first.so_far first.here first.after ∙ ap (λ (given : Result State Fault). after_step step given first.after) first.broken) first.read
