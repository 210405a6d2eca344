-- A right declaration is taken, and makes the names that the tree has.
use Rattle.std.proofs.Common.{◌≡◌, ℕ, zero, suc, List, [], ◌∷◌, ◌++◌, map, Bool, true, false, cond, not, ◌&&◌}
use Rattle.std.proofs.Common.{◌||◌}
use Rattle.std.proofs.Common.{Option, Some, None, Result, Ok, refl, sym, ap, ◌∙◌, subst}
use Rattle.std.specs.Prelude.{slice_get, slice_set}
use Rattle.std.specs.List.{IsDistinct, AllByRecursion}
use Rattle.std.specs.Str.{bytes_eq}
use Rattle.std.proofs.lemmas.Bool.{eq-eqb}
use Rattle.std.proofs.lemmas.List.{map-append}
use Rattle.ca_lex.specs.Reading.{unless}
use Rattle.ca_names.specs.Names.{has_name, place_of}
use Rattle.ca_verilog.specs.declared.bus.Bus.{Bus}
use Rattle.ca_verilog.specs.declared.fault.VerilogKind.{VerilogKind}
use Rattle.ca_verilog.specs.declared.fault.VerilogKind.TheVariants.{Undeclared, DoubleName, BadRange}
use Rattle.ca_verilog.specs.declared.table.Direction.{Direction}
use Rattle.ca_verilog.specs.declared.table.Direction.TheVariants as direction
use Rattle.ca_verilog.specs.declared.table.Range.{Range}
use Rattle.ca_verilog.specs.Bus.{is_inner, same_range, bus_of, is_twice, new_bus, declared_again, again_at}
use Rattle.ca_verilog.specs.Bus.{declare}
use Rattle.ca_verilog.proofs.DistinctLemmas.{or_false, same_name, differ}
use Rattle.ca_verilog.proofs.PlaceLemmas.{got_map, place_reported, found_at}
use Rattle.ca_syntax.specs.Tree.{Declared, declared_as}
use Rattle.ca_syntax.specs.Names.{names_in, is_declared, directs, is_directed, is_wire, direction_of}
use Rattle.ca_syntax.specs.Names.{range_of}
use Rattle.ca_syntax.specs.Rules.{is_again, IsRightDeclared}
use Rattle.ca_syntax.proofs.NameLemmas as names

-- a declared name as the reading keeps it
abbrev pub seen_bus : List Declared → List ℕ → Bus
seen_bus declared name = record {
  name = name;
  direction = direction_of name declared;
  is_wire = is_wire name declared;
  range = range_of name declared;
}

-- the declared names as the reading keeps them
abbrev pub seen_buses : List Declared → List Bus
seen_buses declared = map (seen_bus declared) (names_in declared)

named_each : (declared : List Declared) (listed : List (List ℕ)) → map (λ (bus : Bus). bus.name) (map (seen_bus declared) listed) ≡ listed
named_each declared [] = refl
named_each declared (name ∷ listed) = ap (λ more. name ∷ more) (named_each declared listed)

-- a name is found among them as it is among the names
pub bus_found : (name : List ℕ) (declared : List Declared) → bus_of name (seen_buses declared) ≡ place_of name (names_in declared)
bus_found name declared = ap (place_of name) (named_each declared (names_in declared))

-- a name that is declared otherwise
apart : (declared : List Declared) (it : Declared) (name : List ℕ) → bytes_eq name it.name ≡ false
    → seen_bus declared name ≡ seen_bus (declared ++ it ∷ []) name
apart declared it name is = λ j. record {
  name = name;
  direction = sym (names.direction_kept name declared it undirected) j;
  is_wire = sym wire j;
  range = sym (names.range_apart name declared it is) j;
}
  where
    both : (x y : Bool) → x ≡ false → (x && y) ≡ false
    both true y is = absurd cc
    both false y is = refl

    undirected : directs name it ≡ false
    undirected = both (bytes_eq name it.name) (not (is_inner it.direction)) is

    nothing : (x y : Bool) → y ≡ false → (x || (y || false)) ≡ x
    nothing x true is = absurd cc
    nothing true false is = refl
    nothing false false is = refl

    wire : is_wire name (declared ++ it ∷ []) ≡ is_wire name declared
    wire = names.wire_grown name declared it
        ∙ nothing (is_wire name declared) (bytes_eq name it.name && is_inner it.direction)
        (both (bytes_eq name it.name) (is_inner it.direction) is)

-- those of other names stay
same_each : (declared : List Declared) (it : Declared) (listed : List (List ℕ)) → has_name it.name listed ≡ false
    → map (seen_bus declared) listed ≡ map (seen_bus (declared ++ it ∷ [])) listed
same_each declared it [] is = refl
same_each declared it (name ∷ listed) is =
    let parts : (bytes_eq it.name name ≡ false) × (has_name it.name listed ≡ false) = or_false (bytes_eq it.name name) (has_name it.name listed) is in
    λ j. apart declared it name (differ it.name name parts.0) j ∷ same_each declared it listed parts.1 j

has_none : (name : List ℕ) (listed : List (List ℕ)) → AllByRecursion (λ other. bytes_eq name other ≡ false) listed → has_name name listed ≡ false
has_none name [] all = refl
has_none name (first ∷ listed) all = ap (λ found. found || has_name name listed) all.0 ∙ has_none name listed all.1

got_apart : (first name : List ℕ) (listed : List (List ℕ)) (at : ℕ) → AllByRecursion (λ other. bytes_eq first other ≡ false) listed
    → slice_get listed at ≡ Some name → bytes_eq first name ≡ false
got_apart first name [] at all is = absurd cc
got_apart first name (other ∷ listed) zero all is =
    let same : other ≡ name = cc in
    subst (λ (n : List ℕ). bytes_eq first n ≡ false) same all.0
got_apart first name (other ∷ listed) (suc at) all is = got_apart first name listed at all.1 is

-- the one that is declared again changes alone
set_one : (declared : List Declared) (it : Declared) (listed : List (List ℕ)) (at : ℕ) (new : Bus) → IsDistinct bytes_eq listed
    → slice_get listed at ≡ Some it.name → new ≡ seen_bus (declared ++ it ∷ []) it.name
    → slice_set (map (seen_bus declared) listed) at new ≡ map (seen_bus (declared ++ it ∷ [])) listed
unfolding IsDistinct
set_one declared it [] at new distinct is changed = absurd cc
set_one declared it (name ∷ listed) zero new distinct is changed =
    let same : name ≡ it.name = cc in
    let none : has_name it.name listed ≡ false =
    subst (λ (n : List ℕ). has_name n listed ≡ false) same (has_none name listed distinct.0) in
    λ j. (changed ∙ ap (seen_bus (declared ++ it ∷ [])) (sym same)) j ∷ same_each declared it listed none j
set_one declared it (name ∷ listed) (suc at) new distinct is changed =
    λ j. apart declared it name (got_apart name it.name listed at distinct.0 is) j
    ∷ set_one declared it listed at new distinct.1 is changed j

-- where a declared name is
pub place_seen : (name : List ℕ) (declared : List Declared) → is_declared name declared ≡ true
    → (at : ℕ) × (slice_get (names_in declared) at ≡ Some name) × (place_of name (names_in declared) ≡ Some at)
place_seen name declared is =
    let found : (at : ℕ) × (slice_get (names_in declared) at ≡ Some name) = found_at name (names_in declared) (names.has_declared name declared ∙ is) in
    (found.0, found.1, place_reported (names_in declared) (names.names_distinct declared) found.0 name found.1)

pub unbroken : {Value : Type 0} (broken : Bool) (kind : VerilogKind) (next total : Result Value VerilogKind) → broken ≡ false
    → next ≡ total → unless broken kind next ≡ total
unbroken true kind next total is same = absurd cc
unbroken false kind next total is same = same

-- a declaration alone
one_direction : (way : Direction) (same : Bool) → same ≡ true → cond (same && not (is_inner way)) way direction.Inner ≡ way
one_direction way false is = absurd cc
one_direction direction.Inner true is = refl
one_direction direction.Input true is = refl
one_direction direction.Output true is = refl

first_declared : (before : List Declared) (here : Declared) → is_declared here.name before ≡ false
    → new_bus here.direction here.range here.name ≡ seen_bus (before ++ here ∷ []) here.name
first_declared before here is = λ j. record {
  name = here.name;
  direction = sym (names.direction_later here.name before (here ∷ []) (names.not_directed here.name before is)
      ∙ one_direction here.direction (bytes_eq here.name here.name) (same_name here.name)) j;
  is_wire = sym (names.wire_grown here.name before here
      ∙ (λ k. names.not_wire here.name before is k || ((same_name here.name k && is_inner here.direction) || false))
      ∙ plain (is_inner here.direction)) j;
  range = sym (names.range_later here.name before (here ∷ []) is
      ∙ ap (λ found. cond found here.range None) (same_name here.name)) j;
}
  where
    plain : (x : Bool) → (false || ((true && x) || false)) ≡ x
    plain true = refl
    plain false = refl

again_as : (before : List Declared) (way : Direction) (range : Option Range) (name : List ℕ) → is_declared name before ≡ true
    → is_again before (declared_as way range name) ≡ false
    → declared_again way (seen_bus before name) ≡ seen_bus (before ++ declared_as way range name ∷ []) name
again_as before direction.Inner range name is once = λ j. record {
  name = name;
  direction = sym (names.direction_kept name before (declared_as direction.Inner range name) (left_over (bytes_eq name name))) j;
  is_wire = sym (names.wire_grown name before (declared_as direction.Inner range name)
      ∙ (λ k. is_wire name before || ((same_name name k && true) || false)) ∙ last_true (is_wire name before)) j;
  range = sym (names.range_kept name before (declared_as direction.Inner range name ∷ []) is) j;
}
  where
    left_over : (x : Bool) → (x && false) ≡ false
    left_over true = refl
    left_over false = refl

    last_true : (x : Bool) → (x || true) ≡ true
    last_true true = refl
    last_true false = refl
again_as before direction.Input range name is once = λ j. record {
  name = name;
  direction = sym (names.direction_later name before (declared_as direction.Input range name ∷ []) once
      ∙ ap (λ found. cond (found && true) direction.Input direction.Inner) (same_name name)) j;
  is_wire = sym (names.wire_grown name before (declared_as direction.Input range name) ∙ kept (is_wire name before) (bytes_eq name name)) j;
  range = sym (names.range_kept name before (declared_as direction.Input range name ∷ []) is) j;
}
  where
    kept : (x y : Bool) → (x || ((y && false) || false)) ≡ x
    kept true y = refl
    kept false true = refl
    kept false false = refl
again_as before direction.Output range name is once = λ j. record {
  name = name;
  direction = sym (names.direction_later name before (declared_as direction.Output range name ∷ []) once
      ∙ ap (λ found. cond (found && true) direction.Output direction.Inner) (same_name name)) j;
  is_wire = sym (names.wire_grown name before (declared_as direction.Output range name) ∙ kept (is_wire name before) (bytes_eq name name)) j;
  range = sym (names.range_kept name before (declared_as direction.Output range name ∷ []) is) j;
}
  where
    kept : (x y : Bool) → (x || ((y && false) || false)) ≡ x
    kept true y = refl
    kept false true = refl
    kept false false = refl

pub undirected : (before : List Declared) (name : List ℕ) → is_directed name before ≡ false → direction_of name before ≡ direction.Inner
undirected [] name is = refl
undirected (first ∷ more) name is =
    let parts : (directs name first ≡ false) × (is_directed name more ≡ false) = or_false (directs name first) (is_directed name more) is in
    ap (λ found. cond found first.direction (direction_of name more)) parts.0 ∙ undirected more name parts.1

not_twice : (before : List Declared) (way : Direction) (range : Option Range) (name : List ℕ)
    → is_again before (declared_as way range name) ≡ false → is_twice way (seen_bus before name) ≡ false
not_twice before direction.Inner range name once = once
not_twice before direction.Input range name once = ap (λ (given : Direction). not (is_inner given)) (undirected before name once)
not_twice before direction.Output range name once = ap (λ (given : Direction). not (is_inner given)) (undirected before name once)

same_ranges : (range : Option Range) → same_range range range ≡ true
same_ranges None = refl
same_ranges (Some range) = λ j. eq-eqb range.left range.left refl j && eq-eqb range.right range.right refl j

again_right : (ports : List (List ℕ)) (before : List Declared) (way : Direction) (range : Option Range) (name : List ℕ) (at : ℕ)
    → IsRightDeclared ports before (declared_as way range name) → is_declared name before ≡ true
    → slice_get (names_in before) at ≡ Some name
    → again_at way range (seen_buses before) at (Some (seen_bus before name))
    ≡ Ok (map (seen_bus (before ++ declared_as way range name ∷ [])) (names_in before))
again_right ports before way range name at right is there =
    unbroken (is_twice way (seen_bus before name)) DoubleName _ _ (not_twice before way range name right.once)
    (unbroken (not (same_range range (range_of name before))) BadRange _ _
    (ap (λ (other : Option Range). not (same_range range other)) (sym (right.same_range is)) ∙ ap not (same_ranges range))
    (ap (λ (buses : List Bus). Ok buses)
    (set_one before (declared_as way range name) (names_in before) at (declared_again way (seen_bus before name))
    (names.names_distinct before) there (again_as before way range name is right.once))))

-- a right declaration makes the names that the tree has
pub declare_right : (ports : List (List ℕ)) (before : List Declared) (way : Direction) (range : Option Range) (name : List ℕ)
    → IsRightDeclared ports before (declared_as way range name)
    → declare way range name ports (seen_buses before) ≡ Ok (seen_buses (before ++ declared_as way range name ∷ []))
unfolding declare
declare_right ports before way range name right =
    unbroken (not (is_inner way) && not (has_name name ports)) Undeclared _ _ (known (is_inner way) (has_name name ports) right.of_header)
    (by (is_declared name before) refl)
  where
    known : (inner has : Bool) → (inner ≡ false → has ≡ true) → (not inner && not has) ≡ false
    known true has is = refl
    known false has is = ap not (is refl)

    by : (found : Bool) → is_declared name before ≡ found
        → elim (bus_of name (seen_buses before)) as (λ _. Result (List Bus) VerilogKind) [
          | None ↦ Ok (seen_buses before ++ new_bus way range name ∷ [])
          | Some place ↦ again_at way range (seen_buses before) place (slice_get (seen_buses before) place)
        ] ≡ Ok (seen_buses (before ++ declared_as way range name ∷ []))
    by false is =
        let new : has_name name (names_in before) ≡ false = names.has_declared name before ∙ is in
        ap (λ (found : Option ℕ). elim found as (λ _. Result (List Bus) VerilogKind) [
          | None ↦ Ok (seen_buses before ++ new_bus way range name ∷ [])
          | Some place ↦ again_at way range (seen_buses before) place (slice_get (seen_buses before) place)
        ]) (bus_found name before ∙ names.no_place name (names_in before) new)
        ∙ ap (λ (buses : List Bus). Ok buses)
        ((λ j. same_each before (declared_as way range name) (names_in before) new j
        ++ first_declared before (declared_as way range name) is j ∷ [])
        ∙ sym (map-append (seen_bus (before ++ declared_as way range name ∷ [])) (names_in before) (name ∷ []))
        ∙ ap (map (seen_bus (before ++ declared_as way range name ∷ [])))
        (sym (names.names_grow before (declared_as way range name)
        ∙ ap (λ found. cond found (names_in before) (names_in before ++ name ∷ [])) new)))
    by true is =
        let has : has_name name (names_in before) ≡ true = names.has_declared name before ∙ is in
        let found = place_seen name before is in
        ap (λ (found : Option ℕ). elim found as (λ _. Result (List Bus) VerilogKind) [
          | None ↦ Ok (seen_buses before ++ new_bus way range name ∷ [])
          | Some place ↦ again_at way range (seen_buses before) place (slice_get (seen_buses before) place)
        ]) (bus_found name before ∙ found.2)
        ∙ ap (again_at way range (seen_buses before) found.0) (got_map (seen_bus before) (names_in before) found.0 name found.1)
        ∙ again_right ports before way range name found.0 right is found.1
        ∙ ap (λ (listed : List (List ℕ)). Ok (map (seen_bus (before ++ declared_as way range name ∷ [])) listed))
        (sym (names.names_grow before (declared_as way range name)
        ∙ ap (λ found. cond found (names_in before) (names_in before ++ name ∷ [])) has))
