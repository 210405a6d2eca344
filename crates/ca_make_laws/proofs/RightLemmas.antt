-- The tree of a generated chip is right.
use Rattle.std.proofs.Common.{◌≡◌, ℕ, zero, suc, ◌+◌, ◌-◌, ◌<◌, ◌≤◌, Bool, true, false, not, ◌||◌, ◌&&◌, List}
use Rattle.std.proofs.Common.{[], ◌∷◌, ◌++◌}
use Rattle.std.proofs.Common.{length, map, nat_lt, if◌then◌else◌, None, refl, sym, ap, ◌∙◌, subst, arith}
use Rattle.std.proofs.Common.{codes, decimal}
use Rattle.std.specs.Prelude.{fold, option_map}
use Rattle.std.specs.Str.{bytes_eq}
use Rattle.std.specs.List.{All, list_any, range_with_len}
use Rattle.std.proofs.lemmas.Bool.{ltb-true, ltb-false}
use Rattle.std.proofs.lemmas.List.{append-nil, map-append, length-append}
use Rattle.std.proofs.lemmas.List.Elements.{All-nil, All-cons, All-append, All-map}
use Rattle.std.proofs.lemmas.List.Folds.{list_any-append}
use Rattle.std.proofs.lemmas.List.FromFn.{length-map-range_with_len}
use Rattle.std.proofs.lemmas.Grind.{flat_map-append}
use Rattle.ca_names.specs.Names.{has_name, has_double, with_name, repeats}
use Rattle.ca_verilog.specs.declared.netlist.TheConstants.{MOST_BITS}
use Rattle.ca_verilog.specs.declared.table.Direction.{Direction}
use Rattle.ca_verilog.specs.declared.table.Direction.TheVariants.{Input, Output, Inner}
use Rattle.ca_verilog.specs.Bus.{is_inner}
use Rattle.ca_verilog.specs.IsNetlist.{range_width, bit_count}
use Rattle.ca_verilog.specs.Netlist.{raw_range}
use Rattle.ca_syntax.specs.Tree.{Item, Connection, Instance, Declared, declared_as, declared_by, declarations}
use Rattle.ca_syntax.specs.Tree.{instance_by, instances}
use Rattle.ca_syntax.specs.Names.{names_in, is_declared, directs, is_directed, is_wire, range_of}
use Rattle.ca_syntax.specs.Rules.{EachAfter, is_again, IsRightDeclared, IsRightItem, IsRightValue, IsRight}
use Rattle.ca_verilog.specs.Reading.{width_in}
use Rattle.ca_syntax.specs.TreeNetlist.{bus_in, buses_of}
use Rattle.ca_syntax.specs.Laws.{tree_bits}
use Rattle.ca_syntax.proofs.NameLemmas.{not_directed, not_wire}
use Rattle.ca_syntax.proofs.AfterLemmas.{OneByOne, each_after}
use Rattle.ca_make.specs.declared.gate.Gate.{Gate}
use Rattle.ca_make.specs.declared.gate.Gate.TheVariants as gate
use Rattle.ca_make.specs.declared.gate.TheConstants.{INPUTS}
use Rattle.ca_make.specs.code.Chip.{IsWithin}
use Rattle.ca_make.specs.NetlistText.{numbered, candidate}
use Rattle.ca_make_laws.specs.ChipTree.{names_of, declared, on_pin, instance_item, assign_item, items_from}
use Rattle.ca_make_laws.specs.ChipTree.{declared_items, tree_of}
use Rattle.ca_make_laws.proofs.SpelledLemmas.{AreSpelled}
use Rattle.ca_make_laws.proofs.FreshLemmas.{IsNew, names_new, other_letter, both_lists, no_double}
use Rattle.ca_make_laws.proofs.FreshLemmas.{has_numbered}
use Rattle.ca_make_laws.proofs.FreshLemmas.{has_first, has_second}

-- the names of the chip inputs, of this many outputs, and of this many wires
abbrev pub i_names : List (List ℕ)
i_names = names_of (codes "i") INPUTS

abbrev pub o_names : ℕ → List (List ℕ)
o_names outputs = names_of (codes "o") outputs

abbrev pub w_names : ℕ → List (List ℕ)
w_names gates = names_of (codes "w") gates

-- names that are declared with a direction
abbrev pub as_declared : Direction → List (List ℕ) → List Declared
as_declared direction names = map (declared_as direction None) names

-- what the items of a chip declare
abbrev pub all_declared : ℕ → ℕ → List Declared
all_declared outputs gates = as_declared Input i_names
    ++ (as_declared Output (o_names outputs) ++ as_declared Inner (w_names gates))

declared_are : (direction : Direction) (names : List (List ℕ))
    → declarations (map (declared direction) names) ≡ as_declared direction names
declared_are direction [] = refl
declared_are direction (name ∷ names) =
    ap (λ (list : List Declared). declared_as direction None name ∷ list) (declared_are direction names)

none_declared : {X : Type 0} (item : ℕ → X → Item) → ((k : ℕ) (x : X) → declared_by (item k x) ≡ [])
    → (from : ℕ) (xs : List X) → declarations (items_from item from xs) ≡ []
none_declared item none from [] = refl
none_declared item none from (x ∷ xs) =
    ap (λ (list : List Declared). list ++ declarations (items_from item (from + 1) xs)) (none from x)
    ∙ none_declared item none (from + 1) xs

declared_first : (outputs gates : ℕ) → declarations (declared_items outputs gates) ≡ all_declared outputs gates
declared_first outputs gates =
    flat_map-append declared_by (map (declared Input) i_names)
    (map (declared Output) (o_names outputs) ++ map (declared Inner) (w_names gates))
    ∙ ap (λ (list : List Declared). as_declared Input i_names ++ list)
    (flat_map-append declared_by (map (declared Output) (o_names outputs))
    (map (declared Inner) (w_names gates))
    ∙ ap (λ (list : List Declared). list ++ declarations (map (declared Inner) (w_names gates)))
    (declared_are Output (o_names outputs))
    ∙ ap (λ (list : List Declared). as_declared Output (o_names outputs) ++ list)
    (declared_are Inner (w_names gates)))

pub declared_all : (gates : List Gate) (outputs : List ℕ)
    → declarations (tree_of gates outputs).items ≡ all_declared (length outputs) (length gates)
declared_all gates outputs =
    flat_map-append declared_by (declared_items (length outputs) (length gates))
    (items_from instance_item 0 gates ++ items_from assign_item 0 outputs)
    ∙ ap (λ (list : List Declared). declarations (declared_items (length outputs) (length gates)) ++ list)
    (flat_map-append declared_by (items_from instance_item 0 gates) (items_from assign_item 0 outputs)
    ∙ ap (λ (list : List Declared). list ++ declarations (items_from assign_item 0 outputs))
    (none_declared instance_item (λ k it. refl) 0 gates)
    ∙ none_declared assign_item (λ j k. refl) 0 outputs)
    ∙ append-nil (declarations (declared_items (length outputs) (length gates)))
    ∙ declared_first (length outputs) (length gates)

-- the declared names
abbrev pub name_of_declared : Declared → List ℕ
name_of_declared it = it.name

abbrev pub all_names : ℕ → ℕ → List (List ℕ)
all_names outputs gates = i_names ++ (o_names outputs ++ w_names gates)

names_back : (direction : Direction) (names : List (List ℕ)) → map name_of_declared (as_declared direction names) ≡ names
names_back direction [] = refl
names_back direction (name ∷ names) = ap (λ (list : List (List ℕ)). name ∷ list) (names_back direction names)

pub names_are : (outputs gates : ℕ) → map name_of_declared (all_declared outputs gates) ≡ all_names outputs gates
names_are outputs gates =
    map-append name_of_declared (as_declared Input i_names)
    (as_declared Output (o_names outputs) ++ as_declared Inner (w_names gates))
    ∙ ap (λ (list : List (List ℕ)). i_names ++ list)
    (map-append name_of_declared (as_declared Output (o_names outputs)) (as_declared Inner (w_names gates))
    ∙ ap (λ (list : List (List ℕ)). list ++ map name_of_declared (as_declared Inner (w_names gates)))
    (names_back Output (o_names outputs))
    ∙ ap (λ (list : List (List ℕ)). o_names outputs ++ list) (names_back Inner (w_names gates)))

-- the ports are different, and so are all names
ports_new : (outputs : ℕ) → outputs ≤ 8192 → OneByOne IsNew [] (i_names ++ o_names outputs)
ports_new outputs few =
    both_lists IsNew [] i_names (o_names outputs)
    (names_new 105 0 INPUTS INPUTS [] (omega arith) (omega arith) (All-nil _))
    (names_new 111 0 outputs outputs i_names (omega arith) (omega (arith, few))
    (other_letter 111 105 0 outputs 0 INPUTS refl))

pub all_new : (outputs gates : ℕ) → outputs ≤ 8192 → gates ≤ 8192 → OneByOne IsNew [] (all_names outputs gates)
all_new outputs gates few_outputs few =
    both_lists IsNew [] i_names (o_names outputs ++ w_names gates)
    (names_new 105 0 INPUTS INPUTS [] (omega arith) (omega arith) (All-nil _))
    (both_lists IsNew i_names (o_names outputs) (w_names gates)
    (names_new 111 0 outputs outputs i_names (omega arith) (omega (arith, few_outputs))
    (other_letter 111 105 0 outputs 0 INPUTS refl))
    (names_new 119 0 gates gates (i_names ++ o_names outputs) (omega arith) (omega (arith, few))
    (All-append (λ name. (k : ℕ) → 0 ≤ k → k < gates → bytes_eq (119 ∷ decimal k) name ≡ false) i_names (o_names outputs)
    (other_letter 119 105 0 gates 0 INPUTS refl) (other_letter 119 111 0 gates 0 outputs refl))))

-- new names are declared rightly
not_again : (before : List Declared) (here : Declared) → is_declared here.name before ≡ false → is_again before here ≡ false
not_again before here new = by (is_inner here.direction)
  where
    by : (b : Bool) → (if b then is_wire here.name before else is_directed here.name before) ≡ false
    by true = not_wire here.name before new
    by false = not_directed here.name before new

abbrev IsPort : List (List ℕ) → Declared → Type 0
IsPort ports it = is_inner it.direction ≡ false → has_name it.name ports ≡ true

new_right : (ports : List (List ℕ)) (seen list : List Declared)
    → OneByOne IsNew (map name_of_declared seen) (map name_of_declared list) → All (IsPort ports) list
    → OneByOne (IsRightDeclared ports) seen list
new_right ports seen [] new are_ports = tt
new_right ports seen (here ∷ more) new are_ports = (
  record {
    of_header = are_ports 0 here (omega arith);
    once = not_again seen here new.0;
    same_range = λ again. absurd (let clash : true ≡ false = sym again ∙ new.0 in cc);
  },
  new_right ports (seen ++ here ∷ []) more
      (subst (λ (names : List (List ℕ)). OneByOne IsNew names (map name_of_declared more))
      (sym (map-append name_of_declared seen (here ∷ []))) new.1)
      (λ k d lt. are_ports (suc k) d (omega (arith, lt))),
)

-- what holds of each number holds of each name
range_all : (P : ℕ → Type 0) (from count most : ℕ) → from + count ≤ most → ((k : ℕ) → k < most → P k)
    → All P (range_with_len from count)
range_all P from zero most le each = All-nil P
range_all P from (suc count) most le each =
    All-cons P from (range_with_len (from + 1) count) (each from (omega (arith, le)))
    (range_all P (from + 1) count most (omega (arith, le)) each)

pub names_all : (P : List ℕ → Type 0) (letters : List ℕ) (count : ℕ) → ((k : ℕ) → k < count → P (numbered letters k))
    → All P (names_of letters count)
names_all P letters count each =
    All-map P (numbered letters) (range_with_len 0 count)
    (range_all (λ k. P (numbered letters k)) 0 count count (omega arith) each)

-- the names of the header are declared with a direction
pub directs_named : (name : List ℕ) (direction : Direction) (names : List (List ℕ)) → is_inner direction ≡ false
    → list_any (directs name) (as_declared direction names) ≡ has_name name names
directs_named name direction [] outer = refl
directs_named name direction (first ∷ names) outer =
    ap (λ (b : Bool). (bytes_eq name first && not b) || list_any (directs name) (as_declared direction names)) outer
    ∙ ap (λ (b : Bool). b || list_any (directs name) (as_declared direction names)) (and_true (bytes_eq name first))
    ∙ ap (λ (b : Bool). bytes_eq name first || b) (directs_named name direction names outer)
  where
    and_true : (b : Bool) → (b && true) ≡ b
    and_true true = refl
    and_true false = refl

or_true : (b : Bool) → (b || true) ≡ true
or_true true = refl
or_true false = refl

directed_all : (outputs gates : ℕ)
    → All (λ name. is_directed name (all_declared outputs gates) ≡ true) (i_names ++ o_names outputs)
directed_all outputs gates =
    All-append (λ name. is_directed name (all_declared outputs gates) ≡ true) i_names (o_names outputs)
    (names_all (λ name. is_directed name (all_declared outputs gates) ≡ true) (codes "i") INPUTS (λ k lt.
    list_any-append (directs (105 ∷ decimal k)) (as_declared Input i_names) rest
    ∙ ap (λ (b : Bool). b || list_any (directs (105 ∷ decimal k)) rest)
    (directs_named (105 ∷ decimal k) Input i_names refl ∙ has_numbered 105 0 INPUTS k (omega arith) (omega (arith, lt)))))
    (names_all (λ name. is_directed name (all_declared outputs gates) ≡ true) (codes "o") outputs (λ k lt.
    list_any-append (directs (111 ∷ decimal k)) (as_declared Input i_names) rest
    ∙ ap (λ (b : Bool). list_any (directs (111 ∷ decimal k)) (as_declared Input i_names) || b)
    (list_any-append (directs (111 ∷ decimal k)) (as_declared Output (o_names outputs)) (as_declared Inner (w_names gates))
    ∙ ap (λ (b : Bool). b || list_any (directs (111 ∷ decimal k)) (as_declared Inner (w_names gates)))
    (directs_named (111 ∷ decimal k) Output (o_names outputs) refl ∙ has_numbered 111 0 outputs k (omega arith) (omega (arith, lt))))
    ∙ or_true (list_any (directs (111 ∷ decimal k)) (as_declared Input i_names))))
  where
    rest : List Declared
    rest = as_declared Output (o_names outputs) ++ as_declared Inner (w_names gates)

-- each declared name with a direction is a port
ports_all : (outputs gates : ℕ) → All (IsPort (i_names ++ o_names outputs)) (all_declared outputs gates)
ports_all outputs gates =
    All-append P (as_declared Input i_names) (as_declared Output (o_names outputs) ++ as_declared Inner (w_names gates))
    (All-map P (declared_as Input None) i_names
    (names_all (λ name. P (declared_as Input None name)) (codes "i") INPUTS (λ k lt outer.
    has_first (105 ∷ decimal k) i_names (o_names outputs) (has_numbered 105 0 INPUTS k (omega arith) (omega (arith, lt))))))
    (All-append P (as_declared Output (o_names outputs)) (as_declared Inner (w_names gates))
    (All-map P (declared_as Output None) (o_names outputs)
    (names_all (λ name. P (declared_as Output None name)) (codes "o") outputs (λ k lt outer.
    has_second (111 ∷ decimal k) i_names (o_names outputs) (has_numbered 111 0 outputs k (omega arith) (omega (arith, lt))))))
    (All-map P (declared_as Inner None) (w_names gates)
    (names_all (λ name. P (declared_as Inner None name)) (codes "w") gates
    (λ k lt outer. absurd (let clash : true ≡ false = outer in cc)))))
  where
    P : Declared → Type 0
    P = IsPort (i_names ++ o_names outputs)

-- a name that is declared, and alone
pub record IsKnown (declared : List Declared) (name : List ℕ) : Type 0 where
  pub there : is_declared name declared ≡ true
  pub scalar : range_of name declared ≡ None

abbrev pub IsAlone : Declared → Type 0
IsAlone it = it.range ≡ None

pub no_range : (name : List ℕ) (declared : List Declared) → All IsAlone declared → range_of name declared ≡ None
no_range name [] none = refl
no_range name (it ∷ more) none =
    by (bytes_eq name it.name) (none 0 it (omega arith)) (no_range name more (λ k d lt. none (suc k) d (omega (arith, lt))))
  where
    by : (b : Bool) → it.range ≡ None → range_of name more ≡ None → (if b then it.range else range_of name more) ≡ None
    by true here later = here
    by false here later = later

all_alone : (direction : Direction) (names : List (List ℕ)) → All IsAlone (as_declared direction names)
all_alone direction [] = All-nil IsAlone
all_alone direction (name ∷ names) =
    All-cons IsAlone (declared_as direction None name) (as_declared direction names) refl (all_alone direction names)

pub none_ranged : (outputs gates : ℕ) → All IsAlone (all_declared outputs gates)
none_ranged outputs gates =
    All-append IsAlone (as_declared Input i_names) (as_declared Output (o_names outputs) ++ as_declared Inner (w_names gates))
    (all_alone Input i_names)
    (All-append IsAlone (as_declared Output (o_names outputs)) (as_declared Inner (w_names gates))
    (all_alone Output (o_names outputs)) (all_alone Inner (w_names gates)))

module _ (outputs gates : ℕ) where
  known : (name : List ℕ) → has_name name (all_names outputs gates) ≡ true → IsKnown (all_declared outputs gates) name
  known name has = record {
    there = ap (has_name name) (names_are outputs gates) ∙ has;
    scalar = no_range name (all_declared outputs gates) (none_ranged outputs gates);
  }

  pub known_input : (k : ℕ) → k < INPUTS → IsKnown (all_declared outputs gates) (numbered (codes "i") k)
  known_input k lt = known (105 ∷ decimal k)
      (has_first (105 ∷ decimal k) i_names (o_names outputs ++ w_names gates)
      (has_numbered 105 0 INPUTS k (omega arith) (omega (arith, lt))))

  pub known_output : (k : ℕ) → k < outputs → IsKnown (all_declared outputs gates) (numbered (codes "o") k)
  known_output k lt = known (111 ∷ decimal k)
      (has_second (111 ∷ decimal k) i_names (o_names outputs ++ w_names gates)
      (has_first (111 ∷ decimal k) (o_names outputs) (w_names gates)
      (has_numbered 111 0 outputs k (omega arith) (omega (arith, lt)))))

  pub known_wire : (k : ℕ) → k < gates → IsKnown (all_declared outputs gates) (numbered (codes "w") k)
  known_wire k lt = known (119 ∷ decimal k)
      (has_second (119 ∷ decimal k) i_names (o_names outputs ++ w_names gates)
      (has_second (119 ∷ decimal k) (o_names outputs) (w_names gates)
      (has_numbered 119 0 gates k (omega arith) (omega (arith, lt)))))

  known_candidate : (place : ℕ) → place < INPUTS + gates → IsKnown (all_declared outputs gates) (candidate place)
  known_candidate place lt = by (nat_lt place INPUTS) refl
    where
      by : (b : Bool) → nat_lt place INPUTS ≡ b
          → IsKnown (all_declared outputs gates) (if b then numbered (codes "i") place else numbered (codes "w") (place - INPUTS))
      by true is = known_input place (ltb-true place INPUTS is)
      by false is = known_wire (place - INPUTS) (let above = ltb-false place INPUTS is in omega (arith, above, lt))

-- declarations are right items
declared_right : (direction : Direction) (names : List (List ℕ)) (seen : List Item)
    → OneByOne IsRightItem seen (map (declared direction) names)
declared_right direction [] seen = tt
declared_right direction (name ∷ names) seen = (tt, declared_right direction names (seen ++ declared direction name ∷ []))

all_declared_right : (outputs gates : ℕ) (seen : List Item) → OneByOne IsRightItem seen (declared_items outputs gates)
all_declared_right outputs gates seen =
    both_lists IsRightItem seen (map (declared Input) i_names)
    (map (declared Output) (o_names outputs) ++ map (declared Inner) (w_names gates))
    (declared_right Input i_names seen)
    (both_lists IsRightItem (seen ++ map (declared Input) i_names) (map (declared Output) (o_names outputs))
    (map (declared Inner) (w_names gates)) (declared_right Output (o_names outputs) (seen ++ map (declared Input) i_names))
    (declared_right Inner (w_names gates) ((seen ++ map (declared Input) i_names) ++ map (declared Output) (o_names outputs))))

-- a known name on a pin
known_on : (all : List Declared) (pin name : List ℕ) → IsKnown all name → IsRightValue all (on_pin pin name).value
known_on all pin name it = (it.there, it.scalar)

abbrev IsRightOn : List Item → Connection → Type 0
IsRightOn seen on = IsRightValue (declarations seen) on.value

two_right : (seen : List Item) (one two : Connection) → IsRightOn seen one → IsRightOn seen two
    → All (IsRightOn seen) (one ∷ two ∷ [])
two_right seen one two first second =
    All-cons (IsRightOn seen) one (two ∷ []) first (All-cons (IsRightOn seen) two [] second (All-nil (IsRightOn seen)))

three_right : (seen : List Item) (one two three : Connection) → IsRightOn seen one → IsRightOn seen two → IsRightOn seen three
    → All (IsRightOn seen) (one ∷ two ∷ three ∷ [])
three_right seen one two three first second third =
    All-cons (IsRightOn seen) one (two ∷ three ∷ []) first (two_right seen two three second third)

-- the instance of a gate is right where its names are known
gate_right : (seen : List Item) (k : ℕ) (it : Gate) (candidates : ℕ) → IsWithin candidates it
    → ((place : ℕ) → place < candidates → IsKnown (declarations seen) (candidate place))
    → IsKnown (declarations seen) (numbered (codes "w") k) → IsRightItem seen (instance_item k it)
unfolding repeats
gate_right seen k (gate.Inv a) candidates within places wire = record {
  different = refl;
  values = two_right seen (on_pin (codes "A") (candidate a)) (on_pin (codes "ZN") (numbered (codes "w") k))
      (known_on (declarations seen) (codes "A") (candidate a) (places a within))
      (known_on (declarations seen) (codes "ZN") (numbered (codes "w") k) wire);
}
gate_right seen k (gate.Nand2 a b) candidates within places wire = record {
  different = refl;
  values = three_right seen (on_pin (codes "A1") (candidate a)) (on_pin (codes "A2") (candidate b)) (on_pin (codes "ZN") (numbered (codes "w") k))
      (known_on (declarations seen) (codes "A1") (candidate a) (places a within.0))
      (known_on (declarations seen) (codes "A2") (candidate b) (places b within.1))
      (known_on (declarations seen) (codes "ZN") (numbered (codes "w") k) wire);
}
gate_right seen k (gate.Nor2 a b) candidates within places wire = record {
  different = refl;
  values = three_right seen (on_pin (codes "A1") (candidate a)) (on_pin (codes "A2") (candidate b)) (on_pin (codes "ZN") (numbered (codes "w") k))
      (known_on (declarations seen) (codes "A1") (candidate a) (places a within.0))
      (known_on (declarations seen) (codes "A2") (candidate b) (places b within.1))
      (known_on (declarations seen) (codes "ZN") (numbered (codes "w") k) wire);
}

-- a list of items after declarations, each of which is right and declares nothing
items_right : {X : Type 0} (item : ℕ → X → Item) (P : X → Type 0) (all : List Declared) (most : ℕ)
    → ((k : ℕ) (x : X) → declared_by (item k x) ≡ [])
    → ((seen : List Item) (k : ℕ) (x : X) → declarations seen ≡ all → k < most → P x → IsRightItem seen (item k x))
    → (from : ℕ) (xs : List X) (seen : List Item) → declarations seen ≡ all → from + length xs ≤ most → All P xs
    → OneByOne IsRightItem seen (items_from item from xs)
items_right item P all most none right from [] seen is le each = tt
items_right item P all most none right from (x ∷ xs) seen is le each = (
  right seen from x is (omega (arith, le)) (each 0 x (omega arith)),
  items_right item P all most none right (from + 1) xs (seen ++ item from x ∷ [])
      (flat_map-append declared_by seen (item from x ∷ [])
      ∙ ap (λ (list : List Declared). declarations seen ++ (list ++ [])) (none from x)
      ∙ append-nil (declarations seen) ∙ is)
      (omega (arith, le)) (λ k d lt. each (suc k) d (omega (arith, lt))),
)

known_in : (seen : List Item) (all : List Declared) (name : List ℕ) → declarations seen ≡ all → IsKnown all name
    → IsKnown (declarations seen) name
known_in seen all name is = subst (λ (d : List Declared). IsKnown d name) (sym is)

module _ (gates : List Gate) (outputs : List ℕ) (are : AreSpelled gates outputs) where
  abbrev declared_here : List Declared
  declared_here = all_declared (length outputs) (length gates)

  tree_items : OneByOne IsRightItem [] (tree_of gates outputs).items
  tree_items =
      let first = declared_items (length outputs) (length gates) in
      let lines = items_from instance_item 0 gates in
      let joins = items_from assign_item 0 outputs in
      both_lists IsRightItem [] first (lines ++ joins) (all_declared_right (length outputs) (length gates) [])
      (both_lists IsRightItem first lines joins
      (items_right instance_item (IsWithin (INPUTS + length gates)) declared_here (length gates) (λ k it. refl)
      (λ seen k it is lt within. gate_right seen k it (INPUTS + length gates) within
      (λ place below. known_in seen declared_here (candidate place) is (known_candidate (length outputs) (length gates) place below))
      (known_in seen declared_here (numbered (codes "w") k) is (known_wire (length outputs) (length gates) k lt)))
      0 gates first (declared_first (length outputs) (length gates)) (omega arith) are.within)
      (items_right assign_item (λ k. k < length gates) declared_here (length outputs) (λ j k. refl)
      (λ seen j k is lt below.
      let left = known_in seen declared_here (numbered (codes "o") j) is (known_output (length outputs) (length gates) j lt) in
      let right = known_in seen declared_here (numbered (codes "w") k) is (known_wire (length outputs) (length gates) k below) in
      record {
        left_side = left.there;
        right_side = right.there;
        same_width = ap width_in (left.scalar ∙ sym right.scalar);
      })
      0 outputs (first ++ lines)
      (flat_map-append declared_by first lines
      ∙ ap (λ (list : List Declared). declarations first ++ list) (none_declared instance_item (λ k it. refl) 0 gates)
      ∙ append-nil (declarations first) ∙ declared_first (length outputs) (length gates))
      (omega arith) are.driven))

-- the instances, by their names
abbrev instance_name : Instance → List ℕ
instance_name it = it.name

pub no_instances : {X : Type 0} (item : X → Item) → ((x : X) → instance_by (item x) ≡ []) → (xs : List X)
    → instances (map item xs) ≡ []
no_instances item none [] = refl
no_instances item none (x ∷ xs) =
    ap (λ (list : List Instance). list ++ instances (map item xs)) (none x) ∙ no_instances item none xs

pub no_joined : (from : ℕ) (outputs : List ℕ) → instances (items_from assign_item from outputs) ≡ []
no_joined from [] = refl
no_joined from (k ∷ outputs) = no_joined (from + 1) outputs

lines_named : (from : ℕ) (gates : List Gate) → map instance_name (instances (items_from instance_item from gates))
    ≡ map (numbered (codes "u")) (range_with_len from (length gates))
lines_named from [] = refl
lines_named from (it ∷ gates) = ap (λ (list : List (List ℕ)). numbered (codes "u") from ∷ list) (lines_named (from + 1) gates)

pub declared_bare : (outputs gates : ℕ) → instances (declared_items outputs gates) ≡ []
declared_bare outputs gates =
    flat_map-append instance_by (map (declared Input) i_names) (map (declared Output) (o_names outputs) ++ map (declared Inner) (w_names gates))
    ∙ ap (λ (list : List Instance). list ++ instances (map (declared Output) (o_names outputs) ++ map (declared Inner) (w_names gates)))
    (no_instances (declared Input) (λ name. refl) i_names)
    ∙ flat_map-append instance_by (map (declared Output) (o_names outputs)) (map (declared Inner) (w_names gates))
    ∙ ap (λ (list : List Instance). list ++ instances (map (declared Inner) (w_names gates)))
    (no_instances (declared Output) (λ name. refl) (o_names outputs))
    ∙ no_instances (declared Inner) (λ name. refl) (w_names gates)

instances_named : (gates : List Gate) (outputs : List ℕ)
    → map instance_name (instances (tree_of gates outputs).items) ≡ map (numbered (codes "u")) (range_with_len 0 (length gates))
instances_named gates outputs =
    let first = declared_items (length outputs) (length gates) in
    let lines = items_from instance_item 0 gates in
    let joins = items_from assign_item 0 outputs in
    ap (map instance_name)
    (flat_map-append instance_by first (lines ++ joins)
    ∙ ap (λ (list : List Instance). list ++ instances (lines ++ joins)) (declared_bare (length outputs) (length gates))
    ∙ flat_map-append instance_by lines joins
    ∙ ap (λ (list : List Instance). instances lines ++ list) (no_joined 0 outputs)
    ∙ append-nil (instances lines))
    ∙ lines_named 0 gates

-- how many bits a tree declares
with_one : (name : List ℕ) (names : List (List ℕ)) → length (with_name name names) ≤ length names + 1
with_one name names = by (has_name name names)
  where
    by : (b : Bool) → length (if b then names else names ++ name ∷ []) ≤ length names + 1
    by true = omega arith
    by false = let e = length-append names (name ∷ []) in omega (arith, e)

once_few : (seen names : List (List ℕ)) → length (fold (λ seen name. with_name name seen) seen names) ≤ length seen + length names
once_few seen [] = omega arith
once_few seen (name ∷ names) =
    let more = once_few (with_name name seen) names in
    let one = with_one name seen in
    omega (arith, more, one)

bits_are : (all : List Declared) (names : List (List ℕ)) → All IsAlone all → bit_count (map (bus_in all) names) ≡ length names
bits_are all [] alone = refl
bits_are all (name ∷ names) alone =
    ap (λ range. range_width (option_map raw_range range) + bit_count (map (bus_in all) names)) (no_range name all alone)
    ∙ ap (λ n. 1 + n) (bits_are all names alone)
    ∙ (let e : 1 + length names ≡ length (name ∷ names) = omega arith in e)

length_names : (letters : List ℕ) (count : ℕ) → length (names_of letters count) ≡ count
length_names letters count = length-map-range_with_len (numbered letters) 0 count

bits_few : (outputs gates : ℕ) → bit_count (buses_of (all_declared outputs gates)) ≤ INPUTS + (outputs + gates)
bits_few outputs gates =
    let all = all_declared outputs gates in
    let bits = bits_are all (names_in all) (none_ranged outputs gates) in
    let once = once_few [] (map name_of_declared all) in
    let names = ap length (names_are outputs gates) in
    let first = length-append i_names (o_names outputs ++ w_names gates) in
    let second = length-append (o_names outputs) (w_names gates) in
    let inputs = length_names (codes "i") INPUTS in
    let ports = length_names (codes "o") outputs in
    let wires = length_names (codes "w") gates in
    omega (arith, bits, once, names, first, second, inputs, ports, wires)

module _ (gates : List Gate) (outputs : List ℕ) (are : AreSpelled gates outputs) where
  pub tree_right : IsRight (tree_of gates outputs)
  tree_right =
      let few = are.few in
      let fewer = are.few_outputs in
      let all = all_declared (length outputs) (length gates) in
      let is = declared_all gates outputs in
      let ports = i_names ++ o_names (length outputs) in
      record {
        ports = no_double [] ports (ports_new (length outputs) (omega (arith, few, fewer)));
        directed = subst (λ (d : List Declared). All (λ name. is_directed name d ≡ true) ports) (sym is)
            (directed_all (length outputs) (length gates));
        declared = subst (λ (d : List Declared). EachAfter (IsRightDeclared ports) d) (sym is)
            (each_after (IsRightDeclared ports) all
            (new_right ports [] all
            (subst (OneByOne IsNew []) (sym (names_are (length outputs) (length gates)))
            (all_new (length outputs) (length gates) (omega (arith, few, fewer)) (omega (arith, few))))
            (ports_all (length outputs) (length gates))));
        items = each_after IsRightItem (tree_of gates outputs).items (tree_items gates outputs are);
        instances = ap has_double (instances_named gates outputs)
            ∙ no_double [] (map (numbered (codes "u")) (range_with_len 0 (length gates)))
            (names_new 117 0 (length gates) (length gates) [] (omega arith) (omega (arith, few)) (All-nil _));
      }

  pub few_bits : tree_bits (tree_of gates outputs) ≤ MOST_BITS
  few_bits =
      let few = are.few in
      let fewer = are.few_outputs in
      let same = ap (λ (d : List Declared). bit_count (buses_of d)) (declared_all gates outputs) in
      let bits = bits_few (length outputs) (length gates) in
      omega (arith, few, fewer, same, bits)
