-- The netlist of the tree of a generated chip, in numbers.
use Rattle.std.proofs.Common.{◌≡◌, ℕ, zero, suc, ◌+◌, ◌-◌, ◌<◌, ◌≤◌, ◌^◌, ◌==◌, Bool, true, false, not, ◌||◌}
use Rattle.std.proofs.Common.{◌&&◌, List, [], ◌∷◌, ◌++◌}
use Rattle.std.proofs.Common.{length, map, flat_map, nat_lt, cond, if◌then◌else◌, None, Some, refl, sym, ap}
use Rattle.std.proofs.Common.{◌∙◌, subst, arith}
use Rattle.std.proofs.Common.{codes, decimal, append_assoc}
use Rattle.std.specs.Prelude.{fold, option_map, unwrap_or}
use Rattle.std.specs.Str.{bytes_eq}
use Rattle.std.specs.List.{All, list_any, range_with_len, position_or_len}
use Rattle.std.proofs.lemmas.Bool.{lt-ltb, ltb-true, ltb-false}
use Rattle.std.proofs.lemmas.List.{append-nil, map-append, length-append}
use Rattle.std.proofs.lemmas.List.Folds.{list_any_none}
use Rattle.std.proofs.lemmas.List.FromFn.{length-map-range_with_len}
use Rattle.std.proofs.lemmas.Grind.{flat_map-append}
use Rattle.ca_lex.specs.Words.{upper_case}
use Rattle.ca_names.specs.Names.{has_name, with_name, place_of}
use Rattle.ca_verilog.specs.declared.raw.RawBit.TheVariants.{Bit}
use Rattle.ca_verilog.specs.declared.raw.RawBus.{RawBus}
use Rattle.ca_verilog.specs.declared.raw.RawJoin.{RawJoin}
use Rattle.ca_verilog.specs.declared.table.Direction.{Direction}
use Rattle.ca_verilog.specs.declared.table.Direction.TheVariants.{Input, Output, Inner}
use Rattle.ca_verilog.specs.Bus.{is_inner}
use native.Mathlib.Decide.{ℕ_discrete}
use Rattle.ca_verilog.specs.IsNetlist.{range_width}
use Rattle.ca_verilog.specs.Joins.{pairs_of}
use Rattle.ca_verilog.specs.Netlist.{raw_range}
use Rattle.ca_verilog.specs.Reading.{width_in}
use Rattle.ca_verilog.proofs.DistinctLemmas.{or_false, same_name}
use Rattle.ca_syntax.specs.Tree.{Assign, Instance, Item, Declared, assigned_by, assigns}
use Rattle.ca_syntax.specs.Tree.{instance_by, instances, ports_of}
use Rattle.ca_syntax.specs.Names.{names_in, directs, direction_of, range_of}
use Rattle.ca_syntax.specs.TreeNetlist.{bus_in, buses_of, bits_before, joins_of, use_of, instance_of, port_of}
use Rattle.ca_syntax.specs.TreeNetlist.{tree_netlist}
use Rattle.ca_syntax.proofs.AfterLemmas.{OneByOne}
use Rattle.ca_make.specs.declared.gate.Gate.{Gate}
use Rattle.ca_make.specs.declared.gate.Gate.TheVariants as gate
use Rattle.ca_make.specs.declared.gate.TheConstants.{INPUTS}
use Rattle.ca_make.specs.code.Chip.{IsWithin}
use Rattle.ca_make.specs.NetlistText.{numbered, candidate}
use Rattle.ca_make_laws.specs.ChipTree.{declared, on_pin, instance_item, assign_item, items_from}
use Rattle.ca_make_laws.specs.ChipTree.{declared_items, tree_of}
use Rattle.ca_make_laws.specs.ChipNetlist.{bus, candidate_bit, wire_bit, on_bit, gate_instance, output_join}
use Rattle.ca_make_laws.specs.ChipNetlist.{each_from}
use Rattle.ca_make_laws.specs.ChipNetlist.{netlist_in_numbers}
use Rattle.ca_make_laws.proofs.SpelledLemmas.{AreSpelled}
use Rattle.ca_make_laws.proofs.FreshLemmas.{IsNew, numbers_apart, other_letter, has_numbered}
use Rattle.ca_make_laws.proofs.RightLemmas.{as_declared, all_declared, all_names, i_names, o_names, w_names}
use Rattle.ca_make_laws.proofs.RightLemmas.{names_all}
use Rattle.ca_make_laws.proofs.RightLemmas.{declared_all, names_are, all_new, directs_named, no_range}
use Rattle.ca_make_laws.proofs.RightLemmas.{none_ranged}
use Rattle.ca_make_laws.proofs.RightLemmas.{declared_bare, no_joined, name_of_declared}

-- new names stay as they are
once_new : (seen names : List (List ℕ)) → OneByOne IsNew seen names → fold (λ seen name. with_name name seen) seen names ≡ seen ++ names
once_new seen [] new = sym (append-nil seen)
once_new seen (name ∷ names) new =
    ap (λ (b : Bool). fold (λ seen name. with_name name seen) (if b then seen else seen ++ name ∷ []) names) new.0
    ∙ once_new (seen ++ name ∷ []) names new.1 ∙ append_assoc seen (name ∷ []) names

names_once : (outputs gates : ℕ) → outputs ≤ 8192 → gates ≤ 8192 → names_in (all_declared outputs gates) ≡ all_names outputs gates
names_once outputs gates few_outputs few =
    once_new [] (map name_of_declared (all_declared outputs gates))
    (subst (OneByOne IsNew []) (sym (names_are outputs gates)) (all_new outputs gates few_outputs few))
    ∙ names_are outputs gates

-- where a name is
abbrev place : List ℕ → List (List ℕ) → ℕ
place name names = position_or_len (bytes_eq name) names

place_in : (letter from count k : ℕ) (rest : List (List ℕ)) → from ≤ k → k < from + count → from + count ≤ 2 ^ 32
    → place (letter ∷ decimal k) (map (numbered (letter ∷ [])) (range_with_len from count) ++ rest) ≡ k - from
place_in letter from zero k rest above below few = absurd (omega (arith, above, below))
place_in letter from (suc count) k rest above below few = elim (ℕ_discrete k from) [
  | yes is ↦
      ap (λ (b : Bool). cond (not b) (1 + place (letter ∷ decimal k) later) 0)
      (ap (λ n. bytes_eq (letter ∷ decimal k) (letter ∷ decimal n)) (sym is) ∙ same_name (letter ∷ decimal k))
      ∙ (let e : 0 ≡ k - from = omega (arith, is) in e)
  | no differ ↦
      ap (λ (b : Bool). cond (not b) (1 + place (letter ∷ decimal k) later) 0)
      (numbers_apart letter k from (omega (arith, below, few)) (omega (arith, few)) differ)
      ∙ ap (λ n. 1 + n) (place_in letter (from + 1) count k rest (omega arith) (omega (arith, below)) (omega (arith, few)))
      ∙ (let e : 1 + (k - (from + 1)) ≡ k - from = omega arith in e)
]
  where
    later : List (List ℕ)
    later = map (numbered (letter ∷ [])) (range_with_len (from + 1) count) ++ rest

place_after : (name : List ℕ) (names rest : List (List ℕ)) → has_name name names ≡ false
    → place name (names ++ rest) ≡ length names + place name rest
place_after name [] rest new = let e : place name rest ≡ 0 + place name rest = omega arith in e
place_after name (first ∷ names) rest new =
    let parts = or_false (bytes_eq name first) (has_name name names) new in
    ap (λ (b : Bool). cond (not b) (1 + place name (names ++ rest)) 0) parts.0
    ∙ ap (λ n. 1 + n) (place_after name names rest parts.1)
    ∙ (let e : 1 + (length names + place name rest) ≡ length (first ∷ names) + place name rest = omega arith in e)

not_there : (letter other count k most : ℕ) → (letter == other) ≡ false → k < most
    → has_name (letter ∷ decimal k) (map (numbered (other ∷ [])) (range_with_len 0 count)) ≡ false
not_there letter other count k most differ lt =
    list_any_none (bytes_eq (letter ∷ decimal k)) (map (numbered (other ∷ [])) (range_with_len 0 count))
    (λ j d within. other_letter letter other 0 most 0 count differ j d within k (omega arith) lt)

length_names : (letter count : ℕ) → length (map (numbered (letter ∷ [])) (range_with_len 0 count)) ≡ count
length_names letter count = length-map-range_with_len (numbered (letter ∷ [])) 0 count

module _ (outputs gates : ℕ) (few_outputs : outputs ≤ 8192) (few : gates ≤ 8192) where
  abbrev all : List Declared
  all = all_declared outputs gates

  place_i : (k : ℕ) → k < INPUTS → place (105 ∷ decimal k) (all_names outputs gates) ≡ k
  place_i k lt =
      place_in 105 0 INPUTS k (o_names outputs ++ w_names gates) (omega arith) (omega (arith, lt)) (omega arith)
      ∙ (let e : k - 0 ≡ k = omega arith in e)

  place_o : (k : ℕ) → k < outputs → place (111 ∷ decimal k) (all_names outputs gates) ≡ INPUTS + k
  place_o k lt =
      place_after (111 ∷ decimal k) i_names (o_names outputs ++ w_names gates) (not_there 111 105 INPUTS k outputs refl lt)
      ∙ ap (λ n. length i_names + n) (place_in 111 0 outputs k (w_names gates) (omega arith) (omega (arith, lt)) (omega (arith, few_outputs)))
      ∙ (let e = length_names 105 INPUTS in let f : length i_names + (k - 0) ≡ INPUTS + k = omega (arith, e) in f)

  place_w : (k : ℕ) → k < gates → place (119 ∷ decimal k) (all_names outputs gates) ≡ wire_bit outputs k
  place_w k lt =
      place_after (119 ∷ decimal k) i_names (o_names outputs ++ w_names gates) (not_there 119 105 INPUTS k gates refl lt)
      ∙ ap (λ n. length i_names + n)
      (place_after (119 ∷ decimal k) (o_names outputs) (w_names gates) (not_there 119 111 outputs k gates refl lt)
      ∙ ap (λ n. length (o_names outputs) + n)
      (ap (place (119 ∷ decimal k)) (sym (append-nil (w_names gates)))
      ∙ place_in 119 0 gates k [] (omega arith) (omega (arith, lt)) (omega (arith, few))))
      ∙ (let e = length_names 105 INPUTS in let f = length_names 111 outputs in
      let g : length i_names + (length (o_names outputs) + (k - 0)) ≡ wire_bit outputs k = omega (arith, e, f) in g)

  -- the bits before those of a name
  bits_are_places : (name : List ℕ) (names : List (List ℕ)) → bits_before name (map (bus_in all) names) ≡ place name names
  bits_are_places name [] = refl
  bits_are_places name (first ∷ names) =
      ap (λ range. if bytes_eq name first then 0
      else range_width (option_map raw_range range) + bits_before name (map (bus_in all) names))
      (no_range first all (none_ranged outputs gates))
      ∙ ap (λ n. if bytes_eq name first then 0 else 1 + n) (bits_are_places name names)
      ∙ turned (bytes_eq name first) (1 + place name names)
    where
      turned : (b : Bool) (n : ℕ) → (if b then 0 else n) ≡ cond (not b) n 0
      turned true n = refl
      turned false n = refl

  bit_is : (name : List ℕ) (at : ℕ) → place name (all_names outputs gates) ≡ at → bits_before name (buses_of all) ≡ at
  bit_is name at is =
      ap (λ (names : List (List ℕ)). bits_before name (map (bus_in all) names)) (names_once outputs gates few_outputs few)
      ∙ bits_are_places name (all_names outputs gates) ∙ is

  bit_candidate : (at : ℕ) → at < INPUTS + gates → bits_before (candidate at) (buses_of all) ≡ candidate_bit outputs at
  bit_candidate at lt = by (nat_lt at INPUTS) refl
    where
      by : (b : Bool) → nat_lt at INPUTS ≡ b
          → bits_before (if b then numbered (codes "i") at else numbered (codes "w") (at - INPUTS)) (buses_of all)
          ≡ (if b then at else outputs + at)
      by true is = bit_is (105 ∷ decimal at) at (place_i at (ltb-true at INPUTS is))
      by false is =
          let above = ltb-false at INPUTS is in
          bit_is (119 ∷ decimal (at - INPUTS)) (outputs + at)
          (place_w (at - INPUTS) (omega (arith, above, lt))
          ∙ (let e : wire_bit outputs (at - INPUTS) ≡ outputs + at = omega (arith, above) in e))

  -- the ports
  port_is : (name : List ℕ) (at : ℕ) → place name (all_names outputs gates) ≡ at → at < length (all_names outputs gates)
      → port_of all name ≡ at
  port_is name at is lt =
      ap (λ (names : List (List ℕ)). unwrap_or (place_of name names) 0) (names_once outputs gates few_outputs few)
      ∙ ap (λ (b : Bool). unwrap_or (cond b (Some (place name (all_names outputs gates))) None) 0)
      (lt-ltb (place name (all_names outputs gates)) (length (all_names outputs gates)) (omega (arith, is, lt)))
      ∙ is

numbers_mapped : (f : List ℕ → ℕ) (name : ℕ → List ℕ) (shift from count most : ℕ) → from + count ≤ most
    → ((k : ℕ) → k < most → f (name k) ≡ shift + k) → map f (map name (range_with_len from count)) ≡ range_with_len (shift + from) count
numbers_mapped f name shift from zero most le each = refl
numbers_mapped f name shift from (suc count) most le each =
    λ i. each from (omega (arith, le)) i
    ∷ (numbers_mapped f name shift (from + 1) count most (omega (arith, le)) each
    ∙ ap (λ n. range_with_len n count) (let e : shift + (from + 1) ≡ shift + from + 1 = omega arith in e)) i

range_parts : (from one other : ℕ) → range_with_len from one ++ range_with_len (from + one) other ≡ range_with_len from (one + other)
range_parts from zero other =
    ap (λ n. range_with_len n other) (let e : from + 0 ≡ from = omega arith in e)
    ∙ ap (range_with_len from) (let e : other ≡ 0 + other = omega arith in e)
range_parts from (suc one) other =
    ap (λ (list : List ℕ). from ∷ list)
    (ap (λ n. range_with_len (from + 1) one ++ range_with_len n other) (let e : from + suc one ≡ from + 1 + one = omega arith in e)
    ∙ range_parts (from + 1) one other)
    ∙ ap (range_with_len from) (let e : suc (one + other) ≡ suc one + other = omega arith in e)

mapped_same : {Y : Type 0} (f g : List ℕ → Y) (names : List (List ℕ)) → All (λ name. f name ≡ g name) names → map f names ≡ map g names
mapped_same f g [] same = refl
mapped_same f g (name ∷ names) same =
    λ i. same 0 name (omega arith) i ∷ mapped_same f g names (λ k d lt. same (suc k) d (omega (arith, lt))) i

-- directions
direction_after : (name : List ℕ) (one other : List Declared) → list_any (directs name) one ≡ false
    → direction_of name (one ++ other) ≡ direction_of name other
direction_after name [] other none = refl
direction_after name (it ∷ one) other none =
    let parts = or_false (directs name it) (list_any (directs name) one) none in
    ap (λ (b : Bool). if b then it.direction else direction_of name (one ++ other)) parts.0
    ∙ direction_after name one other parts.1

direction_found : (name : List ℕ) (direction : Direction) (names : List (List ℕ)) (rest : List Declared) → is_inner direction ≡ false
    → has_name name names ≡ true → direction_of name (as_declared direction names ++ rest) ≡ direction
direction_found name direction [] rest outer has = absurd cc
direction_found name direction (first ∷ names) rest outer has =
    ap (λ (b : Bool). if bytes_eq name first && not b then direction else direction_of name (as_declared direction names ++ rest)) outer
    ∙ by (bytes_eq name first) has (direction_found name direction names rest outer)
  where
    by : (b : Bool) → (b || has_name name names) ≡ true
        → (has_name name names ≡ true → direction_of name (as_declared direction names ++ rest) ≡ direction)
        → (if b && true then direction else direction_of name (as_declared direction names ++ rest)) ≡ direction
    by true here later = refl
    by false here later = later here

pub inner_none : (name : List ℕ) (names : List (List ℕ)) → list_any (directs name) (as_declared Inner names) ≡ false
inner_none name [] = refl
inner_none name (first ∷ names) = ap (λ (b : Bool). b || list_any (directs name) (as_declared Inner names)) (and_false (bytes_eq name first))
    ∙ inner_none name names
  where
    and_false : (b : Bool) → (b && false) ≡ false
    and_false true = refl
    and_false false = refl

module _ (outputs gates : ℕ) (few_outputs : outputs ≤ 8192) (few : gates ≤ 8192) where
  abbrev whole : List Declared
  whole = all_declared outputs gates

  bus_is : (name : List ℕ) (direction : Direction) → direction_of name whole ≡ direction → bus_in whole name ≡ bus direction name
  bus_is name direction is =
      λ i. record {
        name = name;
        direction = is i;
        range = option_map raw_range (no_range name whole (none_ranged outputs gates) i);
      }

  direction_i : (k : ℕ) → k < INPUTS → direction_of (105 ∷ decimal k) whole ≡ Input
  direction_i k lt =
      direction_found (105 ∷ decimal k) Input i_names (as_declared Output (o_names outputs) ++ as_declared Inner (w_names gates)) refl
      (has_numbered 105 0 INPUTS k (omega arith) (omega (arith, lt)))

  direction_o : (k : ℕ) → k < outputs → direction_of (111 ∷ decimal k) whole ≡ Output
  direction_o k lt =
      direction_after (111 ∷ decimal k) (as_declared Input i_names) (as_declared Output (o_names outputs) ++ as_declared Inner (w_names gates))
      (directs_named (111 ∷ decimal k) Input i_names refl ∙ not_there 111 105 INPUTS k outputs refl lt)
      ∙ direction_found (111 ∷ decimal k) Output (o_names outputs) (as_declared Inner (w_names gates)) refl
      (has_numbered 111 0 outputs k (omega arith) (omega (arith, lt)))

  direction_w : (k : ℕ) → k < gates → direction_of (119 ∷ decimal k) whole ≡ Inner
  direction_w k lt =
      direction_after (119 ∷ decimal k) (as_declared Input i_names) (as_declared Output (o_names outputs) ++ as_declared Inner (w_names gates))
      (directs_named (119 ∷ decimal k) Input i_names refl ∙ not_there 119 105 INPUTS k gates refl lt)
      ∙ direction_after (119 ∷ decimal k) (as_declared Output (o_names outputs)) (as_declared Inner (w_names gates))
      (directs_named (119 ∷ decimal k) Output (o_names outputs) refl ∙ not_there 119 111 outputs k gates refl lt)
      ∙ ap (direction_of (119 ∷ decimal k)) (sym (append-nil (as_declared Inner (w_names gates))))
      ∙ direction_after (119 ∷ decimal k) (as_declared Inner (w_names gates)) [] (inner_none (119 ∷ decimal k) (w_names gates))

  buses_are : buses_of whole ≡ map (bus Input) i_names ++ (map (bus Output) (o_names outputs) ++ map (bus Inner) (w_names gates))
  buses_are =
      ap (map (bus_in whole)) (names_once outputs gates few_outputs few)
      ∙ map-append (bus_in whole) i_names (o_names outputs ++ w_names gates)
      ∙ ap (λ (list : List RawBus). list ++ map (bus_in whole) (o_names outputs ++ w_names gates))
      (mapped_same (bus_in whole) (bus Input) i_names
      (names_all (λ name. bus_in whole name ≡ bus Input name) (codes "i") INPUTS (λ k lt. bus_is (105 ∷ decimal k) Input (direction_i k lt))))
      ∙ ap (λ (list : List RawBus). map (bus Input) i_names ++ list)
      (map-append (bus_in whole) (o_names outputs) (w_names gates)
      ∙ ap (λ (list : List RawBus). list ++ map (bus_in whole) (w_names gates))
      (mapped_same (bus_in whole) (bus Output) (o_names outputs)
      (names_all (λ name. bus_in whole name ≡ bus Output name) (codes "o") outputs (λ k lt. bus_is (111 ∷ decimal k) Output (direction_o k lt))))
      ∙ ap (λ (list : List RawBus). map (bus Output) (o_names outputs) ++ list)
      (mapped_same (bus_in whole) (bus Inner) (w_names gates)
      (names_all (λ name. bus_in whole name ≡ bus Inner name) (codes "w") gates (λ k lt. bus_is (119 ∷ decimal k) Inner (direction_w k lt)))))

  names_long : INPUTS + outputs ≤ length (all_names outputs gates)
  names_long =
      let first = length-append i_names (o_names outputs ++ w_names gates) in
      let second = length-append (o_names outputs) (w_names gates) in
      let inputs = length_names 105 INPUTS in
      let ports = length_names 111 outputs in
      omega (arith, first, second, inputs, ports)

  ports_are : map (port_of whole) (i_names ++ o_names outputs) ≡ range_with_len 0 (INPUTS + outputs)
  ports_are =
      let long = names_long in
      map-append (port_of whole) i_names (o_names outputs)
      ∙ ap (λ (list : List ℕ). list ++ map (port_of whole) (o_names outputs))
      (numbers_mapped (port_of whole) (numbered (codes "i")) 0 0 INPUTS INPUTS (omega arith)
      (λ k lt. port_is outputs gates few_outputs few (105 ∷ decimal k) k (place_i outputs gates few_outputs few k lt) (omega (arith, long, lt))
      ∙ (let e : k ≡ 0 + k = omega arith in e)))
      ∙ ap (λ (list : List ℕ). range_with_len 0 INPUTS ++ list)
      (numbers_mapped (port_of whole) (numbered (codes "o")) INPUTS 0 outputs outputs (omega arith)
      (λ k lt. port_is outputs gates few_outputs few (111 ∷ decimal k) (INPUTS + k) (place_o outputs gates few_outputs few k lt) (omega (arith, long, lt))))
      ∙ range_parts 0 INPUTS outputs

-- a join of two names of one bit each
one_pair : (left right count : ℕ) → count ≡ 1 → pairs_of (record { left = Bit left; right = Bit right; count = count })
    ≡ record { left = Bit left; right = Bit right } ∷ []
one_pair left right count is =
    ap (λ n. pairs_of (record { left = Bit left; right = Bit right; count = n })) is
    ∙ λ i. record {
      left = Bit ((let e : left + 0 ≡ left = omega arith in e) i);
      right = Bit ((let e : right + 0 ≡ right = omega arith in e) i);
    } ∷ []

bare : {X Y : Type 0} (give : Item → List Y) (item : X → Item) → ((x : X) → give (item x) ≡ []) → (xs : List X)
    → flat_map give (map item xs) ≡ []
bare give item none [] = refl
bare give item none (x ∷ xs) =
    ap (λ list. list ++ flat_map give (map item xs)) (none x) ∙ bare give item none xs

bare_from : {X Y : Type 0} (give : Item → List Y) (item : ℕ → X → Item) → ((k : ℕ) (x : X) → give (item k x) ≡ []) → (from : ℕ) (xs : List X)
    → flat_map give (items_from item from xs) ≡ []
bare_from give item none from [] = refl
bare_from give item none from (x ∷ xs) =
    ap (λ list. list ++ flat_map give (items_from item (from + 1) xs)) (none from x) ∙ bare_from give item none (from + 1) xs

bare_declared : {Y : Type 0} (give : Item → List Y) → ((direction : Direction) (name : List ℕ) → give (declared direction name) ≡ [])
    → (outputs gates : ℕ) → flat_map give (declared_items outputs gates) ≡ []
bare_declared give none outputs gates =
    flat_map-append give (map (declared Input) i_names) (map (declared Output) (o_names outputs) ++ map (declared Inner) (w_names gates))
    ∙ ap (λ list. list ++ flat_map give (map (declared Output) (o_names outputs) ++ map (declared Inner) (w_names gates)))
    (bare give (declared Input) (none Input) i_names)
    ∙ flat_map-append give (map (declared Output) (o_names outputs)) (map (declared Inner) (w_names gates))
    ∙ ap (λ list. list ++ flat_map give (map (declared Inner) (w_names gates))) (bare give (declared Output) (none Output) (o_names outputs))
    ∙ bare give (declared Inner) (none Inner) (w_names gates)

module _ (gates : List Gate) (outputs : List ℕ) (are : AreSpelled gates outputs) where
  abbrev here : List Declared
  here = all_declared (length outputs) (length gates)

  few_joined : length outputs ≤ 8192
  few_joined = let few = are.few in let fewer = are.few_outputs in omega (arith, few, fewer)

  few_gates : length gates ≤ 8192
  few_gates = let few = are.few in omega (arith, few)

  bit_here : (name : List ℕ) (at : ℕ) → place name (all_names (length outputs) (length gates)) ≡ at → bits_before name (buses_of here) ≡ at
  bit_here = bit_is (length outputs) (length gates) few_joined few_gates

  join_is : (j k : ℕ) → j < length outputs → k < length gates
      → flat_map (joins_of here) (assigned_by (assign_item j k)) ≡ output_join (length outputs) j k ∷ []
  join_is j k lt_j lt_k =
      ap (λ (list : List RawJoin). list ++ [])
      ((λ i. pairs_of (record {
        left = Bit (bit_here (111 ∷ decimal j) (INPUTS + j) (place_o (length outputs) (length gates) few_joined few_gates j lt_j) i);
        right = Bit (bit_here (119 ∷ decimal k) (wire_bit (length outputs) k) (place_w (length outputs) (length gates) few_joined few_gates k lt_k) i);
        count = width_in (range_of (111 ∷ decimal j) here);
      }))
      ∙ one_pair (INPUTS + j) (wire_bit (length outputs) k) (width_in (range_of (111 ∷ decimal j) here))
      (ap width_in (no_range (111 ∷ decimal j) here (none_ranged (length outputs) (length gates)))))

  joins_from : (from : ℕ) (xs : List ℕ) → from + length xs ≤ length outputs → All (λ k. k < length gates) xs
      → flat_map (joins_of here) (assigns (items_from assign_item from xs)) ≡ each_from (output_join (length outputs)) from xs
  joins_from from [] le each = refl
  joins_from from (k ∷ xs) le each =
      flat_map-append (joins_of here) (assigned_by (assign_item from k)) (assigns (items_from assign_item (from + 1) xs))
      ∙ (λ i. join_is from k (omega (arith, le)) (each 0 k (omega arith)) i
      ++ joins_from (from + 1) xs (omega (arith, le)) (λ j d lt. each (suc j) d (omega (arith, lt))) i)

  joins_are : flat_map (joins_of here) (assigns (tree_of gates outputs).items) ≡ each_from (output_join (length outputs)) 0 outputs
  joins_are =
      ap (flat_map (joins_of here))
      (flat_map-append assigned_by (declared_items (length outputs) (length gates)) (items_from instance_item 0 gates ++ items_from assign_item 0 outputs)
      ∙ ap (λ (list : List Assign). list ++ assigns (items_from instance_item 0 gates ++ items_from assign_item 0 outputs))
      (bare_declared assigned_by (λ direction name. refl) (length outputs) (length gates))
      ∙ flat_map-append assigned_by (items_from instance_item 0 gates) (items_from assign_item 0 outputs)
      ∙ ap (λ (list : List Assign). list ++ assigns (items_from assign_item 0 outputs)) (bare_from assigned_by instance_item (λ k it. refl) 0 gates))
      ∙ joins_from 0 outputs (omega arith) are.driven

  -- a pin on the bit of its name
  use_is : (pin name : List ℕ) (at : ℕ) → bits_before name (buses_of here) ≡ at → use_of here (on_pin pin name) ≡ on_bit (upper_case pin) at
  use_is pin name at is = ap (on_bit (upper_case pin)) is

  candidate_is : (at : ℕ) → at < INPUTS + length gates → bits_before (candidate at) (buses_of here) ≡ candidate_bit (length outputs) at
  candidate_is = bit_candidate (length outputs) (length gates) few_joined few_gates

  wire_is : (k : ℕ) → k < length gates → bits_before (119 ∷ decimal k) (buses_of here) ≡ wire_bit (length outputs) k
  wire_is k lt = bit_here (119 ∷ decimal k) (wire_bit (length outputs) k) (place_w (length outputs) (length gates) few_joined few_gates k lt)

  instance_is : (k : ℕ) (it : Gate) → k < length gates → IsWithin (INPUTS + length gates) it
      → map (instance_of here) (instance_by (instance_item k it)) ≡ gate_instance (length outputs) k it ∷ []
  instance_is k (gate.Inv a) lt within = λ i. record {
    name = numbered (codes "u") k;
    cell = codes "INV";
    pins = on_bit (codes "A") (candidate_is a within i) ∷ on_bit (codes "ZN") (wire_is k lt i) ∷ [];
  } ∷ []
  instance_is k (gate.Nand2 a b) lt within = λ i. record {
    name = numbered (codes "u") k;
    cell = codes "NAND2";
    pins = on_bit (codes "A1") (candidate_is a within.0 i) ∷ on_bit (codes "A2") (candidate_is b within.1 i)
        ∷ on_bit (codes "ZN") (wire_is k lt i) ∷ [];
  } ∷ []
  instance_is k (gate.Nor2 a b) lt within = λ i. record {
    name = numbered (codes "u") k;
    cell = codes "NOR2";
    pins = on_bit (codes "A1") (candidate_is a within.0 i) ∷ on_bit (codes "A2") (candidate_is b within.1 i)
        ∷ on_bit (codes "ZN") (wire_is k lt i) ∷ [];
  } ∷ []

  instances_from : (from : ℕ) (xs : List Gate) → from + length xs ≤ length gates → All (IsWithin (INPUTS + length gates)) xs
      → map (instance_of here) (instances (items_from instance_item from xs)) ≡ each_from (gate_instance (length outputs)) from xs
  instances_from from [] le each = refl
  instances_from from (it ∷ xs) le each =
      map-append (instance_of here) (instance_by (instance_item from it)) (instances (items_from instance_item (from + 1) xs))
      ∙ (λ i. instance_is from it (omega (arith, le)) (each 0 it (omega arith)) i
      ++ instances_from (from + 1) xs (omega (arith, le)) (λ j d lt. each (suc j) d (omega (arith, lt))) i)

  instances_are : map (instance_of here) (instances (tree_of gates outputs).items) ≡ each_from (gate_instance (length outputs)) 0 gates
  instances_are =
      ap (map (instance_of here))
      (flat_map-append instance_by (declared_items (length outputs) (length gates)) (items_from instance_item 0 gates ++ items_from assign_item 0 outputs)
      ∙ ap (λ (list : List Instance). list ++ instances (items_from instance_item 0 gates ++ items_from assign_item 0 outputs))
      (declared_bare (length outputs) (length gates))
      ∙ flat_map-append instance_by (items_from instance_item 0 gates) (items_from assign_item 0 outputs)
      ∙ ap (λ (list : List Instance). instances (items_from instance_item 0 gates) ++ list) (no_joined 0 outputs)
      ∙ append-nil (instances (items_from instance_item 0 gates)))
      ∙ instances_from 0 gates (omega arith) are.within

  pub in_numbers : tree_netlist (tree_of gates outputs) ≡ netlist_in_numbers gates outputs
  in_numbers =
      ap (λ (d : List Declared). record {
        buses = buses_of d;
        ports = map (port_of d) (ports_of (tree_of gates outputs));
        joins = flat_map (joins_of d) (assigns (tree_of gates outputs).items);
        instances = map (instance_of d) (instances (tree_of gates outputs).items);
      }) (declared_all gates outputs)
      ∙ λ i. record {
        buses = buses_are (length outputs) (length gates) few_joined few_gates i;
        ports = ports_are (length outputs) (length gates) few_joined few_gates i;
        joins = joins_are i;
        instances = instances_are i;
      }
