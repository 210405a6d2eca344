-- The input nets of a frame have the pair's values.
use Rattle.std.proofs.Common.{◌≡◌, ℕ, zero, suc, ◌+◌, ◌<◌, ◌≤◌, Bool, true, List, [], ◌∷◌, length, map, take}
use Rattle.std.proofs.Common.{drop, ◌++◌, ap, ap₂, ◌∙◌, subst, arith}
use Rattle.std.specs.Prelude.{slice_get, Some}
use Rattle.std.specs.List.{All}
use Rattle.std.proofs.lemmas.Grind.{common_steps}
use Rattle.std.proofs.lemmas.List.Elements.{All-head, All-tail}
use Rattle.ca_flat.specs.Chip.{Chip}
use Rattle.ca_flat.specs.Pair.{input_value, constant_value}
use Rattle.ca_flat.specs.Codes.{bit_trit}
use Rattle.ca_lanes.specs.declared.values.Values.{Values}
use Rattle.ca_lanes.specs.declared.constants.Constant.{Constant}
use Rattle.ca_lanes.specs.Choice.{Choice, choice_for, choice_at}
use Rattle.ca_lanes.specs.code.Choice.{choice_over, unknown}
use Rattle.ca_lanes.specs.Netlist.{constants_of}
use Rattle.ca_lanes.specs.code.Set.{input_choice, constant_choice, set_choice}
use Rattle.ca_lanes.specs.code.Sweep.{HasInputs}
use Rattle.ca_lanes.proofs.SetLemmas.{inputs_are}
use Rattle.ca_lanes.proofs.ConstantLemmas.{constants_are}

pub pair_has : (P : List Bool → Type 0) (pairs : List (List Bool)) (lane : ℕ) (pair : List Bool) → All P pairs → slice_get pairs lane ≡ Some pair → P pair
pair_has P [] lane pair all there = let no : ⊥ = cc in absurd no
pair_has P (first ∷ pairs) zero pair all there = subst P (some_same first pair there) (All-head P first pairs all)
  where
    some_same : (a b : List Bool) → Some a ≡ Some b → a ≡ b
    some_same a b e = cc
pair_has P (first ∷ pairs) (suc lane) pair all there = pair_has P pairs lane pair (All-tail P first pairs all) there

pub frame_is : (inputs : List ℕ) (constants : List Constant) (pairs : List (List Bool)) (pair : List Bool) (bit lane net : ℕ) (loaded : Bool) (choice : Choice)
    → choice ≡ constant_choice constants loaded net (input_choice inputs pairs bit lane net (choice_over loaded unknown)) → loaded ≡ true
    → slice_get pairs lane ≡ Some pair → bit + length inputs ≤ length pair
    → choice ≡ choice_for (constant_value (constants_of constants) (input_value inputs (map bit_trit pair) bit net) net)
frame_is inputs constants pairs pair bit lane net loaded choice is on there enough =
    is ∙ ap (λ l. constant_choice constants l net (input_choice inputs pairs bit lane net (choice_over l unknown))) on
    ∙ ap (constant_choice constants true net) (inputs_are inputs pairs pair bit lane net there enough)
    ∙ constants_are constants net (input_value inputs (map bit_trit pair) bit net)

pub has_inputs : (chip : Chip) (inputs : List ℕ) (constants : List Constant) (pairs : List (List Bool)) (pair : List Bool) (lane : ℕ) (loaded : Bool) (firsts lasts : List Choice)
    → inputs ≡ chip.inputs → constants_of constants ≡ chip.constants → loaded ≡ true → slice_get pairs lane ≡ Some pair → length inputs + length inputs ≤ length pair
    → ((net : ℕ) → net < length chip.nets → choice_at firsts net ≡ set_choice inputs constants pairs 0 loaded lane net)
    → ((net : ℕ) → net < length chip.nets → choice_at lasts net ≡ set_choice inputs constants pairs (length inputs) loaded lane net)
    → HasInputs chip (map bit_trit pair) firsts lasts
has_inputs chip inputs constants pairs pair lane loaded firsts lasts same_inputs same_constants on there enough first_set last_set = record {
  first = λ net known input.
      frame_is inputs constants pairs pair 0 lane net loaded (choice_at firsts net) (first_set net known) on there (omega (arith, enough))
      ∙ ap₂ (λ ins cs. choice_for (constant_value cs (input_value ins (map bit_trit pair) 0 net) net)) same_inputs same_constants;
  last = λ net known input.
      frame_is inputs constants pairs pair (length inputs) lane net loaded (choice_at lasts net) (last_set net known) on there enough
      ∙ ap₂ (λ ins cs. choice_for (constant_value cs (input_value ins (map bit_trit pair) (length ins) net) net)) same_inputs same_constants;
}

-- what is written back to a list of the same length
pub nets_written : (new old : List Values) (count : ℕ) → count ≡ length new → take count (new ++ drop (length new) old) ≡ new
nets_written new old count same = grind (arith, common_steps, same)
