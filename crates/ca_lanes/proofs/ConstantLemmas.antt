-- One constant more.
use Rattle.std.proofs.Common.{◌≡◌, ℕ, suc, ◌<◌, ◌==◌, if◌then◌else◌, Bool, true, false, List, [], ◌∷◌, get_or}
use Rattle.std.proofs.Common.{length, drop, refl, sym, ap, ◌∙◌}
use Rattle.std.specs.Prelude.{slice_set}
use Rattle.std.proofs.lemmas.Bool.{eqb-true, eqb-false}
use Rattle.std.proofs.Math.Seq.{drop-cons}
use Rattle.ca_net.specs.declared.trit.Trit.{Trit}
use Rattle.ca_flat.specs.Pair.{constant_value}
use Rattle.ca_lanes.specs.declared.values.Values.{Values}
use Rattle.ca_lanes.specs.declared.constants.Constant.{Constant}
use Rattle.ca_lanes.specs.Choice.{Choice, no_choice, choice_of, choice_for, choices_of}
use Rattle.ca_lanes.specs.code.Choice.{choice_with}
use Rattle.ca_lanes.specs.Choice.{choice_at}
use Rattle.ca_lanes.specs.Netlist.{constants_of}
use Rattle.ca_lanes.specs.code.Set.{constant_choice}
use Rattle.ca_lanes.proofs.SetLemmas.{set_here, set_elsewhere}

pub constant_more : (constants : List Constant) (loaded : Bool) (place lane net : ℕ) (constant : Constant) (nets : List Values) (old : Choice) (value : Values)
    → place < length constants → constant ≡ get_or constants place constant → constant.net < length nets → choice_of value lane ≡ choice_with no_choice loaded constant.value
    → choice_at (choices_of nets lane) net ≡ constant_choice (drop (suc place) constants) loaded net old
    → choice_at (choices_of (slice_set nets constant.net value) lane) net ≡ constant_choice (drop place constants) loaded net old
constant_more constants loaded place lane net constant nets old value known there within is before =
    at (net == constant.net) refl
    ∙ ap (λ c. constant_choice (c ∷ drop (suc place) constants) loaded net old) there
    ∙ ap (λ list. constant_choice list loaded net old) (sym (drop-cons constants place constant known))
  where
    at : (b : Bool) → (net == constant.net) ≡ b → choice_at (choices_of (slice_set nets constant.net value) lane) net ≡ constant_choice (constant ∷ drop (suc place) constants) loaded net old
    at true e =
        ap (choice_at (choices_of (slice_set nets constant.net value) lane)) (eqb-true net constant.net e) ∙ set_here nets constant.net lane value within ∙ is
        ∙ ap (λ b. if b then choice_with no_choice loaded constant.value else constant_choice (drop (suc place) constants) loaded net old) (sym e)
    at false e =
        set_elsewhere nets constant.net net lane value (eqb-false net constant.net e) ∙ before
        ∙ ap (λ b. if b then choice_with no_choice loaded constant.value else constant_choice (drop (suc place) constants) loaded net old) (sym e)

-- a net that is set to the constants has the constant's value
pub constants_are : (constants : List Constant) (net : ℕ) (other : Trit) → constant_choice constants true net (choice_for other) ≡ choice_for (constant_value (constants_of constants) other net)
constants_are [] net other = refl
constants_are (constant ∷ constants) net other = at (net == constant.net) (constants_are constants net other)
  where
    at : (b : Bool) → constant_choice constants true net (choice_for other) ≡ choice_for (constant_value (constants_of constants) other net)
        → (if b then choice_with no_choice true constant.value else constant_choice constants true net (choice_for other))
        ≡ choice_for (if b then constant.value else constant_value (constants_of constants) other net)
    at true later = refl
    at false later = later
