-- One output more of an instance.
use Rattle.std.proofs.Common.{◌≡◌, ◌≢◌, ℕ, ◌+◌, ◌^◌, ◌<◌, ◌≤◌, Bool, List, length, inl, inr, ◌⊎◌, sym, ap}
use Rattle.std.proofs.Common.{◌∙◌, subst, arith}
use Rattle.std.specs.Prelude.{slice_set}
use Rattle.std.proofs.lemmas.Bool.{cases_lt}
use Rattle.std.proofs.Math.Nat.{pow-le-pow_right}
use Rattle.std.proofs.lemmas.List.{get_or-set_same, get_or-set_other, length-map}
use Rattle.ca_cell.specs.declared.rule.TheConstants.{MOST_INPUTS}
use Rattle.ca_net.specs.declared.trit.Trit.{Trit}
use Rattle.ca_lanes.specs.declared.values.Values.{Values}
use Rattle.ca_lanes.specs.Choice.{Choice, no_choice, choice_of, choices_of, choice_at}
use Rattle.ca_lanes.specs.GoodRows.{good_at}
use Rattle.ca_lanes.specs.Netlist.{output_of, ArePinsOf}
use Rattle.ca_lanes.specs.code.Given.{given_by, given_by_rows}
use Rattle.ca_lanes.specs.code.Evaluated.{first_given, last_given, IsEvaluated}

-- there is room for the masks of so few pins
pub few_masks : (pins room : ℕ) → pins ≤ MOST_INPUTS → 2 ^ MOST_INPUTS ≤ room → 2 ^ pins ≤ room
few_masks pins room few fits =
    let powers : 2 ^ pins ≤ 2 ^ MOST_INPUTS = pow-le-pow_right (omega arith) few in
    omega (arith, powers, fits)

-- the same by other words
pub first_same : (masks same : List Bool) (values others : List Trit) (count n outputs output : ℕ) → masks ≡ same → values ≡ others → count ≡ n
    → given_by masks (λ vector. good_at values count outputs vector vector output) count ≡ given_by same (λ vector. good_at others n outputs vector vector output) n
first_same masks same values others count n outputs output p q r =
    ap (λ m. given_by m (λ vector. good_at values count outputs vector vector output) count) p
    ∙ ap (λ v. given_by same (λ vector. good_at v count outputs vector vector output) count) q
    ∙ ap (λ k. given_by same (λ vector. good_at others k outputs vector vector output) k) r

pub last_same : (firsts lasts same_firsts same_lasts : List Bool) (values others : List Trit) (count n outputs output : ℕ) → firsts ≡ same_firsts → lasts ≡ same_lasts
    → values ≡ others → count ≡ n
    → given_by_rows firsts lasts (λ first last. good_at values count outputs first last output) count count
    ≡ given_by_rows same_firsts same_lasts (λ first last. good_at others n outputs first last output) n n
last_same firsts lasts same_firsts same_lasts values others count n outputs output p o q r =
    ap (λ m. given_by_rows m lasts (λ first last. good_at values count outputs first last output) count count) p
    ∙ ap (λ m. given_by_rows same_firsts m (λ first last. good_at values count outputs first last output) count count) o
    ∙ ap (λ v. given_by_rows same_firsts same_lasts (λ first last. good_at v count outputs first last output) count count) q
    ∙ ap (λ k. given_by_rows same_firsts same_lasts (λ first last. good_at others k outputs first last output) k k) r

module _ (values : List Trit) (inputs outputs nets done : ℕ) (pins : List ℕ) (loaded : Bool) (firsts lasts : List Choice) (are : ArePinsOf nets inputs outputs pins)
    (known : done < outputs) where
  -- one of the nets is set
  set_more : (now next : List Choice) (choice : Choice) (wanted : ℕ → Choice) → length now ≡ nets → next ≡ slice_set now (output_of inputs pins done) choice
      → choice ≡ wanted done → ((output : ℕ) → output < done → choice_at now (output_of inputs pins output) ≡ wanted output)
      → (output : ℕ) → output < done + 1 → choice_at next (output_of inputs pins output) ≡ wanted output
  set_more now next choice wanted count is here before output within =
      ap (λ list. choice_at list (output_of inputs pins output)) is ∙ at (cases_lt output done)
    where
      at : (output < done) ⊎ (done ≤ output) → choice_at (slice_set now (output_of inputs pins done) choice) (output_of inputs pins output) ≡ wanted output
      at (inl less) =
          let other : output_of inputs pins output ≢ output_of inputs pins done =
          (λ same. let no : ⊥ = omega (arith, less, are.apart output done (omega (arith, less, known)) known same) in no) in
          get_or-set_other now (output_of inputs pins done) (output_of inputs pins output) choice no_choice other ∙ before output less
      at (inr past) =
          let same : output ≡ done = omega (arith, within, past) in
          let net : output_of inputs pins done < length now = subst (λ n. output_of inputs pins done < n) (sym count) (are.within (inputs + done) (omega (arith, known))) in
          ap (λ o. choice_at (slice_set now (output_of inputs pins done) choice) (output_of inputs pins o)) same
          ∙ get_or-set_same now (output_of inputs pins done) choice no_choice net ∙ here ∙ ap wanted (sym same)

  set_other : (now next start : List Choice) (choice : Choice) → next ≡ slice_set now (output_of inputs pins done) choice
      → ((net : ℕ) → ((output : ℕ) → output < done → net ≢ output_of inputs pins output) → choice_at now net ≡ choice_at start net)
      → (net : ℕ) → ((output : ℕ) → output < done + 1 → net ≢ output_of inputs pins output) → choice_at next net ≡ choice_at start net
  set_other now next start choice is before net none =
      ap (λ list. choice_at list net) is
      ∙ get_or-set_other now (output_of inputs pins done) net choice no_choice (none done (omega arith))
      ∙ before net (λ output less. none output (omega (arith, less)))

  pub evaluated_more : (now_firsts now_lasts next_firsts next_lasts : List Choice) (first last : Choice) → length now_firsts ≡ nets → length now_lasts ≡ nets
      → IsEvaluated values inputs outputs pins loaded done firsts lasts now_firsts now_lasts
      → next_firsts ≡ slice_set now_firsts (output_of inputs pins done) first → next_lasts ≡ slice_set now_lasts (output_of inputs pins done) last
      → first ≡ first_given values inputs outputs pins loaded firsts done → last ≡ last_given values inputs outputs pins loaded firsts lasts done
      → IsEvaluated values inputs outputs pins loaded (done + 1) firsts lasts next_firsts next_lasts
  evaluated_more now_firsts now_lasts next_firsts next_lasts first last first_count last_count before set_first set_last is_first is_last = record {
    first = set_more now_firsts next_firsts first (first_given values inputs outputs pins loaded firsts) first_count set_first is_first before.first;
    last = set_more now_lasts next_lasts last (last_given values inputs outputs pins loaded firsts lasts) last_count set_last is_last before.last;
    other_first = set_other now_firsts next_firsts firsts first set_first before.other_first;
    other_last = set_other now_lasts next_lasts lasts last set_last before.other_last;
  }

pub length-choices_of : (nets : List Values) (lane : ℕ) → length (choices_of nets lane) ≡ length nets
length-choices_of nets lane = length-map nets (λ net. choice_of net lane)

-- the same by other words
pub evaluated_same : (values : List Trit) (inputs same_inputs outputs same_outputs : ℕ) (pins same_pins : List ℕ) (loaded same_loaded : Bool)
    (firsts lasts new_firsts new_lasts : List Choice) → inputs ≡ same_inputs → outputs ≡ same_outputs → pins ≡ same_pins → loaded ≡ same_loaded
    → IsEvaluated values inputs outputs pins loaded outputs firsts lasts new_firsts new_lasts
    → IsEvaluated values same_inputs same_outputs same_pins same_loaded same_outputs firsts lasts new_firsts new_lasts
evaluated_same values inputs same_inputs outputs same_outputs pins same_pins loaded same_loaded firsts lasts new_firsts new_lasts p q r s evaluated =
    subst (λ i. IsEvaluated values i same_outputs same_pins same_loaded same_outputs firsts lasts new_firsts new_lasts) p
    (subst (λ o. IsEvaluated values inputs o same_pins same_loaded o firsts lasts new_firsts new_lasts) q
    (subst (λ ps. IsEvaluated values inputs outputs ps same_loaded outputs firsts lasts new_firsts new_lasts) r
    (subst (λ l. IsEvaluated values inputs outputs pins l outputs firsts lasts new_firsts new_lasts) s evaluated)))
