-- The first observed output with an opposite value.
use Rattle.std.proofs.Common.{◌≡◌, ◌≢◌, ℕ, ◌+◌, ◌<◌, ◌≤◌, ◌⊎◌, ◌↔◌, Bool, true, List, length, inl, inr, refl, sym, ◌∙◌, ap, subst, arith, None, Some}
use Rattle.std.proofs.Common.{get_or, slice_set, replicate, below_more}
use Rattle.std.specs.Prelude.{slice_index}
use Rattle.std.proofs.lemmas.Bool.{cases_eq, cases_lt}
use Rattle.std.proofs.lemmas.List.{get_or-set_same, get_or-set_other, length-set, length-replicate, get_or-replicate}
use Rattle.ca_net.specs.declared.trit.Trit.{Trit}
use Rattle.ca_net.specs.declared.trit.Trit.TheVariants.{Zero, One, X}
use Rattle.ca_net.specs.State.{value_at}
use Rattle.ca_flat.specs.Chip.{Chip, outputs_at, output_net}
use Rattle.ca_flips.specs.Flips.{IsOpposite}
use Rattle.ca_view.specs.Linked.{IsLinked, IsPlaced}
use Rattle.ca_places.specs.declared.place_set.PlaceSet.{PlaceSet}
use Rattle.ca_sweep.specs.declared.values.Values.{Values}
use Rattle.ca_sweep.specs.Seen.{IsOppositeAt}
use Rattle.ca_sweep.specs.code.Segments.{IsFirstNumber}
use Rattle.ca_places.specs.PlaceSet.{IsNext}
use Rattle.ca_sweep.specs.code.Changes.{IsDue}
use Rattle.ca_sweep.specs.code.Held.{IsHeld}
use Rattle.ca_sweep.specs.code.Firsts.{AreFirstsFrom, AreFirsts, IsOppositeIf, IsLeastOf, IsLessenedTo, IsLessened}

module _ (outputs : List ℕ) (nets : ℕ) where
  -- no output yet
  pub firsts_none : (count : ℕ) (firsts : List ℕ) → count ≡ length outputs → firsts ≡ replicate nets count → AreFirstsFrom outputs nets count firsts
  firsts_none count firsts counted is = record {
    room = ap length is ∙ length-replicate nets count;
    least = λ output from less. absurd (omega arith);
    on = λ net within less. let read = ap (λ list. get_or list net 0) is ∙ get_or-replicate nets net count 0 within in absurd (omega (arith, read));
  }

  -- the output before the others
  pub firsts_more : (start output net : ℕ) (old new : List ℕ) → start ≡ output + 1 → net ≡ slice_index outputs output → net < nets → new ≡ slice_set old net output
      → AreFirstsFrom outputs nets start old → AreFirstsFrom outputs nets output new
  firsts_more start output net old new start_is net_is within is so_far = record {
    room = ap length is ∙ length-set old net output ∙ so_far.room;
    least = λ other from less. elim (cases_eq (slice_index outputs other) net) [
      | inl e ↦ let at = ap (slice_index new) e ∙ here in omega arith
      | inr apart ↦
          let later : start ≤ other = elim (cases_eq other output) [
            | inl same ↦ absurd (apart (ap (slice_index outputs) same ∙ sym net_is))
            | inr differ ↦ omega arith
          ] in
          let low = so_far.least other later less in
          let at = elsewhere (slice_index outputs other) apart in
          omega arith
    ];
    on = λ other known less. elim (cases_eq other net) [
      | inl e ↦ ap (slice_index outputs) (ap (slice_index new) e ∙ here) ∙ sym net_is ∙ sym e
      | inr apart ↦
          let at = elsewhere other apart in
          ap (slice_index outputs) at ∙ so_far.on other known (omega arith)
    ];
  }
    where
      here : slice_index new net ≡ output
      here = ap (λ list. slice_index list net) is ∙ get_or-set_same old net output 0 (let r = so_far.room in omega arith)

      elsewhere : (other : ℕ) → other ≢ net → slice_index new other ≡ slice_index old other
      elsewhere other apart = ap (λ list. slice_index list other) is ∙ get_or-set_other old net other output 0 apart

-- no value is its own opposite
not_own : (good other : Trit) → IsOpposite good other → other ≡ good → ⊥
not_own X other opposite same = opposite.0 refl
not_own Zero other opposite same = let e = opposite.1 in cc
not_own One other opposite same = let e = opposite.1 in cc

module _ (chip : Chip) (goods values : ℕ → Trit) (firsts : List ℕ) (are : AreFirsts chip.outputs (length chip.nets) firsts) where
  pub lessened_none : (w number : ℕ) → IsLessenedTo chip goods values firsts w 0 number number
  lessened_none w number = record { least = omega arith; each = λ output less. absurd (omega arith); opposite = λ is. is }

  -- the net of one more output pin
  pub lessened_more : (w end net : ℕ) (old mid new : ℕ) → net ≡ output_net chip w end → net < length chip.nets → IsLessenedTo chip goods values firsts w end old mid
      → new ≤ mid → (IsOpposite (goods net) (values net) → new ≤ slice_index firsts net)
      → (new ≡ mid) ⊎ (IsOpposite (goods net) (values net) × (new ≡ slice_index firsts net)) → IsLessenedTo chip goods values firsts w (end + 1) old new
  lessened_more w end net old mid new net_is known so_far least here from = record {
    least = let l = so_far.least in omega arith;
    each = below_more (λ output. IsOpposite (goods (output_net chip w output)) (values (output_net chip w output)) → new ≤ slice_index firsts (output_net chip w output)) end
        (λ output less opposite. let l = so_far.each output less opposite in omega arith)
        (subst (λ n. IsOpposite (goods n) (values n) → new ≤ slice_index firsts n) net_is here);
    opposite = λ was. elim from [
      | inl same ↦ subst (IsOppositeIf goods values chip.outputs) (sym same) (so_far.opposite was)
      | inr first ↦ λ less. subst (λ n. IsOpposite (goods n) (values n)) (sym (ap (slice_index chip.outputs) first.1 ∙ are.on net known (let e = first.1 in omega arith))) first.0
    ];
  }

  pub lessened_by : (w end net old mid new one : ℕ) (good other : Trit) (is : Bool) → net ≡ output_net chip w end → net < length chip.nets → good ≡ goods net → other ≡ values net
      → one ≡ slice_index firsts net → IsLessenedTo chip goods values firsts w end old mid → new ≤ mid → (is ≡ true) ↔ IsOpposite good other → (is ≡ true → new ≤ one)
      → (new ≡ mid) ⊎ ((is ≡ true) × (new ≡ one)) → IsLessenedTo chip goods values firsts w (end + 1) old new
  lessened_by w end net old mid new one good other is net_is known good_is other_is one_is so_far least exact here from =
      lessened_more w end net old mid new net_is known so_far least
      (λ opposite. subst (λ n. new ≤ n) one_is (here (exact.1 (subst (λ g. IsOpposite g other) (sym good_is) (subst (λ o. IsOpposite (goods net) o) (sym other_is) opposite)))))
      (elim from [
        | inl same ↦ inl same
        | inr found ↦ inr (subst (λ o. IsOpposite (goods net) o) other_is (subst (λ g. IsOpposite g other) good_is (exact.0 found.0)), found.1 ∙ one_is)
      ])

-- the number is none of later outputs than those of u and of the instances that are due before a place
pub record IsLeastTo (chip : Chip) (place_of : ℕ → ℕ) (u : ℕ) (goods values : ℕ → Trit) (due : PlaceSet) (firsts : List ℕ) (from number : ℕ) : Type 0 where
  pub own : IsLeastOf chip goods values firsts u (outputs_at chip u) number
  pub done : (w : ℕ) → IsPlaced chip place_of w → IsDue due (place_of w) → place_of w < from → IsLeastOf chip goods values firsts w (outputs_at chip w) number
  pub opposite : IsOppositeIf goods values chip.outputs number

module _ (chip : Chip) (place_of number_of : ℕ → ℕ) (linked : IsLinked chip place_of number_of) (u : ℕ) (goods : ℕ → Trit) (values : Values) (firsts : List ℕ) where
  pub least_begins : (count number : ℕ) → count ≡ length chip.outputs → IsLessened chip goods (value_at values.values) firsts u count number
      → IsLeastTo chip place_of u goods (value_at values.values) values.due firsts 0 number
  least_begins count number none lessened = record {
    own = lessened.each;
    done = λ w placed due less. absurd (omega arith);
    opposite = lessened.opposite (λ less. absurd (omega arith));
  }

  pub least_more : (from place w old new : ℕ) → IsLeastTo chip place_of u goods (value_at values.values) values.due firsts from old → IsNext values.due from (Some place)
      → IsPlaced chip place_of w → place_of w ≡ place → IsLessened chip goods (value_at values.values) firsts w old new
      → IsLeastTo chip place_of u goods (value_at values.values) values.due firsts (place + 1) new
  least_more from place w old new so_far next placed at lessened = record {
    own = λ output less opposite. let l = so_far.own output less opposite in let least = lessened.least in omega arith;
    done = λ v v_placed due less. elim (cases_lt (place_of v) from) [
      | inl low ↦ λ output within opposite. let l = so_far.done v v_placed due low output within opposite in let least = lessened.least in omega arith
      | inr high ↦ elim (cases_eq (place_of v) place) [
        | inl e ↦ subst (λ x. IsLeastOf chip goods (value_at values.values) firsts x (outputs_at chip x) new) (sym (linked.apart v w v_placed placed (e ∙ sym at))) lessened.each
        | inr apart ↦ absurd (next.2 (place_of v) high (omega arith) due)
      ]
    ];
    opposite = lessened.opposite so_far.opposite;
  }

  -- where nothing is due from a place on, no output before the number has an opposite value
  none_before : (from number : ℕ) → IsLeastTo chip place_of u goods (value_at values.values) values.due firsts from number → IsNext values.due from None
      → IsHeld chip place_of u goods values → AreFirsts chip.outputs (length chip.nets) firsts
      → (output : ℕ) → output < length chip.outputs → IsOppositeAt goods (value_at values.values) chip.outputs output → number ≤ output
  none_before from number so_far next held are output within opposite =
      let net = slice_index chip.outputs output in
      let low = are.least output (omega arith) within in
      let l : number ≤ slice_index firsts (slice_index chip.outputs output) = elim (held.each (slice_index chip.outputs output)) [
        | inl good ↦ absurd (not_own (goods (slice_index chip.outputs output)) (value_at values.values (slice_index chip.outputs output)) opposite good)
        | inr (inl out) ↦ subst (λ n. number ≤ slice_index firsts n) out.on
            (so_far.own out.output out.within (subst (λ n. IsOpposite (goods n) (value_at values.values n)) (sym out.on) opposite))
        | inr (inr touched) ↦ elim (cases_lt (place_of touched.instance) from) [
          | inl before ↦ let out = touched.out in subst (λ n. number ≤ slice_index firsts n) out.on
              (so_far.done touched.instance touched.placed touched.is_due before out.output out.within (subst (λ n. IsOpposite (goods n) (value_at values.values n)) (sym out.on) opposite))
          | inr past ↦ absurd (next (place_of touched.instance) past touched.is_due)
        ]
      ] in omega arith

  module _ (from number : ℕ) (so_far : IsLeastTo chip place_of u goods (value_at values.values) values.due firsts from number) (next : IsNext values.due from None)
      (held : IsHeld chip place_of u goods values) (are : AreFirsts chip.outputs (length chip.nets) firsts) where
    pub first_number : number ≤ length chip.outputs → IsFirstNumber goods (value_at values.values) chip.outputs number
    first_number within = record {
      within = within;
      here = so_far.opposite;
      before = λ output before opposite. let l = none_before from number so_far next held are output (omega arith) opposite in absurd (omega arith);
    }
