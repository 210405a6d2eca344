-- Good values that are given back.
use Rattle.std.proofs.Common.{◌≡◌, ◌≢◌, ℕ, ◌+◌, ◌<◌, ◌⊎◌, ◌↔◌, List, length, inl, inr, refl, sym, ◌∙◌, ap, subst, arith, None, Some}
use Rattle.std.proofs.Common.{slice_set, below_more}
use Rattle.std.proofs.lemmas.Bool.{cases_eq, cases_lt}
use Rattle.std.proofs.lemmas.List.{get_or-set_same, get_or-set_other, length-set, same_lists, get_or_default}
use Rattle.ca_net.specs.declared.trit.Trit.{Trit}
use Rattle.ca_net.specs.declared.trit.Trit.TheVariants.{X}
use Rattle.ca_net.specs.State.{value_at}
use Rattle.ca_flat.specs.Chip.{Chip, outputs_at, output_net, count_of}
use Rattle.ca_view.specs.Linked.{IsLinked, IsPlaced, IsPlace}
use Rattle.ca_sweep.specs.declared.values.Values.{Values}
use Rattle.ca_places.specs.PlaceSet.{HoldsUpTo, IsNext}
use Rattle.ca_sweep.specs.code.Changes.{IsDue, AreRoomy, IsOutputBelow, IsTouched}
use Rattle.ca_sweep.specs.code.Held.{IsAtRest, IsHeld, IsGivenBackTo, IsGivenBack}

module _ (chip : Chip) (w : ℕ) (goods : ℕ → Trit) where
  pub back_none : (values : Values) → IsGivenBackTo chip w 0 goods values values
  back_none values = record { nets = refl; due = refl; stays = λ net good. good; outputs = λ output less. absurd (omega arith) }

  pub back_more : (end net : ℕ) (value : Trit) (old mid new : Values) → IsGivenBackTo chip w end goods old mid → net ≡ output_net chip w end → value ≡ goods net
      → net < length mid.values → new.values ≡ slice_set mid.values net value → new.due ≡ mid.due → IsGivenBackTo chip w (end + 1) goods old new
  back_more end net value old mid new so_far net_is value_is within is due_is = record {
    nets = ap length is ∙ length-set mid.values net value ∙ so_far.nets;
    due = due_is ∙ so_far.due;
    stays = λ other good. stays other (so_far.stays other good);
    outputs = below_more (λ output. value_at new.values (output_net chip w output) ≡ goods (output_net chip w output)) end
        (λ output less. stays (output_net chip w output) (so_far.outputs output less))
        (subst (λ n. value_at new.values n ≡ goods n) net_is here);
  }
    where
      here : value_at new.values net ≡ goods net
      here = ap (λ values. value_at values net) is ∙ get_or-set_same mid.values net value X within ∙ value_is

      stays : (other : ℕ) → value_at mid.values other ≡ goods other → value_at new.values other ≡ goods other
      stays other good = elim (cases_eq other net) [
        | inl e ↦ subst (λ n. value_at new.values n ≡ goods n) (sym e) here
        | inr apart ↦ ap (λ values. value_at values other) is ∙ get_or-set_other mid.values net other value X apart ∙ good
      ]

-- only output nets of instances that are due may have other values than the good ones, and nothing before this place is due
pub record IsHeldFrom (chip : Chip) (place_of : ℕ → ℕ) (from : ℕ) (goods : ℕ → Trit) (values : Values) : Type 0 where
  pub room : AreRoomy chip values
  pub each : (net : ℕ) → (value_at values.values net ≡ goods net) ⊎ IsTouched chip place_of values.due net
  pub placed : (place : ℕ) → IsDue values.due place → IsPlace chip place_of place
  pub none : (place : ℕ) → place < from → IsDue values.due place → ⊥

module _ (chip : Chip) (place_of number_of : ℕ → ℕ) (linked : IsLinked chip place_of number_of) (goods : ℕ → Trit) where
  -- the output nets of u have their good values again
  pub held_begins : (u : ℕ) (old new : Values) → IsHeld chip place_of u goods old → IsGivenBack chip u goods old new → IsHeldFrom chip place_of 0 goods new
  held_begins u old new held back = record {
    room = record { nets = back.nets ∙ held.room.nets; places = subst (λ due. HoldsUpTo due (count_of chip + 1)) (sym back.due) held.room.places };
    each = λ net. elim (held.each net) [
      | inl good ↦ inl (back.stays net good)
      | inr (inl out) ↦ inl (subst (λ n. value_at new.values n ≡ goods n) out.on (back.outputs out.output out.within))
      | inr (inr touched) ↦ inr (subst (λ due. IsTouched chip place_of due net) (sym back.due) touched)
    ];
    placed = λ place due. held.placed place (subst (λ set. IsDue set place) back.due due);
    none = λ place less due. absurd (omega arith);
  }

  module _ (from place w : ℕ) (old mid new : Values) (held : IsHeldFrom chip place_of from goods old) (next : IsNext old.due from (Some place))
      (values_are : mid.values ≡ old.values) (here : IsDue mid.due place → ⊥) (others : (other : ℕ) → other ≢ place → IsDue mid.due other ↔ IsDue old.due other)
      (room : (count : ℕ) → HoldsUpTo old.due count → HoldsUpTo mid.due count)
      (placed : IsPlaced chip place_of w) (at : place_of w ≡ place) (back : IsGivenBack chip w goods mid new) where
    was : (other : ℕ) → IsDue new.due other → IsDue mid.due other
    was other due = subst (λ set. IsDue set other) back.due due

    apart_from : (other : ℕ) → IsDue new.due other → other ≢ place
    apart_from other due e = here (subst (IsDue mid.due) e (was other due))

    -- the output nets of the first instance that is due have their good values again
    pub held_more : IsHeldFrom chip place_of (place + 1) goods new
    held_more = record {
      room = record {
        nets = back.nets ∙ ap length values_are ∙ held.room.nets;
        places = subst (λ due. HoldsUpTo due (count_of chip + 1)) (sym back.due) (room (count_of chip + 1) held.room.places);
      };
      each = λ net. elim (held.each net) [
        | inl good ↦ inl (back.stays net (ap (λ values. value_at values net) values_are ∙ good))
        | inr touched ↦ elim (cases_eq (place_of touched.instance) place) [
          | inl e ↦
              let same : touched.instance ≡ w = linked.apart touched.instance w touched.placed placed (e ∙ sym at) in
              let out : IsOutputBelow chip w (outputs_at chip w) net = subst (λ v. IsOutputBelow chip v (outputs_at chip v) net) same touched.out in
              inl (subst (λ n. value_at new.values n ≡ goods n) out.on (back.outputs out.output out.within))
          | inr apart ↦ inr (record {
            instance = touched.instance;
            placed = touched.placed;
            is_due = subst (λ set. IsDue set (place_of touched.instance)) (sym back.due) ((others (place_of touched.instance) apart).1 touched.is_due);
            out = touched.out;
          })
        ]
      ];
      placed = λ other due. held.placed other ((others other (apart_from other due)).0 (was other due));
      none = λ other less due. elim (cases_lt other from) [
        | inl low ↦ held.none other low ((others other (apart_from other due)).0 (was other due))
        | inr high ↦ let apart = apart_from other due in next.2 other high (omega arith) ((others other (apart_from other due)).0 (was other due))
      ];
    }

  -- where nothing is due any more, all values are good
  pub held_ends : (from : ℕ) (lasts : List Trit) (values : Values) → IsHeldFrom chip place_of from goods values → IsNext values.due from None → length lasts ≡ length chip.nets
      → ((net : ℕ) → goods net ≡ value_at lasts net) → IsAtRest chip lasts values
  held_ends from lasts values held next nets goods_are = record {
    room = held.room;
    values_are = same_lists values.values lasts (held.room.nets ∙ sym nets) (λ k d less. get_or_default values.values k d X less ∙ good k ∙ goods_are k
        ∙ sym (get_or_default lasts k d X (let r = held.room.nets in omega arith)));
    none = none_left;
  }
    where
      none_left : (place : ℕ) → IsDue values.due place → ⊥
      none_left place due = elim (cases_lt place from) [
        | inl low ↦ held.none place low due
        | inr high ↦ next place high due
      ]

      good : (net : ℕ) → value_at values.values net ≡ goods net
      good net = elim (held.each net) [
        | inl is ↦ is
        | inr touched ↦ absurd (none_left (place_of touched.instance) touched.is_due)
      ]
