-- What flips of an instance's outputs change.
use Rattle.std.specs.List.{All, Contains}
use Rattle.std.proofs.Common.{◌≡◌, ℕ, Bool, zero, suc, ◌+◌, ◌<◌, ◌⊎◌, ◌++◌, ◌∷◌, [], List, length, inl, inr, refl, sym, ◌∙◌, ap, subst, arith, slice_set}
use Rattle.std.specs.Prelude.{slice_get}
use Rattle.std.proofs.Common.{Some}
use Rattle.std.proofs.lemmas.Bool.{cases_eq}
use Rattle.std.specs.Prelude.{slice_index, true, false}
use Rattle.std.proofs.lemmas.List.Elements.{All-contains, All-nil, All-push, Contains-get_or, Contains-push, Contains-append_left}
use Rattle.std.proofs.lemmas.Option.{get_or_from_slice_get, slice_get_read, slice_get_within}
use Rattle.std.proofs.lemmas.List.{get_or-set_same, get_or-set_other, length-set}
use Rattle.ca_net.specs.declared.trit.Trit.{Trit}
use Rattle.ca_net.specs.declared.trit.Trit.TheVariants.{X}
use Rattle.ca_net.specs.State.{value_at}
use Rattle.ca_net.specs.declared.scale.TheConstants.{OUTPUT_NET}
use Rattle.ca_net.specs.declared.node.NodeKind.TheVariants.{Input, Storage}
use Rattle.ca_flat.specs.Chip.{Chip, IsChip, inputs_at, outputs_at, net_of, output_net, count_of}
use Rattle.ca_sweep.specs.declared.seen.Flips.{Flips}
use Rattle.ca_view.specs.NetLists.{NetLists, AreNetsOf}
use Rattle.ca_every_vector.specs.Inside.{IsEvaluatedInside, StaysInside}
use Rattle.ca_view.specs.Linked.{AreReaders, IsPlaced, Reads}
use Rattle.ca_every_vector.specs.code.Lanes.{IsSameOrInside}
use Rattle.ca_every_vector.specs.code.Spread.{AreFlippedOut, AreInside, AreSpread, IsChangedInside, IsPutAt, StaysSomehow}

-- a net of a listed instance is given a value
pub spread_put : (chip : Chip) (place_of : ℕ → ℕ) (u : ℕ) (values old new : List Trit) (changed relisted touched : List ℕ) (w output net : ℕ) (value : Trit)
    → AreSpread chip place_of u values old changed touched → IsPlaced chip place_of w → (w ≡ u) ⊎ Contains touched w → output < outputs_at chip w → output_net chip w output ≡ net
    → net < length old → IsPutAt net value old changed new relisted → AreSpread chip place_of u values new relisted touched
spread_put chip place_of u values old new changed relisted touched w output net value spread placed by within on known put = record {
  nets = ap length put.put ∙ length-set old net value ∙ spread.nets;
  same = λ n. elim (cases_eq n net) [
    | inl e ↦ here n e
    | inr other ↦ elim (spread.same n) [
      | inl same ↦ inl (ap (λ list. value_at list n) put.put ∙ get_or-set_other old net n value X other ∙ same)
      | inr listed ↦ inr (put.more n listed)
    ]
  ];
  driven = λ n listed. elim (put.only n listed) [
    | inl before ↦ spread.driven n before
    | inr e ↦ record { instance = w; output = output; known = placed.known; within = within; on = on ∙ sym e; by = by }
  ];
  placed = spread.placed;
}
  where
    here : (n : ℕ) → n ≡ net → (value_at new n ≡ value_at values n) ⊎ Contains relisted n
    here n e = elim put.at [
      | inl was ↦ elim (spread.same net) [
        | inl same ↦ inl (ap (λ list. value_at list n) put.put ∙ ap (value_at (slice_set old net value)) e ∙ get_or-set_same old net value X known ∙ sym was ∙ same ∙ ap (value_at values) (sym e))
        | inr listed ↦ inr (subst (Contains relisted) (sym e) (put.more net listed))
      ]
      | inr listed ↦ inr (subst (Contains relisted) (sym e) listed)
    ]

-- one instance more is listed
pub spread_touched : (chip : Chip) (place_of : ℕ → ℕ) (u : ℕ) (values others : List Trit) (changed touched retouched : List ℕ) (w v : ℕ)
    → AreSpread chip place_of u values others changed touched → IsPlaced chip place_of w → v ≡ w → retouched ≡ touched ++ v ∷ []
    → AreSpread chip place_of u values others changed retouched
spread_touched chip place_of u values others changed touched retouched w v spread placed same is = record {
  nets = spread.nets;
  same = spread.same;
  driven = λ net listed. let driven = spread.driven net listed in record {
    instance = driven.instance;
    output = driven.output;
    known = driven.known;
    within = driven.within;
    on = driven.on;
    by = elim driven.by [
      | inl own ↦ inl own
      | inr had ↦ inr (subst (λ list. Contains list driven.instance) (sym is) (Contains-append_left touched (v ∷ []) driven.instance had))
    ];
  };
  placed = subst (All (IsPlaced chip place_of)) (sym is) (All-push (IsPlaced chip place_of) touched v spread.placed (subst (IsPlaced chip place_of) (sym same) placed));
}

pub touched_has : (touched retouched : List ℕ) (w v : ℕ) → v ≡ w → retouched ≡ touched ++ v ∷ [] → Contains retouched w
touched_has touched retouched w v same is = subst (λ list. Contains list w) (sym is) (subst (Contains (touched ++ v ∷ [])) same (Contains-push touched v))

-- an entry is in its list
pub entry_listed : (list : List ℕ) (k x : ℕ) → slice_get list k ≡ Some x → Contains list x
entry_listed list k x at = subst (Contains list) (get_or_from_slice_get list k x x at) (Contains-get_or list k x (slice_get_within list k x at))

-- what reads a net has a place
pub reader_placed : (chip : Chip) (place_of : ℕ → ℕ) (net : ℕ) (readers : List ℕ) (k w : ℕ) → AreReaders chip net readers → slice_get readers k ≡ Some w → Reads chip w net
reader_placed chip place_of net readers k w are at = are.only w (entry_listed readers k w at)

-- entries at one place are one
pub same_reader : (readers : List ℕ) (j k v w : ℕ) → j ≡ k → slice_get readers j ≡ Some v → slice_get readers k ≡ Some w → w ≡ v
same_reader readers j k v w e one other = let same : Some w ≡ Some v = sym other ∙ subst (λ n. slice_get readers n ≡ Some v) e one in cc

-- what reads a net is at some place of its readers
pub reader_found : (chip : Chip) (net : ℕ) (readers : List ℕ) (w : ℕ) → AreReaders chip net readers → Reads chip w net
    → (j : ℕ) × (j < length readers) × (slice_get readers j ≡ Some w)
reader_found chip net readers w are reads =
    let at = are.each w reads in
    (at.0, at.1, slice_get_read readers (length readers) at.0 w refl at.1 (sym at.2))

-- before anything changes
pub spread_none : (chip : Chip) (place_of : ℕ → ℕ) (u : ℕ) (values others : List Trit) (changed touched : List ℕ) → length values ≡ length chip.nets → others ≡ values
    → changed ≡ [] → touched ≡ [] → AreSpread chip place_of u values others changed touched
spread_none chip place_of u values others changed touched nets is none_changed none_touched = record {
  nets = ap length is ∙ nets;
  same = λ net. inl (ap (λ list. value_at list net) is);
  driven = λ net listed. absurd (none_listed (subst (λ list. Contains list net) none_changed listed));
  placed = subst (All (IsPlaced chip place_of)) (sym none_touched) (All-nil (IsPlaced chip place_of));
}
  where
    none_listed : {net : ℕ} → Contains [] net → ⊥
    none_listed at = let within : at.0 < 0 = at.1 in absurd (omega arith)

-- what is listed is a net of the chip
pub listed_known : (chip : Chip) (place_of rank : ℕ → ℕ) (u : ℕ) (values others : List Trit) (changed touched : List ℕ) (net : ℕ) → IsChip chip rank
    → AreSpread chip place_of u values others changed touched → Contains changed net → net < length chip.nets
listed_known chip place_of rank u values others changed touched net is spread listed =
    let driven = spread.driven net listed in
    subst (λ n. n < length chip.nets) driven.on (is.on_nets driven.instance (inputs_at chip driven.instance + driven.output) driven.known (let w = driven.within in omega arith))

module _ (chip : Chip) (place_of rank : ℕ → ℕ) (is : IsChip chip rank) (lists : NetLists) (nets : AreNetsOf chip lists) (u : ℕ) (flips : Flips) (values others : List Trit)
    (changed touched : List ℕ) (spread : AreSpread chip place_of u values others changed touched) (flipped : AreFlippedOut chip u values others flips)
    (inside : AreInside chip values others touched) (hidden : All (IsSameOrInside chip lists values others) changed) where
  abbrev Same : ℕ → Type 0
  Same net = value_at others net ≡ value_at values net

  abbrev Inside : ℕ → Type 0
  Inside w = IsEvaluatedInside chip w (value_at values) (value_at others)

  changed_at : (net : ℕ) → Same net ⊎ IsChangedInside chip lists values others net
  changed_at net = elim (spread.same net) [
    | inl same ↦ inl same
    | inr listed ↦ All-contains (IsSameOrInside chip lists values others) changed net hidden listed
  ]

  -- an instance that reads a net that is listed is inside, and else its first pins are the same
  pins : (w end : ℕ) → w < count_of chip → end < suc (inputs_at chip w) → ((pin : ℕ) → pin < end → Same (net_of chip w pin)) ⊎ Inside w
  pins w zero known less = inl (λ pin none. absurd (omega arith))
  pins w (suc end) known less = elim (pins w end known (omega arith)) [
    | inr done ↦ inr done
    | inl before ↦ elim (changed_at (net_of chip w end)) [
      | inr changed ↦ inr (changed.readers w (record { known = known; pin = end; within = omega arith; on = refl }))
      | inl same ↦ inl (λ pin low. elim (cases_eq pin end) [
        | inl e ↦ subst (λ p. Same (net_of chip w p)) (sym e) same
        | inr other ↦ before pin (omega (arith, other))
      ])
    ]
  ]

  outs : (w end : ℕ) → w < count_of chip → (w ≡ u → ⊥) → end < suc (outputs_at chip w) → ((output : ℕ) → output < end → Same (output_net chip w output)) ⊎ Inside w
  outs w zero known apart less = inl (λ output none. absurd (omega arith))
  outs w (suc end) known apart less = elim (outs w end known apart (omega arith)) [
    | inr done ↦ inr done
    | inl before ↦ elim (spread.same (output_net chip w end)) [
      | inr listed ↦
          let driven = spread.driven (output_net chip w end) listed in
          let same_driver : driven.instance ≡ w = (is.one_driver (output_net chip w end) (record { instance = driven.instance; output = driven.output; known = driven.known; within = driven.within; on = driven.on })
          (record { instance = w; output = end; known = known; within = omega arith; on = refl })).0 in
          elim driven.by [
            | inl own ↦ absurd (apart (sym same_driver ∙ own))
            | inr had ↦ inr (All-contains Inside touched w inside (subst (Contains touched) same_driver had))
          ]
      | inl same ↦ inl (λ output low. elim (cases_eq output end) [
        | inl e ↦ subst (λ o. Same (output_net chip w o)) (sym e) same
        | inr other ↦ before output (omega (arith, other))
      ])
    ]
  ]

  pub stays_of_checks : StaysInside chip u (value_at values) flips (value_at others)
  stays_of_checks = record {
    own = flipped.own;
    given = flipped.given;
    inputs = λ net within kind. elim (spread.same net) [
      | inl same ↦ same
      | inr listed ↦
          let driven = spread.driven net listed in
          let storage = is.drives net (record { instance = driven.instance; output = driven.output; known = driven.known; within = driven.within; on = driven.on }) in
          let clash : Input ≡ Storage OUTPUT_NET = sym kind ∙ storage in cc
    ];
    each = λ w known apart. elim (pins w (inputs_at chip w) known (omega arith)) [
      | inr done ↦ inr done
      | inl same ↦ elim (outs w (outputs_at chip w) known apart (omega arith)) [
        | inr done ↦ inr done
        | inl out ↦ inl (record { pins = same; outputs = out })
      ]
    ];
    unseen = λ place less. elim (changed_at (slice_index chip.outputs place)) [
      | inl same ↦ same
      | inr changed ↦
          let net = slice_index chip.outputs place in
          let observed = (nets.observed net).1 (Contains-get_or chip.outputs place 0 less) in
          let clash : true ≡ false = sym observed ∙ changed.hidden in cc
    ];
  }

-- what holds of each choice of output pins holds of all
pub each_choice : (P : Flips → Type 0) → ((flips : Flips) → flips.first ≡ true → flips.second ≡ false → P flips) → ((flips : Flips) → flips.first ≡ false → flips.second ≡ true → P flips)
    → ((flips : Flips) → flips.first ≡ true → flips.second ≡ true → P flips) → ((flips : Flips) → flips.first ≡ false → flips.second ≡ false → P flips)
    → (flips : Flips) → P flips
each_choice P one other two none flips = elim (bool_cases flips.first) [
  | inl first ↦ elim (bool_cases flips.second) [
    | inl second ↦ two flips first second
    | inr second ↦ one flips first second
  ]
  | inr first ↦ elim (bool_cases flips.second) [
    | inl second ↦ other flips first second
    | inr second ↦ none flips first second
  ]
]
  where
    bool_cases : (b : Bool) → (b ≡ true) ⊎ (b ≡ false)
    bool_cases true = inl refl
    bool_cases false = inr refl

-- choices with the same pins are one
pub stays_for : (chip : Chip) (u : ℕ) (values : List Trit) (flips other : Flips) (first second : Bool) → flips.first ≡ first → flips.second ≡ second
    → other.first ≡ first → other.second ≡ second → StaysSomehow chip u values flips → StaysSomehow chip u values other
stays_for chip u values flips other first second f s g t stays =
    subst (StaysSomehow chip u values) (ap (λ b. record { first = b; second = flips.second }) (f ∙ sym g) ∙ ap (λ b. record { first = other.first; second = b }) (s ∙ sym t)) stays
