-- The scope of an instance: what is behind it is visited in the order, and what leads to it from the last on.
use Rattle.std.proofs.Common.{◌≡◌, ◌≢◌, ◌↔◌, ◌⊎◌, ℕ, ◌+◌, ◌<◌, ◌≤◌, List, length, None, Some, inl, inr, refl, sym, ◌∙◌, ap, subst, arith}
use Rattle.std.specs.Prelude.{slice_index}
use Rattle.std.specs.List.{Contains}
use Rattle.std.proofs.lemmas.Bool.{cases_eq, cases_lt}
use Rattle.ca_flat.specs.Chip.{Chip, Drives, inputs_at, outputs_at, net_of, output_net, count_of}
use Rattle.ca_flat.specs.Chain.{IsOutputOf}
use Rattle.ca_view.specs.Linked.{IsLinked, Reads, IsPlaced, IsPlace}
use Rattle.ca_places.specs.declared.place_set.PlaceSet.{PlaceSet}
use Rattle.ca_places.specs.PlaceSet.{Has, HoldsUpTo, IsNext}
use Rattle.ca_sim.specs.Marking.{IsMarked}
use Rattle.ca_sim.proofs.Putting.{reader_placed}
use Rattle.ca_confined.specs.declared.scope.Scope.{Scope}
use Rattle.ca_confined.specs.code.Drivers.{AreDrivers}
use Rattle.ca_confined.specs.code.Scope.{IsScopeRoom, IsSeenTo, IsSeen, Grows, IsVisitedTo, IsVisited, IsNoted, IsRooted}
use Rattle.ca_confined.specs.code.Scope.{HasDriversTo, IsClosedFrom, AddsDrivers, IsReachedTo}
use Rattle.ca_confined.specs.code.Scope.{IsAddedBefore}
use Rattle.ca_confined.specs.code.Clear.{IsEmptied}
use Rattle.ca_places.proofs.PlaceLemmas.{holds_as}

pub grows_self : (scope : Scope) → Grows scope scope
grows_self scope = record { reach = λ place has. has; outputs = λ net has. has; places = λ place has. has }

pub grows_on : (a b c : Scope) → Grows a b → Grows b c → Grows a c
grows_on a b c ab bc = record {
  reach = λ place has. bc.reach place (ab.reach place has);
  outputs = λ net has. bc.outputs net (ab.outputs net has);
  places = λ place has. bc.places place (ab.places place has);
}

pub seen_on : (chip : Chip) (place_of : ℕ → ℕ) (u end : ℕ) (a b : Scope) → Grows a b → IsSeenTo chip place_of u end a → IsSeenTo chip place_of u end b
seen_on chip place_of u end a b grows seen = record {
  readers = λ output w less reads. grows.reach (place_of w) (seen.readers output w less reads);
  observed = λ output less is. grows.outputs _ (seen.observed output less is);
}

-- a place of an instance is at most as high as their number
pub place_low : (chip : Chip) (place_of number_of : ℕ → ℕ) → IsLinked chip place_of number_of → (place : ℕ) → IsPlace chip place_of place → place < count_of chip + 1
place_low chip place_of number_of linked place is = let within = linked.within is.instance is.is_placed.known in let at = is.at in omega arith

-- a place that is put in is there, and those that were
pub has_more : (old new : PlaceSet) (place other : ℕ) → Has new place → ((k : ℕ) → k ≢ place → Has new k ↔ Has old k) → Has old other → Has new other
has_more old new place other here others has = elim (cases_eq other place) [
  | inl e ↦ subst (Has new) (sym e) here
  | inr apart ↦ (others other apart).1 has
]

-- and nothing else
pub has_before : (old new : PlaceSet) (place other : ℕ) → ((k : ℕ) → k ≢ place → Has new k ↔ Has old k) → Has new other → Has old other ⊎ (other ≡ place)
has_before old new place other others has = elim (cases_eq other place) [
  | inl e ↦ inr e
  | inr apart ↦ inl ((others other apart).0 has)
]

module _ (chip : Chip) (place_of number_of : ℕ → ℕ) (linked : IsLinked chip place_of number_of) where
  -- a net that isn't observed changes nothing
  pub noted_none : (u net : ℕ) (scope : Scope) → (Contains chip.outputs net → ⊥) → IsNoted chip place_of u net scope scope
  noted_none u net scope none = record {
    reach = refl;
    grows = grows_self scope;
    observed = λ is. absurd (none is);
    rooted = λ other has. inl has;
  }

  -- an observed one is reached, and its driver is in the scope
  module _ (u net place : ℕ) (old new : Scope) (placed : IsPlaced chip place_of u) (out : IsOutputOf chip u net) (observed : Contains chip.outputs net)
      (place_is : place ≡ place_of u) (drivers : new.drivers.items ≡ old.drivers.items) (reach : new.reach ≡ old.reach)
      (net_here : Has new.outputs net) (nets : (k : ℕ) → k ≢ net → Has new.outputs k ↔ Has old.outputs k) (net_room : (count : ℕ) → HoldsUpTo old.outputs count → HoldsUpTo new.outputs count)
      (place_here : Has new.places place) (others : (k : ℕ) → k ≢ place → Has new.places k ↔ Has old.places k)
      (place_room : (count : ℕ) → HoldsUpTo old.places count → HoldsUpTo new.places count) where
    pub noted_some : IsNoted chip place_of u net old new
    noted_some = record {
      reach = reach;
      grows = record {
        reach = λ k has. subst (λ (set : PlaceSet). Has set k) (sym reach) has;
        outputs = λ k has. has_more old.outputs new.outputs net k net_here nets has;
        places = λ k has. has_more old.places new.places place k place_here others has;
      };
      observed = λ is. net_here;
      rooted = λ k has. elim (has_before old.outputs new.outputs net k nets has) [
        | inl before ↦ inl before
        | inr e ↦ inr (e, subst (Has new.places) place_is place_here)
      ];
    }

    pub noted_room : IsScopeRoom chip place_of old → IsScopeRoom chip place_of new
    noted_room room = record {
      drivers = subst (AreDrivers chip place_of) (sym drivers) room.drivers;
      reach_room = subst (λ (set : PlaceSet). HoldsUpTo set (count_of chip + 1)) (sym reach) room.reach_room;
      places_room = place_room (count_of chip + 1) room.places_room;
      outputs_room = net_room (length chip.nets + 1) room.outputs_room;
      reach_within = λ k has. room.reach_within k (subst (λ (set : PlaceSet). Has set k) reach has);
      places_within = λ k has. elim (has_before old.places new.places place k others has) [
        | inl before ↦ room.places_within k before
        | inr e ↦ record { instance = u; is_placed = placed; at = sym (e ∙ place_is) }
      ];
      outputs_within = λ k has. elim (has_before old.outputs new.outputs net k nets has) [
        | inl before ↦ room.outputs_within k before
        | inr e ↦ subst (Contains chip.outputs) (sym e) observed
      ];
    }

  -- the readers of a net were marked
  pub marked_room : (net : ℕ) (old new : Scope) → IsScopeRoom chip place_of old → IsMarked chip place_of net old.reach new.reach
      → new.drivers.items ≡ old.drivers.items → new.outputs ≡ old.outputs → new.places ≡ old.places → IsScopeRoom chip place_of new
  marked_room net old new room marked drivers outputs places = record {
    drivers = subst (AreDrivers chip place_of) (sym drivers) room.drivers;
    reach_room = marked.room (count_of chip + 1) room.reach_room;
    places_room = subst (λ (set : PlaceSet). HoldsUpTo set (count_of chip + 1)) (sym places) room.places_room;
    outputs_room = subst (λ (set : PlaceSet). HoldsUpTo set (length chip.nets + 1)) (sym outputs) room.outputs_room;
    reach_within = λ k has. elim (marked.added k has) [
      | inl before ↦ room.reach_within k before
      | inr reader ↦ record { instance = reader.0; is_placed = reader_placed chip place_of number_of linked reader.0 net reader.1; at = reader.2 }
    ];
    places_within = λ k has. room.places_within k (subst (λ (set : PlaceSet). Has set k) places has);
    outputs_within = λ k has. room.outputs_within k (subst (λ (set : PlaceSet). Has set k) outputs has);
  }

  pub visited_none : (u : ℕ) (scope : Scope) → IsVisitedTo chip place_of u 0 scope scope
  visited_none u scope = record {
    seen = record { readers = λ output w less. absurd (omega arith); observed = λ output less. absurd (omega arith) };
    grows = grows_self scope;
    adds = record { later = λ place has. inl has; rooted = λ net has. inl has };
  }

  -- an output of an instance is visited: its readers are marked, and it is noted
  pub visited_more : (u end net : ℕ) (old mid marked new : Scope) → IsPlaced chip place_of u → end < outputs_at chip u → net ≡ output_net chip u end
      → IsVisitedTo chip place_of u end old mid → IsMarked chip place_of net mid.reach marked.reach → marked.outputs ≡ mid.outputs → marked.places ≡ mid.places
      → IsNoted chip place_of u net marked new → IsVisitedTo chip place_of u (end + 1) old new
  visited_more u end net old mid marked new placed within net_is so_far is_marked outputs places noted = record {
    seen = record {
      readers = λ output w less reads. elim (cases_eq output end) [
        | inl e ↦ noted.grows.reach (place_of w) (is_marked.readers w (subst (Reads chip w) (ap (output_net chip u) e ∙ sym net_is) reads))
        | inr apart ↦ step.reach (place_of w) (so_far.seen.readers output w (omega arith) reads)
      ];
      observed = λ output less is. elim (cases_eq output end) [
        | inl e ↦
            let at : output_net chip u output ≡ net = ap (output_net chip u) e ∙ sym net_is in
            subst (Has new.outputs) (sym at) (noted.observed (subst (Contains chip.outputs) at is))
        | inr apart ↦ step.outputs _ (so_far.seen.observed output (omega arith) is)
      ];
    };
    grows = grows_on old mid new so_far.grows step;
    adds = record {
      later = λ place has. elim (is_marked.added place (subst (λ (set : PlaceSet). Has set place) noted.reach has)) [
        | inl before ↦ so_far.adds.later place before
        | inr reader ↦
            let reads = reader.1 in
            let less : place_of u < place_of reader.0 = linked.is_chip.ranked reader.0 reads.pin reads.known reads.within
            (record { instance = u; output = end; known = placed.known; within = within; on = sym net_is ∙ sym reads.on }) in
            inr (subst (λ x. place_of u < x) reader.2 less)
      ];
      rooted = λ other has. elim (noted.rooted other has) [
        | inl before ↦ elim (so_far.adds.rooted other (subst (λ (set : PlaceSet). Has set other) outputs before)) [
          | inl was ↦ inl was
          | inr root ↦ inr (root.0, step.places (place_of u) root.1)
        ]
        | inr here ↦ inr (record { output = end; within = within; on = sym net_is ∙ sym here.0 }, here.1)
      ];
    };
  }
    where
      mark_grows : Grows mid marked
      mark_grows = record {
        reach = is_marked.kept;
        outputs = λ k has. subst (λ (set : PlaceSet). Has set k) (sym outputs) has;
        places = λ k has. subst (λ (set : PlaceSet). Has set k) (sym places) has;
      }

      step : Grows mid new
      step = grows_on mid marked new mark_grows noted.grows

  -- what was rooted is, with an instance more
  rooted_more : (w : ℕ) (old new : Scope) → IsPlaced chip place_of w → IsRooted chip place_of old → IsVisited chip place_of w old new → IsRooted chip place_of new
  rooted_more w old new placed rooted visited net has drives some = elim (visited.adds.rooted net has) [
    | inl before ↦ visited.grows.places _ (rooted net before drives some)
    | inr root ↦
        let out = root.0 in
        let one = linked.is_chip.one_driver net (record { instance = w; output = out.output; known = placed.known; within = out.within; on = out.on }) drives in
        subst (λ x. Has new.places (place_of x)) one.0 root.1
  ]

  -- the first visit, of a scope in which nothing is
  pub reached_begin : (u : ℕ) (old new : Scope) → IsPlaced chip place_of u → ((place : ℕ) → Has old.reach place → ⊥) → ((net : ℕ) → Has old.outputs net → ⊥)
      → IsVisited chip place_of u old new → IsReachedTo chip place_of u 0 new
  reached_begin u old new placed none no_net visited = record {
    done = λ w w_placed less. absurd (omega arith);
    own = visited.seen;
    rooted = rooted_more u old new placed (λ net has. absurd (no_net net has)) visited;
  }

  -- the next instance behind is visited
  pub reached_more : (u from place w : ℕ) (old new : Scope) → IsNext old.reach from (Some place) → IsPlaced chip place_of w → place_of w ≡ place
      → IsReachedTo chip place_of u from old → IsVisited chip place_of w old new → IsReachedTo chip place_of u (place + 1) new
  reached_more u from place w old new next placed at so_far visited = record {
    done = λ v v_placed less has. elim (visited.adds.later (place_of v) has) [
      | inr later ↦ absurd (omega arith)
      | inl before ↦ elim (cases_lt (place_of v) from) [
        | inl low ↦ seen_on chip place_of v (outputs_at chip v) old new visited.grows (so_far.done v v_placed low before)
        | inr high ↦ elim (cases_eq (place_of v) place) [
          | inl e ↦ subst (λ x. IsSeen chip place_of x new) (linked.apart w v placed v_placed (at ∙ sym e)) visited.seen
          | inr apart ↦ absurd (next.2 (place_of v) high (omega arith) before)
        ]
      ]
    ];
    own = seen_on chip place_of u (outputs_at chip u) old new visited.grows so_far.own;
    rooted = rooted_more w old new placed so_far.rooted visited;
  }

  -- at the end each instance behind was
  pub all_seen : (u from : ℕ) (scope : Scope) → IsReachedTo chip place_of u from scope → IsNext scope.reach from None
      → (w : ℕ) → IsPlaced chip place_of w → Has scope.reach (place_of w) → IsSeen chip place_of w scope
  all_seen u from scope so_far none w placed has = elim (cases_lt (place_of w) from) [
    | inl low ↦ so_far.done w placed low has
    | inr high ↦ absurd (none (place_of w) high has)
  ]

  -- the driver of a pin is put into the scope, unless it is there
  pub drivers_none : (u : ℕ) (scope : Scope) → HasDriversTo chip place_of u 0 scope
  drivers_none u scope pin less = absurd (omega arith)

  -- a driver of a pin has a lower place
  pub driver_low : (u pin : ℕ) → u < count_of chip → pin < inputs_at chip u → (drives : Drives chip (net_of chip u pin)) → place_of drives.instance < place_of u
  driver_low u pin lt within drives = linked.is_chip.ranked u pin lt within drives

  -- the place in the table is that of the driver
  pub driver_is : (u pin net driver : ℕ) (drivers : List ℕ) → AreDrivers chip place_of drivers → net ≡ net_of chip u pin → driver ≡ slice_index drivers net
      → (drives : Drives chip (net_of chip u pin)) → 0 < place_of drives.instance → driver ≡ place_of drives.instance
  driver_is u pin net driver drivers are net_is at drives some =
      at ∙ ap (slice_index drivers) (net_is ∙ sym drives.on)
      ∙ are.each drives.instance drives.output drives.known (record { known = drives.known; placed = some }) drives.within

  -- an instance more is closed
  pub closed_more : (place u : ℕ) (old new : Scope) → IsPlaced chip place_of u → place_of u ≡ place → HasDriversTo chip place_of u (inputs_at chip u) new
      → AddsDrivers place old new → IsClosedFrom chip place_of (place + 1) old → IsClosedFrom chip place_of place new
  closed_more place u old new placed at here adds after w w_placed low has = elim (cases_eq (place_of w) place) [
    | inl e ↦ subst (λ x. HasDriversTo chip place_of x (inputs_at chip x) new) (linked.apart u w placed w_placed (at ∙ sym e)) here
    | inr apart ↦ λ pin within drives some. adds.places _ (after w w_placed (omega arith) (was (adds.before (place_of w) has) apart low) pin within drives some)
  ]
    where
      was : Has old.places (place_of w) ⊎ (place_of w < place) → (place_of w ≡ place → ⊥) → place ≤ place_of w → Has old.places (place_of w)
      was (inl before) apart low = before
      was (inr less) apart low = absurd (omega arith)

  -- nor is one that isn't in the scope
  pub closed_skip : (place : ℕ) (scope : Scope) → (Has scope.places place → ⊥) → IsClosedFrom chip place_of (place + 1) scope → IsClosedFrom chip place_of place scope
  closed_skip place scope none after w placed low has = elim (cases_eq (place_of w) place) [
    | inl e ↦ absurd (none (subst (Has scope.places) e has))
    | inr apart ↦ after w placed (omega arith) has
  ]

  -- past all places nothing is
  pub closed_past : (scope : Scope) → IsScopeRoom chip place_of scope → IsClosedFrom chip place_of (count_of chip + 1) scope
  closed_past scope room w placed low has = absurd (let k = linked.within w placed.known in omega arith)

pub adds_self : (end : ℕ) (scope : Scope) → AddsDrivers end scope scope
adds_self end scope = record { outputs = refl; places = λ place has. has; before = λ place has. inl has }

-- one more was put in
pub adds_on : (end low : ℕ) (a b c : Scope) → low ≤ end → AddsDrivers end a b → AddsDrivers low b c → AddsDrivers end a c
adds_on end low a b c le ab bc = record {
  outputs = bc.outputs ∙ ab.outputs;
  places = λ place has. bc.places place (ab.places place has);
  before = λ place has. elim (bc.before place has) [
    | inl mid ↦ ab.before place mid
    | inr less ↦ inr (omega arith)
  ];
}

pub rooted_on : (chip : Chip) (place_of : ℕ → ℕ) (end : ℕ) (old new : Scope) → IsRooted chip place_of old → AddsDrivers end old new → IsRooted chip place_of new
rooted_on chip place_of end old new rooted adds net has drives some =
    adds.places _ (rooted net (subst (λ (set : PlaceSet). Has set net) adds.outputs has) drives some)

pub added_none : (place end : ℕ) (set : PlaceSet) → (0 < place → place < end → ⊥) → IsAddedBefore place end set set
added_none place end set none = record {
  here = λ some less. absurd (none some less);
  kept = λ other has. has;
  added = λ other has. inl has;
  room = λ count holds. holds;
}

pub added_here : (place end : ℕ) (old new : PlaceSet) → 0 < place → place < end → Has new place → ((k : ℕ) → k ≢ place → Has new k ↔ Has old k)
    → ((count : ℕ) → HoldsUpTo old count → HoldsUpTo new count) → IsAddedBefore place end old new
added_here place end old new some less here others room = record {
  here = λ a b. here;
  kept = λ other has. has_more old new place other here others has;
  added = λ other has. elim (has_before old new place other others has) [
    | inl before ↦ inl before
    | inr e ↦ inr (e, some, less)
  ];
  room = room;
}

-- the driver of a pin more was added
module _ (chip : Chip) (place_of number_of : ℕ → ℕ) (linked : IsLinked chip place_of number_of) (u place pin net driver : ℕ) (old mid new : Scope)
    (placed : IsPlaced chip place_of u) (at : place_of u ≡ place) (within : pin < inputs_at chip u) (net_is : net ≡ net_of chip u pin)
    (room : IsScopeRoom chip place_of mid) (driver_at : driver ≡ slice_index mid.drivers.items net) (added : IsAddedBefore driver place mid.places new.places)
    (drivers : new.drivers.items ≡ mid.drivers.items) (reach : new.reach ≡ mid.reach) (outputs : new.outputs ≡ mid.outputs) where
  pub driver_room : IsScopeRoom chip place_of new
  driver_room = record {
    drivers = subst (AreDrivers chip place_of) (sym drivers) room.drivers;
    reach_room = subst (λ (set : PlaceSet). HoldsUpTo set (count_of chip + 1)) (sym reach) room.reach_room;
    places_room = added.room (count_of chip + 1) room.places_room;
    outputs_room = subst (λ (set : PlaceSet). HoldsUpTo set (length chip.nets + 1)) (sym outputs) room.outputs_room;
    reach_within = λ k has. room.reach_within k (subst (λ (set : PlaceSet). Has set k) reach has);
    places_within = λ k has. elim (added.added k has) [
      | inl before ↦ room.places_within k before
      | inr here ↦ subst (IsPlace chip place_of) (sym (here.0 ∙ driver_at)) (room.drivers.some.places net (let some = here.1 in omega arith))
    ];
    outputs_within = λ k has. room.outputs_within k (subst (λ (set : PlaceSet). Has set k) outputs has);
  }

  pub driver_adds : AddsDrivers place old mid → AddsDrivers place old new
  driver_adds adds = record {
    outputs = outputs ∙ adds.outputs;
    places = λ k has. added.kept k (adds.places k has);
    before = λ k has. elim (added.added k has) [
      | inl before ↦ adds.before k before
      | inr here ↦ inr (let e = here.0 in let less = here.2 in omega arith)
    ];
  }

  pub driver_has : HasDriversTo chip place_of u pin mid → HasDriversTo chip place_of u (pin + 1) new
  driver_has has other less drives some = elim (cases_eq other pin) [
    | inr apart ↦ added.kept _ (has other (omega arith) drives some)
    | inl e ↦ here other e drives some
  ]
    where
      here : (other : ℕ) → other ≡ pin → (drives : Drives chip (net_of chip u other)) → 0 < place_of drives.instance → Has new.places (place_of drives.instance)
      here other e drives some =
          let is : driver ≡ place_of drives.instance = driver_is chip place_of number_of linked u other net driver mid.drivers.items room.drivers
          (net_is ∙ ap (net_of chip u) (sym e)) driver_at drives some in
          let low : place_of drives.instance < place_of u = driver_low chip place_of number_of linked u other placed.known (omega arith) drives in
          subst (Has new.places) is (added.here (omega arith) (omega arith))

-- a scope whose sets were emptied
pub cleared_room : (chip : Chip) (place_of : ℕ → ℕ) (old new : Scope) → IsScopeRoom chip place_of old → new.drivers.items ≡ old.drivers.items
    → IsEmptied old.reach new.reach → IsEmptied old.outputs new.outputs → IsEmptied old.places new.places → IsScopeRoom chip place_of new
cleared_room chip place_of old new room drivers reach outputs places = record {
  drivers = subst (AreDrivers chip place_of) (sym drivers) room.drivers;
  reach_room = holds_as old.reach new.reach reach.room (count_of chip + 1) room.reach_room;
  places_room = holds_as old.places new.places places.room (count_of chip + 1) room.places_room;
  outputs_room = holds_as old.outputs new.outputs outputs.room (length chip.nets + 1) room.outputs_room;
  reach_within = λ k has. absurd (reach.none k has);
  places_within = λ k has. absurd (places.none k has);
  outputs_within = λ k has. absurd (outputs.none k has);
}
