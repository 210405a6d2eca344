-- Which library instances feed which, and lists of those.
use Rattle.std.proofs.Common.{◌≡◌, ℕ, ◌+◌, ◌<◌, ◌⊎◌, List, [], ◌∷◌, ◌++◌, length, inl, inr, refl, sym, ◌∙◌}
use Rattle.std.proofs.Common.{ap, subst, arith, length-append}
use Rattle.std.specs.Prelude.{Option, Some, None, IsSomeAnd, slice_get, ◌↔◌}
use Rattle.std.specs.List.{Contains}
use Rattle.std.proofs.lemmas.List.{get_or_append_left, get_or-append-add, get_or_past}
use Rattle.std.proofs.lemmas.List.Elements.{Contains-append_left, Contains-push, Contains-push_cases}
use Rattle.std.proofs.lemmas.Option.{slice_get_within}
use Rattle.std.proofs.lemmas.Bool.{cases_lt}
use native.Mathlib.Decide.{ℕ_discrete}
use Rattle.ca_linked.specs.declared.drivers.Sources.{Sources}
use Rattle.ca_linked.specs.Order.{IsOrder, IsChain, IsLoop}
use Rattle.ca_linked.specs.code.Walk.{row_of, IsFeeder, IsSortCause}
use Rattle.ca_linked.specs.declared.order.SortFault.{SortFault}
use Rattle.ca_linked.specs.declared.order.SortFault.TheVariants.{Loop, NoMemory}
use Rattle.ca_linked.specs.Linked.{Source, FromPort, FromConstant, FromPin, Body, Gate, Scan, Part, LinkedChip}
use Rattle.ca_linked.specs.Linked.{gate_inputs, gate_outputs, input_nets, output_nets, Drives, Feeds, IsGate}
use Rattle.ca_linked.specs.Linked.{IsLibrary}
use Rattle.ca_linked.specs.Drivers.{sources_at, instance_of, first_instance}
use Rattle.ca_linked.specs.Feeding.{IsDrivenBy}
use Rattle.ca_linked.specs.code.Feeding.{DrivesFromGate, IsGateOn, FeedsPin, IsRow, HaveFeeders}
use Rattle.ca_linked.specs.code.Feeding.{HasGates, IsOrderCause}
use Rattle.ca_linked.proofs.OrderLemmas.{place_of, contained_at}
use Rattle.ca_linked.proofs.DriverLemmas.{of_some, to_some, some_within, some_inj}

-- a library instance drives from an output pin, and what an output pin of a library instance drives is one of
-- its outputs
gate_pin : (body : Body) (net : ℕ) → Contains (gate_outputs body) net → IsGate body × ((pin : ℕ) × (slice_get (output_nets body) pin ≡ Some net))
gate_pin (Gate cell inputs outputs) net has = (tt, (has.0, place_of outputs net has))
gate_pin (Scan nets) net has = absurd (let lt = has.1 in omega (arith, lt))

pin_gate : (body : Body) (pin net : ℕ) → IsGate body → slice_get (output_nets body) pin ≡ Some net → Contains (gate_outputs body) net
pin_gate (Gate cell inputs outputs) pin net is at = contained_at outputs pin net at
pin_gate (Scan nets) pin net is at = absurd is

-- what is at a place of a list
pub record IsAt {X : Type 0} (xs : List X) (k : ℕ) (P : X → Type 0) : Type 0 where
  pub item : X
  pub at : slice_get xs k ≡ Some item
  pub has : P item

pub item_of : {X : Type 0} (xs : List X) (k : ℕ) (P : X → Type 0) → IsSomeAnd (slice_get xs k) P → IsAt xs k P
item_of xs k P has = by (slice_get xs k) refl has
  where
    by : (o : Option _) → slice_get xs k ≡ o → IsSomeAnd o P → IsAt xs k P
    by None e there = absurd there
    by (Some x) e there = record { item = x; at = e; has = there }

module _ (chip : LinkedChip) (net : ℕ) where
  -- a library instance that drives the net does so from a pin
  record IsFromPin (w : ℕ) : Type 0 where
    pin : ℕ
    drives : Drives chip net (FromPin w pin)
    part : Part
    at : slice_get chip.parts w ≡ Some part
    is_gate : IsGate part.body

  from_pin : (w : ℕ) → DrivesFromGate chip w net → IsFromPin w
  from_pin w has =
      let found = item_of chip.parts w (λ part. Contains (gate_outputs part.body) net) has in
      let pin = gate_pin found.item.body net found.has in
      record {
        pin = pin.1.0;
        drives = to_some (λ (p : Part). slice_get (output_nets p.body) pin.1.0 ≡ Some net) (slice_get chip.parts w) found.item found.at pin.1.1;
        part = found.item;
        at = found.at;
        is_gate = pin.0;
      }

  instance_reported : (s : Source) (w pin : ℕ) → FromPin w pin ≡ s → instance_of s ≡ Some w
  instance_reported s w pin e = sym (ap instance_of e)

  source_reported : (s : Source) (w : ℕ) → instance_of s ≡ Some w → (pin : ℕ) × (s ≡ FromPin w pin)
  source_reported (FromPort p) w e = absurd (let clash : None ≡ Some w = e in cc)
  source_reported (FromConstant value) w e = absurd (let clash : None ≡ Some w = e in cc)
  source_reported (FromPin u pin) w e = (pin, ap (λ x. FromPin x pin) (some_inj u w e))

  module _ (table : List Sources) (is : IsDrivenBy chip table net) where
    -- a library instance that drives the net is the one that the table gives
    reported_is : (w : ℕ) → DrivesFromGate chip w net → first_instance (sources_at table net).first ≡ Some w
    reported_is w has =
        let from = from_pin w has in
        ap first_instance is.reported ∙ instance_reported is.source w from.pin (is.only.none_other (FromPin w from.pin) from.drives)

    -- the instance that the table gives is of a library cell, or it isn't, or the table gives none
    pub gate_there : (w : ℕ) (part : Part) → first_instance (sources_at table net).first ≡ Some w → slice_get chip.parts w ≡ Some part → IsGate part.body
        → IsGateOn chip net (Some w)
    gate_there w part reported at is_gate v = (
      λ has. sym reported ∙ reported_is v has,
      λ e.
          let source = source_reported is.source w (sym (ap first_instance is.reported) ∙ reported) in
          let drives : Drives chip net (FromPin w source.0) = subst (Drives chip net) source.1 is.only.has in
          let pin = of_some (λ (p : Part). slice_get (output_nets p.body) source.0 ≡ Some net) (slice_get chip.parts w) part at drives in
          subst (λ x. DrivesFromGate chip x net) (some_inj w v e)
          (to_some (λ (p : Part). Contains (gate_outputs p.body) net) (slice_get chip.parts w) part at (pin_gate part.body source.0 net is_gate pin)),
    )

    pub scan_there : (w : ℕ) (part : Part) → first_instance (sources_at table net).first ≡ Some w → slice_get chip.parts w ≡ Some part → (IsGate part.body → ⊥)
        → IsGateOn chip net None
    scan_there w part reported at is_scan v = (
      λ has.
          let same : v ≡ w = some_inj v w (sym (reported_is v has) ∙ reported) in
          let from = from_pin v has in
          let part_is : from.part ≡ part = some_inj from.part part (sym from.at ∙ ap (slice_get chip.parts) same ∙ at) in
          absurd (is_scan (subst (λ (p : Part). IsGate p.body) part_is from.is_gate)),
      λ e. absurd (let clash : None ≡ Some v = e in cc),
    )

    pub none_there : first_instance (sources_at table net).first ≡ None → IsGateOn chip net None
    none_there reported v = (
      λ has. sym reported ∙ reported_is v has,
      λ e. absurd (let clash : None ≡ Some v = e in cc),
    )

    -- the instance that the table gives is one of the chip's
    pub instance_within : (w : ℕ) → first_instance (sources_at table net).first ≡ Some w → w < length chip.parts
    instance_within w reported =
        let source = source_reported is.source w (sym (ap first_instance is.reported) ∙ reported) in
        some_within (λ (p : Part). slice_get (output_nets p.body) source.0 ≡ Some net) chip.parts w (subst (Drives chip net) source.1 is.only.has)

module _ (chip : LinkedChip) (body : Body) (row : List ℕ) (pin net : ℕ) (at : slice_get (input_nets body) pin ≡ Some net)
    (before : (w : ℕ) → Contains row w ↔ FeedsPin chip body pin w) where
  later_pin : (w : ℕ) → FeedsPin chip body pin w → FeedsPin chip body (pin + 1) w
  later_pin w feeds = record { pin = feeds.pin; net = feeds.net; before = (let lt = feeds.before in omega (arith, lt)); at = feeds.at; drives = feeds.drives }

  last_pin : (w : ℕ) → FeedsPin chip body (pin + 1) w → FeedsPin chip body pin w ⊎ DrivesFromGate chip w net
  last_pin w feeds = elim (ℕ_discrete feeds.pin pin) [
    | yes same ↦ inr (subst (DrivesFromGate chip w) (some_inj feeds.net net (sym feeds.at ∙ ap (slice_get (input_nets body)) same ∙ at)) feeds.drives)
    | no other ↦ inl (record { pin = feeds.pin; net = feeds.net; before = (let lt = feeds.before in omega (arith, lt, other)); at = feeds.at; drives = feeds.drives })
  ]

  -- the net of the next pin is driven by a library instance, or by none
  pub row_pushed : (u : ℕ) → IsGateOn chip net (Some u) → (w : ℕ) → Contains (row ++ u ∷ []) w ↔ FeedsPin chip body (pin + 1) w
  row_pushed u is w = (
    λ has. elim (Contains-push_cases row u w has) [
      | inl was ↦ later_pin w ((before w).0 was)
      | inr same ↦ record { pin = pin; net = net; before = omega arith; at = at; drives = (is w).1 (ap Some same) }
    ],
    λ feeds. elim (last_pin w feeds) [
      | inl was ↦ Contains-append_left row (u ∷ []) w ((before w).1 was)
      | inr last ↦ subst (Contains (row ++ u ∷ [])) (some_inj u w ((is w).0 last)) (Contains-push row u)
    ],
  )

  pub row_kept : IsGateOn chip net None → (w : ℕ) → Contains row w ↔ FeedsPin chip body (pin + 1) w
  row_kept is w = (
    λ has. later_pin w ((before w).0 has),
    λ feeds. elim (last_pin w feeds) [
      | inl was ↦ (before w).1 was
      | inr last ↦ absurd (let clash : None ≡ Some w = (is w).0 last in cc)
    ],
  )

module _ (chip : LinkedChip) (u : ℕ) (part : Part) (is_part : slice_get chip.parts u ≡ Some part) where
  inputs_same : (body : Body) → IsGate body → input_nets body ≡ gate_inputs body
  inputs_same (Gate cell inputs outputs) is = refl
  inputs_same (Scan nets) is = absurd is

  -- the list has all that feed the instance
  pub row_done : IsGate part.body → (row : List ℕ) → ((w : ℕ) → Contains row w ↔ FeedsPin chip part.body (length (input_nets part.body)) w) → IsRow chip u row
  row_done is_gate row all w = (
    λ has.
        let feeds = (all w).0 has in
        let driver = item_of chip.parts w (λ p. Contains (gate_outputs p.body) feeds.net) feeds.drives in
        record {
          driver = driver.item;
          reader = part;
          is_driver = driver.at;
          is_reader = is_part;
          net = feeds.net;
          driven = driver.has;
          read = contained_at (gate_inputs part.body) feeds.pin feeds.net (ap (λ nets. slice_get nets feeds.pin) (sym (inputs_same part.body is_gate)) ∙ feeds.at);
        },
    λ (feeds : Feeds chip w u).
        let same : feeds.reader ≡ part = some_inj feeds.reader part (sym feeds.is_reader ∙ is_part) in
        let read : Contains (input_nets part.body) feeds.net =
        subst (λ nets. Contains nets feeds.net) (sym (inputs_same part.body is_gate)) (subst (λ (p : Part). Contains (gate_inputs p.body) feeds.net) same feeds.read) in
        (all w).1 (record {
          pin = read.0;
          net = feeds.net;
          before = read.1;
          at = place_of (input_nets part.body) feeds.net read;
          drives = to_some (λ (p : Part). Contains (gate_outputs p.body) feeds.net) (slice_get chip.parts w) feeds.driver feeds.is_driver feeds.driven;
        }),
  )

  no_inputs : (body : Body) (net : ℕ) → (IsGate body → ⊥) → Contains (gate_inputs body) net → ⊥
  no_inputs (Gate cell inputs outputs) net is_scan has = is_scan tt
  no_inputs (Scan nets) net is_scan has = let lt = has.1 in omega (arith, lt)

  -- nothing feeds a scan instance
  pub row_of_scan : (IsGate part.body → ⊥) → IsRow chip u []
  row_of_scan is_scan w = (
    λ has. absurd (let lt = has.1 in omega (arith, lt)),
    λ (feeds : Feeds chip w u).
        let same : feeds.reader ≡ part = some_inj feeds.reader part (sym feeds.is_reader ∙ is_part) in
        absurd (no_inputs part.body feeds.net is_scan (subst (λ (p : Part). Contains (gate_inputs p.body) feeds.net) same feeds.read)),
  )

  -- one more instance is of the library, or it isn't
  pub gate_pushed : (list : List ℕ) → HasGates chip u list → IsGate part.body → HasGates chip (u + 1) (list ++ u ∷ [])
  gate_pushed list before is_gate v = (
    λ has. elim (Contains-push_cases list u v has) [
      | inl was ↦ (let is = (before v).0 was in ((let lt = is.0 in omega (arith, lt)), is.1))
      | inr same ↦ (omega (arith, same), subst (IsLibrary chip) same (to_some (λ (p : Part). IsGate p.body) (slice_get chip.parts u) part is_part is_gate))
    ],
    λ is. elim (ℕ_discrete v u) [
      | yes same ↦ subst (Contains (list ++ u ∷ [])) (sym same) (Contains-push list u)
      | no other ↦ Contains-append_left list (u ∷ []) v ((before v).1 ((let lt = is.0 in omega (arith, lt, other)), is.1))
    ],
  )

  pub gate_skipped : (list : List ℕ) → HasGates chip u list → (IsGate part.body → ⊥) → HasGates chip (u + 1) list
  gate_skipped list before is_scan v = (
    λ has. (let is = (before v).0 has in ((let lt = is.0 in omega (arith, lt)), is.1)),
    λ is. elim (ℕ_discrete v u) [
      | yes same ↦ absurd (is_scan (of_some (λ (p : Part). IsGate p.body) (slice_get chip.parts v) part (ap (slice_get chip.parts) same ∙ is_part) is.1))
      | no other ↦ (before v).1 ((let lt = is.0 in omega (arith, lt, other)), is.1)
    ],
  )

module _ (chip : LinkedChip) where
  -- one more row
  pub feeders_pushed : (feeders : List (List ℕ)) (u : ℕ) (row : List ℕ) → HaveFeeders chip u feeders → IsRow chip u row → HaveFeeders chip (u + 1) (feeders ++ row ∷ [])
  feeders_pushed feeders u row before is = record {
    room = length-append feeders (row ∷ []) ∙ (let e = before.room in omega (arith, e));
    rows = λ v w lt. elim (ℕ_discrete v u) [
      | yes same ↦ subst (λ r. Contains r w ↔ Feeds chip w v) (sym (ap (row_of (feeders ++ row ∷ [])) same ∙ last)) (subst (λ x. Contains row w ↔ Feeds chip w x) (sym same) (is w))
      | no other ↦
          let less : v < u = omega (arith, lt, other) in
          subst (λ r. Contains r w ↔ Feeds chip w v) (sym (get_or_append_left feeders (row ∷ []) [] v (let e = before.room in omega (arith, e, less)))) (before.rows v w less)
    ];
  }
    where
      last : row_of (feeders ++ row ∷ []) u ≡ row
      last = ap (row_of (feeders ++ row ∷ [])) (let e = before.room in let s : u ≡ length feeders + 0 = omega (arith, e) in s) ∙ get_or-append-add feeders (row ∷ []) 0 []

  module _ (feeders : List (List ℕ)) (gates : List ℕ) (have : HaveFeeders chip (length chip.parts) feeders) (has : HasGates chip (length chip.parts) gates) where
    -- where a row isn't empty, it is one of them
    row_within : (w u : ℕ) → IsFeeder feeders w u → u < length chip.parts
    row_within w u is = elim (cases_lt u (length feeders)) [
      | inl lt ↦ (let e = have.room in omega (arith, lt, e))
      | inr past ↦ absurd (let none : row_of feeders u ≡ [] = get_or_past feeders u [] past in let lt = subst (λ r. is.0 < length r) none is.1 in omega (arith, lt))
    ]

    pub feeds_is : (w u : ℕ) → IsFeeder feeders w u → Feeds chip w u
    feeds_is w u is = (have.rows u w (row_within w u is)).0 is

    pub is_feeds : (w u : ℕ) → Feeds chip w u → IsFeeder feeders w u
    is_feeds w u feeds = (have.rows u w (slice_get_within chip.parts u feeds.reader feeds.is_reader)).1 feeds

    library_driver : (w u : ℕ) → Feeds chip w u → IsLibrary chip w
    library_driver w u feeds = to_some (λ (p : Part). IsGate p.body) (slice_get chip.parts w) feeds.driver feeds.is_driver (gate_pin feeds.driver.body feeds.net feeds.driven).0

    pub gates_closed : (w u : ℕ) → IsFeeder feeders w u → Contains gates w
    gates_closed w u is = let feeds = feeds_is w u is in
        (has w).1 (slice_get_within chip.parts w feeds.driver feeds.is_driver, library_driver w u feeds)

    pub gates_have_rows : (u : ℕ) → Contains gates u → u < length feeders
    gates_have_rows u is = let lt = ((has u).0 is).0 in let e = have.room in omega (arith, lt, e)

    pub library_order : (order : List ℕ) → IsOrder (IsFeeder feeders) (Contains gates) order → IsOrder (Feeds chip) (IsLibrary chip) order
    library_order order is = record {
      has = λ u. (
        λ there. ((has u).0 ((is.has u).0 there)).1,
        λ library. (is.has u).1 ((has u).1 (some_within (λ (p : Part). IsGate p.body) chip.parts u library, library)),
      );
      once = is.once;
      after = λ k u w at feeds. is.after k u w at (is_feeds w u feeds);
    }

    chain_is : (u : ℕ) (more : List ℕ) (to : ℕ) → IsChain (IsFeeder feeders) u more to → IsChain (Feeds chip) u more to
    chain_is u [] to is = feeds_is u to is
    chain_is u (w ∷ more) to is = (feeds_is u w is.0, chain_is w more to is.1)

    pub loop_is : (loop : List ℕ) → IsLoop (IsFeeder feeders) loop → IsLoop (Feeds chip) loop
    loop_is [] is = is
    loop_is (u ∷ more) is = (chain_is u more u is.0, is.1)

    pub cause_is : (broken : SortFault) → IsSortCause feeders broken → IsOrderCause chip broken
    cause_is (Loop loop) (is, once) = (loop_is loop is, once)
    cause_is NoMemory is = tt
