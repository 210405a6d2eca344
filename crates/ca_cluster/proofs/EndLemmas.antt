-- The ends of a bridge.
use Rattle.std.proofs.Common.{◌≡◌, ℕ, zero, suc, ◌+◌, ◌-◌, ◌<◌, ◌≤◌, ◌⊎◌, List, [], ◌∷◌, ◌++◌, length, Bool, true, false}
use Rattle.std.proofs.Common.{inl, inr, refl, sym, ◌∙◌, ap, subst, arith, get_or, Option, Some, None}
use Rattle.std.specs.Prelude.{◌↔◌, slice_get, IsSomeAnd, IsTrue, not, ◌&&◌, if◌then◌else◌, nat_lt, option_to_list}
use Rattle.std.specs.List.{Contains, flat_map}
use Rattle.std.specs.Prelude.{eqb}
use Rattle.std.proofs.lemmas.Bool.{cases_lt, both_ways, eqb-true, eq-eqb}
use Rattle.std.proofs.lemmas.List.{get_or_append_left}
use Rattle.std.proofs.lemmas.List.Elements.{Contains-append_left, Contains-append_right, Contains-append_cases}
use Rattle.std.proofs.lemmas.Option.{slice_get-get_or, slice_get_within, get_or_from_slice_get}
use Rattle.ca_linked.specs.declared.parts.Body.{Body}
use Rattle.ca_linked.specs.declared.parts.Part.{Part}
use Rattle.ca_linked.specs.declared.parts.PortBit.{PortBit}
use Rattle.ca_linked.specs.declared.parts.ScanNets.{ScanNets}
use Rattle.ca_linked.specs.declared.parts.Body.TheVariants.{Gate, Scan}
use Rattle.ca_linked.specs.declared.parts.Source.{Source}
use Rattle.ca_linked.specs.declared.parts.Source.TheVariants.{FromPort, FromConstant, FromPin}
use Rattle.ca_linked.specs.Linked.{LinkedChip, net_count, constant_net, has, is_scan_path, is_read, gate_inputs}
use Rattle.ca_linked.specs.Linked.{gate_outputs, path_nets, data_nets, output_nets, inverted_nets, Drives, IsLibrary}
use Rattle.ca_linked.specs.Linked.{IsWired, port_nets, q_nets, inputs_of}
use Rattle.ca_linked.specs.Instances.{pin_nets}
use Rattle.ca_linked.proofs.OrderLemmas.{place_of, contained_at}
use Rattle.ca_linked.proofs.PartLemmas.{contains_has}
use Rattle.std.proofs.lemmas.List.Folds.{list_any_at}
use Rattle.ca_flat.specs.Chip.{Constant, IsChip, circuit_at, inputs_at, outputs_at, net_of, count_of}
use Rattle.ca_flat.specs.Flat.{outer_count}
use Rattle.ca_flat.proofs.Places.{place_rail, place_pin, place_inner}
use Rattle.ca_flat.proofs.Spots.{shape}
use Rattle.ca_flat.specs.Chip as flat
use Rattle.ca_view.specs.Core.{core_net, core_of, stored_nets, trit_of, constant_on, in_net_order, core_constants, rank_of}
use Rattle.ca_view.proofs.CoreLemmas.{IsOutside, core_same}
use Rattle.ca_view.proofs.CorePartLemmas.{first_stored}
use Rattle.ca_view.proofs.CoreIsChip.{core_is, data_within, data_outside}
use Rattle.ca_view.proofs.CoreFacts.{inputs_are}
use Rattle.ca_view.proofs.InputLemmas.{input_at}
use Rattle.ca_view.proofs.PartFacts.{GateAt, gate_at, some_at, at_some, pin_read}
use Rattle.ca_merged.specs.Bridge.{IsInputPin}
use Rattle.ca_merged.specs.Members.{DrivesEnd}
use Rattle.ca_merged.proofs.Seats.{Contains-map, map-Contains}
use Rattle.ca_cluster.specs.declared.bridge.Bridge.{Bridge}
use Rattle.ca_cluster.specs.Bridges.{IsKnown}
use Rattle.ca_cluster.specs.Clusters.{IsPortNet, IsPortEnd, IsOneNode}
use Rattle.ca_cluster.specs.code.Ends.{IsOnOutput, MakesMember}
use Rattle.ca_cluster.proofs.FeedLemmas.{GateOn, gate_on, on_gate, gate_stores, stored_drives, drives_stored, stored_on}
use Rattle.ca_cluster.proofs.FeedLemmas.{read_here, not_inverted, output_library}

-- what is in a piece is in the whole
piece_in : {X : Type 0} (f : X → List ℕ) (xs : List X) (x : X) (n : ℕ) → Contains xs x → Contains (f x) n → Contains (flat_map f xs) n
piece_in f [] x n c h = absurd (let lt = c.1 in omega arith)
piece_in f (y ∷ xs) x n c h = at c.0 c.1 c.2 (λ d. piece_in f xs x n d h)
  where
    at : (k : ℕ) → k < length (y ∷ xs) → get_or (y ∷ xs) k x ≡ x → (Contains xs x → Contains (flat_map f xs) n) → Contains (flat_map f (y ∷ xs)) n
    at zero lt e more = Contains-append_left (f y) (flat_map f xs) n (subst (λ z. Contains (f z) n) (sym e) h)
    at (suc k) lt e more = Contains-append_right (f y) (flat_map f xs) n (more (k, omega arith, e))

-- the constants of the core, whichever is first
low_in : (lows highs : List Constant) (c : Constant) → Contains lows c → Contains (in_net_order lows highs) c
low_in [] highs c h = Contains-append_left [] highs c h
low_in (l ∷ []) [] c h = Contains-append_left (l ∷ []) [] c h
low_in (l ∷ []) (g ∷ []) c h = by (nat_lt l.net g.net)
  where
    by : (b : Bool) → Contains (if b then l ∷ g ∷ [] else g ∷ l ∷ []) c
    by true = Contains-append_left (l ∷ []) (g ∷ []) c h
    by false = Contains-append_right (g ∷ []) (l ∷ []) c h
low_in (l ∷ []) (g ∷ k ∷ more) c h = Contains-append_left (l ∷ []) (g ∷ k ∷ more) c h
low_in (l ∷ k ∷ more) highs c h = Contains-append_left (l ∷ k ∷ more) highs c h

high_in : (lows highs : List Constant) (c : Constant) → Contains highs c → Contains (in_net_order lows highs) c
high_in [] highs c h = Contains-append_right [] highs c h
high_in (l ∷ []) [] c h = Contains-append_right (l ∷ []) [] c h
high_in (l ∷ []) (g ∷ []) c h = by (nat_lt l.net g.net)
  where
    by : (b : Bool) → Contains (if b then l ∷ g ∷ [] else g ∷ l ∷ []) c
    by true = Contains-append_right (l ∷ []) (g ∷ []) c h
    by false = Contains-append_left (g ∷ []) (l ∷ []) c h
high_in (l ∷ []) (g ∷ k ∷ more) c h = Contains-append_right (l ∷ []) (g ∷ k ∷ more) c h
high_in (l ∷ k ∷ more) highs c h = Contains-append_right (l ∷ k ∷ more) highs c h

ordered_from : (P : Constant → Type 0) (lows highs : List Constant) → ((c : Constant) → Contains lows c → P c) → ((c : Constant) → Contains highs c → P c)
    → (c : Constant) → Contains (in_net_order lows highs) c → P c
ordered_from P [] highs low high c h = high c h
ordered_from P (l ∷ []) [] low high c h = low c h
ordered_from P (l ∷ []) (g ∷ []) low high c h = by (nat_lt l.net g.net) h
  where
    by : (b : Bool) → Contains (if b then l ∷ g ∷ [] else g ∷ l ∷ []) c → P c
    by true has = elim (Contains-append_cases (l ∷ []) (g ∷ []) c has) [ inl here ↦ low c here | inr there ↦ high c there ]
    by false has = elim (Contains-append_cases (g ∷ []) (l ∷ []) c has) [ inl here ↦ high c here | inr there ↦ low c there ]
ordered_from P (l ∷ []) (g ∷ k ∷ more) low high c h =
    elim (Contains-append_cases (l ∷ []) (g ∷ k ∷ more) c h) [ inl here ↦ low c here | inr there ↦ high c there ]
ordered_from P (l ∷ k ∷ more) highs low high c h =
    elim (Contains-append_cases (l ∷ k ∷ more) highs c h) [ inl here ↦ low c here | inr there ↦ high c there ]

-- a constant that drives a net off the scan path is one of the core
abbrev constant_at : LinkedChip → Bool → ℕ → Constant
constant_at chip value net = record { net = core_net chip net; value = trit_of value }

on_constant : (chip : LinkedChip) (value : Bool) (o : Option ℕ) (net : ℕ) → o ≡ Some net → IsOutside chip net → Contains (constant_on chip value o) (constant_at chip value net)
on_constant chip value o net e outside =
    subst (λ x. Contains (constant_on chip value x) (constant_at chip value net)) (sym e)
    (subst (λ b. Contains (if b then [] else constant_at chip value net ∷ []) (constant_at chip value net)) (sym outside) (0, omega arith, refl))

constant_in : (chip : LinkedChip) (value : Bool) (net : ℕ) → constant_net chip value ≡ Some net → IsOutside chip net → Contains (core_constants chip) (constant_at chip value net)
constant_in chip true net e outside =
    high_in (constant_on chip false chip.zero) (constant_on chip true chip.one) (constant_at chip true net) (on_constant chip true chip.one net e outside)
constant_in chip false net e outside =
    low_in (constant_on chip false chip.zero) (constant_on chip true chip.one) (constant_at chip false net) (on_constant chip false chip.zero net e outside)

-- a constant of the core drives a net of the chip
record IsConstantOf (chip : LinkedChip) (constant : Constant) : Type 0 where
  value : Bool
  net : ℕ
  drives : constant_net chip value ≡ Some net
  outside : IsOutside chip net
  numbered : core_net chip net ≡ constant.net

constant_from : (chip : LinkedChip) (value : Bool) (constant : Constant) → Contains (constant_on chip value (constant_net chip value)) constant → IsConstantOf chip constant
constant_from chip value constant c = by (constant_net chip value) refl c
  where
    by : (o : Option ℕ) → constant_net chip value ≡ o → Contains (constant_on chip value o) constant → IsConstantOf chip constant
    by None e h = absurd (let lt = h.1 in omega arith)
    by (Some net) e h = by_path (is_scan_path chip net) refl h
      where
        by_path : (b : Bool) → is_scan_path chip net ≡ b → Contains (if b then [] else constant_at chip value net ∷ []) constant → IsConstantOf chip constant
        by_path true off h = absurd (let lt = h.1 in omega arith)
        by_path false off h =
            let first : h.0 ≡ 0 = let lt = h.1 in omega arith in
            let same : constant_at chip value net ≡ constant = ap (λ k. get_or (constant_at chip value net ∷ []) k constant) (sym first) ∙ h.2 in
            record { value = value; net = net; drives = e; outside = off; numbered = ap (λ (d : Constant). d.net) same }

constant_of : (chip : LinkedChip) (constant : Constant) → Contains (core_constants chip) constant → IsConstantOf chip constant
constant_of chip constant c =
    ordered_from (IsConstantOf chip) (constant_on chip false chip.zero) (constant_on chip true chip.one)
    (constant_from chip false) (constant_from chip true) constant c

-- a bit of an input port is a chip input
port_piece : (chip : LinkedChip) (port : PortBit) (net : ℕ) → IsTrue port.is_input → port.net ≡ net → IsOutside chip net
    → Contains (if (if port.is_input then true else not true) && not (is_scan_path chip port.net) then port.net ∷ [] else []) net
port_piece chip port net input on outside = by port.is_input (is_scan_path chip port.net) input (ap (is_scan_path chip) on ∙ outside)
  where
    by : (b path : Bool) → IsTrue b → path ≡ false → Contains (if (if b then true else not true) && not path then port.net ∷ [] else []) net
    by true false t e = (0, omega arith, on)
    by true true t e = absurd cc
    by false path t e = absurd cc

-- the nets of a scan cell's outputs
scan_outputs : (nets : ScanNets) (net : ℕ) → Contains (output_nets (Scan nets)) net
    → (nets.q ≡ net) ⊎ (Contains (inverted_nets (Scan nets)) net ⊎ (nets.so ≡ net))
scan_outputs nets net c = elim (Contains-append_cases (nets.q ∷ []) (option_to_list nets.qn ++ nets.so ∷ []) net c) [
  | inl q ↦ inl (one nets.q q)
  | inr more ↦ elim (Contains-append_cases (option_to_list nets.qn) (nets.so ∷ []) net more) [
    | inl qn ↦ inr (inl qn)
    | inr so ↦ inr (inr (one nets.so so))
  ]
]
  where
    one : (x : ℕ) → Contains (x ∷ []) net → x ≡ net
    one x h = let first : h.0 ≡ 0 = let lt = h.1 in omega arith in ap (λ k. get_or (x ∷ []) k net) (sym first) ∙ h.2

-- the net of a scan cell's scan output is on the scan path
so_on_path : (nets : ScanNets) (net : ℕ) → nets.so ≡ net → has (path_nets (Scan nets)) net ≡ true
so_on_path nets net e = contains_has (nets.se ∷ nets.ck ∷ nets.hold ∷ nets.si ∷ nets.so ∷ []) net (4, omega arith, e)

none_some : (x : ℕ) → None ≡ Some x → ⊥
none_some x e = cc

-- the library instance that drives a net
module _ (chip : LinkedChip) (is : IsWired chip) (net : ℕ) where
  gate_drives : (x : ℕ) (g : GateOn chip net x) → Drives chip net (FromPin x g.on.0)
  gate_drives x g = some_at (λ (p : Part). slice_get (output_nets p.body) g.on.0 ≡ Some net) chip.parts x g.part g.at (by g.part.body g.on)
    where
      by : (body : Body) (c : Contains (gate_outputs body) net) → slice_get (output_nets body) c.0 ≡ Some net
      by (Gate cell inputs outputs) c = place_of outputs net c
      by (Scan nets) c = absurd (let lt = c.1 in omega arith)

  same_pin : (u w a b : ℕ) → FromPin u a ≡ FromPin w b → u ≡ w
  same_pin u w a b e = cc

  same_some : (a b : ℕ) → Some a ≡ Some b → a ≡ b
  same_some a b e = cc

  pub driver_here : (u pin : ℕ) → Drives chip net (FromPin u pin) → IsLibrary chip u → (x : ℕ) → (Some u ≡ Some x) ↔ IsOnOutput chip net x
  driver_here u pin drives library x = (
    λ e. subst (IsOnOutput chip net) (same_some u x e) here,
    λ h.
        let g = gate_on chip net x h in
        ap Some (same_pin u x pin g.on.0 (is.one_driver net (FromPin u pin) (FromPin x g.on.0) drives (gate_drives x g))),
  )
    where
      here : IsOnOutput chip net u
      here =
          let g = gate_at chip u library in
          let at = subst (λ (b : Body). slice_get (output_nets b) pin ≡ Some net) g.body
          (at_some (λ part. slice_get (output_nets part.body) pin ≡ Some net) chip.parts u g.part g.at drives) in
          on_gate chip net u (record {
            part = g.part;
            at = g.at;
            on = subst (λ (b : Body). Contains (gate_outputs b) net) (sym g.body) (contained_at g.outputs pin net at);
          })

  pub driver_scan : (u pin : ℕ) → Drives chip net (FromPin u pin) → (IsLibrary chip u → ⊥) → (x : ℕ) → (None ≡ Some x) ↔ IsOnOutput chip net x
  driver_scan u pin drives other x = (
    λ e. absurd (none_some x e),
    λ h.
        let g = gate_on chip net x h in
        let e = same_pin u x pin g.on.0 (is.one_driver net (FromPin u pin) (FromPin x g.on.0) drives (gate_drives x g)) in
        absurd (other (subst (IsLibrary chip) (sym e) (output_library chip net x h))),
  )

  pub driver_port : (p : ℕ) → Drives chip net (FromPort p) → (x : ℕ) → (None ≡ Some x) ↔ IsOnOutput chip net x
  driver_port p drives x = (
    λ e. absurd (none_some x e),
    λ h.
        let g = gate_on chip net x h in
        let e = is.one_driver net (FromPort p) (FromPin x g.on.0) drives (gate_drives x g) in
        absurd cc,
  )

  pub driver_constant : (value : Bool) → Drives chip net (FromConstant value) → (x : ℕ) → (None ≡ Some x) ↔ IsOnOutput chip net x
  driver_constant value drives x = (
    λ e. absurd (none_some x e),
    λ h.
        let g = gate_on chip net x h in
        let e = is.one_driver net (FromConstant value) (FromPin x g.on.0) drives (gate_drives x g) in
        absurd cc,
  )

module _ (chip : LinkedChip) (is : IsWired chip) where
  abbrev core : flat.Chip
  core = core_of chip

  -- a net that an input pin of a library instance is on
  pub record IsReadNet (net : ℕ) : Type 0 where
    pub within : net < net_count chip
    pub outside : IsOutside chip net
    pub read : is_read chip net ≡ true

  -- where no library instance drives it, it is that of a chip input or a constant
  module _ (net : ℕ) (r : IsReadNet net) where
    input_in : Contains (inputs_of chip) net → IsPortNet core (core_net chip net)
    input_in c = inl (Contains-map (core_net chip) (inputs_of chip) net c)

    from_port : (o : Option PortBit) (p : ℕ) → slice_get chip.ports p ≡ o → IsSomeAnd o (λ port. IsTrue port.is_input × (port.net ≡ net))
        → IsPortNet core (core_net chip net)
    from_port None p e h = absurd h
    from_port (Some port) p e h =
        input_in (Contains-append_left (port_nets chip true) (flat_map (λ (part : Part). q_nets part.body) chip.parts) net
        (piece_in (λ (b : PortBit). if (if b.is_input then true else not true) && not (is_scan_path chip b.net) then b.net ∷ [] else []) chip.ports port net
        (p, slice_get_within chip.ports p port e, get_or_from_slice_get chip.ports p port port e)
        (port_piece chip port net h.0 h.1 r.outside)))

    on_path : (u : ℕ) (part : Part) → slice_get chip.parts u ≡ Some part → has (path_nets part.body) net ≡ true → ⊥
    on_path u part e h =
        both_ways (is_scan_path chip net) r.outside
        (list_any_at (λ (q : Part). has (path_nets q.body) net) chip.parts u part (slice_get_within chip.parts u part e)
        (ap (λ (q : Part). has (path_nets q.body) net) (get_or_from_slice_get chip.parts u part part e) ∙ h))

    from_scan : (u : ℕ) (part : Part) (nets : ScanNets) → slice_get chip.parts u ≡ Some part → part.body ≡ Scan nets → Contains (output_nets (Scan nets)) net
        → IsPortNet core (core_net chip net)
    from_scan u part nets e b c = elim (scan_outputs nets net c) [
      | inl q ↦
          input_in (Contains-append_right (port_nets chip true) (flat_map (λ (p : Part). q_nets p.body) chip.parts) net
          (piece_in (λ (p : Part). q_nets p.body) chip.parts part net
          (u, slice_get_within chip.parts u part e, get_or_from_slice_get chip.parts u part part e)
          (subst (λ (x : Body). Contains (q_nets x) net) (sym b) (0, omega arith, q))))
      | inr other ↦ elim other [
        | inl qn ↦ absurd (not_inverted chip is net u part r.read e (subst (λ (x : Body). Contains (inverted_nets x) net) (sym b) qn))
        | inr so ↦ absurd (on_path u part e (ap (λ (x : Body). has (path_nets x) net) b ∙ so_on_path nets net so))
      ]
    ]

    from_pin : (o : Option Part) (u pin : ℕ) → slice_get chip.parts u ≡ o → IsSomeAnd o (λ part. slice_get (output_nets part.body) pin ≡ Some net)
        → ((x : ℕ) → IsOnOutput chip net x → ⊥) → IsPortNet core (core_net chip net)
    from_pin None u pin e h none = absurd h
    from_pin (Some part) u pin e h none = by part.body refl
      where
        by : (body : Body) → part.body ≡ body → IsPortNet core (core_net chip net)
        by (Gate cell inputs outputs) b =
            let c : Contains outputs net = contained_at outputs pin net (subst (λ (x : Body). slice_get (output_nets x) pin ≡ Some net) b h) in
            absurd (none u (on_gate chip net u (record { part = part; at = e; on = subst (λ (x : Body). Contains (gate_outputs x) net) (sym b) c })))
        by (Scan nets) b =
            from_scan u part nets e b (contained_at (output_nets (Scan nets)) pin net (subst (λ (x : Body). slice_get (output_nets x) pin ≡ Some net) b h))

    pub port_from : ((x : ℕ) → IsOnOutput chip net x → ⊥) → IsPortNet core (core_net chip net)
    port_from none = let d = is.driven net r.within in by d.0 d.1
      where
        by : (s : Source) → Drives chip net s → IsPortNet core (core_net chip net)
        by (FromPort p) h = from_port (slice_get chip.ports p) p refl h
        by (FromConstant value) h = inr (constant_at chip value net, constant_in chip value net h r.outside, refl)
        by (FromPin u pin) h = from_pin (slice_get chip.parts u) u pin refl h none

    -- and where one drives it, it is neither
    gate_source : (x : ℕ) (g : GateOn chip net x) → Drives chip net (FromPin x g.on.0)
    gate_source x g = gate_drives chip is net x g

    no_input : (x : ℕ) → GateOn chip net x → Contains (inputs_of chip) net → ⊥
    no_input x g c =
        let i = input_at chip is c.0 net (place_of (inputs_of chip) net c) in
        let e = is.one_driver net i.source (FromPin x g.on.0) i.drives (gate_source x g) in
        let s = gate_stores chip net x (on_gate chip net x g) in
        i.no_stored x g.part g.on.0 g.at (less g.part.body g.on) (e ∙ ap (FromPin x) (first g.part.body g.on))
      where
        less : (body : Body) (c : Contains (gate_outputs body) net) → c.0 < length (stored_nets body)
        less (Gate cell inputs outputs) c = c.1
        less (Scan nets) c = absurd (let lt = c.1 in omega arith)

        first : (body : Body) (c : Contains (gate_outputs body) net) → c.0 ≡ first_stored body + c.0
        first (Gate cell inputs outputs) c = omega arith
        first (Scan nets) c = absurd (let lt = c.1 in omega arith)

    other_source : (x : ℕ) (value : Bool) (k : ℕ) → FromConstant value ≡ FromPin x k → ⊥
    other_source x value k e = absurd cc

    pub gate_no_port : (x : ℕ) → IsOnOutput chip net x → IsPortNet core (core_net chip net) → ⊥
    gate_no_port x h (inl c) =
        let m = map-Contains (core_net chip) (inputs_of chip) (core_net chip net) c in
        let i = input_at chip is m.1.0 m.0 (place_of (inputs_of chip) m.0 m.1) in
        let e : m.0 ≡ net = core_same chip m.0 net i.outside r.outside m.2 in
        no_input x (gate_on chip net x h) (subst (Contains (inputs_of chip)) e m.1)
    gate_no_port x h (inr c) =
        let k = constant_of chip c.0 c.1 in
        let e : k.net ≡ net = core_same chip k.net net k.outside r.outside (k.numbered ∙ c.2) in
        let g = gate_on chip net x h in
        other_source x k.value g.on.0
        (is.one_driver net (FromConstant k.value) (FromPin x g.on.0) (k.drives ∙ ap Some e) (gate_source x g))

  -- an input pin of a library instance
  module _ (u : ℕ) (library : IsLibrary chip u) where
    input_count : (g : GateAt chip u) → inputs_at core u ≡ length g.inputs
    input_count g = inputs_are chip is u g.part g.at ∙ ap (λ (b : Body). length (gate_inputs b)) g.body

    pin_input : (pin net : ℕ) → pin < inputs_at core u → IsSomeAnd (slice_get chip.parts u) (λ part. slice_get (pin_nets part.body) pin ≡ Some net)
        → (g : GateAt chip u) → Contains (gate_inputs g.part.body) net
    pin_input pin net lt h g =
        let at = subst (λ (b : Body). slice_get (pin_nets b) pin ≡ Some net) g.body (at_some (λ part. slice_get (pin_nets part.body) pin ≡ Some net) chip.parts u g.part g.at h) in
        let n = input_count g in
        let less : pin < length g.inputs = omega arith in
        let e : get_or g.inputs pin 0 ≡ net = sym (get_or_append_left g.inputs g.outputs 0 pin less) ∙ get_or_from_slice_get (g.inputs ++ g.outputs) pin net 0 at in
        subst (λ (b : Body). Contains (gate_inputs b) net) (sym g.body)
        (contained_at g.inputs pin net (slice_get-get_or g.inputs pin 0 less ∙ ap Some e))

    pub read_net : (pin net : ℕ) → pin < inputs_at core u → IsSomeAnd (slice_get chip.parts u) (λ part. slice_get (pin_nets part.body) pin ≡ Some net)
        → IsReadNet net
    read_net pin net lt h =
        let g = gate_at chip u library in
        let c = pin_input pin net lt h g in
        let d = input_data g.part.body net c in
        record { within = data_within chip is u g.part net g.at d; outside = data_outside chip is u g.part net g.at d; read = read_here chip is u g.part net g.at c }
      where
        input_data : (body : Body) (n : ℕ) → Contains (gate_inputs body) n → Contains (data_nets body) n
        input_data (Gate cell inputs outputs) n c = Contains-append_left inputs outputs n c
        input_data (Scan nets) n c = absurd (let l = c.1 in omega arith)

    -- the instance that drives the net of an input pin
    module _ (n net : ℕ) (pin : IsInputPin core u n) (on : IsSomeAnd (slice_get chip.parts u) (λ part. slice_get (pin_nets part.body) (n - 2) ≡ Some net)) where
      low : n - 2 < inputs_at core u
      low = let a = pin.0 in let b = pin.1 in omega arith

      here : core_net chip net ≡ net_of core u (n - 2)
      here = pin_read chip is u library (n - 2) net on

      r : IsReadNet net
      r = read_net (n - 2) net low on

      pub drives_end : (x : ℕ) → IsOnOutput chip net x → DrivesEnd core u n x
      drives_end x h = (pin, subst (λ k. (d : flat.Drives core k) × (d.instance ≡ x)) here (stored_drives chip is net x (gate_stores chip net x h)))

      pub end_driven : (x : ℕ) → DrivesEnd core u n x → IsOnOutput chip net x
      end_driven x d =
          let e = subst (λ k. (d : flat.Drives core k) × (d.instance ≡ x)) (sym here) d.1 in
          subst (IsOnOutput chip net) e.1 (stored_on chip is net e.0.instance r.read (drives_stored chip is net r.outside e.0))

      pub port_end : ((x : ℕ) → IsOnOutput chip net x → ⊥) → IsPortEnd core u n
      port_end none = (pin, subst (IsPortNet core) here (port_from net r none))

      pub no_port_end : (x : ℕ) → IsOnOutput chip net x → IsPortEnd core u n → ⊥
      no_port_end x h p = gate_no_port net r x h (subst (IsPortNet core) (sym here) p.1)

      pub pin_makes : (o : Option ℕ) → ((x : ℕ) → (o ≡ Some x) ↔ IsOnOutput chip net x) → (x : ℕ) → (o ≡ Some x) ↔ MakesMember core u n x
      pin_makes o found x = (
        λ e. inl (drives_end x ((found x).0 e)),
        λ m. elim m [
          | inl d ↦ (found x).1 (end_driven x d)
          | inr past ↦ absurd (let a = past.0 in let b = pin.1 in omega arith)
        ],
      )

      pub pin_no_port : (o : Option ℕ) (w : ℕ) → ((x : ℕ) → (o ≡ Some x) ↔ IsOnOutput chip net x) → o ≡ Some w → IsTrue false ↔ IsPortEnd core u n
      pin_no_port o w found e = (λ t. absurd cc, λ p. absurd (no_port_end w ((found w).0 e) p))

      pub pin_port : (o : Option ℕ) → ((x : ℕ) → (o ≡ Some x) ↔ IsOnOutput chip net x) → o ≡ None → IsTrue true ↔ IsPortEnd core u n
      pin_port o found e = (λ t. port_end (λ x h. none_some x (sym e ∙ (found x).1 h)), λ p. refl)

    pub rail_makes : (n : ℕ) → n < 2 → (x : ℕ) → (None ≡ Some x) ↔ MakesMember core u n x
    rail_makes n lt x = (
      λ e. absurd cc,
      λ m. elim m [
        | inl d ↦ absurd (let a = d.0.0 in omega arith)
        | inr past ↦ absurd (let a = past.0 in omega arith)
      ],
    )

    pub past_makes : (n : ℕ) → 2 + inputs_at core u ≤ n → (x : ℕ) → (Some u ≡ Some x) ↔ MakesMember core u n x
    past_makes n past x = (
      λ e. inr (past, let s : u ≡ x = cc in sym s),
      λ m. elim m [
        | inl d ↦ absurd (let a = d.0.1 in omega arith)
        | inr here ↦ ap Some (sym here.1)
      ],
    )

    pub rail_no_port : (n : ℕ) → n < 2 → IsTrue false ↔ IsPortEnd core u n
    rail_no_port n lt = (λ t. absurd cc, λ p. absurd (let a = p.0.0 in omega arith))

    pub past_no_port : (n : ℕ) → 2 + inputs_at core u ≤ n → IsTrue false ↔ IsPortEnd core u n
    past_no_port n past = (λ t. absurd cc, λ p. absurd (let a = p.0.1 in omega arith))

-- the net of a pin of a library instance is off the scan path
pub pin_outside : (chip : LinkedChip) (is : IsWired chip) (u pin net : ℕ) → IsLibrary chip u
    → IsSomeAnd (slice_get chip.parts u) (λ part. slice_get (pin_nets part.body) pin ≡ Some net) → IsOutside chip net
pin_outside chip is u pin net library on =
    let g = gate_at chip u library in
    let at = at_some (λ part. slice_get (pin_nets part.body) pin ≡ Some net) chip.parts u g.part g.at on in
    data_outside chip is u g.part net g.at
    (subst (λ (b : Body). Contains (data_nets b) net) (sym g.body)
    (contained_at (g.inputs ++ g.outputs) pin net (subst (λ (b : Body). slice_get (pin_nets b) pin ≡ Some net) g.body at)))

-- whether two pins of an instance are on one net
module _ (chip : LinkedChip) (is : IsWired chip) (bridge : Bridge) (known : IsKnown chip bridge) where
  abbrev c : flat.Chip
  c = core_of chip

  abbrev v : ℕ
  v = bridge.instance.0

  abbrev first_end : ℕ
  first_end = bridge.m.0

  abbrev last_end : ℕ
  last_end = bridge.n.0

  chip_is : IsChip c (rank_of chip)
  chip_is = core_is chip is

  counted : outer_count c v ≤ length (circuit_at c v).nodes
  counted = (shape c (rank_of chip) chip_is v known.is_bridge.known).counted

  net_below : (n : ℕ) → 2 ≤ n → n < outer_count c v → net_of c v (n - 2) < length c.nets
  net_below n ge lt = chip_is.on_nets v (n - 2) known.is_bridge.known (omega arith)

  pub rail_apart : bridge.m.0 < 2 → IsTrue false ↔ IsOneNode c bridge
  rail_apart lt = (λ t. absurd cc, λ e. absurd (apart e))
    where
      apart : IsOneNode c bridge → ⊥
      apart e =
          let o = known.is_bridge.ordered in
          let w = known.is_bridge.within in
          let a = place_rail c v first_end lt in
          elim (cases_lt last_end 2) [
            | inl rail ↦ let b = place_rail c v last_end rail in omega arith
            | inr ge ↦ elim (cases_lt last_end (outer_count c v)) [
              | inl pin ↦ let b = place_pin c v last_end (last_end - 2) (omega arith) pin in omega arith
              | inr past ↦ let b = place_inner c v last_end (last_end - outer_count c v) (omega arith) w in omega arith
            ]
          ]

  pub inner_apart : 2 ≤ bridge.m.0 → outer_count c v ≤ bridge.n.0 → IsTrue false ↔ IsOneNode c bridge
  inner_apart ge past = (λ t. absurd cc, λ e. absurd (apart e))
    where
      apart : IsOneNode c bridge → ⊥
      apart e =
          let o = known.is_bridge.ordered in
          let w = known.is_bridge.within in
          let b = place_inner c v last_end (last_end - outer_count c v) (omega arith) w in
          elim (cases_lt first_end (outer_count c v)) [
            | inl pin ↦ let a = place_pin c v first_end (first_end - 2) (omega arith) pin in let n = net_below first_end ge pin in omega arith
            | inr inner ↦ let a = place_inner c v first_end (first_end - outer_count c v) (omega arith) (omega arith) in omega arith
          ]

  pub pins_one : (a b : ℕ) → 2 ≤ bridge.m.0 → bridge.n.0 < outer_count c v
      → IsSomeAnd (slice_get chip.parts bridge.instance.0) (λ part. slice_get (pin_nets part.body) (bridge.m.0 - 2) ≡ Some a)
      → IsSomeAnd (slice_get chip.parts bridge.instance.0) (λ part. slice_get (pin_nets part.body) (bridge.n.0 - 2) ≡ Some b)
      → (a ≡ b) ↔ IsOneNode c bridge
  pins_one a b ge lt on_a on_b =
      let o = known.is_bridge.ordered in
      let x = place_pin c v first_end (first_end - 2) (omega arith) (omega arith) in
      let y = place_pin c v last_end (last_end - 2) (omega arith) lt in
      let na = pin_read chip is v known.library (first_end - 2) a on_a in
      let nb = pin_read chip is v known.library (last_end - 2) b on_b in
      let oa = pin_outside chip is v (first_end - 2) a known.library on_a in
      let ob = pin_outside chip is v (last_end - 2) b known.library on_b in (
        λ e. x ∙ ap (λ k. 2 + k) (sym na ∙ ap (core_net chip) e ∙ nb) ∙ sym y,
        λ one. core_same chip a b oa ob (let t : core_net chip a ≡ core_net chip b = omega arith in t),
      )

-- a test of two numbers
pub eqb_says : (a b : ℕ) (P : Type 0) → (a ≡ b) ↔ P → IsTrue (eqb a b) ↔ P
eqb_says a b P h = (λ t. h.0 (eqb-true a b t), λ p. eq-eqb a b (h.1 p))
