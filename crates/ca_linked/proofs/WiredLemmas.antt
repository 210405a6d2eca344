-- A chip whose rules hold is wired.
use Rattle.std.proofs.Common.{◌≡◌, ℕ, zero, suc, ◌+◌, ◌<◌, Bool, true, false, List, [], ◌∷◌, length, ap, cond, eqb, refl, sym, ◌∙◌, subst, arith}
use Rattle.std.proofs.Common.{get_or}
use Rattle.std.specs.Prelude.{Option, Some, None, IsSome, IsNone, IsTrue, slice_get, option_to_list, ◌&&◌, ◌||◌}
use Rattle.std.specs.List.{All}
use Rattle.std.proofs.lemmas.List.{get_or_default}
use Rattle.std.proofs.lemmas.List.Folds.{list_any-from_Any}
use Rattle.ca_linked.specs.declared.drivers.Sources.{Sources}
use Rattle.ca_linked.specs.Order.{IsOrder}
use Rattle.ca_linked.specs.Linked.{Source, FromPort, FromConstant, FromPin, Part, PortBit, LinkedChip, net_count}
use Rattle.ca_linked.specs.Linked.{Body, ScanNets, Gate, Scan, inverted_nets, is_read}
use Rattle.ca_linked.specs.Controls.{is_misplaced, is_used, pin_fault, scan_or, first_scan, body_fault}
use Rattle.ca_linked.specs.Controls.{misused_or, misused_from}
use Rattle.ca_linked.specs.Controls.{misused_of}
use Rattle.ca_linked.specs.Linked.{constant_net, has, is_scan_path, output_nets, data_nets, Drives, Feeds}
use Rattle.ca_linked.specs.Linked.{IsGate, IsLibrary, IsWired}
use Rattle.ca_linked.specs.Drivers.{AreFirst, sources_at, IsSingle}
use Rattle.ca_linked.specs.code.Drivers.{AreDrivers, IsFirstFlaw, AreAllSingle}
use Rattle.ca_linked.specs.Drivers.{IsDrafted}
use Rattle.ca_linked.specs.Feeding.{IsDrivenBy, AreSingle}
use Rattle.ca_linked.specs.code.Feeding.{IsOrderCause}
use Rattle.ca_linked.specs.Paths.{is_on_data, is_on_port}
use Rattle.ca_linked.specs.declared.order.SortFault.{SortFault}
use Rattle.ca_linked.specs.declared.order.SortFault.TheVariants.{Loop, NoMemory}
use Rattle.ca_linked.specs.Wired.{IsWireCause, IsFirstMisdriven, AreDriven, AreUnobserved}
use Rattle.ca_linked.specs.code.Wired.{wire_fault}
use Rattle.ca_linked.specs.Wired.{KeepsNetRules}
use Rattle.ca_linked.proofs.PartLemmas.{contains_has}
use Rattle.ca_linked.proofs.PartLemmas.{of_all}
use Rattle.ca_linked.proofs.DriverLemmas.{of_get, some_within}
use Rattle.ca_linked.proofs.FeedingLemmas.{item_of}
use Rattle.ca_linked.proofs.PathLemmas.{data_within}

module _ (chip : LinkedChip) (table : List Sources) (drivers : AreDrivers chip table) where
  -- a net with one entry in the table has one driver
  single_net : (net : ℕ) → net < net_count chip → IsSingle (sources_at table net) → IsDrivenBy chip table net
  single_net net lt single = by (sources_at table net).first (sources_at table net).second refl (drivers.first net lt) single.some single.no_second
    where
      by : (one two : Option Source) → (sources_at table net).first ≡ one → AreFirst (Drives chip net) one two → IsSome one → IsNone two
          → IsDrivenBy chip table net
      by None two e first some none = absurd (let clash : false ≡ true = some in cc)
      by (Some one) None e first some none = record { source = one; reported = e; only = first }
      by (Some one) (Some two) e first some none = absurd (let clash : true ≡ false = none in cc)

  pub all_single : AreAllSingle table → AreSingle chip table
  all_single single = record {
    count = drivers.count;
    each = λ net lt. single_net net lt (single net (subst (λ n. net < n) (sym drivers.count) lt));
  }

  pub misdriven : (net : ℕ) → IsFirstFlaw table net → IsFirstMisdriven chip net (sources_at table net)
  misdriven net flaw = record {
    within = subst (λ n. net < n) drivers.count flaw.within;
    first = drivers.first net (subst (λ n. net < n) drivers.count flaw.within);
    flawed = flaw.flawed;
    none_before = λ before less.
        let lt : before < net_count chip = let w = flaw.within in let e = drivers.count in omega (arith, w, e, less) in
        let is = single_net before lt (flaw.none_before before less) in
        record { source = is.source; only = is.only };
  }

pub are_driven : (chip : LinkedChip) (table : List Sources) → AreSingle chip table → AreDriven chip
are_driven chip table single net lt = let is = single.each net lt in record { source = is.source; only = is.only }

-- no scan instance has a pin that breaks its rule, from this place on
none_from : (chip : LinkedChip) (first : Option ScanNets) (u : ℕ) (parts : List Part) → misused_from chip first u parts ≡ None
    → (k : ℕ) (d : Part) → k < length parts → body_fault chip first (get_or parts k d).body ≡ None
none_from chip first u [] none k d lt = absurd (omega arith)
none_from chip first u (part ∷ more) none k d lt =
    by k (body_fault chip first part.body) refl none lt (λ j n l. none_from chip first (u + 1) more n j d l)
  where
    by : (j : ℕ) (fault : Option ℕ) → body_fault chip first part.body ≡ fault → misused_or u fault (misused_from chip first (u + 1) more) ≡ None
        → j < length (part ∷ more)
        → ((i : ℕ) → misused_from chip first (u + 1) more ≡ None → i < length more → body_fault chip first (get_or more i d).body ≡ None)
        → body_fault chip first (get_or (part ∷ more) j d).body ≡ None
    by j (Some pin) e none lt later = cc
    by zero None e none lt later = e
    by (suc j) None e none lt later = later j none (omega arith)

gate_is_no_scan : (cell : ℕ) (inputs outputs : List ℕ) (nets : ScanNets) → Gate cell inputs outputs ≡ Scan nets → ⊥
gate_is_no_scan cell inputs outputs nets same = cc

-- a list with a scan instance has a first one
is_first_scan : (parts : List Part) (k : ℕ) (d : Part) (nets : ScanNets) → k < length parts → (get_or parts k d).body ≡ Scan nets
    → (first : ScanNets) × (first_scan parts ≡ Some first)
is_first_scan [] k d nets lt is = absurd (omega arith)
is_first_scan (part ∷ more) k d nets lt is = by part.body refl k lt is (λ j l i. is_first_scan more j d nets l i)
  where
    by : (body : Body) → part.body ≡ body → (j : ℕ) → j < length (part ∷ more) → (get_or (part ∷ more) j d).body ≡ Scan nets
        → ((i : ℕ) → i < length more → (get_or more i d).body ≡ Scan nets → (first : ScanNets) × (first_scan more ≡ Some first))
        → (first : ScanNets) × (first_scan (part ∷ more) ≡ Some first)
    by (Scan here) e j lt is later = (here, ap (λ body. scan_or body (first_scan more)) e)
    by (Gate cell inputs outputs) e zero lt is later = absurd (gate_is_no_scan cell inputs outputs nets (sym e ∙ is))
    by (Gate cell inputs outputs) e (suc j) lt is later =
        let found = later j (omega arith) is in
        (found.0, ap (λ body. scan_or body (first_scan more)) e ∙ found.1)

-- which of four rules is broken first
abbrev reported : Bool → Bool → Bool → Bool → Option ℕ
reported a b c e = cond a (Some 0) (cond b (Some 1) (cond c (Some 2) (cond e (Some 3) None)))

-- a scan instance whose pins keep their rules has no load on its inverted output
unused : (chip : LinkedChip) (first nets : ScanNets) → pin_fault chip first nets ≡ None → is_used chip nets.qn ≡ false
unused chip first nets none =
    by (is_misplaced chip first.se nets.se) (is_misplaced chip first.ck nets.ck || eqb nets.ck nets.se)
    (is_misplaced chip first.hold nets.hold || (eqb nets.hold nets.se || eqb nets.hold nets.ck)) (is_used chip nets.qn) refl none
  where
    by : (a b c e : Bool) → is_used chip nets.qn ≡ e
        → reported a b c e ≡ None → is_used chip nets.qn ≡ false
    by true b c e is h = cc
    by false true c e is h = cc
    by false false true e is h = cc
    by false false false true is h = cc
    by false false false false is h = is

-- the first of two flags that aren't on
first_off : (a b : Bool) → (a || b) ≡ false → a ≡ false
first_off false b off = refl
first_off true b off = off

-- no input pin is on the net of an inverted output, where no pin of a scan instance breaks its rule
pub none_read : (chip : LinkedChip) → misused_of chip ≡ None
    → All (λ part. All (λ net. is_read chip net ≡ false) (inverted_nets part.body)) chip.parts
none_read chip none u part lt = by (get_or chip.parts u part).body refl
  where
    each : (qn : Option ℕ) → is_used chip qn ≡ false → All (λ net. is_read chip net ≡ false) (option_to_list qn)
    each None off k d lt = absurd (omega arith)
    each (Some net) off zero d lt = first_off (is_read chip net) (is_on_port chip false net) off
    each (Some net) off (suc k) d lt = absurd (omega arith)

    by : (body : Body) → (get_or chip.parts u part).body ≡ body
        → All (λ net. is_read chip net ≡ false) (inverted_nets (get_or chip.parts u part).body)
    by (Gate cell inputs outputs) e = rw e (λ k d lt. absurd (omega arith))
    by (Scan nets) e =
        let first = is_first_scan chip.parts u part nets lt e in
        let sound : body_fault chip (first_scan chip.parts) (get_or chip.parts u part).body ≡ None =
        none_from chip (first_scan chip.parts) 0 chip.parts none u part lt in
        let fault : pin_fault chip first.0 nets ≡ None =
        ap (λ body. body_fault chip (Some first.0) body) (sym e)
        ∙ ap (λ f. body_fault chip f (get_or chip.parts u part).body) (sym first.1) ∙ sound in
        subst (λ (body : Body). All (λ net. is_read chip net ≡ false) (inverted_nets body)) (sym e)
        (each nets.qn (unused chip first.0 nets fault))

-- a flag that is off, beside one that is on
and_off : (a b c : Bool) → b ≡ true → (a && (b || c)) ≡ false → a ≡ false
and_off false b c on off = refl
and_off true true c on off = off
and_off true false c on off = absurd (let clash : false ≡ true = on in cc)

module _ (chip : LinkedChip) (drafted : IsDrafted chip) where
  -- what drives, drives one of the nets
  drives_within : (net : ℕ) (s : Source) → Drives chip net s → net < net_count chip
  drives_within net (FromPort p) drives =
      let found = item_of chip.ports p (λ port. IsTrue port.is_input × (port.net ≡ net)) drives in
      subst (λ n. n < net_count chip) found.has.1 (of_all (λ (port : PortBit). port.net < net_count chip) chip.ports p found.item drafted.ports_on_nets found.at)
  drives_within net (FromConstant false) drives = drafted.zero_on_net net drives
  drives_within net (FromConstant true) drives = drafted.one_on_net net drives
  drives_within net (FromPin u pin) drives =
      let found = item_of chip.parts u (λ part. slice_get (output_nets part.body) pin ≡ Some net) drives in
      of_get (λ n. n < net_count chip) (output_nets found.item.body) pin net
      (of_all (λ (p : Part). All (λ n. n < net_count chip) (output_nets p.body)) chip.parts u found.item drafted.outputs_on_nets found.at) found.has

  constants_within : (value : Bool) (net : ℕ) → constant_net chip value ≡ Some net → net < net_count chip
  constants_within false = drafted.zero_on_net
  constants_within true = drafted.one_on_net

  data_on_nets : All (λ (part : Part). All (λ net. net < net_count chip) (data_nets part.body)) chip.parts
  data_on_nets u part lt = data_within (λ net. net < net_count chip) (get_or chip.parts u part).body (drafted.inputs_on_nets u part lt) (drafted.outputs_on_nets u part lt)

  data_marked : (u : ℕ) (part : Part) (k d : ℕ) → u < length chip.parts → k < length (data_nets (get_or chip.parts u part).body)
      → is_on_data chip (get_or (data_nets (get_or chip.parts u part).body) k d) ≡ true
  data_marked u part k d lt less =
      let at = get_or chip.parts u part in
      let net = get_or (data_nets at.body) k d in
      list_any-from_Any (λ (p : Part). has (data_nets p.body) net) chip.parts (
        u,
        at,
        lt,
        get_or_default chip.parts u at part lt,
        contains_has (data_nets at.body) net (k, less, get_or_default (data_nets at.body) k net d less),
      )

  module _ (table : List Sources) (single : AreSingle chip table) (used : misused_of chip ≡ None) (unobserved : AreUnobserved chip) (order : List ℕ)
      (sorted : IsOrder (Feeds chip) (IsLibrary chip) order) where
    -- the order is one of the chip that has it
    sorted_too : IsOrder (Feeds (record chip { order = order })) (IsLibrary (record chip { order = order })) order
    sorted_too = record {
      has = sorted.has;
      once = sorted.once;
      after = λ k u w at feeds. sorted.after k u w at (record {
        driver = feeds.driver;
        reader = feeds.reader;
        is_driver = feeds.is_driver;
        is_reader = feeds.is_reader;
        net = feeds.net;
        driven = feeds.driven;
        read = feeds.read;
      });
    }

    pub wired : IsWired (record chip { order = order })
    wired = record {
      bodies = drafted.bodies;
      on_nets = data_on_nets;
      inputs_on_nets = drafted.inputs_on_nets;
      outputs_on_nets = drafted.outputs_on_nets;
      ports_on_nets = drafted.ports_on_nets;
      constants_on_nets = constants_within;
      few_parts = drafted.few_parts;
      few_ports = drafted.few_ports;
      few_nets = drafted.few_nets;
      driven = λ net lt. let is = single.each net lt in (is.source, is.only.has);
      one_driver = λ net s t drives_s drives_t.
          let is = single.each net (drives_within net s drives_s) in
          is.only.none_other s drives_s ∙ sym (is.only.none_other t drives_t);
      off_path = λ u part lt k d less.
          let net = get_or (data_nets (get_or chip.parts u part).body) k d in
          and_off (is_scan_path chip net) (is_on_data chip net) (is_on_port chip true net && is_on_port chip false net)
          (data_marked u part k d lt less) (unobserved net (data_on_nets u part lt k d less));
      unread = none_read chip used;
      ordered = sorted_too;
    }

-- why there is no order is why the chip isn't wired
pub order_cause : (chip : LinkedChip) (broken : SortFault) → KeepsNetRules chip → IsOrderCause chip broken → IsWireCause chip (wire_fault broken)
order_cause chip (Loop loop) kept is = (kept, is)
order_cause chip NoMemory kept is = tt

-- the drivers are those of the chip that has the order
pub single_too : (chip : LinkedChip) (table : List Sources) → AreSingle chip table → (order : List ℕ) → AreSingle (record chip { order = order }) table
single_too chip table single order = record {
  count = single.count;
  each = λ net lt. let is = single.each net lt in record {
    source = is.source;
    reported = is.reported;
    only = record { has = is.only.has; none_other = is.only.none_other };
  };
}

-- what is in the order is an instance
pub order_within : (chip : LinkedChip) (order : List ℕ) → IsOrder (Feeds chip) (IsLibrary chip) order → All (λ u. u < length chip.parts) order
order_within chip order sorted k d lt =
    some_within (λ (part : Part). IsGate part.body) chip.parts (get_or order k d)
    ((sorted.has (get_or order k d)).0 (k, lt, get_or_default order k (get_or order k d) d lt))
