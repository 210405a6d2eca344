-- The chains, the ports and the control pins of a linked chip are as the STIL form asks.
use Rattle.std.proofs.Common.{◌≡◌, ℕ, zero, suc, ◌+◌, ◌-◌, ◌<◌, ◌≤◌, Bool, true, false, ◌&&◌, List}
use Rattle.std.proofs.Common.{[], ◌∷◌, ◌∙◌, length, map, flat_map, ap, arith, refl, sym, subst, inl, inr}
use Rattle.std.specs.Prelude.{eqb, slice_get, slice_index, get_or, IsSomeAnd, Option, Some, None, option_to_list}
use Rattle.std.specs.Prelude.{if◌then◌else◌}
use Rattle.std.specs.List.{All, AllByRecursion, list_any}
use Rattle.std.specs.Str.{bytes_eq}
use Rattle.std.proofs.lemmas.Bool.{cases_lt, eq-eqb}
use Rattle.std.proofs.lemmas.List.{length-map}
use Rattle.std.proofs.lemmas.List.Sums.{fails_before_first}
use Rattle.std.proofs.lemmas.Option.{slice_get_within, get_or_from_slice_get}
use Rattle.ca_cell.specs.Library.{Named}
use Rattle.ca_verilog.specs.declared.raw.RawNetlist.{RawNetlist}
use Rattle.ca_linked.specs.declared.pins.ScanPin.{ScanPin}
use Rattle.ca_linked.specs.declared.pins.ScanPin.TheVariants.{Si, So, Se, Ck, Hold}
use Rattle.ca_linked.specs.declared.parts.ScanNets.{ScanNets}
use Rattle.ca_linked.specs.declared.parts.Body.{Body}
use Rattle.ca_linked.specs.declared.parts.Body.TheVariants.{Gate, Scan}
use Rattle.ca_linked.specs.declared.parts.Part.{Part}
use Rattle.ca_linked.specs.declared.parts.PortBit.{PortBit}
use Rattle.ca_linked.specs.declared.parts.Source.TheVariants.{FromPort}
use Rattle.ca_linked.specs.Linked.{LinkedChip, input_nets, Drives}
use Rattle.ca_linked.specs.Instances.{HasOnPin, IsScan, net_of_pin, scans_of}
use Rattle.ca_wiring.specs.declared.fault.ChipFault.TheVariants as fault
use Rattle.ca_wiring.specs.declared.scan_row.ScanRow.{ScanRow}
use Rattle.ca_wiring.proofs.ForestLemmas.{joined_trans}
use Rattle.ca_wiring.proofs.SameLemmas.{same_drivers}
use Rattle.ca_wiring.specs.Nets as nets
use Rattle.ca_wiring.specs.Nets.{IsNetOf, AreNetsOf}
use Rattle.ca_wiring.specs.Wiring as meanings
use Rattle.ca_wiring.specs.Wiring.{Meaning, WiredPart, Wiring, wiring_of}
use Rattle.ca_wiring.specs.Linking.{HasMeaning, IsPartOf, IsLinkOf}
use Rattle.ca_wiring.specs.Rules.{KeepsRules, IsOnInputPort, control_names, IsScan as IsScanMeaning}
use Rattle.ca_scan.specs.Chain.{IsOnPin, IsOut, RunsOut, IsChainFrom, IsScanAt}
use Rattle.ca_scan.specs.Chain.{count_of, ends_of}
use Rattle.ca_scan.specs.ChainFault.{AreAllChains}
use Rattle.ca_scan.specs.code.Kept.{in_nets, so_nets, takers_of, outs_of}
use Rattle.ca_scan.proofs.CountLemmas.{item_of, count_here, one_place, enough, takes}
use Rattle.ca_scan.proofs.ChainLemmas.{run_length}
use Rattle.ca_scan.proofs.JointLemmas.{scan_at, scan_place}
use Rattle.ca_stil.specs.declared.chip.StilChain.{StilChain}
use Rattle.ca_stil.specs.Chip.{longest, IsWithin}
use Rattle.ca_stil_form.specs.Frame.{is_among, all_in}
use Rattle.ca_stil_form.specs.Allowed.{HasScanGroups}
use Rattle.ca_chip_stil.specs.ChipStil.{signal_of, port_on, name_of, name_at_body, name_at_part, name_at, controls_of}
use Rattle.ca_chip_stil.specs.ChipStil.{place_of, chain_of}
use Rattle.ca_stil_laws.proofs.ListLemmas.{also_there, from_recursion}
use Rattle.ca_stil_laws.proofs.PortLemmas.{pool, found_port, found_of, on_from, on_way, on_net, in_pool}
use Rattle.ca_stil_laws.proofs.PortLemmas.{found_among}

some_inj : {X : Type 0} (x y : X) → Some x ≡ Some y → x ≡ y
some_inj x y is = cc

-- what is said of a place is said of what is there
of_there : {X : Type 0} (P : X → Type 0) (xs : List X) (k : ℕ) (x : X) → slice_get xs k ≡ Some x → IsSomeAnd (slice_get xs k) P → P x
of_there P xs k x at has = subst (λ found. IsSomeAnd found P) at has

-- the name at a pin is that of the first port bit on its net
pin_name : (chip : LinkedChip) (input : Bool) (pin : ScanPin) (u net : ℕ) → IsOnPin chip pin u net
    → name_at chip input pin u ≡ name_of (port_on input net chip.ports)
pin_name chip input pin u net on = by (slice_get chip.parts u) refl on
  where
    of_body : (body : Body) → HasOnPin pin net body → name_at_body chip input pin body ≡ name_of (port_on input net chip.ports)
    of_body (Gate cell inputs outputs) has = absurd has
    of_body (Scan pins) has = ap (λ given. name_of (port_on input given chip.ports)) has

    by : (found : Option Part) → slice_get chip.parts u ≡ found → IsSomeAnd found (λ part. HasOnPin pin net part.body)
        → name_at chip input pin u ≡ name_of (port_on input net chip.ports)
    by None at has = absurd has
    by (Some part) at has = ap (name_at_part chip input pin) at ∙ of_body part.body has

-- a port bit of an input port is counted on its net
in_counted : (net : ℕ) (port : PortBit) → port.is_input ≡ true → port.net ≡ net → 1 ≤ count_of net (in_nets port)
in_counted net port input is =
    subst (λ list. 1 ≤ count_of net list) (sym (λ j. if input j then port.net ∷ [] else [])) (count_here net port.net is)

-- the scan-in port of a chain is the bit at which it begins
chain_in : (chip : LinkedChip) (p : ℕ) (port : PortBit) (chain : List ℕ) → slice_get chip.ports p ≡ Some port → IsChainFrom chip p chain
    → (port.is_input ≡ true) × ((chain_of chip chain).scan_in ≡ port.name)
chain_in chip p port chain at whole = by chain whole.some whole.runs
  where
    here : (port.is_input ≡ true) × (port.net ≡ whole.net)
    here = of_there (λ (q : PortBit). (q.is_input ≡ true) × (q.net ≡ whole.net)) chip.ports p port at whole.at

    by : (given : List ℕ) → 1 ≤ length given → RunsOut chip whole.net given
        → (port.is_input ≡ true) × ((chain_of chip given).scan_in ≡ port.name)
    by [] some runs = absurd (omega (arith, some))
    by (u ∷ more) some runs =
        let net = whole.net in
        let found = found_port true net chip.ports p port at (on_from true net port here.0 here.1) in
        let all : count_of net (flat_map in_nets chip.ports) + count_of net (flat_map (λ (part : Part). so_nets part.body) chip.parts)
        + takers_of chip net + outs_of chip net ≤ ends_of chip net = enough chip net in
        let taken = takes chip net u runs.2 in
        let link : ends_of chip net ≡ 2 = runs.1 in
        let one : count_of net (flat_map in_nets chip.ports) ≤ 1 = omega (arith, all, taken, link) in
        let place = one_place in_nets net chip.ports found.place p found.port port one found.at at
        (in_counted net found.port (on_way true net found.port found.on) (on_net true net found.port found.on))
        (in_counted net port here.0 here.1) in
        let same : found.port ≡ port =
        some_inj found.port port (sym found.at ∙ ap (slice_get chip.ports) place ∙ at) in
        (here.0, pin_name chip true Si u net runs.2 ∙ ap name_of found.is ∙ ap (λ (q : PortBit). q.name) same)

-- the last scan instance of a run is on an output port
record HasEnd (chip : LinkedChip) (u : ℕ) : Type 0 where
  pub net : ℕ
  pub on : IsOnPin chip So u net
  pub out : IsOut chip net

run_end : (chip : LinkedChip) (u : ℕ) (chain : List ℕ) (next : ℕ) → IsOnPin chip So u next → RunsOut chip next chain
    → HasEnd chip (get_or (u ∷ chain) (length chain) 0)
run_end chip u [] next on runs = record { net = next; on = on; out = runs.1 }
run_end chip u (v ∷ chain) next on runs = run_end chip v chain runs.0 runs.3 runs.4

chain_end : (chip : LinkedChip) (net : ℕ) (chain : List ℕ) → 1 ≤ length chain → RunsOut chip net chain
    → HasEnd chip (slice_index chain (length chain - 1))
chain_end chip net [] some runs = absurd (omega (arith, some))
chain_end chip net (u ∷ chain) some runs =
    let count : length chain ≡ length (u ∷ chain) - 1 = omega arith in
    subst (λ k. HasEnd chip (slice_index (u ∷ chain) k)) count (run_end chip u chain runs.0 runs.3 runs.4)

-- so its scan-out port is an output
chain_out : (chip : LinkedChip) (p : ℕ) (chain : List ℕ) → IsChainFrom chip p chain
    → list_any (bytes_eq (chain_of chip chain).scan_out) (pool false chip.ports) ≡ true
chain_out chip p chain whole =
    let last = chain_end chip whole.net chain whole.some whole.runs in
    let bit = item_of chip.ports last.out.0 (λ (port : PortBit). (port.is_input ≡ false) × (port.net ≡ last.net)) last.out.1 in
    let found = found_port false last.net chip.ports last.out.0 bit.item bit.at (on_from false last.net bit.item bit.has.0 bit.has.1) in
    let name : (chain_of chip chain).scan_out ≡ found.port.name =
    pin_name chip false So (slice_index chain (length chain - 1)) last.net last.on ∙ ap name_of found.is in
    ap (λ (given : List ℕ). list_any (bytes_eq given) (pool false chip.ports)) name
    ∙ in_pool false chip.ports found.place found.port found.at (on_way false last.net found.port found.on)

-- what holds of each whole chain
listed : (P : List ℕ → Type 0) (found : List (Option (List ℕ)))
    → ((p : ℕ) (chain : List ℕ) → slice_get found p ≡ Some (Some chain) → P chain) → AllByRecursion P (flat_map option_to_list found)
listed P [] each = tt
listed P (None ∷ found) each = listed P found (λ p. each (suc p))
listed P (Some chain ∷ found) each = (each 0 chain refl, listed P found (λ p. each (suc p)))

each_chain : (P : List ℕ → Type 0) (chip : LinkedChip) (chains : List (List ℕ)) → AreAllChains chip chains
    → ((p : ℕ) (chain : List ℕ) → IsChainFrom chip p chain → P chain) → AllByRecursion P chains
each_chain P chip chains all holds =
    subst (AllByRecursion P) (sym all.are.all)
    (listed P all.are.at_port (λ p chain at. holds p chain (all.are.each p (Some chain) at)))

-- scan instances of a chain
scan_on_pin : (chip : LinkedChip) (u net : ℕ) → IsOnPin chip Si u net → IsScanAt chip u
scan_on_pin chip u net there = by (slice_get chip.parts u) there
  where
    of_body : (body : Body) → HasOnPin Si net body → IsScan body
    of_body (Gate cell inputs outputs) is = is
    of_body (Scan pins) is = tt

    by : (found : Option Part) → IsSomeAnd found (λ part. HasOnPin Si net part.body) → IsSomeAnd found (λ part. IsScan part.body)
    by None is = is
    by (Some part) is = of_body part.body is

place_within : (chip : LinkedChip) (u : ℕ) → IsScanAt chip u → place_of chip u < length (scans_of chip)
place_within chip u there =
    let place = scan_place chip u there in
    elim (cases_lt place.0 (place_of chip u)) [
      | inl before ↦
          let fails = fails_before_first (eqb u) (scans_of chip) place.0 u before in
          let is = get_or_from_slice_get (scans_of chip) place.0 u u place.1 in
          let clash : true ≡ false = sym (eq-eqb u _ (sym is)) ∙ fails in
          absurd cc
      | inr not_before ↦
          let lt = slice_get_within (scans_of chip) place.0 u place.1 in
          omega (arith, not_before, lt)
    ]

run_places : (chip : LinkedChip) (net : ℕ) (chain : List ℕ) → RunsOut chip net chain
    → AllByRecursion (λ place. place < length (scans_of chip)) (map (place_of chip) chain)
run_places chip net [] runs = tt
run_places chip net (u ∷ chain) runs =
    (place_within chip u (scan_on_pin chip u net runs.2), run_places chip runs.0 chain runs.4)

-- the chains in the words of the text
chains_seen : (P : List ℕ → Type 0) (Q : StilChain → Type 0) (chip : LinkedChip) → ((chain : List ℕ) → P chain → Q (chain_of chip chain))
    → (chains : List (List ℕ)) → AllByRecursion P chains → AllByRecursion Q (map (chain_of chip) chains)
chains_seen P Q chip gives [] all = tt
chains_seen P Q chip gives (chain ∷ chains) all = (gives chain all.0, chains_seen P Q chip gives chains all.1)

pub chains_within : (chip : LinkedChip) (chains : List (List ℕ)) → AreAllChains chip chains
    → All (IsWithin (length (scans_of chip))) (map (chain_of chip) chains)
chains_within chip chains all =
    from_recursion (IsWithin (length (scans_of chip))) (map (chain_of chip) chains)
    (chains_seen (λ chain. IsWithin (length (scans_of chip)) (chain_of chip chain)) (IsWithin (length (scans_of chip))) chip (λ chain is. is) chains
    (each_chain (λ chain. IsWithin (length (scans_of chip)) (chain_of chip chain)) chip chains all
    (λ p chain whole. from_recursion (λ place. place < length (scans_of chip)) (map (place_of chip) chain)
    (run_places chip whole.net chain whole.runs))))

longest_up_to : (most : ℕ) (chains : List StilChain) → AllByRecursion (λ (chain : StilChain). length chain.places ≤ most) chains
    → longest chains ≤ most
unfolding longest
longest_up_to most [] all = omega arith
longest_up_to most (chain ∷ chains) all =
    let here = all.0 in
    let later = longest_up_to most chains all.1 in
    omega (arith, here, later)

pub chains_short : (chip : LinkedChip) (chains : List (List ℕ)) → AreAllChains chip chains → longest (map (chain_of chip) chains) ≤ length chip.parts
chains_short chip chains all =
    longest_up_to (length chip.parts) (map (chain_of chip) chains)
    (chains_seen (λ chain. length chain ≤ length chip.parts) (λ (chain : StilChain). length chain.places ≤ length chip.parts) chip
    (λ chain short. let same = length-map chain (place_of chip) in omega (arith, same, short)) chains
    (each_chain (λ chain. length chain ≤ length chip.parts) chip chains all
    (λ p chain whole. run_length chip whole.net chain whole.runs)))

cells_some : (chip : LinkedChip) (chains : List (List ℕ)) → AreAllChains chip chains
    → All (λ (chain : StilChain). 1 ≤ length chain.places) (map (chain_of chip) chains)
cells_some chip chains all =
    from_recursion (λ (chain : StilChain). 1 ≤ length chain.places) (map (chain_of chip) chains)
    (chains_seen (λ chain. 1 ≤ length chain) (λ (chain : StilChain). 1 ≤ length chain.places) chip
    (λ chain some. let same = length-map chain (place_of chip) in omega (arith, same, some)) chains
    (each_chain (λ chain. 1 ≤ length chain) chip chains all (λ p chain whole. whole.some)))

-- the scan-in ports are in the order of the header
ins_seen : (chip : LinkedChip) (chains : List (List ℕ)) → map (λ (chain : StilChain). chain.scan_in) (map (chain_of chip) chains)
    ≡ map (λ chain. (chain_of chip chain).scan_in) chains
ins_seen chip [] = refl
ins_seen chip (chain ∷ chains) = ap (λ more. (chain_of chip chain).scan_in ∷ more) (ins_seen chip chains)

ins_among : (chip : LinkedChip) (chains : List (List ℕ)) → AreAllChains chip chains
    → is_among (map (λ (chain : StilChain). chain.scan_in) (map (chain_of chip) chains)) (pool true chip.ports) ≡ true
ins_among chip chains all =
    ap (λ names. is_among names (pool true chip.ports))
    (ins_seen chip chains ∙ ap (map (λ chain. (chain_of chip chain).scan_in)) all.are.all)
    ∙ found_among (λ chain. (chain_of chip chain).scan_in) chip.ports all.are.at_port all.are.room
    (λ p port chain at there. chain_in chip p port chain at (all.are.each p (Some chain) there))

-- the scan-out ports are outputs
outs_all : (chip : LinkedChip) (chains : List (List ℕ))
    → AllByRecursion (λ chain. list_any (bytes_eq (chain_of chip chain).scan_out) (pool false chip.ports) ≡ true) chains
    → all_in (pool false chip.ports) (map (λ (chain : StilChain). chain.scan_out) (map (chain_of chip) chains)) ≡ true
outs_all chip [] all = refl
outs_all chip (chain ∷ chains) all =
    let here = all.0 in
    let later = outs_all chip chains all.1 in
    λ j. here j && later j

outs_in : (chip : LinkedChip) (chains : List (List ℕ)) → AreAllChains chip chains
    → all_in (pool false chip.ports) (map (λ (chain : StilChain). chain.scan_out) (map (chain_of chip) chains)) ≡ true
outs_in chip chains all =
    outs_all chip chains (each_chain (λ chain. list_any (bytes_eq (chain_of chip chain).scan_out) (pool false chip.ports) ≡ true) chip chains all
    (λ p chain whole. chain_out chip p chain whole))

-- the wire of a net in a list of nets
record HasWire (wiring : Wiring) (list wires : List ℕ) (k net : ℕ) : Type 0 where
  pub wire : ℕ
  pub at : slice_get wires k ≡ Some wire
  pub is_net : IsNetOf wiring list wire net

wire_at : (wiring : Wiring) (list wires given : List ℕ) (k net : ℕ) → AreNetsOf wiring list wires given → slice_get given k ≡ Some net
    → HasWire wiring list wires k net
wire_at wiring list [] [] k net are at = absurd (let clash : None ≡ Some net = at in cc)
wire_at wiring list [] (first ∷ given) k net are at = absurd are
wire_at wiring list (wire ∷ wires) [] k net are at = absurd are
wire_at wiring list (wire ∷ wires) (first ∷ given) zero net are at =
    record { wire = wire; at = refl; is_net = subst (IsNetOf wiring list wire) (some_inj first net at) are.0 }
wire_at wiring list (wire ∷ wires) (first ∷ given) (suc k) net are at =
    let found = wire_at wiring list wires given k net are.1 at in
    record { wire = found.wire; at = found.at; is_net = found.is_net }

module _ (netlist : RawNetlist) (library : List Named) (scan : List ScanRow) (chip : LinkedChip)
    (kept : KeepsRules netlist library scan) (link : IsLinkOf (wiring_of netlist library scan) chip) where
  abbrev wiring : Wiring
  wiring = wiring_of netlist library scan

  -- where no input port is on the net of a pin, none is on the wire of the pin
  off_port : (wire net : ℕ) → IsNetOf wiring link.nets wire net → port_on true net chip.ports ≡ None → IsOnInputPort wiring wire → ⊥
  off_port wire net is none on =
      let drives : nets.Drives wiring is.earliest (nets.PortBit on.0) = record {
        at = on.1.at;
        drives = on.1.drives;
        joined = joined_trans wiring.joins on.1.at wire is.earliest on.1.joined is.is_earliest.joined;
      } in
      let there : Drives chip net (FromPort on.0) = (same_drivers wiring chip link net is.earliest is.at (FromPort on.0)).1 drives in
      let bit = item_of chip.ports on.0 (λ (port : PortBit). (port.is_input ≡ true) × (port.net ≡ net)) there in
      let found = found_port true net chip.ports on.0 bit.item bit.at (on_from true net bit.item bit.has.0 bit.has.1) in
      let clash : None ≡ Some found.port = sym none ∙ found.is in
      absurd cc

  -- a control pin is on an input port
  control_in : (pin : ScanPin) (k : ℕ) → k < 3
      → ((pins : ScanNets) → slice_get (input_nets (Scan pins)) (2 + k) ≡ Some (net_of_pin pins pin))
      → ((row : ScanRow) → (name : List ℕ) × (slice_get (control_names (meanings.ScanCell row)) k ≡ Some name))
      → (u : ℕ) → IsScanAt chip u → list_any (bytes_eq (name_at chip true pin u)) (pool true chip.ports) ≡ true
  control_in pin k few at_pin named u there =
      let part = item_of chip.parts u (λ (given : Part). IsScan given.body) there in
      let wired = also_there wiring.parts chip.parts u part.item link.same_parts part.at in
      by part.item wired.0 part.at wired.1 (link.parts u wired.0 part.item wired.1 part.at) part.item.body refl part.has wired.0.meaning refl
    where
      by_port : (net : ℕ) → IsOnPin chip pin u net → (found : Option PortBit) → port_on true net chip.ports ≡ found
          → (port_on true net chip.ports ≡ None → ⊥) → list_any (bytes_eq (name_at chip true pin u)) (pool true chip.ports) ≡ true
      by_port net on None is some = absurd (some is)
      by_port net on (Some port) is some =
          let found = found_of true net chip.ports port is in
          ap (λ (name : List ℕ). list_any (bytes_eq name) (pool true chip.ports)) (pin_name chip true pin u net on ∙ ap name_of is)
          ∙ in_pool true chip.ports found.0 port found.1 (on_way true net port found.2)

      by : (part : Part) (wired : WiredPart) → slice_get chip.parts u ≡ Some part → slice_get wiring.parts u ≡ Some wired
          → IsPartOf wiring link.nets chip.cells wired part → (body : Body) → part.body ≡ body → IsScan body
          → (meaning : Meaning) → wired.meaning ≡ meaning
          → list_any (bytes_eq (name_at chip true pin u)) (pool true chip.ports) ≡ true
      by part wired at at_wired of (Gate cell inputs outputs) body_is is meaning meaning_is = absurd is
      by part wired at at_wired of (Scan pins) body_is is meaning meaning_is =
          let means : HasMeaning chip.cells meaning (Scan pins) =
          subst (λ (it : Body). HasMeaning chip.cells meaning it) body_is
          (subst (λ (m : Meaning). HasMeaning chip.cells m part.body) meaning_is of.meaning) in
          by_meaning meaning meaning_is means
        where
          net : ℕ
          net = net_of_pin pins pin

          on : IsOnPin chip pin u net
          on = subst (λ (found : Option Part). IsSomeAnd found (λ (given : Part). HasOnPin pin net given.body)) (sym at)
              (subst (HasOnPin pin net) (sym body_is) refl)

          input : HasWire wiring link.nets wired.inputs (2 + k) net
          input = wire_at wiring link.nets wired.inputs (input_nets part.body) (2 + k) net of.inputs
              (ap (λ (given : Body). slice_get (input_nets given) (2 + k)) body_is ∙ at_pin pins)

          by_meaning : (meaning : Meaning) → wired.meaning ≡ meaning → HasMeaning chip.cells meaning (Scan pins)
              → list_any (bytes_eq (name_at chip true pin u)) (pool true chip.ports) ≡ true
          by_meaning meanings.Unknown is means = absurd means
          by_meaning (meanings.Broken rule) is means = absurd means
          by_meaning (meanings.Library raw) is means = absurd means
          by_meaning (meanings.ScanCell row) is means =
              by_port net on (port_on true net chip.ports) refl
              (λ none. kept (3 ∷ u ∷ k ∷ []) (fault.ControlPin (record { 0 = u }) (named row).0) (
                k,
                refl,
                record {
                  wire = input.wire;
                  control = record {
                    part = wired;
                    is_part = at_wired;
                    scan = subst IsScanMeaning (sym is) tt;
                    few = few;
                    at = input.at;
                  };
                  named = subst (λ (given : Meaning). slice_get (control_names given) k ≡ Some (named row).0) (sym is) (named row).1;
                  broken = inl (off_port input.wire net input.is_net none);
                },
              ))

  -- the three control ports are inputs
  controls_in : (scans : List ℕ) (u : ℕ) → scans_of chip ≡ scans → IsScanAt chip u
      → (length (controls_of chip scans) ≡ 3) × (all_in (pool true chip.ports) (controls_of chip scans) ≡ true)
  controls_in [] u is there =
      let place = scan_place chip u there in
      let clash : None ≡ Some u = ap (λ given. slice_get given place.0) (sym is) ∙ place.1 in
      absurd cc
  controls_in (first ∷ scans) u is there =
      let here = scan_at chip 0 first (ap (λ given. slice_get given 0) is) in
      let enable = control_in Se 0 (omega arith) (λ pins. refl) (λ row. (row.se, refl)) first here in
      let clock = control_in Ck 1 (omega arith) (λ pins. refl) (λ row. (row.ck, refl)) first here in
      let hold = control_in Hold 2 (omega arith) (λ pins. refl) (λ row. (row.hold, refl)) first here in
      (refl, λ j. enable j && (clock j && (hold j && true)))

  -- the scan groups of a chip that has chains
  pub scan_groups : (chain : List ℕ) (chains : List (List ℕ)) → AreAllChains chip (chain ∷ chains)
      → HasScanGroups (map signal_of chip.ports) (controls_of chip (scans_of chip)) (map (chain_of chip) (chain ∷ chains))
  scan_groups chain chains all =
      let first = each_chain (λ given. (u : ℕ) × IsScanAt chip u) chip (chain ∷ chains) all
      (λ p given whole. first_scan given whole.net whole.some whole.runs) in
      let controls = controls_in (scans_of chip) first.0.0 refl first.0.1 in
      record {
        counted = controls.0;
        controls_in = controls.1;
        scan_ins = ins_among chip (chain ∷ chains) all;
        scan_outs = outs_in chip (chain ∷ chains) all;
        cells = cells_some chip (chain ∷ chains) all;
      }
    where
      first_scan : (given : List ℕ) (net : ℕ) → 1 ≤ length given → RunsOut chip net given → (u : ℕ) × IsScanAt chip u
      first_scan [] net some runs = absurd (omega (arith, some))
      first_scan (u ∷ more) net some runs = (u, scan_on_pin chip u net runs.2)
