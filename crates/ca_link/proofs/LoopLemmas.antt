-- What feeds what in a link is what feeds what in its wiring, so loops are the same.
use Rattle.std.proofs.Common.{◌≡◌, ℕ, List, [], ◌∷◌, refl, sym, subst, arith}
use Rattle.std.specs.Prelude.{Some, slice_get}
use Rattle.std.specs.List.{Contains}
use Rattle.ca_cell.specs.declared.raw.RawCell.{RawCell}
use Rattle.ca_wiring.specs.Wiring.{Meaning, Unknown, Broken, Library, ScanCell, Wiring}
use Rattle.ca_wiring.specs.Nets.{IsLibraryCell, FeedsWire}
use Rattle.ca_wiring.specs.Linking.{HasMeaning, IsLinkOf}
use Rattle.ca_linked.specs.Order.{IsChain, IsLoop}
use Rattle.ca_linked.specs.declared.parts.Body.{Body}
use Rattle.ca_linked.specs.declared.parts.Body.TheVariants.{Gate, Scan}
use Rattle.ca_linked.specs.Linked.{LinkedChip, Feeds, IsWired, input_nets, output_nets, gate_inputs, gate_outputs}
use Rattle.ca_linked.proofs.NoLoopLemmas.{no_feeding_loop}
use Rattle.ca_linked.proofs.OrderLemmas.{contained_at, place_of}
use Rattle.ca_link.proofs.NetsLemmas.{wire_at, net_at, one_net_joined, joined_one_net, also_there}

-- what has gate pins is of a library cell
gate_is_library : (cells : List RawCell) (meaning : Meaning) (body : Body) (net : ℕ) → HasMeaning cells meaning body
    → Contains (gate_outputs body) net → IsLibraryCell meaning × Contains (output_nets body) net
gate_is_library cells Unknown body net means has = absurd means
gate_is_library cells (Broken rule) body net means has = absurd means
gate_is_library cells (Library raw) (Gate cell inputs outputs) net means has = (tt, has)
gate_is_library cells (Library raw) (Scan pins) net means has = absurd means
gate_is_library cells (ScanCell row) (Gate cell inputs outputs) net means has = absurd means
gate_is_library cells (ScanCell row) (Scan pins) net means has = absurd (let lt = has.1 in omega (arith, lt))

read_is_library : (cells : List RawCell) (meaning : Meaning) (body : Body) (net : ℕ) → HasMeaning cells meaning body
    → Contains (gate_inputs body) net → IsLibraryCell meaning × Contains (input_nets body) net
read_is_library cells Unknown body net means has = absurd means
read_is_library cells (Broken rule) body net means has = absurd means
read_is_library cells (Library raw) (Gate cell inputs outputs) net means has = (tt, has)
read_is_library cells (Library raw) (Scan pins) net means has = absurd means
read_is_library cells (ScanCell row) (Gate cell inputs outputs) net means has = absurd means
read_is_library cells (ScanCell row) (Scan pins) net means has = absurd (let lt = has.1 in omega (arith, lt))

-- and the other way round
library_outputs : (cells : List RawCell) (meaning : Meaning) (body : Body) → HasMeaning cells meaning body → IsLibraryCell meaning → gate_outputs body ≡ output_nets body
library_outputs cells Unknown body means is = absurd means
library_outputs cells (Broken rule) body means is = absurd means
library_outputs cells (Library raw) (Gate cell inputs outputs) means is = refl
library_outputs cells (Library raw) (Scan pins) means is = absurd means
library_outputs cells (ScanCell row) body means is = absurd is

library_inputs : (cells : List RawCell) (meaning : Meaning) (body : Body) → HasMeaning cells meaning body → IsLibraryCell meaning → gate_inputs body ≡ input_nets body
library_inputs cells Unknown body means is = absurd means
library_inputs cells (Broken rule) body means is = absurd means
library_inputs cells (Library raw) (Gate cell inputs outputs) means is = refl
library_inputs cells (Library raw) (Scan pins) means is = absurd means
library_inputs cells (ScanCell row) body means is = absurd is

module _ (wiring : Wiring) (chip : LinkedChip) (link : IsLinkOf wiring chip) where
  pub feeds_wire : (w u : ℕ) → Feeds chip w u → FeedsWire wiring w u
  feeds_wire w u feeds =
      let driver = also_there wiring.parts chip.parts w feeds.driver link.same_parts feeds.is_driver in
      let reader = also_there wiring.parts chip.parts u feeds.reader link.same_parts feeds.is_reader in
      let drives = link.parts w driver.0 feeds.driver driver.1 feeds.is_driver in
      let reads = link.parts u reader.0 feeds.reader reader.1 feeds.is_reader in
      let out = gate_is_library chip.cells driver.0.meaning feeds.driver.body feeds.net drives.meaning feeds.driven in
      let into = read_is_library chip.cells reader.0.meaning feeds.reader.body feeds.net reads.meaning feeds.read in
      let from = wire_at wiring link.nets driver.0.outputs (output_nets feeds.driver.body) out.1.0 feeds.net drives.outputs
      (place_of (output_nets feeds.driver.body) feeds.net out.1) in
      let to = wire_at wiring link.nets reader.0.inputs (input_nets feeds.reader.body) into.1.0 feeds.net reads.inputs
      (place_of (input_nets feeds.reader.body) feeds.net into.1) in
      record {
        driver = driver.0;
        reader = reader.0;
        is_driver = driver.1;
        is_reader = reader.1;
        of_library = (out.0, into.0);
        from = from.wire;
        to = to.wire;
        driven = contained_at driver.0.outputs out.1.0 from.wire from.at;
        read = contained_at reader.0.inputs into.1.0 to.wire to.at;
        joined = one_net_joined wiring link.nets from.wire to.wire feeds.net from.is_net to.is_net;
      }

  pub wire_feeds : (w u : ℕ) → FeedsWire wiring w u → Feeds chip w u
  wire_feeds w u feeds =
      let driver = also_there chip.parts wiring.parts w feeds.driver (sym link.same_parts) feeds.is_driver in
      let reader = also_there chip.parts wiring.parts u feeds.reader (sym link.same_parts) feeds.is_reader in
      let drives = link.parts w feeds.driver driver.0 feeds.is_driver driver.1 in
      let reads = link.parts u feeds.reader reader.0 feeds.is_reader reader.1 in
      let from = net_at wiring link.nets feeds.driver.outputs (output_nets driver.0.body) feeds.driven.0 feeds.from drives.outputs
      (place_of feeds.driver.outputs feeds.from feeds.driven) in
      let to = net_at wiring link.nets feeds.reader.inputs (input_nets reader.0.body) feeds.read.0 feeds.to reads.inputs
      (place_of feeds.reader.inputs feeds.to feeds.read) in
      let same = joined_one_net wiring link.nets link.are.ascending feeds.from feeds.to from.net to.net from.is_net to.is_net feeds.joined in
      record {
        driver = driver.0;
        reader = reader.0;
        is_driver = driver.1;
        is_reader = reader.1;
        net = to.net;
        driven = subst (λ nets. Contains nets to.net)
            (sym (library_outputs chip.cells feeds.driver.meaning driver.0.body drives.meaning feeds.of_library.0))
            (contained_at (output_nets driver.0.body) feeds.driven.0 to.net
            (subst (λ n. slice_get (output_nets driver.0.body) feeds.driven.0 ≡ Some n) same from.at));
        read = subst (λ nets. Contains nets to.net)
            (sym (library_inputs chip.cells feeds.reader.meaning reader.0.body reads.meaning feeds.of_library.1))
            (contained_at (input_nets reader.0.body) feeds.read.0 to.net to.at);
      }

  chain_is : (u : ℕ) (more : List ℕ) (to : ℕ) → IsChain (Feeds chip) u more to → IsChain (FeedsWire wiring) u more to
  chain_is u [] to is = feeds_wire u to is
  chain_is u (w ∷ more) to is = (feeds_wire u w is.0, chain_is w more to is.1)

  chain_was : (u : ℕ) (more : List ℕ) (to : ℕ) → IsChain (FeedsWire wiring) u more to → IsChain (Feeds chip) u more to
  chain_was u [] to is = wire_feeds u to is
  chain_was u (w ∷ more) to is = (wire_feeds u w is.0, chain_was w more to is.1)

  -- a loop of the link is one of the wiring
  pub loop_is : (loop : List ℕ) → IsLoop (Feeds chip) loop → IsLoop (FeedsWire wiring) loop
  loop_is [] is = is
  loop_is (u ∷ more) is = (chain_is u more u is.0, is.1)

  -- where the link has an order, the wiring has no loop
  pub no_loop : IsWired chip → (loop : List ℕ) → IsLoop (FeedsWire wiring) loop → ⊥
  no_loop wired [] is = is
  no_loop wired (u ∷ more) is = no_feeding_loop chip wired u more (chain_was u more u is.0)
