-- Chips that are alike have the same chains.
use Rattle.std.proofs.Common.{◌≡◌, ℕ, suc, ◌+◌, ◌∙◌, Bool, true, false, List, [], ◌∷◌, ◌++◌, length, map, refl}
use Rattle.std.proofs.Common.{sym, ap, ap₂, subst, arith}
use Rattle.std.specs.Prelude.{Option, Some, None, IsSomeAnd, slice_get, ◌&&◌, ◌||◌, not, if◌then◌else◌}
use Rattle.std.specs.List.{flat_map, list_any}
use Rattle.std.proofs.lemmas.Option.{same_Some}
use Rattle.ca_linked.specs.declared.pins.ScanPin.{ScanPin}
use Rattle.ca_linked.specs.declared.pins.ScanPin.TheVariants.{Si, So}
use Rattle.ca_linked.specs.declared.parts.Body.{Body}
use Rattle.ca_linked.specs.declared.parts.Body.TheVariants.{Gate, Scan}
use Rattle.ca_linked.specs.declared.parts.Part.{Part}
use Rattle.ca_linked.specs.declared.parts.PortBit.{PortBit}
use Rattle.ca_linked.specs.Linked.{LinkedChip, has, path_nets, is_scan_path, port_nets, q_nets, d_nets}
use Rattle.ca_linked.specs.Instances.{HasOnPin, IsScan, pin_nets}
use Rattle.ca_scan.specs.Chain.{count_of, ends_of, IsLink, IsOnPin, IsAtPort, RunsOut, IsChainFrom, IsChainAt, AreChainsOf, AreChains}
use Rattle.ca_scan.specs.Chain.{IsScanAt, IsOnChain, AreOnChains, IsFirstOff}
use Rattle.ca_scan.specs.declared.fault.ChainFault.{ChainFault}
use Rattle.ca_scan.specs.declared.fault.ChainFault.TheVariants.{ChainBroken, TooManyChains, NoMemory}
use Rattle.ca_scan.specs.ChainFault.{AreAllChains, IsChainCause}
use Rattle.ca_link_laws.specs.Alike.{AreBodiesAlike, ArePartsAlike, AreAlike}
use Rattle.ca_link_laws.specs.Laws.{AlikeHaveOnePorts, AlikeHaveOneTrace}
use Rattle.ca_link_laws.proofs.AlikeLemmas.{item_at}

-- bodies that are alike are so the other way round
bodies_back : (body also : Body) → AreBodiesAlike body also → AreBodiesAlike also body
bodies_back (Gate cell inputs outputs) (Gate other ins outs) alike = (sym alike.0, sym alike.1)
bodies_back (Gate cell inputs outputs) (Scan nets) alike = absurd alike
bodies_back (Scan nets) (Gate cell inputs outputs) alike = absurd alike
bodies_back (Scan nets) (Scan others) alike = sym alike

-- and so are chips
pub alike_back : (chip also : LinkedChip) → AreAlike chip also → AreAlike also chip
alike_back chip also alike = record {
  nets = sym alike.nets;
  ports = sym alike.ports;
  same_parts = sym alike.same_parts;
  parts = λ u part other at at_other.
      let found = alike.parts u other part at_other at in
      record {
        name = sym found.name;
        cell = sym found.cell;
        data_pin = sym found.data_pin;
        body = bodies_back other.body part.body found.body;
      };
}

-- the nets of all pins are the same
same_pins : (body also : Body) → AreBodiesAlike body also → pin_nets body ≡ pin_nets also
same_pins (Gate cell inputs outputs) (Gate other ins outs) alike = ap₂ (λ (a b : List ℕ). a ++ b) alike.0 alike.1
same_pins (Gate cell inputs outputs) (Scan nets) alike = absurd alike
same_pins (Scan nets) (Gate cell inputs outputs) alike = absurd alike
same_pins (Scan nets) (Scan others) alike = ap (λ pins. pin_nets (Scan pins)) alike

-- a scan instance has the same nets on its pins
on_body : (pin : ScanPin) (net : ℕ) (body also : Body) → AreBodiesAlike body also → HasOnPin pin net body → HasOnPin pin net also
on_body pin net (Gate cell inputs outputs) also alike on = absurd on
on_body pin net (Scan nets) (Gate cell inputs outputs) alike on = absurd alike
on_body pin net (Scan nets) (Scan others) alike on = subst (λ pins. HasOnPin pin net (Scan pins)) alike on

scan_body : (body also : Body) → AreBodiesAlike body also → IsScan body → IsScan also
scan_body (Gate cell inputs outputs) also alike scan = absurd scan
scan_body (Scan nets) (Gate cell inputs outputs) alike scan = absurd alike
scan_body (Scan nets) (Scan others) alike scan = tt

-- lists of items that give the same give the same
flat_same : {X : Type 0} (f g : X → List ℕ) (xs ys : List X) → length xs ≡ length ys
    → ((u : ℕ) (x y : X) → slice_get xs u ≡ Some x → slice_get ys u ≡ Some y → f x ≡ g y) → flat_map f xs ≡ flat_map g ys
flat_same f g [] [] same each = refl
flat_same f g [] (y ∷ ys) same each = absurd (omega (arith, same))
flat_same f g (x ∷ xs) [] same each = absurd (omega (arith, same))
flat_same f g (x ∷ xs) (y ∷ ys) same each =
    let rest : flat_map f xs ≡ flat_map g ys = flat_same f g xs ys (omega (arith, same)) (λ u. each (suc u)) in
    ap₂ (λ (a b : List ℕ). a ++ b) (each 0 x y refl refl) rest

-- and pass the same tests
any_same : {X : Type 0} (p q : X → Bool) (xs ys : List X) → length xs ≡ length ys
    → ((u : ℕ) (x y : X) → slice_get xs u ≡ Some x → slice_get ys u ≡ Some y → p x ≡ q y) → list_any p xs ≡ list_any q ys
any_same p q [] [] same each = refl
any_same p q [] (y ∷ ys) same each = absurd (omega (arith, same))
any_same p q (x ∷ xs) [] same each = absurd (omega (arith, same))
any_same p q (x ∷ xs) (y ∷ ys) same each =
    let rest : list_any p xs ≡ list_any q ys = any_same p q xs ys (omega (arith, same)) (λ u. each (suc u)) in
    ap₂ (λ (a b : Bool). a || b) (each 0 x y refl refl) rest

-- what holds of an instance holds of the same instance of the other chip
module _ (chip also : LinkedChip) (alike : AreAlike chip also) where
  of_part : (P Q : Part → Type 0) (u : ℕ) → ((part other : Part) → ArePartsAlike part other → P part → Q other)
      → IsSomeAnd (slice_get chip.parts u) P → IsSomeAnd (slice_get also.parts u) Q
  of_part P Q u next held = by (slice_get chip.parts u) refl held
    where
      by : (o : Option Part) → slice_get chip.parts u ≡ o → IsSomeAnd o P → IsSomeAnd (slice_get also.parts u) Q
      by None at held = absurd held
      by (Some part) at held =
          let other = item_at chip.parts also.parts u part alike.same_parts at in
          subst (λ o. IsSomeAnd o Q) (sym other.1) (next part other.0 (alike.parts u part other.0 at other.1) held)

  ends : (net : ℕ) → ends_of chip net ≡ ends_of also net
  ends net = ap₂ (λ (a b : ℕ). a + b)
      (ap (count_of net) (flat_same (λ part. pin_nets part.body) (λ part. pin_nets part.body) chip.parts also.parts alike.same_parts
      (λ u part other at at_other. same_pins part.body other.body (alike.parts u part other at at_other).body)))
      (ap (λ (ports : List PortBit). count_of net (map (λ port. port.net) ports)) alike.ports)

  is_link : (net : ℕ) → IsLink chip net → IsLink also net
  is_link net held = sym (ends net) ∙ held

  on_pin : (pin : ScanPin) (u net : ℕ) → IsOnPin chip pin u net → IsOnPin also pin u net
  on_pin pin u net = of_part (λ part. HasOnPin pin net part.body) (λ part. HasOnPin pin net part.body) u
      (λ part other same on. on_body pin net part.body other.body same.body on)

  at_port : (input : Bool) (p net : ℕ) → IsAtPort chip input p net → IsAtPort also input p net
  at_port input p net = subst (λ (ports : List PortBit). IsSomeAnd (slice_get ports p) (λ port. (port.is_input ≡ input) × (port.net ≡ net))) alike.ports

  runs_out : (chain : List ℕ) (net : ℕ) → RunsOut chip net chain → RunsOut also net chain
  runs_out [] net (link, out) = (is_link net link, (out.0, at_port false out.0 net out.1))
  runs_out (u ∷ chain) net (next, link, si, so, rest) =
      (next, is_link net link, on_pin Si u net si, on_pin So u next so, runs_out chain next rest)

  chain_from : (p : ℕ) (chain : List ℕ) → IsChainFrom chip p chain → IsChainFrom also p chain
  chain_from p chain is = record { net = is.net; at = at_port true p is.net is.at; some = is.some; runs = runs_out chain is.net is.runs }

  pub scan_at : (u : ℕ) → IsScanAt chip u → IsScanAt also u
  scan_at u = of_part (λ part. IsScan part.body) (λ part. IsScan part.body) u (λ part other same scan. scan_body part.body other.body same.body scan)

  on_chain : (u : ℕ) → IsOnChain chip u → IsOnChain also u
  on_chain u is = record { port = is.port; chain = is.chain; whole = chain_from is.port is.chain is.whole; there = is.there }

module _ (chip also : LinkedChip) (alike : AreAlike chip also) where
  chain_at : (p : ℕ) (found : Option (List ℕ)) → IsChainAt chip p found → IsChainAt also p found
  chain_at p (Some chain) is = chain_from chip also alike p chain is
  chain_at p None none = λ chain is. none chain (chain_from also chip (alike_back chip also alike) p chain is)

  are_chains : (chains : List (List ℕ)) → AreChains chip chains → AreChains also chains
  are_chains chains is = subst (λ count. AreChainsOf also count chains) (ap length alike.ports) (record {
    at_port = is.at_port;
    room = is.room;
    each = λ p found at. chain_at p found (is.each p found at);
    all = is.all;
  })

  are_on_chains : AreOnChains chip → AreOnChains also
  are_on_chains all u scan = on_chain chip also alike u (all u (scan_at also chip (alike_back chip also alike) u scan))

  all_chains : (chains : List (List ℕ)) → AreAllChains chip chains → AreAllChains also chains
  all_chains chains is = record { are = are_chains chains is.are; on_chains = are_on_chains is.on_chains; few = is.few }

  first_off : (u : ℕ) → IsFirstOff chip u → IsFirstOff also u
  first_off u is = record {
    scan = scan_at chip also alike u is.scan;
    off = λ on. is.off (on_chain also chip (alike_back chip also alike) u on);
    none_before = λ before less scan.
        on_chain chip also alike before (is.none_before before less (scan_at also chip (alike_back chip also alike) before scan));
  }

  chain_cause : (broken : ChainFault) → IsChainCause chip broken → IsChainCause also broken
  chain_cause (ChainBroken u) is = first_off u.0 is
  chain_cause (TooManyChains count) is = record {
    chains = is.chains;
    are = are_chains is.chains is.are;
    on_chains = are_on_chains is.on_chains;
    counted = is.counted;
    many = is.many;
  }
  chain_cause NoMemory is = tt

-- the nets of scan cells are the same
same_scan : (f : Body → List ℕ) → ((cell : ℕ) (inputs outputs : List ℕ) → f (Gate cell inputs outputs) ≡ []) → (body also : Body) → AreBodiesAlike body also
    → f body ≡ f also
same_scan f none (Gate cell inputs outputs) (Gate other ins outs) alike = none cell inputs outputs ∙ sym (none other ins outs)
same_scan f none (Gate cell inputs outputs) (Scan nets) alike = absurd alike
same_scan f none (Scan nets) (Gate cell inputs outputs) alike = absurd alike
same_scan f none (Scan nets) (Scan others) alike = ap (λ pins. f (Scan pins)) alike

module _ (chip also : LinkedChip) (alike : AreAlike chip also) where
  pub on_path : (net : ℕ) → is_scan_path chip net ≡ is_scan_path also net
  on_path net = any_same (λ part. has (path_nets part.body) net) (λ part. has (path_nets part.body) net) chip.parts also.parts alike.same_parts
      (λ u part other at at_other. ap (λ (nets : List ℕ). has nets net)
      (same_scan path_nets (λ cell inputs outputs. refl) part.body other.body (alike.parts u part other at at_other).body))

  ports_of : (input : Bool) → port_nets chip input ≡ port_nets also input
  ports_of input = flat_same _ _ chip.ports also.ports (ap length alike.ports) (λ p port other at at_other.
      let same : port ≡ other = same_Some port other (sym at ∙ ap (λ (ports : List PortBit). slice_get ports p) alike.ports ∙ at_other) in
      ap (λ (path : Bool). if (if port.is_input then input else not input) && not path then port.net ∷ [] else []) (on_path port.net)
      ∙ ap (λ (it : PortBit). if (if it.is_input then input else not input) && not (is_scan_path also it.net) then it.net ∷ [] else []) same)

  of_scans : (f : Body → List ℕ) → ((cell : ℕ) (inputs outputs : List ℕ) → f (Gate cell inputs outputs) ≡ [])
      → flat_map (λ part. f part.body) chip.parts ≡ flat_map (λ part. f part.body) also.parts
  of_scans f none = flat_same (λ part. f part.body) (λ part. f part.body) chip.parts also.parts alike.same_parts
      (λ u part other at at_other. same_scan f none part.body other.body (alike.parts u part other at at_other).body)

pub one_ports : AlikeHaveOnePorts
one_ports chip also alike = record {
  inputs = ap₂ (λ (a b : List ℕ). a ++ b) (ports_of chip also alike true) (of_scans chip also alike q_nets (λ cell inputs outputs. refl));
  outputs = ap₂ (λ (a b : List ℕ). a ++ b) (ports_of chip also alike false) (of_scans chip also alike d_nets (λ cell inputs outputs. refl));
}

pub one_trace : AlikeHaveOneTrace
one_trace chip also alike = record { chains = all_chains chip also alike; cause = chain_cause chip also alike }
