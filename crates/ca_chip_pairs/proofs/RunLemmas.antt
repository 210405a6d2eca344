-- A scan instance is on one whole chain, at one place of it.
use Rattle.std.proofs.Common.{◌≡◌, ℕ, zero, suc, ◌+◌, ◌≤◌, true, List, [], ◌∷◌, ◌++◌, length}
use Rattle.std.proofs.Common.{refl, sym, ap, subst, arith}
use Rattle.std.specs.Prelude.{if◌then◌else◌, Some, None, slice_get}
use Rattle.std.specs.List.{flat_map}
use Rattle.ca_linked.specs.declared.pins.ScanPin.TheVariants.{Si, So}
use Rattle.ca_linked.specs.declared.parts.Body.{Body}
use Rattle.ca_linked.specs.declared.parts.Body.TheVariants.{Gate, Scan}
use Rattle.ca_linked.specs.declared.parts.Part.{Part}
use Rattle.ca_linked.specs.declared.parts.PortBit.{PortBit}
use Rattle.ca_linked.specs.Linked.{LinkedChip}
use Rattle.ca_linked.specs.Instances.{HasOnPin}
use Rattle.ca_scan.specs.Chain.{count_of, IsLink, IsOnPin, IsAtPort, RunsOut, IsChainFrom}
use Rattle.ca_scan.specs.code.Kept.{drivers_of, in_nets, so_nets}
use Rattle.ca_scan.proofs.ChainLemmas.{one_net}
use Rattle.ca_scan.proofs.CountLemmas.{item_of, count_here, counted, one_place, enough, takes, count-append}
use Rattle.ca_scan.proofs.FollowLemmas.{found_in}

-- from bit p of the ports a net is reached through these scan instances, the last one first
abbrev pub Arrives : LinkedChip → ℕ → List ℕ → ℕ → Type 0
Arrives chip p [] net = IsAtPort chip true p net
Arrives chip p (v ∷ passed) net =
    IsOnPin chip So v net × (before : ℕ) × IsLink chip before × IsOnPin chip Si v before × Arrives chip p passed before

-- how an instance is reached
pub record IsReached (chip : LinkedChip) (p u : ℕ) (count : ℕ) : Type 0 where
  pub net : ℕ
  pub link : IsLink chip net
  pub taken : IsOnPin chip Si u net
  pub passed : List ℕ
  pub counted : length passed ≡ count
  pub arrives : Arrives chip p passed net

pub reached : (chip : LinkedChip) (p net : ℕ) (chain passed : List ℕ) (k u : ℕ) → RunsOut chip net chain → Arrives chip p passed net
    → slice_get chain k ≡ Some u → IsReached chip p u (length passed + k)
reached chip p net [] passed k u runs arrives at = absurd (let clash : None ≡ Some u = at in cc)
reached chip p net (first ∷ chain) passed zero u runs arrives at =
    let same : first ≡ u = cc in
    record {
      net = net;
      link = runs.1;
      taken = subst (λ v. IsOnPin chip Si v net) same runs.2;
      passed = passed;
      counted = omega arith;
      arrives = arrives;
    }
reached chip p net (first ∷ chain) passed (suc k) u runs arrives at =
    let later = reached chip p runs.0 chain (first ∷ passed) k u runs.4 (runs.3, net, runs.1, runs.2, arrives) at in
    record {
      net = later.net;
      link = later.link;
      taken = later.taken;
      passed = later.passed;
      counted = let is = later.counted in omega (arith, is);
      arrives = later.arrives;
    }

-- what drives a net
port_counts : (chip : LinkedChip) (p net : ℕ) → IsAtPort chip true p net → 1 ≤ count_of net (flat_map in_nets chip.ports)
port_counts chip p net there =
    let found = item_of chip.ports p (λ (port : PortBit). (port.is_input ≡ true) × (port.net ≡ net)) there in
    counted in_nets net chip.ports p found.item found.at (in_here net found.item found.has.0 found.has.1)
  where
    in_here : (net : ℕ) (port : PortBit) → port.is_input ≡ true → port.net ≡ net → 1 ≤ count_of net (in_nets port)
    in_here net port input is = subst (λ nets. 1 ≤ count_of net nets) (sym (λ j. if input j then port.net ∷ [] else [])) (count_here net port.net is)

so_here : (net : ℕ) (body : Body) → HasOnPin So net body → 1 ≤ count_of net (so_nets body)
so_here net (Gate cell inputs outputs) is = absurd is
so_here net (Scan nets) is = count_here net nets.so is

so_counts : (chip : LinkedChip) (v net : ℕ) → IsOnPin chip So v net → 1 ≤ count_of net (flat_map (λ part. so_nets part.body) chip.parts)
so_counts chip v net there =
    let found = item_of chip.parts v (λ (part : Part). HasOnPin So net part.body) there in
    counted (λ (part : Part). so_nets part.body) net chip.parts v found.item found.at (so_here net found.item.body found.has)

-- a link to a scan-in has one driver
one_driver : (chip : LinkedChip) (net u : ℕ) → IsLink chip net → IsOnPin chip Si u net → drivers_of chip net ≤ 1
one_driver chip net u link taken =
    let all = enough chip net in
    let some = takes chip net u taken in
    omega (arith, link, all, some)

one_port : (chip : LinkedChip) (net p q : ℕ) → drivers_of chip net ≤ 1 → IsAtPort chip true p net → IsAtPort chip true q net → p ≡ q
one_port chip net p q one there also =
    let found = item_of chip.ports p (λ (port : PortBit). (port.is_input ≡ true) × (port.net ≡ net)) there in
    let other = item_of chip.ports q (λ (port : PortBit). (port.is_input ≡ true) × (port.net ≡ net)) also in
    one_place in_nets net chip.ports p q found.item other.item (omega (arith, one)) found.at other.at
    (in_here net found.item found.has.0 found.has.1) (in_here net other.item other.has.0 other.has.1)
  where
    in_here : (net : ℕ) (port : PortBit) → port.is_input ≡ true → port.net ≡ net → 1 ≤ count_of net (in_nets port)
    in_here net port input is = subst (λ nets. 1 ≤ count_of net nets) (sym (λ j. if input j then port.net ∷ [] else [])) (count_here net port.net is)

one_so : (chip : LinkedChip) (net v w : ℕ) → drivers_of chip net ≤ 1 → IsOnPin chip So v net → IsOnPin chip So w net → v ≡ w
one_so chip net v w one there also =
    let found = item_of chip.parts v (λ (part : Part). HasOnPin So net part.body) there in
    let other = item_of chip.parts w (λ (part : Part). HasOnPin So net part.body) also in
    one_place (λ (part : Part). so_nets part.body) net chip.parts v w found.item other.item (omega (arith, one)) found.at other.at
    (so_here net found.item.body found.has) (so_here net other.item.body other.has)

not_both : (chip : LinkedChip) (net p v : ℕ) → drivers_of chip net ≤ 1 → IsAtPort chip true p net → IsOnPin chip So v net → ⊥
not_both chip net p v one there also =
    let port = port_counts chip p net there in
    let scan = so_counts chip v net also in
    omega (arith, one, port, scan)

-- a link to a scan-in is reached from one port, through one list of scan instances
pub record AreOneWay (p q : ℕ) (one two : List ℕ) : Type 0 where
  pub port : p ≡ q
  pub counted : length one ≡ length two

one_way : (chip : LinkedChip) (net u p q : ℕ) (one two : List ℕ) → IsLink chip net → IsOnPin chip Si u net → Arrives chip p one net
    → Arrives chip q two net → AreOneWay p q one two
one_way chip net u p q [] [] link taken here there = record {
  port = one_port chip net p q (one_driver chip net u link taken) here there;
  counted = refl;
}
one_way chip net u p q [] (w ∷ two) link taken here there =
    absurd (not_both chip net p w (one_driver chip net u link taken) here there.0)
one_way chip net u p q (v ∷ one) [] link taken here there =
    absurd (not_both chip net q v (one_driver chip net u link taken) there here.0)
one_way chip net u p q (v ∷ one) (w ∷ two) link taken here there =
    let same : v ≡ w = one_so chip net v w (one_driver chip net u link taken) here.0 there.0 in
    let before : here.1 ≡ there.1 = one_net chip Si v here.1 there.1 here.3 (subst (λ x. IsOnPin chip Si x there.1) (sym same) there.3) in
    let more = one_way chip here.1 v p q one two here.2 here.3 here.4 (subst (λ n. Arrives chip q two n) (sym before) there.4) in
    record { port = more.port; counted = ap suc more.counted }

-- an instance is at one place of one whole chain
pub record AreOnePlace (p q j k : ℕ) : Type 0 where
  pub port : p ≡ q
  pub place : j ≡ k

pub same_place : (chip : LinkedChip) (p q : ℕ) (chain other : List ℕ) (j k u : ℕ) → IsChainFrom chip p chain → IsChainFrom chip q other
    → slice_get chain j ≡ Some u → slice_get other k ≡ Some u → AreOnePlace p q j k
same_place chip p q chain other j k u is also at_j at_k =
    let here = reached chip p is.net chain [] j u is.runs is.at at_j in
    let there = reached chip q also.net other [] k u also.runs also.at at_k in
    let same : there.net ≡ here.net = one_net chip Si u there.net here.net there.taken here.taken in
    let way = one_way chip here.net u p q here.passed there.passed here.link here.taken here.arrives
    (subst (λ n. Arrives chip q there.passed n) same there.arrives) in
    record {
      port = way.port;
      place = let one = here.counted in let two = there.counted in let both = way.counted in omega (arith, one, two, both);
    }

-- where each is counted once at most, and at one place, it is counted once at most
pub sum_one : {Item : Type 0} (nets : Item → List ℕ) (u : ℕ) (items : List Item)
    → ((k : ℕ) (item : Item) → slice_get items k ≡ Some item → count_of u (nets item) ≤ 1)
    → ((j k : ℕ) (one two : Item) → slice_get items j ≡ Some one → slice_get items k ≡ Some two
    → 1 ≤ count_of u (nets one) → 1 ≤ count_of u (nets two) → j ≡ k)
    → count_of u (flat_map nets items) ≤ 1
unfolding count_of
sum_one nets u [] each once = omega arith
sum_one {Item} nets u (first ∷ items) each once =
    let both = count-append u (nets first) (flat_map nets items) in
    let here = each 0 first refl in
    let later = sum_one nets u items (λ k item at. each (suc k) item at)
    (λ j k one two at_j at_k a b. let same = once (suc j) (suc k) one two at_j at_k a b in omega (arith, same)) in
    by (count_of u (nets first)) refl (count_of u (flat_map nets items)) refl here later both
  where
    by : (head : ℕ) → count_of u (nets first) ≡ head → (rest : ℕ) → count_of u (flat_map nets items) ≡ rest
        → count_of u (nets first) ≤ 1 → count_of u (flat_map nets items) ≤ 1
        → count_of u (nets first ++ flat_map nets items) ≡ count_of u (nets first) + count_of u (flat_map nets items)
        → count_of u (nets first ++ flat_map nets items) ≤ 1
    by zero head_is rest rest_is here later both = omega (arith, head_is, later, both)
    by (suc head) head_is zero rest_is here later both = omega (arith, here, rest_is, both)
    by (suc head) head_is (suc rest) rest_is here later both =
        let found = found_in nets u items (omega (arith, rest_is)) in
        let same = once 0 (suc found.place) first found.item refl found.at (omega (arith, head_is)) found.here in
        absurd (omega (arith, same))
