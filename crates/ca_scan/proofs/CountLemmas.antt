-- How often a net is in a list, and which ends are on it.
use Rattle.std.proofs.Common.{◌≡◌, ℕ, zero, suc, ◌+◌, ◌≤◌, Bool, true, false, List, [], ◌∷◌, ◌++◌, refl, sym}
use Rattle.std.proofs.Common.{ap, subst, arith}
use Rattle.std.specs.Prelude.{eqb, map, Option, Some, None, IsSomeAnd, slice_get, if◌then◌else◌}
use Rattle.std.specs.Prelude.{option_to_list}
use Rattle.std.specs.List.{flat_map}
use Rattle.std.proofs.lemmas.Bool.{eq-eqb}
use Rattle.ca_linked.specs.declared.pins.ScanPin.TheVariants.{Si, So}
use Rattle.ca_linked.specs.declared.parts.Body.{Body}
use Rattle.ca_linked.specs.declared.parts.Body.TheVariants.{Gate, Scan}
use Rattle.ca_linked.specs.declared.parts.Part.{Part}
use Rattle.ca_linked.specs.declared.parts.PortBit.{PortBit}
use Rattle.ca_linked.specs.Linked.{LinkedChip}
use Rattle.ca_linked.specs.Instances.{HasOnPin, pin_nets}
use Rattle.ca_scan.specs.Chain.{count_of, ends_of, IsOnPin, IsAtPort, IsOut}
use Rattle.ca_scan.specs.code.Kept.{so_nets, si_nets, in_nets, out_nets, drivers_of, takers_of, outs_of}

-- what is at a place of a list
pub record IsAt {X : Type 0} (xs : List X) (k : ℕ) (P : X → Type 0) : Type 0 where
  pub item : X
  pub at : slice_get xs k ≡ Some item
  pub has : P item

pub item_of : {X : Type 0} (xs : List X) (k : ℕ) (P : X → Type 0) → IsSomeAnd (slice_get xs k) P → IsAt xs k P
item_of xs k P has = by (slice_get xs k) refl has
  where
    by : (o : Option _) → slice_get xs k ≡ o → IsSomeAnd o P → IsAt xs k P
    by None e there = absurd there
    by (Some x) e there = record { item = x; at = e; has = there }

pub count-append : (net : ℕ) (xs ys : List ℕ) → count_of net (xs ++ ys) ≡ count_of net xs + count_of net ys
unfolding count_of
count-append net [] ys = omega arith
count-append net (x ∷ xs) ys = let more = count-append net xs ys in omega (arith, more)

-- a net is on itself
pub count_here : (net other : ℕ) → other ≡ net → 1 ≤ count_of net (other ∷ [])
unfolding count_of
count_here net other same = by (eqb net other) (eq-eqb net other (sym same))
  where
    by : (test : Bool) → test ≡ true → 1 ≤ (if test then 1 else 0) + 0
    by true is = omega arith
    by false is = absurd (let clash : false ≡ true = is in cc)

-- a net that is there is counted
pub counted : {X : Type 0} (nets : X → List ℕ) (net : ℕ) (xs : List X) (k : ℕ) (x : X) → slice_get xs k ≡ Some x → 1 ≤ count_of net (nets x)
    → 1 ≤ count_of net (flat_map nets xs)
counted nets net [] k x at here = absurd (let clash : None ≡ Some x = at in cc)
counted nets net (y ∷ xs) zero x at here =
    let same : y ≡ x = cc in
    let count = ap (λ z. count_of net (nets z)) same in
    let both = count-append net (nets y) (flat_map nets xs) in
    omega (arith, here, count, both)
counted nets net (y ∷ xs) (suc k) x at here =
    let more = counted nets net xs k x at here in
    let both = count-append net (nets y) (flat_map nets xs) in
    omega (arith, more, both)

-- where a net is counted once, it is at one place
pub one_place : {X : Type 0} (nets : X → List ℕ) (net : ℕ) (xs : List X) (j k : ℕ) (x y : X) → count_of net (flat_map nets xs) ≤ 1
    → slice_get xs j ≡ Some x → slice_get xs k ≡ Some y → 1 ≤ count_of net (nets x) → 1 ≤ count_of net (nets y) → j ≡ k
one_place nets net [] j k x y one at_j at_k here there = absurd (let clash : None ≡ Some x = at_j in cc)
one_place nets net (z ∷ xs) zero zero x y one at_j at_k here there = refl
one_place nets net (z ∷ xs) zero (suc k) x y one at_j at_k here there =
    let same : z ≡ x = cc in
    let count = ap (λ w. count_of net (nets w)) same in
    let both = count-append net (nets z) (flat_map nets xs) in
    let more = counted nets net xs k y at_k there in
    absurd (omega (arith, one, here, count, both, more))
one_place nets net (z ∷ xs) (suc j) zero x y one at_j at_k here there =
    let same : z ≡ y = cc in
    let count = ap (λ w. count_of net (nets w)) same in
    let both = count-append net (nets z) (flat_map nets xs) in
    let more = counted nets net xs j x at_j here in
    absurd (omega (arith, one, there, count, both, more))
one_place nets net (z ∷ xs) (suc j) (suc k) x y one at_j at_k here there =
    let both = count-append net (nets z) (flat_map nets xs) in
    ap suc (one_place nets net xs j k x y (omega (arith, one, both)) at_j at_k here there)

-- the scan pins of an instance are among its pins
body_ends : (net : ℕ) (body : Body) → count_of net (si_nets body) + count_of net (so_nets body) ≤ count_of net (pin_nets body)
unfolding count_of
body_ends net (Gate cell inputs outputs) = omega arith
body_ends net (Scan nets) = let tail = count-append net (option_to_list nets.qn) (nets.so ∷ []) in omega (arith, tail)

part_ends : (net : ℕ) (parts : List Part) → count_of net (flat_map (λ part. si_nets part.body) parts) + count_of net (flat_map (λ part. so_nets part.body) parts)
    ≤ count_of net (flat_map (λ part. pin_nets part.body) parts)
unfolding count_of
part_ends net [] = omega arith
part_ends net (part ∷ parts) =
    let here = body_ends net part.body in
    let more = part_ends net parts in
    let takes = count-append net (si_nets part.body) (flat_map (λ (p : Part). si_nets p.body) parts) in
    let drives = count-append net (so_nets part.body) (flat_map (λ (p : Part). so_nets p.body) parts) in
    let both = count-append net (pin_nets part.body) (flat_map (λ (p : Part). pin_nets p.body) parts) in
    omega (arith, here, more, takes, drives, both)

-- each port bit is of an input or of an output
port_ends : (net : ℕ) (ports : List PortBit) → count_of net (flat_map in_nets ports) + count_of net (flat_map out_nets ports) ≡ count_of net (map (λ port. port.net) ports)
unfolding count_of
port_ends net [] = omega arith
port_ends net (port ∷ ports) = by port.is_input (port_ends net ports)
  where
    by : (input : Bool) → count_of net (flat_map in_nets ports) + count_of net (flat_map out_nets ports) ≡ count_of net (map (λ (p : PortBit). p.net) ports)
        → count_of net ((if input then port.net ∷ [] else []) ++ flat_map in_nets ports) + count_of net ((if input then [] else port.net ∷ []) ++ flat_map out_nets ports)
        ≡ (if eqb net port.net then 1 else 0) + count_of net (map (λ (p : PortBit). p.net) ports)
    by true more = omega (arith, more)
    by false more = omega (arith, more)

module _ (chip : LinkedChip) (net : ℕ) where
  pub enough : drivers_of chip net + takers_of chip net + outs_of chip net ≤ ends_of chip net
  enough = let parts = part_ends net chip.parts in let ports = port_ends net chip.ports in omega (arith, parts, ports)

  pub so_drives : (u : ℕ) → IsOnPin chip So u net → 1 ≤ drivers_of chip net
  so_drives u there =
      let found = item_of chip.parts u (λ (part : Part). HasOnPin So net part.body) there in
      let more = counted (λ (part : Part). so_nets part.body) net chip.parts u found.item found.at (here found.item.body found.has) in
      omega (arith, more)
    where
      here : (body : Body) → HasOnPin So net body → 1 ≤ count_of net (so_nets body)
      here (Gate cell inputs outputs) is = absurd is
      here (Scan nets) is = count_here net nets.so is

  pub si_takes : (body : Body) → HasOnPin Si net body → 1 ≤ count_of net (si_nets body)
  si_takes (Gate cell inputs outputs) is = absurd is
  si_takes (Scan nets) is = count_here net nets.si is

  pub takes : (u : ℕ) → IsOnPin chip Si u net → 1 ≤ takers_of chip net
  takes u there =
      let found = item_of chip.parts u (λ (part : Part). HasOnPin Si net part.body) there in
      counted (λ (part : Part). si_nets part.body) net chip.parts u found.item found.at (si_takes found.item.body found.has)

  pub one_taker : (u v : ℕ) → takers_of chip net ≤ 1 → IsOnPin chip Si u net → IsOnPin chip Si v net → u ≡ v
  one_taker u v one there also =
      let found = item_of chip.parts u (λ (part : Part). HasOnPin Si net part.body) there in
      let other = item_of chip.parts v (λ (part : Part). HasOnPin Si net part.body) also in
      one_place (λ (part : Part). si_nets part.body) net chip.parts u v found.item other.item one found.at other.at
      (si_takes found.item.body found.has) (si_takes other.item.body other.has)

  pub port_drives : (p : ℕ) → IsAtPort chip true p net → 1 ≤ drivers_of chip net
  port_drives p there =
      let found = item_of chip.ports p (λ (port : PortBit). (port.is_input ≡ true) × (port.net ≡ net)) there in
      let more = counted in_nets net chip.ports p found.item found.at (here found.item found.has.0 found.has.1) in
      omega (arith, more)
    where
      here : (port : PortBit) → port.is_input ≡ true → port.net ≡ net → 1 ≤ count_of net (in_nets port)
      here port input is = subst (λ nets. 1 ≤ count_of net nets) (sym (λ j. if input j then port.net ∷ [] else [])) (count_here net port.net is)

  pub goes_out : IsOut chip net → 1 ≤ outs_of chip net
  goes_out there =
      let found = item_of chip.ports there.0 (λ (port : PortBit). (port.is_input ≡ false) × (port.net ≡ net)) there.1 in
      counted out_nets net chip.ports there.0 found.item found.at (here found.item found.has.0 found.has.1)
    where
      here : (port : PortBit) → port.is_input ≡ false → port.net ≡ net → 1 ≤ count_of net (out_nets port)
      here port output is = subst (λ nets. 1 ≤ count_of net nets) (sym (λ j. if output j then [] else port.net ∷ [])) (count_here net port.net is)
