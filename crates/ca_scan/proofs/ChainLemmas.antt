-- Runs of scan instances from a net that is driven: there is one at most, and no instance is twice on it.
use Rattle.std.proofs.Common.{◌≡◌, ℕ, zero, suc, ◌<◌, ◌≤◌, Bool, true, false, ◌||◌, List, [], ◌∷◌, length}
use Rattle.std.proofs.Common.{refl, sym, ap, ◌∙◌, subst, arith}
use Rattle.std.specs.Prelude.{eqb, Option, Some, None, IsSomeAnd, slice_get, option_to_list}
use Rattle.std.specs.List.{list_any, flat_map, IsDistinct, AllByRecursion}
use Rattle.std.proofs.lemmas.Bool.{eqb-true, eq-eqb}
use Rattle.std.proofs.lemmas.Option.{slice_get_within}
use Rattle.std.proofs.lemmas.Map.Steps.{length-le_from_distinct_below}
use Rattle.ca_linked.specs.declared.pins.ScanPin.{ScanPin}
use Rattle.ca_linked.specs.declared.pins.ScanPin.TheVariants.{Si, So}
use Rattle.ca_linked.specs.declared.parts.Body.{Body}
use Rattle.ca_linked.specs.declared.parts.Body.TheVariants.{Gate, Scan}
use Rattle.ca_linked.specs.declared.parts.Part.{Part}
use Rattle.ca_linked.specs.declared.parts.PortBit.{PortBit}
use Rattle.ca_linked.specs.Linked.{LinkedChip, has, path_nets, is_scan_path}
use Rattle.ca_linked.specs.Instances.{HasOnPin}
use Rattle.ca_scan.specs.Chain.{IsLink, IsOnPin, IsAtPort, IsOut, RunsOut, IsChainFrom, IsChainAt, AreChains}
use Rattle.ca_scan.specs.code.Kept.{drivers_of, takers_of}
use Rattle.ca_scan.proofs.CountLemmas.{item_of, enough, so_drives, takes, one_taker, port_drives, goes_out}

-- one net is on a pin
pub one_net : (chip : LinkedChip) (pin : ScanPin) (u net other : ℕ) → IsOnPin chip pin u net → IsOnPin chip pin u other → net ≡ other
one_net chip pin u net other there also = by (slice_get chip.parts u) there also
  where
    of_body : (body : Body) → HasOnPin pin net body → HasOnPin pin other body → net ≡ other
    of_body (Gate cell inputs outputs) is too = absurd is
    of_body (Scan nets) is too = sym is ∙ too

    by : (o : Option Part) → IsSomeAnd o (λ part. HasOnPin pin net part.body) → IsSomeAnd o (λ part. HasOnPin pin other part.body) → net ≡ other
    by None is too = absurd is
    by (Some part) is too = of_body part.body is too

-- one net is at a bit of the ports
one_port_net : (chip : LinkedChip) (p net other : ℕ) → IsAtPort chip true p net → IsAtPort chip true p other → net ≡ other
one_port_net chip p net other there also = by (slice_get chip.ports p) there also
  where
    by : (o : Option PortBit) → IsSomeAnd o (λ port. (port.is_input ≡ true) × (port.net ≡ net)) → IsSomeAnd o (λ port. (port.is_input ≡ true) × (port.net ≡ other))
        → net ≡ other
    by None is too = absurd is
    by (Some port) is too = sym is.1 ∙ too.1

-- a test that an element passes
pub any_at : {X : Type 0} (test : X → Bool) (xs : List X) (k : ℕ) (x : X) → slice_get xs k ≡ Some x → test x ≡ true → list_any test xs ≡ true
any_at test [] k x at passes = absurd (let clash : None ≡ Some x = at in cc)
any_at test (y ∷ xs) zero x at passes =
    let same : y ≡ x = cc in
    ap (λ b. b || list_any test xs) (ap test same ∙ passes)
any_at test (y ∷ xs) (suc k) x at passes = by (test y) (any_at test xs k x at passes)
  where
    by : (b : Bool) → list_any test xs ≡ true → (b || list_any test xs) ≡ true
    by true more = refl
    by false more = more

-- the scan-in and the scan-out of an instance are on the scan path
on_path : (chip : LinkedChip) (u net : ℕ) (pin : ScanPin) → ((body : Body) → HasOnPin pin net body → has (path_nets body) net ≡ true) → IsOnPin chip pin u net
    → is_scan_path chip net ≡ true
on_path chip u net pin of_body there =
    let found = item_of chip.parts u (λ (part : Part). HasOnPin pin net part.body) there in
    any_at (λ (part : Part). has (path_nets part.body) net) chip.parts u found.item found.at (of_body found.item.body found.has)

pub so_on_path : (chip : LinkedChip) (u net : ℕ) → IsOnPin chip So u net → is_scan_path chip net ≡ true
so_on_path chip u net there = on_path chip u net So of_body there
  where
    of_body : (body : Body) → HasOnPin So net body → has (path_nets body) net ≡ true
    of_body (Gate cell inputs outputs) is = absurd is
    of_body (Scan nets) is = any_at (eqb net) (path_nets (Scan nets)) 4 nets.so refl (eq-eqb net nets.so (sym is))

pub si_on_path : (chip : LinkedChip) (u net : ℕ) → IsOnPin chip Si u net → is_scan_path chip net ≡ true
si_on_path chip u net there = on_path chip u net Si of_body there
  where
    of_body : (body : Body) → HasOnPin Si net body → has (path_nets body) net ≡ true
    of_body (Gate cell inputs outputs) is = absurd is
    of_body (Scan nets) is = any_at (eqb net) (path_nets (Scan nets)) 3 nets.si refl (eq-eqb net nets.si (sym is))

-- a net that joins a driver to a scan-in is at no output port
pub not_both : (chip : LinkedChip) (net u : ℕ) → 1 ≤ drivers_of chip net → IsLink chip net → IsOut chip net → IsOnPin chip Si u net → ⊥
not_both chip net u driven link out there =
    let all = enough chip net in
    let outs = goes_out chip net out in
    let taken = takes chip net u there in
    omega (arith, link, all, outs, taken, driven)

-- and to one scan-in alone
pub same_taker : (chip : LinkedChip) (net u v : ℕ) → 1 ≤ drivers_of chip net → IsLink chip net → IsOnPin chip Si u net → IsOnPin chip Si v net → u ≡ v
same_taker chip net u v driven link there also =
    let all = enough chip net in
    let one : takers_of chip net ≤ 1 = omega (arith, link, all, driven) in
    one_taker chip net u v one there also

-- one run at most leaves a driven net
pub one_run : (chip : LinkedChip) (net : ℕ) (chain other : List ℕ) → 1 ≤ drivers_of chip net → RunsOut chip net chain → RunsOut chip net other → chain ≡ other
one_run chip net [] [] driven runs also = refl
one_run chip net [] (v ∷ other) driven runs also = absurd (not_both chip net v driven runs.0 runs.1 also.2)
one_run chip net (u ∷ chain) [] driven runs also = absurd (not_both chip net u driven also.0 also.1 runs.2)
one_run chip net (u ∷ chain) (v ∷ other) driven runs also =
    let same : u ≡ v = same_taker chip net u v driven runs.1 runs.2 also.2 in
    let next : runs.0 ≡ also.0 = one_net chip So u runs.0 also.0 runs.3 (subst (λ w. IsOnPin chip So w also.0) (sym same) also.3) in
    let rest : RunsOut chip runs.0 other = subst (λ n. RunsOut chip n other) (sym next) also.4 in
    let following = one_run chip runs.0 chain other (so_drives chip runs.0 u runs.3) runs.4 rest in
    ap (λ w. w ∷ chain) same ∙ ap (λ c. v ∷ c) following

-- what runs after a scan instance of a run
record RunsAfter (chip : LinkedChip) (u : ℕ) (chain : List ℕ) : Type 0 where
  pub next : ℕ
  pub there : IsOnPin chip So u next
  pub rest : List ℕ
  pub runs : RunsOut chip next rest
  pub shorter : length rest < length chain

following : (chip : LinkedChip) (net : ℕ) (chain : List ℕ) (u : ℕ) → RunsOut chip net chain → has chain u ≡ true → RunsAfter chip u chain
following chip net [] u runs there = absurd cc
following chip net (first ∷ chain) u runs there = by (eqb u first) refl there (following chip runs.0 chain u runs.4)
  where
    by : (test : Bool) → eqb u first ≡ test → (test || has chain u) ≡ true → (has chain u ≡ true → RunsAfter chip u chain) → RunsAfter chip u (first ∷ chain)
    by true is there later = record {
      next = runs.0;
      there = subst (λ w. IsOnPin chip So w runs.0) (sym (eqb-true u first is)) runs.3;
      rest = chain;
      runs = runs.4;
      shorter = omega arith;
    }
    by false is there later =
        let found = later there in
        record { next = found.next; there = found.there; rest = found.rest; runs = found.runs; shorter = omega (arith, found.shorter) }

-- the first scan instance of a run doesn't come after itself
not_again : (chip : LinkedChip) (net u : ℕ) (chain : List ℕ) → RunsOut chip net (u ∷ chain) → has chain u ≡ true → ⊥
not_again chip net u chain runs again =
    let found = following chip runs.0 chain u runs.4 again in
    let same = one_net chip So u runs.0 found.next runs.3 found.there in
    let also : RunsOut chip runs.0 found.rest = subst (λ n. RunsOut chip n found.rest) (sym same) found.runs in
    let one = one_run chip runs.0 chain found.rest (so_drives chip runs.0 u runs.3) runs.4 also in
    let counts : length chain ≡ length found.rest = ap length one in
    omega (arith, counts, found.shorter)

apart : (u : ℕ) (chain : List ℕ) → (has chain u ≡ true → ⊥) → AllByRecursion (λ (other : ℕ). eqb u other ≡ false) chain
apart u [] none = tt
apart u (other ∷ chain) none = by (eqb u other) refl none (apart u chain)
  where
    by : (test : Bool) → eqb u other ≡ test → ((test || has chain u) ≡ true → ⊥)
        → ((has chain u ≡ true → ⊥) → AllByRecursion (λ (v : ℕ). eqb u v ≡ false) chain)
        → (eqb u other ≡ false) × AllByRecursion (λ (v : ℕ). eqb u v ≡ false) chain
    by true is none later = absurd (none refl)
    by false is none later = (is, later none)

distinct : (chip : LinkedChip) (net : ℕ) (chain : List ℕ) → RunsOut chip net chain → IsDistinct eqb chain
unfolding IsDistinct
distinct chip net [] runs = tt
distinct chip net (u ∷ chain) runs = (apart u chain (not_again chip net u chain runs), distinct chip runs.0 chain runs.4)

-- a run has at most as many scan instances as the chip has instances
pub run_length : (chip : LinkedChip) (net : ℕ) (chain : List ℕ) → RunsOut chip net chain → length chain ≤ length chip.parts
run_length chip net chain runs =
    length-le_from_distinct_below chain (length chip.parts) (distinct chip net chain runs)
    (λ u there.
    let found = following chip net chain u runs there in
    let at = item_of chip.parts u (λ (part : Part). HasOnPin So found.next part.body) found.there in
    slice_get_within chip.parts u at.item at.at)

-- one whole chain at most begins at a bit of the ports
pub one_chain : (chip : LinkedChip) (p : ℕ) (chain other : List ℕ) → IsChainFrom chip p chain → IsChainFrom chip p other → chain ≡ other
one_chain chip p chain other is also =
    let same = one_port_net chip p is.net also.net is.at also.at in
    one_run chip is.net chain other (port_drives chip is.net p is.at) is.runs (subst (λ n. RunsOut chip n other) (sym same) also.runs)

pub one_found : (chip : LinkedChip) (p : ℕ) (one other : Option (List ℕ)) → IsChainAt chip p one → IsChainAt chip p other → one ≡ other
one_found chip p None None is also = refl
one_found chip p None (Some chain) is also = absurd (is chain also)
one_found chip p (Some chain) None is also = absurd (also chain is)
one_found chip p (Some chain) (Some other) is also = ap Some (one_chain chip p chain other is also)

-- lists as long, with the same at each place
same_lists : {X : Type 0} (xs ys : List X) → length xs ≡ length ys → ((k : ℕ) (x y : X) → slice_get xs k ≡ Some x → slice_get ys k ≡ Some y → x ≡ y) → xs ≡ ys
same_lists [] [] size same = refl
same_lists [] (y ∷ ys) size same = absurd (omega (arith, size))
same_lists (x ∷ xs) [] size same = absurd (omega (arith, size))
same_lists (x ∷ xs) (y ∷ ys) size same =
    ap (λ z. z ∷ xs) (same 0 x y refl refl)
    ∙ ap (λ zs. y ∷ zs) (same_lists xs ys (omega (arith, size)) (λ k v w at_v at_w. same (suc k) v w at_v at_w))

-- a chip has one list of whole chains
pub one_list : (chip : LinkedChip) (chains others : List (List ℕ)) → AreChains chip chains → AreChains chip others → chains ≡ others
one_list chip chains others are also =
    are.all ∙ ap (flat_map option_to_list) (same_lists are.at_port also.at_port (are.room ∙ sym also.room)
    (λ p one other at_one at_other. one_found chip p one other (are.each p one at_one) (also.each p other at_other)))
    ∙ sym also.all
