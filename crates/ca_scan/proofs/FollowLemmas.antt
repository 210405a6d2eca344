-- Following a chain: where a net leads, and what a run from the first net is.
use Rattle.std.proofs.Common.{◌≡◌, ℕ, zero, suc, ◌+◌, ◌<◌, ◌≤◌, true, false, List, [], ◌∷◌, ◌++◌, length}
use Rattle.std.proofs.Common.{refl, sym, ap, ◌∙◌, subst, arith, append_assoc, length-append}
use Rattle.std.proofs.lemmas.Bool.{eqb-true}
use Rattle.std.proofs.lemmas.Option.{slice_get_within}
use Rattle.std.specs.Prelude.{Bool, eqb, if◌then◌else◌, Option, Some, None, IsSomeAnd, slice_get}
use Rattle.std.specs.List.{flat_map}
use Rattle.ca_linked.specs.declared.pins.ScanPin.TheVariants.{Si, So}
use Rattle.ca_linked.specs.declared.parts.Body.{Body}
use Rattle.ca_linked.specs.declared.parts.Body.TheVariants.{Gate, Scan}
use Rattle.ca_linked.specs.declared.parts.Part.{Part}
use Rattle.ca_linked.specs.declared.parts.PortBit.{PortBit}
use Rattle.ca_linked.specs.Linked.{LinkedChip, IsWired, is_scan_path}
use Rattle.ca_linked.specs.Instances.{HasOnPin, IsScan, scans_of}
use Rattle.ca_scan.specs.declared.joints.Joints.{Joints}
use Rattle.ca_scan.specs.Chain.{count_of, ends_of, IsLink, IsOnPin, IsAtPort, IsOut, IsScanAt, RunsOut}
use Rattle.ca_scan.specs.Chain.{IsChainFrom}
use Rattle.ca_scan.specs.code.Kept.{drivers_of, out_nets, up_to_three, tally_at, taker_at, IsTakerAmong}
use Rattle.ca_scan.specs.code.Kept.{AreJoints}
use Rattle.ca_scan.specs.code.Kept.{IsFollowed}
use Rattle.ca_scan.proofs.CountLemmas.{count-append, so_drives, port_drives, goes_out}
use Rattle.ca_scan.proofs.ChainLemmas.{one_net, one_run, so_on_path, si_on_path, not_both, same_taker}
use Rattle.ca_scan.proofs.ChainLemmas.{run_length}
use Rattle.ca_scan.proofs.TallyLemmas.{append_nil}
use Rattle.ca_scan.proofs.JointLemmas.{path_ends, scan_place}

-- each net of a run is a link
link_of : (chip : LinkedChip) (net : ℕ) (chain : List ℕ) → RunsOut chip net chain → IsLink chip net
link_of chip net [] runs = runs.0
link_of chip net (u ∷ chain) runs = runs.1

two_of : (n : ℕ) → up_to_three n ≡ 2 → n ≡ 2
two_of zero is = absurd cc
two_of (suc zero) is = absurd cc
two_of (suc (suc zero)) is = refl
two_of (suc (suc (suc n))) is = absurd cc

none_of : (n : ℕ) → up_to_three n ≡ 0 → n ≡ 0
none_of zero is = refl
none_of (suc zero) is = absurd cc
none_of (suc (suc zero)) is = absurd cc
none_of (suc (suc (suc n))) is = absurd cc

-- what is counted is at some place
pub record IsFound {X : Type 0} (nets : X → List ℕ) (net : ℕ) (xs : List X) : Type 0 where
  pub place : ℕ
  pub item : X
  pub at : slice_get xs place ≡ Some item
  pub here : 1 ≤ count_of net (nets item)

pub found_in : {X : Type 0} (nets : X → List ℕ) (net : ℕ) (xs : List X) → 1 ≤ count_of net (flat_map nets xs) → IsFound nets net xs
unfolding count_of
found_in nets net [] some = absurd (omega (arith, some))
found_in nets net (x ∷ xs) some = by (count_of net (nets x)) refl (found_in nets net xs)
  where
    by : (count : ℕ) → count_of net (nets x) ≡ count → (1 ≤ count_of net (flat_map nets xs) → IsFound nets net xs) → IsFound nets net (x ∷ xs)
    by zero is later =
        let both = count-append net (nets x) (flat_map nets xs) in
        let found = later (omega (arith, some, both, is)) in
        record { place = suc found.place; item = found.item; at = found.at; here = found.here }
    by (suc count) is later = record { place = 0; item = x; at = refl; here = omega (arith, is) }

module _ (chip : LinkedChip) (joints : Joints) (are : AreJoints chip joints) (net : ℕ) where
  module _ (wired : IsWired chip) (on_path : is_scan_path chip net ≡ true) where
    ends_reported : tally_at joints.ends net ≡ up_to_three (ends_of chip net)
    ends_reported = are.ends net ∙ ap up_to_three (path_ends chip net wired on_path)

    pub not_two : (tally_at joints.ends net ≡ 2 → ⊥) → (chain : List ℕ) → RunsOut chip net chain → ⊥
    not_two other chain runs = other (ends_reported ∙ ap up_to_three (link_of chip net chain runs))

    pub is_two : tally_at joints.ends net ≡ 2 → IsLink chip net
    is_two two = two_of (ends_of chip net) (sym ends_reported ∙ two)

  pub is_out : (tally_at joints.outs net ≡ 0 → ⊥) → IsOut chip net
  unfolding count_of
  is_out some =
      let found = found_in out_nets net chip.ports counted_out in
      (found.place, subst (λ o. IsSomeAnd o (λ (port : PortBit). (port.is_input ≡ false) × (port.net ≡ net))) (sym found.at) (of_port found.item found.here))
    where
      counted_out : 1 ≤ count_of net (flat_map out_nets chip.ports)
      counted_out = by (count_of net (flat_map out_nets chip.ports)) refl
        where
          by : (count : ℕ) → count_of net (flat_map out_nets chip.ports) ≡ count → 1 ≤ count
          by zero is = absurd (some (are.outs net ∙ ap up_to_three is))
          by (suc count) is = omega arith

      of_port : (port : PortBit) → 1 ≤ count_of net (out_nets port) → (port.is_input ≡ false) × (port.net ≡ net)
      of_port port here = by port.is_input refl here
        where
          by : (input : Bool) → port.is_input ≡ input → 1 ≤ count_of net (if input then [] else port.net ∷ []) → (port.is_input ≡ false) × (port.net ≡ net)
          by true is none = absurd (nothing none)
            where
              nothing : 1 ≤ count_of net [] → ⊥
              nothing none = omega (arith, none)
          by false is one = (is, only one)
            where
              only : 1 ≤ count_of net (port.net ∷ []) → port.net ≡ net
              only one = equal (eqb net port.net) refl one
                where
                  equal : (test : Bool) → eqb net port.net ≡ test → 1 ≤ (if test then 1 else 0) + 0 → port.net ≡ net
                  equal true same one = sym (eqb-true net port.net same)
                  equal false same one = absurd (omega (arith, one))

  pub no_taker : tally_at joints.outs net ≡ 0 → taker_at joints.takers net ≡ None → (chain : List ℕ) → RunsOut chip net chain → ⊥
  no_taker no_out none [] runs =
      let outs = none_of (count_of net (flat_map out_nets chip.ports)) (sym (are.outs net) ∙ no_out) in
      let out = goes_out chip net runs.1 in
      omega (arith, outs, out)
  no_taker no_out none (u ∷ chain) runs =
      let place = scan_place chip u (is_scan u runs.2) in
      subst (IsTakerAmong chip (length (scans_of chip)) net) none (are.takers net) place.0 u (slice_get_within (scans_of chip) place.0 u place.1) place.1 runs.2
    where
      of_body : (body : Body) → HasOnPin Si net body → IsScan body
      of_body (Gate cell inputs outputs) is = absurd is
      of_body (Scan nets) is = tt

      is_scan : (u : ℕ) → IsOnPin chip Si u net → IsScanAt chip u
      is_scan u there = by (slice_get chip.parts u) there
        where
          by : (o : Option Part) → IsSomeAnd o (λ part. HasOnPin Si net part.body) → IsSomeAnd o (λ part. IsScan part.body)
          by None is = absurd is
          by (Some part) is = of_body part.body is

  pub taken : (u : ℕ) → taker_at joints.takers net ≡ Some u → IsOnPin chip Si u net
  taken u reported = subst (IsTakerAmong chip (length (scans_of chip)) net) reported (are.takers net)

-- nothing is followed yet
pub begin_followed : (chip : LinkedChip) (net : ℕ) → 1 ≤ drivers_of chip net → is_scan_path chip net ≡ true → IsFollowed chip net [] net
begin_followed chip net driven on_path = record {
  driven = driven;
  on_path = on_path;
  on = λ rest runs. runs;
  back = λ chain runs. (chain, refl, runs);
}

module _ (chip : LinkedChip) (start : ℕ) (done : List ℕ) (net : ℕ) (is : IsFollowed chip start done net) where
  -- one scan instance more
  pub more_followed : (u next : ℕ) → IsLink chip net → IsOnPin chip Si u net → IsOnPin chip So u next → IsFollowed chip start (done ++ u ∷ []) next
  more_followed u next link takes leaves = record {
    driven = so_drives chip next u leaves;
    on_path = so_on_path chip u next leaves;
    on = λ rest runs. subst (RunsOut chip start) (sym (append_assoc done (u ∷ []) rest)) (is.on (u ∷ rest) (next, link, takes, leaves, runs));
    back = λ chain runs. let found = is.back chain runs in by chain found.0 found.1 found.2;
  }
    where
      by : (chain rest : List ℕ) → chain ≡ done ++ rest → RunsOut chip net rest → (more : List ℕ) × (chain ≡ (done ++ u ∷ []) ++ more) × RunsOut chip next more
      by chain [] same runs = absurd (not_both chip net u is.driven link runs.1 takes)
      by chain (v ∷ rest) same runs =
          let one : v ≡ u = same_taker chip net v u is.driven link runs.2 takes in
          let one_next = one_net chip So u runs.0 next (subst (λ w. IsOnPin chip So w runs.0) one runs.3) leaves in (
            rest,
            same ∙ ap (λ w. done ++ w ∷ rest) one ∙ sym (append_assoc done (u ∷ []) rest),
            subst (λ n. RunsOut chip n rest) one_next runs.4,
          )

  pub out_followed : RunsOut chip net [] → RunsOut chip start done
  out_followed out = subst (RunsOut chip start) (append_nil done) (is.on [] out)

  pub none_followed : ((chain : List ℕ) → RunsOut chip net chain → ⊥) → (chain : List ℕ) → RunsOut chip start chain → ⊥
  none_followed none chain runs = let found = is.back chain runs in none found.0 found.2

  pub long_followed : length chip.parts < length done → (chain : List ℕ) → RunsOut chip start chain → ⊥
  long_followed long chain runs =
      let found = is.back chain runs in
      let size = ap length found.1 ∙ length-append done found.0 in
      let few = run_length chip start chain runs in
      omega (arith, long, size, few)

-- what begins at a port bit that is no input, or is off the scan path
pub no_input : (chip : LinkedChip) (p : ℕ) → IsSomeAnd (slice_get chip.ports p) (λ port. port.is_input ≡ false) → (chain : List ℕ) → IsChainFrom chip p chain → ⊥
no_input chip p output chain is = by (slice_get chip.ports p) output is.at
  where
    by : (o : Option PortBit) → IsSomeAnd o (λ port. port.is_input ≡ false) → IsSomeAnd o (λ port. (port.is_input ≡ true) × (port.net ≡ is.net)) → ⊥
    by None one two = one
    by (Some port) one two = let clash : false ≡ true = sym one ∙ two.0 in cc

pub port_net_is : (chip : LinkedChip) (p net : ℕ) (chain : List ℕ) → IsSomeAnd (slice_get chip.ports p) (λ port. port.net ≡ net) → (is : IsChainFrom chip p chain) → is.net ≡ net
port_net_is chip p net chain there is = by (slice_get chip.ports p) there is.at
  where
    by : (o : Option PortBit) → IsSomeAnd o (λ port. port.net ≡ net) → IsSomeAnd o (λ port. (port.is_input ≡ true) × (port.net ≡ is.net)) → is.net ≡ net
    by None one two = absurd one
    by (Some port) one two = sym two.1 ∙ one

pub off_path_from : (chip : LinkedChip) (p net : ℕ) → IsSomeAnd (slice_get chip.ports p) (λ port. port.net ≡ net) → is_scan_path chip net ≡ false
    → (chain : List ℕ) → IsChainFrom chip p chain → ⊥
off_path_from chip p net there off [] is = let some = is.some in omega (arith, some)
off_path_from chip p net there off (u ∷ chain) is =
    let clash : true ≡ false = sym (si_on_path chip u is.net is.runs.2) ∙ ap (is_scan_path chip) (port_net_is chip p net (u ∷ chain) there is) ∙ off in
    cc

-- what begins at a port bit whose net has no run, or the empty one
pub no_run_from : (chip : LinkedChip) (p net : ℕ) → IsSomeAnd (slice_get chip.ports p) (λ port. port.net ≡ net) → ((chain : List ℕ) → RunsOut chip net chain → ⊥)
    → (chain : List ℕ) → IsChainFrom chip p chain → ⊥
no_run_from chip p net there none chain is =
    none chain (subst (λ n. RunsOut chip n chain) (port_net_is chip p net chain there is) is.runs)

-- a port bit with its direction and its net
pub at_port : (chip : LinkedChip) (p net : ℕ) → IsSomeAnd (slice_get chip.ports p) (λ port. port.net ≡ net) → IsSomeAnd (slice_get chip.ports p) (λ port. port.is_input ≡ true)
    → IsAtPort chip true p net
at_port chip p net there input = by (slice_get chip.ports p) there input
  where
    by : (o : Option PortBit) → IsSomeAnd o (λ port. port.net ≡ net) → IsSomeAnd o (λ port. port.is_input ≡ true)
        → IsSomeAnd o (λ port. (port.is_input ≡ true) × (port.net ≡ net))
    by None one two = one
    by (Some port) one two = (two, one)

-- the port bit drives its net
pub port_net_drives : (chip : LinkedChip) (p net : ℕ) (input : Bool) → input ≡ true → IsSomeAnd (slice_get chip.ports p) (λ port. port.net ≡ net)
    → IsSomeAnd (slice_get chip.ports p) (λ port. port.is_input ≡ input) → 1 ≤ drivers_of chip net
port_net_drives chip p net input is there of_input =
    port_drives chip net p (at_port chip p net there (subst (λ b. IsSomeAnd (slice_get chip.ports p) (λ (port : PortBit). port.is_input ≡ b)) is of_input))

pub empty_run_from : (chip : LinkedChip) (p net : ℕ) (run : List ℕ) → IsSomeAnd (slice_get chip.ports p) (λ port. port.net ≡ net) → length run ≡ 0
    → RunsOut chip net run → (chain : List ℕ) → IsChainFrom chip p chain → ⊥
empty_run_from chip p net run there none runs chain is =
    let also = subst (λ n. RunsOut chip n chain) (port_net_is chip p net chain there is) is.runs in
    let driven = subst (λ n. 1 ≤ drivers_of chip n) (port_net_is chip p net chain there is) (port_drives chip is.net p is.at) in
    let size = ap length (one_run chip net run chain driven runs also) in
    let some = is.some in
    omega (arith, none, size, some)
