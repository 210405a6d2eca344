use Rattle.std.proofs.Common.{◌≡◌, ℕ, List, ◌++◌, ◌∷◌, [], length, ap, sym, ◌∙◌, subst, arith, rules, map}
use Rattle.std.specs.Prelude.{Option, None, replicate}
use Rattle.std.specs.List.{range_with_len}
use Rattle.std.proofs.lemmas.List.{length-replicate}
use Rattle.std.proofs.lemmas.List.FromFn.{length-range_with_len, map-range_with_len_more}
use Rattle.ca_pin_sets.specs.Groups.{alone, groups_after, groups_of}
use Rattle.ca_pin_sets.specs.Homes.{owners_after, owners_of, home_in, home_of}
use Rattle.ca_pin_sets.specs.code.Forest.{Realizes}
use Rattle.ca_pin_sets.proofs.LinkLemmas.{places_same}
use Rattle.ca_pin_sets.proofs.homes.homes_of.Goals as goal

pub join_all-requires-clause-places : goal.join_all-requires-clause-places
join_all-requires-clause-places c =
    let count : length c.in_ok-parents.parents.items ≡ length c.args.raw.now.nets =
    ap length c.in_ok-parents.ensures.parents ∙ length-range_with_len 0 c.len-nets.result ∙ c.len-nets.ensures in
    places_same (length c.args.raw.now.nets) (length c.in_ok-parents.parents.items) c.args.raw.now.devices c.as_slice-devices.result.now (sym count)
    (sym c.as_slice-devices.ensures) c.requires.places

pub claim_all-requires-clause-places : goal.claim_all-requires-clause-places
claim_all-requires-clause-places c =
    let count : length c.in_ok-parents.parents.items ≡ length c.args.raw.now.nets =
    ap length c.in_ok-parents.ensures.parents ∙ length-range_with_len 0 c.len-nets.result ∙ c.len-nets.ensures in
    places_same (length c.args.raw.now.nets) (length c.join_all.new.parents.items) c.args.raw.now.devices c.as_slice-devices.result.now
    (sym (c.join_all.ensures.count ∙ count)) (sym c.as_slice-devices.ensures) c.requires.places

pub claim_all-requires-clause-count : goal.claim_all-requires-clause-count
claim_all-requires-clause-count c =
    let count : length c.in_ok-parents.parents.items ≡ length c.args.raw.now.nets =
    ap length c.in_ok-parents.ensures.parents ∙ length-range_with_len 0 c.len-nets.result ∙ c.len-nets.ensures in
    let fresh : c.in_ok-owners.owners.items ≡ replicate c.len-nets.result None = search rules in
    ap length fresh ∙ length-replicate c.len-nets.result None ∙ c.len-nets.ensures ∙ sym (c.join_all.ensures.count ∙ count)

pub loop-net-init : goal.loop-net-init
loop-net-init c =
    let count : length c.in_ok-parents.parents.items ≡ length c.args.raw.now.nets =
    ap length c.in_ok-parents.ensures.parents ∙ length-range_with_len 0 c.len-nets.result ∙ c.len-nets.ensures in
    let fresh : c.in_ok-owners.owners.items ≡ replicate c.len-nets.result None =
    c.in_ok-owners.ensures.items_if_clones_equal (λ y it. search (rules, it)) in
    let all : c.len-nets.result ≡ length c.args.raw.now.nets = c.len-nets.ensures in
    let pins : c.as_slice-pins.result.now ≡ c.args.raw.now.pins = c.as_slice-pins.ensures in
    let devices : c.as_slice-devices.result.now ≡ c.args.raw.now.devices = c.as_slice-devices.ensures in
    let joined : Realizes c.join_all.new.parents.items (groups_of c.args.raw.now) =
    subst (Realizes c.join_all.new.parents.items) (λ j. groups_after (length (pins j)) (alone (all j)) (devices j))
    (c.join_all.ensures.joined (alone c.len-nets.result) c.in_ok-parents.ensures.realizes) in (
      c.claim_all.ensures.forest,
      c.claim_all.ensures.count ∙ c.join_all.ensures.count ∙ count,
      c.claim_all.ensures.as_many ∙ ap length fresh ∙ length-replicate c.len-nets.result None ∙ all,
      c.claim_all.ensures.kept (groups_of c.args.raw.now) joined,
      c.claim_all.ensures.claimed (groups_of c.args.raw.now) joined
          ∙ ap (λ (owners : List (Option ℕ)). owners_after c.as_slice-pins.result.now (groups_of c.args.raw.now) owners c.as_slice-devices.result.now) fresh
          ∙ (λ j. owners_after (pins j) (groups_of c.args.raw.now) (replicate (all j) None) (devices j)),
      c.new-homes.ensures.items,
    )

pub loop-net-preserved : goal.loop-net-preserved
loop-net-preserved c =
    let pins : c.as_slice-pins.result.now ≡ c.args.raw.now.pins = c.as_slice-pins.ensures in
    let owners : c.deref.result.now ≡ owners_of c.args.raw.now = c.deref.ensures.value ∙ c.loop-net.invariant.4 in
    let home : c.home_in.result ≡ home_of c.args.raw.now c.loop-net.net =
    c.home_in.ensures.home (groups_of c.args.raw.now) c.loop-net.invariant.3
    ∙ (λ j. home_in (length (pins j)) (groups_of c.args.raw.now) (owners j) c.loop-net.net) in
    let so_far : c.loop-net.homes.items ≡ map (home_of c.args.raw.now) (range_with_len 0 c.loop-net.net) = c.loop-net.invariant.5 in
    let pushed : c.loop-net.homes.items ++ c.home_in.result ∷ [] ≡ map (home_of c.args.raw.now) (range_with_len 0 c.loop-net.net) ++ home_of c.args.raw.now c.loop-net.net ∷ [] =
    λ j. so_far j ++ home j ∷ [] in (
      c.home_in.ensures.forest,
      c.home_in.ensures.count ∙ c.loop-net.invariant.1,
      c.loop-net.invariant.2,
      c.home_in.ensures.kept (groups_of c.args.raw.now) c.loop-net.invariant.3,
      c.loop-net.invariant.4,
      c.in_ok-push.ensures.items ∙ pushed
          ∙ sym (map-range_with_len_more (home_of c.args.raw.now) 0 c.loop-net.net c.loop-net.net (omega arith)),
    )
