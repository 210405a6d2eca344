use Rattle.std.proofs.Common.{◌≡◌, ◌⊎◌, ℕ, List, sym, subst, arith}
use Rattle.std.specs.List.{All, Contains}
use Rattle.ca_net.specs.declared.trit.Trit.{Trit}
use Rattle.ca_net.specs.State.{value_at}
use Rattle.ca_flat.specs.Chip.{inputs_at}
use Rattle.ca_flips.specs.Known.{AreKnownLasts}
use Rattle.ca_view.specs.Linked.{IsPlaced, place_in}
use Rattle.ca_every_vector.specs.code.Masks.{mask_at}
use Rattle.ca_every_vector.specs.code.Region.{AreKnownWithin, HasLastsAt, IsForNumber, IsFull, IsTriedAt}
use Rattle.ca_every_vector.proofs.VectorLemmas.{row_count}
use Rattle.ca_every_vector.proofs.RegionLemmas.{same_outside}
use Rattle.ca_every_vector.proofs.TriedLemmas.{all_then, all_with, full_at, tried_at}
use Rattle.ca_every_vector.proofs.tried.try_number.Goals as goal

pub restore-requires-clause-same : goal.restore-requires-clause-same
restore-requires-clause-same c = λ net.
    let core = c.args.chip.now.core in
    let inputs = c.args.region.now.inputs.items in
    let parts = c.args.region.now.parts.items in
    let new = c.find_values.new.values in
    subst (λ (list : List ℕ). (value_at c.args.others.now net ≡ value_at c.find_values.new.values net) ⊎ Contains list net) (sym c.as_slice.ensures.value)
    (same_outside core inputs parts c.args.region.now.nets.items new c.args.others.now
    (subst (λ i. AreKnownWithin core i parts new) c.as_slice-inputs.ensures.value
    (subst (λ p. AreKnownWithin core c.as_slice-inputs.result.now p new) c.as_slice-parts.ensures.value c.find_values.ensures.within))
    (subst (AreKnownWithin core inputs parts) (sym c.requires.rest) c.requires.within) c.requires.region.nets_are net)

pub returns-then-are_known-clause-tried : goal.returns-then-are_known-clause-tried
returns-then-are_known-clause-tried c =
    let core = c.args.chip.now.core in
    let inputs = c.args.region.now.inputs.items in
    let number = c.args.number in
    let values = c.find_values.new.values in
    let masks = c.try_parts.new.masks in
    all_then (λ u. HasLastsAt core (value_at values) u (mask_at masks u)) (IsTriedAt core inputs number masks) c.args.region.now.fresh.items
    (λ u has. tried_at core inputs number u values masks
    (subst (λ i. (pair : List Trit) → IsForNumber core i number pair → AreKnownLasts core pair (value_at values)) c.as_slice-inputs.ensures.value (c.are_known.ensures c.if-are_known.true)) has)
    (subst (All (λ u. HasLastsAt core (value_at values) u (mask_at masks u))) c.as_slice-fresh.ensures.value c.in_ok-try_parts.ensures.lasts)

pub returns-clause-tried : goal.returns-clause-tried
returns-clause-tried c =
    let core = c.args.chip.now.core in
    let inputs = c.args.region.now.inputs.items in
    let masks = c.fill.new.masks in
    all_with (IsPlaced core (place_in c.args.chip.now.ranks)) (λ u. IsFull (mask_at masks u)) (IsTriedAt core inputs c.args.number masks) c.args.region.now.fresh.items
    (λ u placed full. full_at core inputs c.args.number u masks
    (let few = c.linked.ensures.nets.few_pins u placed.known in (row_count (inputs_at core u) (omega arith)).1) full)
    c.requires.region.fresh_placed (subst (All (λ u. IsFull (mask_at masks u))) c.as_slice-fresh.ensures.value c.fill.ensures.full)
