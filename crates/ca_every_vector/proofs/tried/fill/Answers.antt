use Rattle.std.proofs.Common.{subst, arith}
use Rattle.std.proofs.lemmas.List.Elements.{All-get_or}
use Rattle.std.proofs.lemmas.Nat.Bits.{bit_at_ones}
use Rattle.std.proofs.lemmas.Option.{get_or_from_slice_get, slice_get_within}
use Rattle.ca_view.specs.Linked.{IsPlaced, place_in}
use Rattle.ca_every_vector.specs.code.Masks.{mask_at}
use Rattle.ca_every_vector.specs.code.Region.{IsFull}
use Rattle.ca_every_vector.proofs.MaskLemmas.{more_none, more_then}
use Rattle.ca_every_vector.proofs.TableLemmas.{all_more, all_taken}
use Rattle.ca_every_vector.proofs.TriedLemmas.{all_then}
use Rattle.ca_every_vector.proofs.tried.fill.Goals as goal

pub loop-place-init : goal.loop-place-init
loop-place-init c = record { full = λ k d low. absurd (omega arith); more = more_none c.args.masks.now }

pub add-requires : goal.add-requires
add-requires c =
    let u = c.entry.result in
    let parts = c.args.parts.now in
    let placed : IsPlaced c.args.chip.now.core (place_in c.args.chip.now.ranks) c.entry.result =
    subst (IsPlaced c.args.chip.now.core (place_in c.args.chip.now.ranks)) (get_or_from_slice_get parts c.loop-place.place u u c.entry.ensures)
    (All-get_or (IsPlaced c.args.chip.now.core (place_in c.args.chip.now.ranks)) parts c.loop-place.place u (slice_get_within parts c.loop-place.place u c.entry.ensures) c.requires.placed) in
    let known = placed.known in
    let room = c.loop-place.invariant.more.room in
    let first = c.requires.room in
    omega arith

pub loop-place-preserved : goal.loop-place-preserved
loop-place-preserved c =
    let u = c.entry.result in
    let old = c.loop-place.masks in
    let new = c.add.new.masks in
    record {
      full = all_more (λ w. IsFull (mask_at c.add.new.masks w)) c.args.parts.now c.loop-place.place c.entry.result c.entry.ensures
          (λ number low. c.add.ensures.added number (bit_at_ones 64 number low))
          (all_then (λ w. IsFull (mask_at old w)) (λ w. IsFull (mask_at new w)) _ (λ w full number low. c.add.ensures.more.each w number (full number low)) c.loop-place.invariant.full);
      more = more_then c.args.masks.now c.loop-place.masks c.add.new.masks c.loop-place.invariant.more c.add.ensures.more;
    }

pub returns-clause-full : goal.returns-clause-full
returns-clause-full c = all_taken (λ w. IsFull (mask_at c.loop-place.masks w)) c.args.parts.now c.loop-place.place (let past = c.loop-place-test.false in omega arith) c.loop-place.invariant.full
