-- What flips of an instance's outputs change in 64 lanes.
use Rattle.std.specs.List.{All, Contains}
use Rattle.std.specs.Prelude.{not}
use Rattle.std.proofs.Common.{◌≡◌, ◌≢◌, ℕ, Bool, true, false, zero, suc, ◌+◌, ◌<◌, ◌≤◌, ◌⊎◌, ◌&&◌, ◌||◌, ◌++◌, ◌∷◌, [], List, length, inl, inr, refl, sym, ◌∙◌, ap, subst, arith, get_or}
use Rattle.std.proofs.lemmas.Bool.{cases_eq}
use Rattle.std.proofs.lemmas.List.Elements.{Contains-get_or}
use Rattle.ca_net.specs.declared.trit.Trit.{Trit}
use Rattle.ca_net.specs.declared.trit.Trit.TheVariants.{X}
use Rattle.ca_net.specs.State.{value_at}
use Rattle.ca_cell.specs.Exposes.{opposite_of}
use Rattle.ca_planes.specs.declared.block.Block.{Block}
use Rattle.ca_planes.specs.declared.trits.Trits.{Trits}
use Rattle.ca_planes.specs.Plane.{has_lane}
use Rattle.ca_planes.specs.Trits.{HasNodes, state_in, trit_for, trit_in}
use Rattle.ca_planes.proofs.BitLemmas.{in_none}
use Rattle.ca_planes.proofs.ValueLemmas.{length-values_in}
use Rattle.ca_flat.specs.Chip.{Chip, IsChip, outputs_at, output_net}
use Rattle.ca_view.specs.Linked.{IsPlaced}
use Rattle.ca_sweep.specs.declared.seen.Flips.{Flips}
use Rattle.ca_sweep.specs.Seen.{flipped_if, flipped_outputs, is_flipped}
use Rattle.ca_every_vector.specs.code.Lanes.{AreLanesSpread, AreSameLanes, InEach, InLanes, StaysFor}
use Rattle.ca_every_vector.specs.code.Spread.{AreFlippedOut, IsPutAt, StaysSomehow}
use Rattle.ca_every_vector.proofs.LaneLemmas.{both_true, one_true}
use Rattle.ca_every_vector.proofs.SpreadLemmas.{each_choice, listed_known, spread_none, spread_put, spread_touched}

-- a lane has as many values as the block has nodes
pub state_length : (block : Block) (nodes : ℕ) → HasNodes nodes block → (lane : ℕ) → length (state_in block lane) ≡ nodes
state_length block nodes has lane = length-values_in block.zeros.items block.ones.items lane (has.ones ∙ sym has.zeros) ∙ has.zeros

-- a net of u or of a listed instance is given a value in each lane
pub lanes_put : (chip : Chip) (place_of : ℕ → ℕ) (u : ℕ) (values old new : Block) (changed relisted touched : List ℕ) (w output net : ℕ) (value : Trits)
    → AreLanesSpread chip place_of u values old changed touched → IsPlaced chip place_of w → (w ≡ u) ⊎ Contains touched w → output < outputs_at chip w → output_net chip w output ≡ net
    → net < length chip.nets → length new.zeros.items ≡ length old.zeros.items → length new.ones.items ≡ length old.ones.items
    → InEach (λ lane. IsPutAt net (trit_in value lane) (state_in old lane) changed (state_in new lane) relisted)
    → AreLanesSpread chip place_of u values new relisted touched
lanes_put chip place_of u values old new changed relisted touched w output net value spread placed by within on known zeros ones put = record {
  nodes = record { zeros = zeros ∙ spread.nodes.zeros; ones = ones ∙ spread.nodes.ones };
  each = λ lane low. spread_put chip place_of u (state_in values lane) (state_in old lane) (state_in new lane) changed relisted touched w output net (trit_in value lane)
      (spread.each lane low) placed by within on (subst (λ n. net < n) (sym (state_length old (length chip.nets) spread.nodes lane)) known) (put lane low);
}

-- one instance more is listed
pub lanes_more : (chip : Chip) (place_of : ℕ → ℕ) (u : ℕ) (values others : Block) (changed touched retouched : List ℕ) (w v : ℕ)
    → AreLanesSpread chip place_of u values others changed touched → IsPlaced chip place_of w → v ≡ w → retouched ≡ touched ++ v ∷ []
    → AreLanesSpread chip place_of u values others changed retouched
lanes_more chip place_of u values others changed touched retouched w v spread placed same is = record {
  nodes = spread.nodes;
  each = λ lane low. spread_touched chip place_of u (state_in values lane) (state_in others lane) changed touched retouched w v (spread.each lane low) placed same is;
}

-- before anything changes
pub lanes_none : (chip : Chip) (place_of : ℕ → ℕ) (u : ℕ) (values others : Block) (changed touched : List ℕ) → HasNodes (length chip.nets) values → HasNodes (length chip.nets) others
    → AreSameLanes others values → changed ≡ [] → touched ≡ [] → AreLanesSpread chip place_of u values others changed touched
lanes_none chip place_of u values others changed touched nets nodes same none_changed none_touched = record {
  nodes = nodes;
  each = λ lane low. spread_none chip place_of u (state_in values lane) (state_in others lane) changed touched (state_length values (length chip.nets) nets lane) (same lane low) none_changed none_touched;
}

not_true : (b : Bool) → not b ≡ true → b ≡ false
not_true true is = let e : false ≡ true = is in absurd cc
not_true false is = refl

-- what holds in the lanes of no plane
pub no_lanes : (P : ℕ → Type 0) → InLanes 0 P
no_lanes P lane low has = let e : true ≡ false = sym has ∙ in_none lane in absurd cc

-- what holds in the lanes of two planes
pub both_lanes : (result a b : ℕ) (P Q R : ℕ → Type 0) → ((lane : ℕ) → has_lane result lane ≡ (has_lane a lane && has_lane b lane)) → InLanes a P → InLanes b Q
    → ((lane : ℕ) → lane < 64 → P lane → Q lane → R lane) → InLanes result R
both_lanes result a b P Q R is one other then lane low has =
    let each = both_true (has_lane a lane) (has_lane b lane) (sym (is lane) ∙ has) in
    then lane low (one lane low each.0) (other lane low each.1)

-- what holds in the lanes of either plane
pub either_lanes : (result a b : ℕ) (P : ℕ → Type 0) → ((lane : ℕ) → has_lane result lane ≡ (has_lane a lane || has_lane b lane)) → InLanes a P → InLanes b P → InLanes result P
either_lanes result a b P is one other lane low has = elim (one_true (has_lane a lane) (has_lane b lane) (sym (is lane) ∙ has)) [
  | inl here ↦ one lane low here
  | inr there ↦ other lane low there
]

-- what holds in the lanes of a plane that another one doesn't have
pub except_lanes : (result a b : ℕ) (P Q R : ℕ → Type 0) → ((lane : ℕ) → has_lane result lane ≡ (has_lane a lane && not (has_lane b lane))) → InLanes a P
    → ((lane : ℕ) → has_lane b lane ≡ false → Q lane) → ((lane : ℕ) → lane < 64 → P lane → Q lane → R lane) → InLanes result R
except_lanes result a b P Q R is one other then lane low has =
    let each = both_true (has_lane a lane) (not (has_lane b lane)) (sym (is lane) ∙ has) in
    then lane low (one lane low each.0) (other lane (not_true (has_lane b lane) each.1))

-- the value that may be 0 where another one may be 1, and 1 where it may be 0 or can't be 1
pub opposite_for : (z o all flip ex : Bool) → all ≡ true → ex ≡ (all && not o) → flip ≡ (z || ex) → trit_for o flip ≡ opposite_of (trit_for z o)
opposite_for z o all flip ex is ex_is flip_is = ap (trit_for o) (flip_is ∙ ap (λ b. z || b) (ex_is ∙ ap (λ b. b && not o) is)) ∙ by z o
  where
    by : (z o : Bool) → trit_for o (z || (true && not o)) ≡ opposite_of (trit_for z o)
    by true true = refl
    by true false = refl
    by false true = refl
    by false false = refl

-- the first output nets of u are known, and the others there are the opposite where the pins are flipped
pub record AreFlippedTo (chip : Chip) (u : ℕ) (values others : List Trit) (flips : Flips) (end : ℕ) : Type 0 where
  pub own : (output : ℕ) → output < end → value_at values (output_net chip u output) ≢ X
  pub given : (output : ℕ) → output < end → value_at others (output_net chip u output) ≡ flipped_outputs chip u (value_at values) flips output

pub flipped_more : (chip : Chip) (u : ℕ) (values others : List Trit) (flips : Flips) (end : ℕ) → AreFlippedTo chip u values others flips end
    → value_at values (output_net chip u end) ≢ X → value_at others (output_net chip u end) ≡ flipped_outputs chip u (value_at values) flips end
    → AreFlippedTo chip u values others flips (end + 1)
flipped_more chip u values others flips end so_far own given = record {
  own = λ o less. elim (cases_eq o end) [
    | inl e ↦ subst (λ k. value_at values (output_net chip u k) ≢ X) (sym e) own
    | inr other ↦ so_far.own o (omega (arith, other))
  ];
  given = λ o less. elim (cases_eq o end) [
    | inl e ↦ subst (λ k. value_at others (output_net chip u k) ≡ flipped_outputs chip u (value_at values) flips k) (sym e) given
    | inr other ↦ so_far.given o (omega (arith, other))
  ];
}

pub flipped_all : (chip : Chip) (u : ℕ) (values others : List Trit) (flips : Flips) (end : ℕ) → outputs_at chip u ≤ end → AreFlippedTo chip u values others flips end
    → AreFlippedOut chip u values others flips
flipped_all chip u values others flips end past so_far = record {
  own = λ output within. so_far.own output (omega arith);
  given = λ output within. so_far.given output (omega arith);
}

-- where no pin is flipped the values stay
pub own_stays : (chip : Chip) (u : ℕ) (values : List Trit) → ((output : ℕ) → output < outputs_at chip u → value_at values (output_net chip u output) ≢ X)
    → StaysFor chip u values false false
own_stays chip u values own flips first second = (
  value_at values,
  record {
    own = own;
    given = λ output within. kept output (value_at values (output_net chip u output));
    inputs = λ net within kind. refl;
    each = λ w known apart. inl (record { pins = λ pin within. refl; outputs = λ output within. refl });
    unseen = λ place less. refl;
  },
)
  where
    kept : (output : ℕ) (value : Trit) → value ≡ flipped_if (is_flipped flips output) value
    kept zero value = ap (λ b. flipped_if b value) (sym first)
    kept (suc output) value = ap (λ b. flipped_if b value) (sym second)

-- of an instance with one output the flip of the second doesn't matter
pub alone_stays : (chip : Chip) (u : ℕ) (values : List Trit) (first second : Bool) → outputs_at chip u < 2 → StaysFor chip u values first false → StaysFor chip u values first second
alone_stays chip u values first second few stays flips one two =
    let at : StaysSomehow chip u values (record { first = first; second = false }) = stays (record { first = first; second = false }) refl refl in (
      at.0,
      record {
        own = at.1.own;
        given = λ output within. at.1.given output within ∙ ap (λ b. flipped_if b (value_at values (output_net chip u output))) (same output within);
        inputs = at.1.inputs;
        each = at.1.each;
        unseen = at.1.unseen;
      },
    )
  where
    same : (output : ℕ) → output < outputs_at chip u → is_flipped (record { first = first; second = false }) output ≡ is_flipped flips output
    same zero within = sym one
    same (suc output) within = absurd (omega arith)

-- what holds where a plane has no lane
pub lanes_without : (result all other : ℕ) (P : ℕ → Type 0) → ((lane : ℕ) → has_lane result lane ≡ (has_lane all lane && not (has_lane other lane)))
    → ((lane : ℕ) → has_lane other lane ≡ false → P lane) → InLanes result P
lanes_without result all other P is without lane low has =
    without lane (not_true (has_lane other lane) (both_true (has_lane all lane) (not (has_lane other lane)) (sym (is lane) ∙ has)).1)

-- what is listed are nets of the chip
pub listed_nets : (chip : Chip) (place_of rank : ℕ → ℕ) (u : ℕ) (values others : Block) (changed touched list : List ℕ) → IsChip chip rank
    → AreLanesSpread chip place_of u values others changed touched → list ≡ changed → All (λ net. net < length chip.nets) list
listed_nets chip place_of rank u values others changed touched list is spread same = λ k d less.
    listed_known chip place_of rank u (state_in values 0) (state_in others 0) changed touched (get_or list k d) is (spread.each 0 (omega arith))
    (subst (λ items. Contains items (get_or list k d)) same (Contains-get_or list k d less))

-- lanes in which each choice of output pins stays inside
pub all_choices : (chip : Chip) (u : ℕ) (values : Block) (none first more rest all : ℕ) → ((lane : ℕ) → has_lane rest lane ≡ (has_lane first lane && has_lane more lane))
    → ((lane : ℕ) → has_lane all lane ≡ (has_lane none lane && has_lane rest lane))
    → InLanes none (λ lane. StaysFor chip u (state_in values lane) false false) → InLanes first (λ lane. StaysFor chip u (state_in values lane) true false)
    → InLanes more (λ lane. StaysFor chip u (state_in values lane) false true) → InLanes more (λ lane. StaysFor chip u (state_in values lane) true true)
    → InLanes all (λ lane. (flips : Flips) → StaysSomehow chip u (state_in values lane) flips)
all_choices chip u values none first more rest all rest_is all_is neither one other two lane low has =
    let outer = both_true (has_lane none lane) (has_lane rest lane) (sym (all_is lane) ∙ has) in
    let inner = both_true (has_lane first lane) (has_lane more lane) (sym (rest_is lane) ∙ outer.1) in
    each_choice (StaysSomehow chip u (state_in values lane)) (one lane low inner.0) (other lane low inner.1) (two lane low inner.1) (neither lane low outer.0)
