-- Regions all vectors of which are tried, 64 at a time.
use Rattle.std.proofs.Common.{◌≡◌, ℕ, ◌+◌, ◌-◌, ◌*◌, ◌^◌, ◌≤◌, List, inl, inr, sym, ◌∙◌, ap, subst, arith, pow-add, replicate, true, false}
use Rattle.std.proofs.lemmas.Bool.{cases_lt}
use Rattle.std.proofs.lemmas.List.{get_or_default, get_or_past, get_or-replicate, length-replicate, same_lists}
use Rattle.ca_sweep.specs.Tables.{is_marked}
use Rattle.ca_net.specs.declared.trit.Trit.TheVariants.{X}
use Rattle.ca_planes.specs.declared.block.Block.{Block}
use Rattle.ca_planes.specs.Trits.{state_in}
use Rattle.ca_net.specs.State.{value_at}
use Rattle.ca_flat.specs.Chip.{Chip}
use Rattle.ca_every_vector.specs.code.Masks.{AreMore, mask_at}
use Rattle.ca_every_vector.specs.code.Region.{AreKnownWithin, AreNetsIn, IsTriedAt, IsTriedTo}
use Rattle.ca_every_vector.specs.code.Lanes.{AreFixedLanes, AreLanesKnown, AreLanesWithin, AreSameLanes, AreSameLanesOutside, HasLastsInLanes, IsTriedInLanes, number_in, values_of}
use Rattle.ca_every_vector.proofs.RegionLemmas.{known_listed, same_outside}
use Rattle.ca_every_vector.proofs.TriedLemmas.{inside_more}

-- six bits are 64 lanes
pub blocks_enough : (inputs count : ℕ) → 6 ≤ inputs → count ≡ 2 ^ (inputs - 6) → 2 ^ inputs ≤ 64 * count
blocks_enough inputs count past is =
    let e : inputs ≡ 6 + (inputs - 6) = omega arith in
    let power : 2 ^ inputs ≡ 2 ^ 6 * 2 ^ (inputs - 6) = ap (λ n. 2 ^ n) e ∙ pow-add 2 6 (inputs - 6) in
    omega (arith, power, is)

-- what matters in each lane is tried
pub tried_in_lanes : (chip : Chip) (inputs : List ℕ) (block u : ℕ) (values : Block) (masks : List ℕ) → AreLanesKnown chip inputs block values
    → HasLastsInLanes chip values u (mask_at masks u) → IsTriedInLanes chip inputs block masks u
tried_in_lanes chip inputs block u values masks known has lane low pair for = record {
  values = values_of values lane;
  known = known lane low pair for;
  has = has lane low;
}

-- one block more
pub block_more : (chip : Chip) (inputs : List ℕ) (block u : ℕ) (old new : List ℕ) → AreMore old new → IsTriedTo chip inputs (64 * block) old u
    → IsTriedInLanes chip inputs block new u → IsTriedTo chip inputs (64 * (block + 1)) new u
block_more chip inputs block u old new more before here number less = elim (cases_lt number (64 * block)) [
  | inl low ↦ λ pair for. inside_more chip u (mask_at old u) (mask_at new u) pair (more.each u) (before number low pair for)
  | inr past ↦
      let lane = number - 64 * block in
      let e : number_in block (number - 64 * block) ≡ number = omega arith in
      subst (λ n. IsTriedAt chip inputs n new u) e (here (number - 64 * block) (omega arith))
]

-- values of a region in each lane, and those from which it began
pub lanes_same_outside : (chip : Chip) (inputs parts nets : List ℕ) (values before others : Block) → AreLanesWithin chip inputs parts values → AreLanesWithin chip inputs parts before
    → AreSameLanes others before → AreNetsIn chip inputs parts nets → AreSameLanesOutside values others nets
lanes_same_outside chip inputs parts nets values before others one two same listed lane low =
    same_outside chip inputs parts nets (state_in values lane) (state_in others lane) (one lane low)
    (subst (AreKnownWithin chip inputs parts) (sym (same lane low)) (two lane low)) listed

-- before a region constants alone give values
pub fixed_within : (chip : Chip) (inputs parts : List ℕ) (values fixed : Block) → AreFixedLanes chip fixed → AreSameLanes values fixed → AreLanesWithin chip inputs parts values
fixed_within chip inputs parts values fixed is same lane low net = inl (ap (λ list. value_at list net) (same lane low) ∙ (is.each lane low).each net)

-- so they do after it, but at its nets
pub fixed_outside : (chip : Chip) (inputs parts nets : List ℕ) (values fixed : Block) → AreFixedLanes chip fixed → AreLanesWithin chip inputs parts values
    → AreNetsIn chip inputs parts nets → AreSameLanesOutside fixed values nets
fixed_outside chip inputs parts nets values fixed is within listed lane low net = elim (known_listed chip inputs parts nets (state_in values lane) (within lane low) listed net) [
  | inl same ↦ inl (same ∙ sym ((is.each lane low).each net))
  | inr has ↦ inr has
]

pub within_same : (chip : Chip) (inputs parts : List ℕ) (values others : Block) → AreLanesWithin chip inputs parts values → AreSameLanes others values → AreLanesWithin chip inputs parts others
within_same chip inputs parts values others within same lane low = subst (AreKnownWithin chip inputs parts) (sym (same lane low)) (within lane low)

pub same_then : (one two three : Block) → AreSameLanes one two → AreSameLanes two three → AreSameLanes one three
same_then one two three first second lane low = first lane low ∙ second lane low

pub same_back : (one two : Block) → AreSameLanes one two → AreSameLanes two one
same_back one two same lane low = sym (same lane low)

-- the values that constants give are one
pub fixed_same : (chip : Chip) (one other : Block) → AreFixedLanes chip one → AreFixedLanes chip other → AreSameLanes one other
fixed_same chip one other first second lane low =
    let a = first.each lane low in
    let b = second.each lane low in
    same_lists (state_in one lane) (state_in other lane) (a.room ∙ sym b.room) (λ k d less.
    get_or_default (state_in one lane) k d X less ∙ a.each k ∙ sym (b.each k)
    ∙ sym (get_or_default (state_in other lane) k d X (let r = a.room in let s = b.room in omega arith)))

-- where nothing is marked, nothing is
pub unmarked : (count u : ℕ) → is_marked (replicate count false) u ≡ true → ⊥
unmarked count u marked =
    let none : is_marked (replicate count false) u ≡ false = elim (cases_lt u count) [
      | inl low ↦ get_or-replicate count u false false low
      | inr past ↦ get_or_past (replicate count false) u false (let r = length-replicate count false in omega arith)
    ] in
    let e : false ≡ true = sym none ∙ marked in cc
