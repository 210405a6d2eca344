-- What one level adds, as it is found device by device.
use Rattle.std.proofs.Common.{◌≡◌, ◌≢◌, ℕ, ◌+◌, ◌<◌, ◌≤◌, ◌↔◌, List, true, false, length, sym, ◌∙◌, ap, subst, inl, inr}
use Rattle.std.proofs.Common.{arith, get_or, set, get_or-set_same, get_or-set_other, replicate}
use Rattle.std.specs.Prelude.{Some, slice_get}
use Rattle.std.proofs.Math.Decide.{dec_le}
use Rattle.std.proofs.lemmas.Bool.{cases_Bool}
use Rattle.std.proofs.lemmas.List.{get_or-replicate, length-replicate, get_or_past}
use Rattle.std.proofs.lemmas.Option.{get_or_from_slice_get, slice_get_within}
use Rattle.ca_net.specs.declared.scale.TheConstants.{INPUT}
use Rattle.ca_net.specs.Circuit.{Circuit, IsWellFormed, HasStrength}
use Rattle.ca_net.proofs.ScaleLemmas.{strength_below_input}
use Rattle.ca_planes.proofs.BitLemmas.{in_none}
use native.Mathlib.Decide.{ℕ_discrete}
use Rattle.ca_net.specs.declared.trit.Trit.{Trit}
use Rattle.ca_net.specs.declared.device.Device.{Device}
use Rattle.ca_net.specs.declared.device.DeviceKind.{DeviceKind}
use Rattle.ca_net.specs.declared.device.DeviceKind.TheVariants.{D}
use Rattle.ca_net.specs.declared.path_kind.PathKind.{PathKind}
use Rattle.ca_net.specs.declared.path_kind.PathKind.TheVariants.{Definite, Potential}
use Rattle.ca_net.specs.Passing.{PassesAt}
use Rattle.ca_planes.specs.declared.block.Block.{Block}
use Rattle.ca_planes.specs.Plane.{has_lane, lane_at}
use Rattle.ca_planes.specs.Trits.{state_in}
use Rattle.ca_levels.specs.Given.{IsCarriedByNone}
use Rattle.ca_levels.specs.code.Come.{RaisesSome, AreClosed, AreIdle}
use Rattle.ca_levels.specs.code.Advance.{IsPassing, AreLinked, HaveBegun, IsSpread}
use Rattle.ca_levels.proofs.LeadLemmas.{no_device, raises_some_none}

-- where no place has a lane, none has
no_lane : (planes : List ℕ) (count : ℕ) → planes ≡ replicate count 0 → (n lane : ℕ) → lane_at planes n lane ≡ true → ⊥
no_lane planes count are n lane has =
    let zero : get_or planes n 0 ≡ 0 = ap (λ xs. get_or xs n 0) are ∙ zeros_at count n in
    let e : false ≡ true = sym (ap (λ w. has_lane w lane) zero ∙ in_none lane) ∙ has in
    cc
  where
    zeros_at : (count n : ℕ) → ◌≡◌ {A = ℕ} (get_or (replicate count 0) n 0) 0
    zeros_at count n = elim (dec_le (n + 1) count) [
      | yes lt ↦ get_or-replicate count n 0 0 (omega arith)
      | no ge ↦ get_or_past (replicate count 0) n 0 (subst (λ x. x ≤ n) (sym (length-replicate count 0)) (omega arith))
    ]

-- a device that always conducts lets paths of both kinds through
pub always_passes : (kind : PathKind) (device : DeviceKind) (gate : Trit) → device ≡ D → PassesAt kind device gate
always_passes Definite device gate is = subst (λ d. PassesAt Definite d gate) (sym is) tt
always_passes Potential device gate is = subst (λ d. PassesAt Potential d gate) (sym is) (λ never. never)

-- one link more
pub linked_more : (devices : List Device) (from : Block) (kind : PathKind) (level : ℕ) (links : List ℕ) (i word : ℕ) → i < length links
    → ((lane : ℕ) → lane < 64 → (has_lane word lane ≡ true) ↔ IsPassing (get_or devices i no_device) (state_in from lane) kind level)
    → AreLinked i devices from kind level links → AreLinked (i + 1) devices from kind level (set links i word)
linked_more devices from kind level links i word within here before k d lane lt low is = elim (ℕ_discrete k i) [
  | yes e ↦
      let put : get_or (set links i word) k 0 ≡ word = ap (λ j. get_or (set links i word) j 0) e ∙ get_or-set_same links i word 0 within in
      let device : get_or devices i no_device ≡ d = ap (λ j. get_or devices j no_device) (sym e) ∙ get_or_from_slice_get devices k d no_device is in
      subst (λ x. (has_lane x lane ≡ true) ↔ IsPassing d (state_in from lane) kind level) (sym put)
      (subst (λ x. (has_lane word lane ≡ true) ↔ IsPassing x (state_in from lane) kind level) device (here lane low))
  | no ne ↦
      subst (λ x. (has_lane x lane ≡ true) ↔ IsPassing d (state_in from lane) kind level) (sym (get_or-set_other links i k word 0 ne))
      (before k d lane (omega (arith, lt, ne)) low is)
]

-- where no device has just this strength, the links of the stronger ones are those of all at least as strong
pub linked_unused : (devices : List Device) (from : Block) (kind : PathKind) (level count : ℕ) (links : List ℕ) → IsCarriedByNone devices level
    → AreLinked count devices from kind (level + 1) links → AreLinked count devices from kind level links
linked_unused devices from kind level count links none linked i d lane lt low is =
    let both = linked i d lane lt low is in (
      λ has. let p = both.0 has in let le : level + 1 ≤ d.strength = p.0 in (omega arith, p.1),
      λ p. let le : level ≤ d.strength = p.0 in let ne : d.strength ≢ level = none i d is in both.1 (omega (arith, le, ne), p.1),
    )

-- no device is stronger than an input node, so links that no device has are theirs
pub linked_none : (net : Circuit) → IsWellFormed net → (devices : List Device) (from : Block) (kind : PathKind) (count room : ℕ) (links : List ℕ)
    → devices ≡ net.devices → links ≡ replicate room 0 → AreLinked count devices from kind (INPUT + 1) links
linked_none net well_formed devices from kind count room links same are i d lane lt low is = (
  λ has. absurd (no_lane links room are i lane has),
  λ p.
      let le : INPUT + 1 ≤ d.strength = p.0 in
      let there : slice_get net.devices i ≡ Some d = subst (λ xs. slice_get xs i ≡ Some d) same is in
      let has : HasStrength d = subst HasStrength (get_or_from_slice_get net.devices i d d there) (well_formed.strengths i d (slice_get_within net.devices i d there)) in
      let below : d.strength < INPUT = strength_below_input d has in
      absurd (omega (arith, le, below)),
)

-- nothing comes over them, and nothing over any from nowhere
pub idle_none : (devices : List Device) (links : List ℕ) (count : ℕ) → links ≡ replicate count 0 → (blocked : List ℕ) → AreIdle devices links blocked
idle_none devices links count are blocked reached i lt d lane m n is has ends free there = absurd (no_lane links count are i lane has)

pub closed_none : (devices : List Device) (links blocked reached : List ℕ) (count : ℕ) → reached ≡ replicate count 0 → AreClosed devices links blocked reached
closed_none devices links blocked reached count are i lt d lane m n is has ends free there = absurd (no_lane reached count are m lane there)

-- where more is blocked, no more comes
pub closed_more : (devices : List Device) (links blocked more reached : List ℕ) → ((n lane : ℕ) → lane_at blocked n lane ≡ true → lane_at more n lane ≡ true)
    → AreClosed devices links blocked reached → AreClosed devices links more reached
closed_more devices links blocked more reached kept h i lt d lane m n is has ends free there = h i lt d lane m n is has ends still there
  where
    still : lane_at blocked n lane ≡ false
    still = elim (cases_Bool (lane_at blocked n lane)) [
      | inl e ↦ absurd (let no : true ≡ false = sym (kept n lane e) ∙ free in cc)
      | inr e ↦ e
    ]

-- what was reached is
pub spread_keeps : (devices : List Device) (own : List ℕ) (level : ℕ) (links source blocked old new : List ℕ) → length old ≡ length own
    → IsSpread devices own level links source blocked old new → (n lane : ℕ) → lane_at old n lane ≡ true → lane_at new n lane ≡ true
spread_keeps devices own level links source blocked old new room h n lane has = elim (dec_le (n + 1) (length own)) [
  | yes le ↦ h.raises.kept lane n ((h.begun n lane (omega arith)).1 (inl has))
  | no ge ↦
      let past : get_or old n 0 ≡ 0 = get_or_past old n 0 (omega (arith, room)) in
      absurd (let e : false ≡ true = sym (ap (λ w. has_lane w lane) past ∙ in_none lane) ∙ has in cc)
]

-- nothing begins, and nothing goes on
pub spread_still : (devices : List Device) (own : List ℕ) (level : ℕ) (links source blocked old new : List ℕ) → length new ≡ length own
    → HaveBegun (length own) own level source blocked old new → AreClosed devices links blocked new → IsSpread devices own level links source blocked old new
spread_still devices own level links source blocked old new room begun closed = record {
  first = new;
  room = room;
  begun = begun;
  raises = raises_some_none devices links blocked new;
  closed = closed;
}

pub spread_on : (devices : List Device) (own : List ℕ) (level : ℕ) (links source blocked old first new : List ℕ) → length first ≡ length own
    → HaveBegun (length own) own level source blocked old first → RaisesSome devices links blocked first new → AreClosed devices links blocked new
    → IsSpread devices own level links source blocked old new
spread_on devices own level links source blocked old first new room begun raises closed =
    record { first = first; room = room; begun = begun; raises = raises; closed = closed }
