-- From the nodes that paths reach to responses.
use Rattle.std.proofs.Common.{min, ◌≡◌, ◌≢◌, ℕ, ◌+◌, ◌-◌, ◌<◌, ◌≤◌, ◌^◌, ◌++◌, ◌↔◌, List, Bool, true, false, length, take, drop}
use Rattle.std.proofs.Common.{inl, inr, refl, sym, ◌∙◌, ap, subst, arith, get_or, replicate}
use Rattle.std.proofs.Math.Decide.{dec_le}
use Rattle.std.proofs.lemmas.List.{get_or-replicate}
use Rattle.std.proofs.lemmas.Grind.{common_steps}
use Rattle.std.proofs.lemmas.Option.{slice_get-get_or, slice_get_within, get_or_from_slice_get}
use Rattle.ca_net.specs.declared.scale.TheConstants.{INPUT}
use Rattle.ca_net.specs.declared.trit.Trit.{Trit}
use Rattle.ca_net.specs.declared.trit.Trit.TheVariants.{Zero, One, X}
use Rattle.ca_net.specs.declared.node.NodeKind.{NodeKind}
use Rattle.ca_net.specs.declared.node.NodeKind.TheVariants.{Input, Storage}
use Rattle.ca_net.specs.declared.device.Device.{Device}
use Rattle.ca_net.specs.declared.path_kind.PathKind.{PathKind}
use Rattle.ca_net.specs.declared.path_kind.PathKind.TheVariants.{Definite, Potential}
use Rattle.ca_net.specs.Circuit.{Circuit, IsWellFormed, HasSize, HasStrength, NamesWithin, kind_at}
use Rattle.ca_net.specs.State.{value_at}
use Rattle.ca_net.specs.Path.{Path, Root, Via, root_of, IsPath, strength_of, root_strength, IsPotential, IsDefinite}
use Rattle.ca_net.specs.Response.{HasStronger, IsBlocked, AllGive, StorageResponse, ResponseAt, IsResponse, AreResponses}
use Rattle.ca_relax.specs.Groups.{HaveOwnStrengths}
use Rattle.ca_relax.proofs.OwnLemmas.{size_below_input, strength_of-pos}
use Rattle.ca_planes.specs.declared.block.Block.{Block}
use Rattle.ca_planes.specs.Plane.{has_lane, lane_at}
use Rattle.ca_planes.specs.Trits.{trit_for, value_in, values_in, state_in, HasNodes}
use Rattle.ca_planes.proofs.BitLemmas.{in_none, in_all}
use Rattle.ca_planes.proofs.ValueLemmas.{length-values_in, value_at-values_in, may_be_one}
use Rattle.ca_levels.specs.declared.levels.Levels.{Levels}
use Rattle.ca_levels.specs.Levels.{with_devices, AreSomeOf}
use Rattle.ca_levels.specs.code.Come.{AreClosed, AreIdle}
use Rattle.ca_levels.specs.code.Advance.{IsAdvanced, IsSpread, AreLinked}
use Rattle.ca_levels.specs.code.Way.{IsFree, HasWay, HasOther, AreThose}
use Rattle.ca_levels.specs.code.Reached.{IsLoaded, IsReachedIn, AreKept, IsSpreadTo}
use Rattle.ca_levels.proofs.AdvanceLemmas.{linked_unused, linked_none, idle_none, closed_none}
use Rattle.ca_levels.specs.Given.{IsGivenByNone, IsCarriedByNone}
use Rattle.std.specs.Prelude.{Some, slice_get}
use Rattle.std.specs.List.{All}
use Rattle.ca_relax.proofs.JoinedLemmas.{placed}
use Rattle.ca_levels.proofs.WayLemmas.{advanced, weaker}

-- what is written back to a list of the same length
pub written_back : (new old : List ℕ) (count : ℕ) → count ≡ length new → take count (new ++ drop (length new) old) ≡ new
written_back new old count same = grind (arith, common_steps, same)

-- no path is stronger than an input node
at_most_input : (net : Circuit) → IsWellFormed net → (p : Path) → IsPath net p → strength_of net p ≤ INPUT
at_most_input net well_formed (Root r) is_path = root_at_most (kind_at net r) (well_formed.sizes r Input is_path)
  where
    root_at_most : (kind : NodeKind) → HasSize kind → root_strength kind ≤ INPUT
    root_at_most Input sized = omega arith
    root_at_most (Storage size) sized = let lt : size < INPUT = size_below_input size sized in omega arith
at_most_input net well_formed (Via p d n) is_path = let le : strength_of net p ≤ INPUT = at_most_input net well_formed p is_path.0 in omega arith

-- every definite path is a way from any root, which nothing blocks
module _ (net : Circuit) (s : List Trit) where
  definite_free : (p : Path) → IsDefinite s p → IsFree net s Definite (λ n k. ⊥) p
  definite_free (Root r) definite = λ never. never
  definite_free (Via p d n) definite = (definite_free p definite.0, definite.1, λ never. never)

  free_definite : (p : Path) → IsFree net s Definite (λ n k. ⊥) p → IsDefinite s p
  free_definite (Root r) free = tt
  free_definite (Via p d n) free = (free_definite p free.0, free.1)

  way_of_stronger : (n k : ℕ) → HasStronger net s n k → HasWay net s Definite (λ m j. ⊥) (λ r. Unit {0}) n k
  way_of_stronger n k h = record { path = h.path; is_path = h.is_path; free = definite_free h.path h.definite; begins = tt; ends = h.ends; stronger = h.stronger }

  stronger_of_way : (n k : ℕ) → HasWay net s Definite (λ m j. ⊥) (λ r. Unit {0}) n k → HasStronger net s n k
  stronger_of_way n k w = record { path = w.path; is_path = w.is_path; ends = w.ends; definite = free_definite w.path w.free; stronger = w.stronger }

  stronger_falls : (n i j : ℕ) → i ≤ j → HasStronger net s n j → HasStronger net s n i
  stronger_falls n i j le h =
      let lt : j < strength_of net h.path = h.stronger in
      record { path = h.path; is_path = h.is_path; ends = h.ends; definite = h.definite; stronger = omega arith }

  -- a path that may reach a node is free
  free_of : (p : Path) → IsPotential s p → (IsBlocked net s p → ⊥) → IsFree net s Potential (HasStronger net s) p
  free_of (Root r) potential unblocked = unblocked
  free_of (Via p d n) potential unblocked = (free_of p potential.0 (λ b. unblocked (inl b)), potential.1, λ b. unblocked (inr b))

  free_potential : (p : Path) → IsFree net s Potential (HasStronger net s) p → IsPotential s p
  free_potential (Root r) free = tt
  free_potential (Via p d n) free = (free_potential p free.0, free.1)

  free_unblocked : (p : Path) → IsFree net s Potential (HasStronger net s) p → IsBlocked net s p → ⊥
  free_unblocked (Root r) free blocked = free blocked
  free_unblocked (Via p d n) free (inl blocked) = free_unblocked p free.0 blocked
  free_unblocked (Via p d n) free (inr blocked) = free.2 blocked

  trit_is : (a b : Trit) → ((a ≡ b → ⊥) → ⊥) → a ≡ b
  trit_is Zero Zero h = refl
  trit_is One One h = refl
  trit_is X X h = refl
  trit_is Zero One h = absurd (h (λ e. cc))
  trit_is Zero X h = absurd (h (λ e. cc))
  trit_is One Zero h = absurd (h (λ e. cc))
  trit_is One X h = absurd (h (λ e. cc))
  trit_is X Zero h = absurd (h (λ e. cc))
  trit_is X One h = absurd (h (λ e. cc))

  -- where no path of another value reaches a node, all give the value
  all_give : IsWellFormed net → (n : ℕ) (value : Trit) → (HasOther net s value n 0 → ⊥) → AllGive net s n value
  all_give well_formed n value none p r = trit_is (value_at s (root_of p)) value (λ ne. none (record {
    path = p;
    is_path = r.is_path;
    free = free_of p r.potential r.unblocked;
    begins = ne;
    ends = r.ends;
    stronger = strength_of-pos net well_formed p r.is_path;
  }))

  not_all : (n : ℕ) (value : Trit) → HasOther net s value n 0 → AllGive net s n value → ⊥
  not_all n value w all =
      w.begins (all w.path (record { is_path = w.is_path; ends = w.ends; potential = free_potential w.path w.free; unblocked = free_unblocked w.path w.free }))

  -- the response of a storage node, by which paths reach it
  storage_response : IsWellFormed net → (n : ℕ) (z o : Bool) → (o ≡ true) ↔ HasOther net s Zero n 0 → (z ≡ true) ↔ HasOther net s One n 0
      → StorageResponse net s n (trit_for z o)
  storage_response well_formed n true true not_zero not_one = (not_all n Zero (not_zero.0 refl), not_all n One (not_one.0 refl))
  storage_response well_formed n false true not_zero not_one = all_give well_formed n One (λ w. let e = not_one.1 w in let no : ⊥ = cc in no)
  storage_response well_formed n true false not_zero not_one = all_give well_formed n Zero (λ w. let e = not_zero.1 w in let no : ⊥ = cc in no)
  storage_response well_formed n false false not_zero not_one = all_give well_formed n Zero (λ w. let e = not_zero.1 w in let no : ⊥ = cc in no)

-- no path is stronger than an input node, so no lane is there at first
module _ (net : Circuit) (well_formed : IsWellFormed net) (s : List Trit) (lane : ℕ) (stronger zeros ones : List ℕ) where
  pub none_reached : stronger ≡ replicate (length net.nodes) 0 → zeros ≡ replicate (length net.nodes) 0 → ones ≡ replicate (length net.nodes) 0
      → IsReachedIn net s lane INPUT stronger zeros ones
  none_reached is_stronger is_zeros is_ones = record {
    stronger_there = λ pos n lt. (λ has. absurd (no_lane stronger is_stronger n lt has), λ h. absurd (too_strong h.path h.is_path h.stronger));
    not_one = λ n lt. (λ has. absurd (no_lane zeros is_zeros n lt has), λ w. absurd (too_strong w.path w.is_path w.stronger));
    not_zero = λ n lt. (λ has. absurd (no_lane ones is_ones n lt has), λ w. absurd (too_strong w.path w.is_path w.stronger));
  } where
    no_lane : (planes : List ℕ) → planes ≡ replicate (length net.nodes) 0 → (n : ℕ) → n < length net.nodes → lane_at planes n lane ≡ true → ⊥
    no_lane planes are n lt has =
        let zero : get_or planes n 0 ≡ 0 = ap (λ xs. get_or xs n 0) are ∙ get_or-replicate (length net.nodes) n 0 0 lt in
        let e : false ≡ true = sym (ap (λ w. has_lane w lane) zero ∙ in_none lane) ∙ has in
        cc

    too_strong : (p : Path) → IsPath net p → INPUT < strength_of net p → ⊥
    too_strong p is_path lt = let le : strength_of net p ≤ INPUT = at_most_input net well_formed p is_path in omega arith

-- one level more
pub reached_more : (whole : Circuit) (devices : List Device) → IsWellFormed (with_devices whole devices) → (from : Block) (levels : Levels) (level lane : ℕ) (zeros ones new_stronger new_zeros new_ones : List ℕ)
    → 0 < level → lane < 64 → HasNodes (length whole.nodes) from → IsLoaded whole from levels
    → IsReachedIn (with_devices whole devices) (state_in from lane) lane level levels.stronger.items zeros ones
    → IsAdvanced devices levels.own.items from Potential level from.ones.items levels.stronger.items ones new_ones
    → IsAdvanced devices levels.own.items from Potential level levels.not_ones.items levels.stronger.items zeros new_zeros
    → (0 < level - 1 → IsAdvanced devices levels.own.items from Definite level levels.all.items levels.none.items levels.stronger.items new_stronger)
    → IsReachedIn (with_devices whole devices) (state_in from lane) lane (level - 1) new_stronger new_zeros new_ones
reached_more whole devices well_formed from levels level lane zeros ones new_stronger new_zeros new_ones some low nodes loaded above by_ones by_zeros by_stronger =
    let net = with_devices whole devices in
    let s = state_in from lane in
    let holds = loaded.holds in
    let is : level ≡ level - 1 + 1 = omega (arith, some) in
    let same : length from.ones.items ≡ length from.zeros.items = nodes.ones ∙ sym nodes.zeros in
    let others : AreThose net lane (λ r. value_at s r ≢ Zero) from.ones.items =
    λ n lt.
    let at = value_at-values_in from.zeros.items from.ones.items lane n same (omega (arith, lt, nodes.zeros)) in
    subst (λ v. (lane_at from.ones.items n lane ≡ true) ↔ (v ≢ Zero)) (sym at) (may_be_one (lane_at from.zeros.items n lane) (lane_at from.ones.items n lane))
    in
    let not_ones : AreThose net lane (λ r. value_at s r ≢ One) levels.not_ones.items = λ n lt. loaded.not_ones n lane (omega (arith, lt, nodes.zeros)) low in
    let all : AreThose net lane (λ r. Unit {0}) levels.all.items =
    λ n lt.
    let full : get_or levels.all.items n 0 ≡ 2 ^ 64 - 1 = ap (λ xs. get_or xs n 0) holds.room.all ∙ get_or-replicate (length net.nodes) n (2 ^ 64 - 1) 0 lt in
    (λ has. tt, λ t. ap (λ w. has_lane w lane) full ∙ in_all lane low)
    in
    let none : AreThose net lane (λ n. ⊥) levels.none.items =
    λ n lt.
    let zero : get_or levels.none.items n 0 ≡ 0 = ap (λ xs. get_or xs n 0) holds.room.none ∙ get_or-replicate (length net.nodes) n 0 0 lt in
    (λ has. let e : false ≡ true = sym (ap (λ w. has_lane w lane) zero ∙ in_none lane) ∙ has in cc, λ never. absurd never)
    in
    let strong = λ (pos : 0 < level - 1). advanced net from Definite (λ n k. ⊥) (λ r. Unit {0}) well_formed (level - 1) lane level devices levels.own.items levels.all.items
    levels.none.items levels.stronger.items new_stronger is low refl holds.room.own holds.own (λ n i j le never. never) none all
    (λ n lt. let both = above.stronger_there some n lt in (λ has. way_of_stronger net s n level (both.0 has), λ w. both.1 (stronger_of_way net s n level w))) (by_stronger pos) in
    record {
      stronger_there = λ pos n lt. let both = strong pos n lt in
          (λ has. stronger_of_way net s n (level - 1) (both.0 has), λ h. both.1 (way_of_stronger net s n (level - 1) h));
      not_one = advanced net from Potential (HasStronger net s) (λ r. value_at s r ≢ One) well_formed (level - 1) lane level devices levels.own.items
          levels.not_ones.items levels.stronger.items zeros new_zeros is low refl holds.room.own holds.own (stronger_falls net s) (above.stronger_there some) not_ones
          above.not_one by_zeros;
      not_zero = advanced net from Potential (HasStronger net s) (λ r. value_at s r ≢ Zero) well_formed (level - 1) lane level devices levels.own.items
          from.ones.items levels.stronger.items ones new_ones is low refl holds.room.own holds.own (stronger_falls net s) (above.stronger_there some) others
          above.not_zero by_ones;
    }

-- the nodes that any path reaches, and the values of the input nodes, are the responses
pub responses_of : (net : Circuit) → IsWellFormed net → (from : Block) (own stronger zeros ones new_zeros new_ones : List ℕ) (lane : ℕ)
    → HasNodes (length net.nodes) from → length own ≡ length net.nodes → HaveOwnStrengths net (length net.nodes) own
    → length new_zeros ≡ length net.nodes → length new_ones ≡ length net.nodes
    → IsReachedIn net (state_in from lane) lane 0 stronger zeros ones
    → AreKept (length own) own from.zeros.items zeros new_zeros → AreKept (length own) own from.ones.items ones new_ones
    → AreResponses net (state_in from lane) (values_in new_zeros new_ones lane)
responses_of net well_formed from own stronger zeros ones new_zeros new_ones lane nodes count owns room_zeros room_ones reached kept_zeros kept_ones = record {
  is_state = length-values_in new_zeros new_ones lane (room_ones ∙ sym room_zeros) ∙ room_zeros;
  responds = λ n lt.
      subst (IsResponse net (state_in from lane) n) (sym (value_at-values_in new_zeros new_ones lane n (room_ones ∙ sym room_zeros) (omega (arith, lt, room_zeros))))
      (at n lt (kind_at net n) refl (well_formed.sizes n Input lt));
} where
  at : (n : ℕ) → n < length net.nodes → (kind : NodeKind) → kind_at net n ≡ kind → HasSize kind
      → ResponseAt kind net (state_in from lane) n (value_in (get_or new_zeros n 0) (get_or new_ones n 0) lane)
  at n lt Input is sized =
      let strong : get_or own n 0 ≡ INPUT = owns n lt ∙ ap root_strength is in
      let within : n < length own = omega (arith, lt, count) in
      let same : length from.ones.items ≡ length from.zeros.items = nodes.ones ∙ sym nodes.zeros in
      ap (λ z. value_in z (get_or new_ones n 0) lane) (kept_zeros.input n within (omega (arith, strong)))
      ∙ ap (λ o. value_in (get_or from.zeros.items n 0) o lane) (kept_ones.input n within (omega (arith, strong)))
      ∙ sym (value_at-values_in from.zeros.items from.ones.items lane n same (omega (arith, lt, nodes.zeros)))
  at n lt (Storage size) is sized =
      let own_is : get_or own n 0 ≡ size = owns n lt ∙ ap root_strength is in
      let below : size < INPUT = size_below_input size sized in
      let within : n < length own = omega (arith, lt, count) in
      let zero_is = kept_zeros.storage n within (omega (arith, own_is, below)) in
      let one_is = kept_ones.storage n within (omega (arith, own_is, below)) in
      storage_response net (state_in from lane) well_formed n (lane_at new_zeros n lane) (lane_at new_ones n lane)
      (subst (λ o. (has_lane o lane ≡ true) ↔ HasOther net (state_in from lane) Zero n 0) (sym one_is) (reached.not_zero n lt))
      (subst (λ z. (has_lane z lane ≡ true) ↔ HasOther net (state_in from lane) One n 0) (sym zero_is) (reached.not_one n lt))

-- a level's clause in other words for its lists
pub read_as : {level : ℕ} {devices devices_read : List Device} {own own_read links links_read source source_read blocked blocked_read old old_read new : List ℕ}
    → devices ≡ devices_read → own ≡ own_read → links ≡ links_read → source ≡ source_read → blocked ≡ blocked_read → old ≡ old_read
    → IsSpread devices own level links source blocked old new → IsSpread devices_read own_read level links_read source_read blocked_read old_read new
read_as {level} {devices} {devices_read} {own} {own_read} {links} {links_read} {source} {source_read} {blocked} {blocked_read} {old} {old_read} {new} e f l g h i a =
    subst (λ x. IsSpread x own_read level links_read source_read blocked_read old_read new) e
    (subst (λ x. IsSpread devices x level links_read source_read blocked_read old_read new) f
    (subst (λ x. IsSpread devices own level x source_read blocked_read old_read new) l
    (subst (λ x. IsSpread devices own level links x blocked_read old_read new) g
    (subst (λ x. IsSpread devices own level links source x old_read new) h
    (subst (λ x. IsSpread devices own level links source blocked x new) i a)))))

-- and so what it asks of links and of what was reached
pub linked_as : (from : Block) (kind : PathKind) (level : ℕ) {devices devices_read : List Device} {links links_read : List ℕ} → devices_read ≡ devices → links_read ≡ links
    → AreLinked (length devices) devices from kind level links → AreLinked (length devices_read) devices_read from kind level links_read
linked_as from kind level {devices} {devices_read} {links} {links_read} e f a =
    subst (λ x. AreLinked (length x) x from kind level links_read) (sym e) (subst (AreLinked (length devices) devices from kind level) (sym f) a)

pub closed_as : {devices devices_read : List Device} {links links_read blocked blocked_read reached reached_read : List ℕ} → devices_read ≡ devices → links_read ≡ links
    → blocked_read ≡ blocked → reached_read ≡ reached → AreClosed devices links blocked reached → AreClosed devices_read links_read blocked_read reached_read
closed_as {devices} {devices_read} {links} {links_read} {blocked} {blocked_read} {reached} {reached_read} e f g h a =
    subst (λ x. AreClosed x links_read blocked_read reached_read) (sym e)
    (subst (λ x. AreClosed devices x blocked_read reached_read) (sym f)
    (subst (λ x. AreClosed devices links x reached_read) (sym g) (subst (AreClosed devices links blocked) (sym h) a)))

pub idle_as : {devices devices_read : List Device} {links links_read blocked blocked_read : List ℕ} → devices_read ≡ devices → links_read ≡ links → blocked_read ≡ blocked
    → AreIdle devices links blocked → AreIdle devices_read links_read blocked_read
idle_as e f g a reached = closed_as e f g refl (a reached)

-- an entry that was read and is false
pub read_false : (xs : List Bool) (i : ℕ) (x : Bool) → i < length xs → x ≡ get_or xs i x → x ≡ false → slice_get xs i ≡ Some false
read_false xs i x lt read is = slice_get-get_or xs i x lt ∙ ap Some (sym read ∙ is)

-- and so those that are kept
pub kept_as : {own own_read from from_read old old_read new : List ℕ} → own ≡ own_read → from ≡ from_read → old ≡ old_read
    → AreKept (length own) own from old new → AreKept (length own_read) own_read from_read old_read new
kept_as {own} {own_read} {from} {from_read} {old} {old_read} {new} e f g a =
    subst (λ x. AreKept (length x) x from_read old_read new) e
    (subst (λ x. AreKept (length own) own x old_read new) f (subst (λ x. AreKept (length own) own from x new) g a))

pub zeros_as : (m n : ℕ) → m ≡ n → ◌≡◌ {A = List ℕ} (replicate m 0) (replicate n 0)
zeros_as m n e = ap (λ (k : ℕ). replicate {A = ℕ} k 0) e

-- where no node and no device has a strength, no path has
module _ (net : Circuit) (own : List ℕ) (devices : List Device) (level : ℕ) (count : length own ≡ length net.nodes) (owns : HaveOwnStrengths net (length net.nodes) own)
    (same : devices ≡ net.devices) (given : IsGivenByNone own level) (carried : IsCarriedByNone devices level) where
  not_as_strong : (p : Path) → IsPath net p → strength_of net p ≢ level
  not_as_strong (Root r) is_path = λ e. given r (omega (arith, is_path, count)) (owns r is_path ∙ e)
  not_as_strong (Via p d n) is_path =
      let before : strength_of net p ≢ level = not_as_strong p is_path.0 in
      let here : d.strength ≢ level = carried is_path.1.0 d (subst (λ xs. slice_get xs is_path.1.0 ≡ Some d) (sym same) (placed net d is_path.1)) in
      λ e.
      let is : min (strength_of net p) d.strength ≡ level = e in
      elim (dec_le (strength_of net p) d.strength) [
        | yes le ↦ before (omega (arith, is, le))
        | no gt ↦ here (omega (arith, is, gt))
      ]

  -- so a level of that strength adds nothing
  pub reached_unused : (s : List Trit) (lane : ℕ) (stronger zeros ones : List ℕ) → 0 < level → IsReachedIn net s lane level stronger zeros ones
      → IsReachedIn net s lane (level - 1) stronger zeros ones
  reached_unused s lane stronger zeros ones some h = record {
    stronger_there = λ pos n lt. let both = h.stronger_there some n lt in (
      λ has. stronger_falls net s n (level - 1) level (omega arith) (both.0 has),
      λ w. both.1 (record { path = w.path; is_path = w.is_path; ends = w.ends; definite = w.definite; stronger = more w.path w.is_path w.stronger }),
    );
    not_one = λ n lt. let both = h.not_one n lt in (
      λ has. weaker net s Potential (HasStronger net s) (λ r. value_at s r ≢ One) n level (level - 1) (omega arith) (both.0 has),
      λ w. both.1 (record { path = w.path; is_path = w.is_path; free = w.free; begins = w.begins; ends = w.ends; stronger = more w.path w.is_path w.stronger }),
    );
    not_zero = λ n lt. let both = h.not_zero n lt in (
      λ has. weaker net s Potential (HasStronger net s) (λ r. value_at s r ≢ Zero) n level (level - 1) (omega arith) (both.0 has),
      λ w. both.1 (record { path = w.path; is_path = w.is_path; free = w.free; begins = w.begins; ends = w.ends; stronger = more w.path w.is_path w.stronger }),
    );
  } where
    more : (p : Path) → IsPath net p → level - 1 < strength_of net p → level < strength_of net p
    more p is_path lt = let ne : strength_of net p ≢ level = not_as_strong p is_path in omega (arith, some, lt, ne)

-- and so do the links
pub spread_unused : (devices : List Device) (from : Block) (level : ℕ) (levels : Levels) (out : Block) → 0 < level → IsCarriedByNone devices level
    → IsSpreadTo devices from level levels out → IsSpreadTo devices from (level - 1) levels out
spread_unused devices from level levels out some none h =
    let is : level ≡ level - 1 + 1 = omega (arith, some) in
    let potential = linked_unused devices from Potential level (length devices) levels.potential.items none h.potential in
    let definite = linked_unused devices from Definite level (length devices) levels.definite.items none h.definite in
    record {
      potential = subst (λ k. AreLinked (length devices) devices from Potential k levels.potential.items) is potential;
      definite = subst (λ k. AreLinked (length devices) devices from Definite k levels.definite.items) is definite;
      zeros = h.zeros;
      ones = h.ones;
      stronger = λ pos. h.stronger some;
      potential_none = λ le. h.potential_none (omega arith);
      definite_none = λ le. h.definite_none (omega arith);
    }

-- at first nothing is reached, and over no link anything comes
pub spread_none : (net : Circuit) → IsWellFormed net → (from : Block) (levels : Levels) (out : Block) (room : ℕ)
    → levels.potential.items ≡ replicate room 0 → levels.definite.items ≡ replicate room 0
    → levels.stronger.items ≡ replicate (length net.nodes) 0 → out.zeros.items ≡ replicate (length net.nodes) 0 → out.ones.items ≡ replicate (length net.nodes) 0
    → IsSpreadTo net.devices from INPUT levels out
spread_none net well_formed from levels out room potential definite stronger zeros ones =
    let devices = net.devices in
    record {
      potential = linked_none net well_formed devices from Potential (length devices) room levels.potential.items refl potential;
      definite = linked_none net well_formed devices from Definite (length devices) room levels.definite.items refl definite;
      zeros = closed_none devices levels.potential.items levels.stronger.items out.zeros.items (length net.nodes) zeros;
      ones = closed_none devices levels.potential.items levels.stronger.items out.ones.items (length net.nodes) ones;
      stronger = λ pos. closed_none devices levels.definite.items levels.none.items levels.stronger.items (length net.nodes) stronger;
      potential_none = λ le. idle_none devices levels.potential.items room potential;
      definite_none = λ le. idle_none devices levels.definite.items room definite;
    }

-- some devices of a well-formed network, with its nodes, are one
pub some_well_formed : (net : Circuit) (devices : List Device) → IsWellFormed net → AreSomeOf net devices → IsWellFormed (with_devices net devices)
some_well_formed net devices well_formed some = record {
  few_nodes = well_formed.few_nodes;
  few_devices = let few = some.few in let most = well_formed.few_devices in omega (arith, few, most);
  named = λ i d lt. at i d lt (NamesWithin (length net.nodes)) well_formed.named;
  sizes = well_formed.sizes;
  strengths = λ i d lt. at i d lt HasStrength well_formed.strengths;
} where
  at : (i : ℕ) (d : Device) → i < length devices → (P : Device → Type 0) → All P net.devices → P (get_or devices i d)
  at i d lt P all =
      let has = some.among i d lt in
      subst P has.2 (all has.0 (get_or devices i d) has.1)

-- a strength that no device of the network has, none of some of them has
pub some_carried : (net : Circuit) (devices : List Device) (level : ℕ) → AreSomeOf net devices → IsCarriedByNone net.devices level → IsCarriedByNone devices level
some_carried net devices level some none i d is =
    let lt = slice_get_within devices i d is in
    let has = some.among i d lt in
    subst (λ (x : Device). x.strength ≢ level) (get_or_from_slice_get devices i d d is)
    (none has.0 (get_or devices i d) (placed net (get_or devices i d) has))

-- above the lowest strength there is one
pub not_lowest : (level : ℕ) (last : Bool) → (last ≡ true → level ≡ 1) → 0 < level - 1 → last ≡ false
not_lowest level true is pos = absurd (let e = is refl in omega (arith, e, pos))
not_lowest level false is pos = refl
