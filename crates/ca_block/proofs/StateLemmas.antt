-- States that are written one node at a time.
use Rattle.std.proofs.Common.{◌≡◌, ℕ, ◌+◌, ◌*◌, ◌/◌, ◌%◌, ◌<◌, List, length, inl, inr, refl, sym, ◌∙◌, ap, subst, arith, set}
use Rattle.std.specs.Prelude.{Some, slice_get}
use Rattle.std.proofs.lemmas.Option.{get_or_from_slice_get, slice_get-get_or}
use Rattle.ca_net.specs.declared.trit.Trit.{Trit}
use Rattle.ca_net.specs.declared.trit.Trit.TheVariants.{Zero, One, X}
use Rattle.ca_net.specs.declared.node.NodeKind.{NodeKind}
use Rattle.ca_net.specs.declared.node.NodeKind.TheVariants.{Input, Storage}
use Rattle.ca_net.specs.Circuit.{Circuit, kind_at}
use Rattle.ca_net.specs.State.{value_at, IsState}
use Rattle.std.proofs.Math.Decide.{dec_le}
use Rattle.std.proofs.lemmas.List.{get_or_past, same_lists}
use Rattle.ca_net.specs.Trit.{IsBelow, meet_of}
use Rattle.ca_net.specs.State.{IsStateBelow}
use Rattle.ca_net.specs.Response.{IsResponse, AreResponses}
use Rattle.ca_net.proofs.StateLemmas.{storage_within}
use Rattle.ca_planes.specs.declared.block.Block.{Block}
use Rattle.ca_planes.specs.Trits.{HasNodes, state_in}
use Rattle.ca_planes.proofs.ValueLemmas.{length-values_in}
use Rattle.ca_block.specs.Limits.{source_lane}
use Rattle.ca_settle.specs.code.Phase.{IsUnknown, Begins}
use Rattle.ca_settle.specs.code.Turns.{HasSameValues, IsMetWith, AreBlurred, IsHeldUp, RisesTo}
use Rattle.ca_settle.proofs.TurnLemmas.{Rises, Falls, by_node, unknown_past}
use Rattle.ca_settle.proofs.WriteLemmas.{write_more}

-- the value with which a node begins
abbrev pub value_begun : NodeKind → Trit → Trit → Trit
value_begun Input given held = given
value_begun (Storage size) given held = held

-- the first nodes are written
abbrev pub BegunTo : Circuit → List Trit → List Trit → ℕ → List Trit → Type 0
BegunTo net v held n at = (m : ℕ) → m < n → value_at at m ≡ value_begun (kind_at net m) (value_at v m) (value_at held m)

begun_as_given : (kind : NodeKind) (given held : Trit) → kind ≡ Input → value_begun kind given held ≡ given
begun_as_given Input given held is = refl
begun_as_given (Storage size) given held is = cc

begun_as_held : (kind : NodeKind) (given held : Trit) → (kind ≡ Input → ⊥) → value_begun kind given held ≡ held
begun_as_held Input given held is = absurd (is refl)
begun_as_held (Storage size) given held is = refl

-- one more node is written
pub begun_more : (net : Circuit) (v held at new : List Trit) (n : ℕ) (kind : NodeKind) (x : Trit) → n < length at → new ≡ set at n x
    → slice_get net.nodes n ≡ Some kind → x ≡ value_begun kind (value_at v n) (value_at held n) → BegunTo net v held n at → BegunTo net v held (n + 1) new
begun_more net v held at new n kind x within put got is before =
    write_more (λ m y. y ≡ value_begun (kind_at net m) (value_at v m) (value_at held m)) at new n x within put before
    (is ∙ ap (λ k. value_begun k (value_at v n) (value_at held n)) (sym (get_or_from_slice_get net.nodes n kind Input got)))

-- each state of a block has a value per node
pub is_state : (nodes : ℕ) (block : Block) (lane : ℕ) → HasNodes nodes block → length (state_in block lane) ≡ nodes
is_state nodes block lane has = length-values_in block.zeros.items block.ones.items lane (has.ones ∙ sym has.zeros) ∙ has.zeros

-- all nodes are written
pub begins_of : (net : Circuit) (v held at : List Trit) → IsState net at → BegunTo net v held (length net.nodes) at → Begins net v held at
begins_of net v held at is begun = record {
  is_state = is;
  inputs = λ n i. begun n i.0 ∙ begun_as_given (kind_at net n) (value_at v n) (value_at held n) i.1;
  stored = λ n st. begun n (storage_within net n st) ∙ begun_as_held (kind_at net n) (value_at v n) (value_at held n) st;
}

-- what is unknown at each node is unknown everywhere
pub unknown_all : (s : List Trit) → ((n : ℕ) → n < length s → value_at s n ≡ X) → IsUnknown s
unknown_all s each n = elim (dec_le (n + 1) (length s)) [
  | yes lt ↦ each n (omega arith)
  | no ge ↦ get_or_past s n X (omega arith)
]

-- what is met at each node is met everywhere
pub met_all : (other old new : List Trit) → length other ≡ length new → length old ≡ length new
    → ((n : ℕ) → n < length new → value_at new n ≡ meet_of (value_at old n) (value_at other n)) → IsMetWith other old new
met_all other old new room room_old each n = elim (dec_le (n + 1) (length new)) [
  | yes lt ↦ each n (omega arith)
  | no ge ↦
      let here : value_at new n ≡ X = get_or_past new n X (omega arith) in
      let there : value_at old n ≡ X = get_or_past old n X (omega (arith, ge, room_old)) in
      here ∙ sym (ap (λ x. meet_of x (value_at other n)) there)
]

-- one more value is met
pub met_more : (other old at new : List Trit) (n : ℕ) (x : Trit) → n < length at → new ≡ set at n x → x ≡ meet_of (value_at old n) (value_at other n)
    → ((m : ℕ) → m < n → value_at at m ≡ meet_of (value_at old m) (value_at other m))
    → (m : ℕ) → m < n + 1 → value_at new m ≡ meet_of (value_at old m) (value_at other m)
met_more other old at new n x within put is before = write_more (λ m y. y ≡ meet_of (value_at old m) (value_at other m)) at new n x within put before is

-- where two states have the same value at each node they have the same everywhere
pub same_all : (s t : List Trit) → length s ≡ length t → ((n : ℕ) → n < length s → value_at s n ≡ value_at t n) → HasSameValues s t
same_all s t room each n = elim (dec_le (n + 1) (length s)) [
  | yes lt ↦ each n (omega arith)
  | no ge ↦ get_or_past s n X (omega arith) ∙ sym (get_or_past t n X (omega (arith, ge, room)))
]

-- and they are one state
pub same_states : (s t : List Trit) → length s ≡ length t → ((n : ℕ) → n < length s → value_at s n ≡ value_at t n) → s ≡ t
same_states s t room each = same_lists s t room (λ k d lt.
    get_or_from_slice_get s k (value_at t k) d (slice_get-get_or s k X lt ∙ ap Some (each k lt))
    ∙ sym (get_or_from_slice_get t k (value_at t k) d (slice_get-get_or t k X (omega (arith, lt, room)))))

-- a block of 64 pairs with one first vector begins from one lane
pub one_source : (power block lane : ℕ) → power ≡ 6 → lane < 64 → block % 64 ≡ source_lane power block lane
one_source power block lane is low = subst (λ p. block % 64 ≡ source_lane p block lane) (sym is) whole
  where
    whole : block % 64 ≡ source_lane 6 block lane
    whole = let lt : block % 64 < 64 = omega arith in let e : (block % 64 * 64 + lane) / 64 % 64 ≡ block % 64 = omega (arith, low, lt) in sym e

-- a turn has not yet been made
pub rises_begin : (net : Circuit) (b : List Trit) → IsState net b → IsHeldUp net b → Rises net b b
rises_begin net b is held = record {
  is_state = is;
  held = held;
  inputs = λ n i. refl;
  above = λ n st. inr refl;
  below = λ t fix above. by_node net (λ n. IsBelow (value_at b n) (value_at t n)) above (λ n i. inr (sym (fix.inputs n i))) (λ n le. inl (unknown_past net b n is le));
}

-- where a turn changes nothing, the state has risen
pub rises_end : (net : Circuit) (b s t : List Trit) → Rises net b s → AreResponses net s t → HasSameValues s t → RisesTo net b s
rises_end net b s t h responses same = record {
  fixed = record {
    is_state = h.is_state;
    inputs = h.inputs;
    fixed = λ n st. subst (IsResponse net s n) (sym (same n)) (responses.responds n (storage_within net n st));
  };
  above = h.above;
  least = h.below;
}

pub falls_begin : (net : Circuit) (b : List Trit) → IsState net b → Falls net b b
falls_begin net b is = record { is_state = is; inputs = λ n i. refl; below = λ n. inr refl; above = λ t held. held.below_first }

-- responses met with the values are blurred
pub blurred_of : (net : Circuit) (s t u : List Trit) → IsState net u → AreResponses net s t → IsMetWith s t u → AreBlurred net s u
blurred_of net s t u is responses met = record {
  is_state = is;
  blurred = λ n lt. record { response = value_at t n; responds = responses.responds n lt; meets = met n };
}

below_right : (a b : Trit) → IsBelow (meet_of a b) b
below_right Zero Zero = inr refl
below_right Zero One = inl refl
below_right Zero X = inl refl
below_right One Zero = inl refl
below_right One One = inr refl
below_right One X = inl refl
below_right X b = inl refl

below_left : (a b : Trit) → IsBelow (meet_of a b) a
below_left Zero Zero = inr refl
below_left Zero One = inl refl
below_left Zero X = inl refl
below_left One Zero = inl refl
below_left One One = inr refl
below_left One X = inl refl
below_left X b = inl refl

-- each value of the meet is below both
pub met_below : (a b vm : List Trit) → IsMetWith b a vm → IsStateBelow vm a × IsStateBelow vm b
met_below a b vm met = (
  λ n. subst (λ x. IsBelow x (value_at a n)) (sym (met n)) (below_left (value_at a n) (value_at b n)),
  λ n. subst (λ x. IsBelow x (value_at b n)) (sym (met n)) (below_right (value_at a n) (value_at b n)),
)
