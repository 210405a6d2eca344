-- What a walk ends with: an order, or a loop.
use Rattle.std.proofs.Common.{◌≡◌, ℕ, zero, suc, ◌+◌, ◌-◌, ◌<◌, ◌≤◌, List, [], ◌∷◌, ◌++◌, length, take, drop}
use Rattle.std.proofs.Common.{replicate, refl, sym, ◌∙◌, ap, subst, arith, get_or, set}
use Rattle.std.specs.Prelude.{Option, Some, None, slice_get}
use native.Mathlib.Decide.{ℕ_discrete}
use Rattle.std.specs.List.{All, Contains}
use Rattle.std.proofs.lemmas.List.{get_or_past, get_or-replicate, length-replicate, take-append-drop}
use Rattle.std.proofs.lemmas.List.{length-drop}
use Rattle.std.proofs.lemmas.List.Elements.{All-from_get_or, All-append, All-take, All-drop}
use Rattle.std.proofs.lemmas.Option.{slice_get_within, slice_get-get_or, get_or_from_slice_get}
use Rattle.std.proofs.Math.Decide.{dec_le}
use Rattle.std.proofs.Math.Seq.{drop-cons}
use Rattle.ca_linked.specs.declared.order.Mark.{Mark}
use Rattle.ca_linked.specs.declared.order.Mark.TheVariants.{New, Open, Done}
use Rattle.ca_linked.specs.declared.order.Visit.{Visit}
use Rattle.ca_linked.specs.Order.{IsChain, IsOnce, IsSimpleLoop, IsOrder}
use Rattle.ca_linked.specs.Walk.{WalkState}
use Rattle.ca_linked.specs.code.Walk.{row_of, IsFeeder, mark_of, IsVisit, IsWalk, Meets, IsFinish}
use Rattle.ca_linked.specs.code.Walk.{IsVisited, KeepsReached, IsVisitOf, no_visit, instance_at, back_from}
use Rattle.ca_linked.specs.code.Walk.{IsTurned}
use Rattle.ca_linked.proofs.OrderLemmas.{place_of, contained_at, chain_then, Returns, turned, loop_of, swapped_once}
use Rattle.ca_linked.proofs.WalkLemmas.{not_open, not_done, mark_set, mark_other, entered}

pub new_everywhere : (count u : ℕ) → mark_of (replicate count New) u ≡ New
new_everywhere count u = elim (dec_le (u + 1) count) [
  | yes lt ↦ get_or-replicate count u New New (omega arith)
  | no ge ↦ get_or_past (replicate count New) u New (let e = length-replicate count New in omega arith)
]

-- the walk that has begun nowhere
pub begun : (feeders : List (List ℕ)) (Has : ℕ → Type 0)
    → IsWalk feeders Has (record { marks = replicate (length feeders) New; trail = []; order = [] })
begun feeders Has = record {
  room = length-replicate (length feeders) New;
  listed = λ u. (λ at. absurd (nowhere u at.0 at.1), λ is_done. absurd (not_done (mark_of (replicate (length feeders) New) u) (new_everywhere (length feeders) u) is_done));
  once = λ j k u first second. absurd (nowhere u j first);
  after = λ k u w at fed. absurd (nowhere u k at);
  on_trail = λ u is_open. absurd (not_open (mark_of (replicate (length feeders) New) u) (new_everywhere (length feeders) u) is_open);
  opened = λ i u done visit. absurd (no_visits i (record { instance = u; done = done }) visit);
  alone = λ i j u a b first second. absurd (no_visits i (record { instance = u; done = a }) first);
  linked = λ i u w a b first second. absurd (no_visits i (record { instance = u; done = a }) first);
  past = λ i u done k w visit lt fed. absurd (no_visits i (record { instance = u; done = done }) visit);
  has = λ u not_new. absurd (not_new (new_everywhere (length feeders) u));
}
  where
    nowhere : (u k : ℕ) → slice_get [] k ≡ Some u → ⊥
    nowhere u k e = let lt = slice_get_within [] k u e in omega (arith, lt)

    no_visits : (k : ℕ) (v : Visit) → slice_get [] k ≡ Some v → ⊥
    no_visits k v e = let lt = slice_get_within [] k v e in omega (arith, lt)

-- a root that is new may go on the trail where that is left
pub root_entered : (feeders : List (List ℕ)) (roots : List ℕ) (walk new : WalkState) (root : ℕ) → IsWalk feeders (Contains roots) walk → walk.trail ≡ []
    → mark_of walk.marks root ≡ New → root < length walk.marks → Contains roots root
    → new ≡ record { marks = set walk.marks root Open; trail = walk.trail ++ record { instance = root; done = 0 } ∷ []; order = walk.order }
    → IsWalk feeders (Contains roots) new
root_entered feeders roots walk new root is none is_new within has e =
    subst (IsWalk feeders (Contains roots)) (sym e)
    (entered feeders (Contains roots) walk.marks walk.trail walk.order root is is_new within has
    (λ i u a at visit. absurd (let none_there : length walk.trail ≡ 0 = ap (λ (t : List Visit). length t) none in omega (arith, at))))

-- once the trail is left and no root is new, the order is one of the roots
pub ordered : (feeders : List (List ℕ)) (roots : List ℕ) (walk : WalkState) → IsWalk feeders (Contains roots) walk → walk.trail ≡ []
    → ((k : ℕ) → k < length roots → mark_of walk.marks (get_or roots k 0) ≡ New → ⊥) → IsOrder (IsFeeder feeders) (Contains roots) walk.order
ordered feeders roots walk is none reached = record {
  has = λ u. (
    λ at. is.has u (λ is_new. not_done (mark_of walk.marks u) is_new ((is.listed u).0 (at.0, place_of walk.order u at))),
    λ root.
        let at = (is.listed u).1 (marked u root (mark_of walk.marks u) refl) in
        contained_at walk.order at.0 u at.1,
  );
  once = is.once;
  after = is.after;
}
  where
    marked : (u : ℕ) → Contains roots u → (m : Mark) → mark_of walk.marks u ≡ m → mark_of walk.marks u ≡ Done
    marked u root New e =
        let at : get_or roots root.0 0 ≡ u = get_or_from_slice_get roots root.0 u 0 (place_of roots u root) in
        absurd (reached root.0 root.1 (subst (λ x. mark_of walk.marks x ≡ New) (sym at) e))
    marked u root Open e =
        let at = is.on_trail u e in
        let lt = slice_get_within walk.trail at.0 (record { instance = u; done = at.1.0 }) at.1.1 in
        let none_there : length walk.trail ≡ 0 = ap (λ (t : List Visit). length t) none in
        absurd (omega arith)
    marked u root Done e = e

pub visit_at : (trail : List Visit) (i : ℕ) → i < length trail → IsVisit trail i (instance_at trail i) (get_or trail i no_visit).done
visit_at trail i lt = slice_get-get_or trail i no_visit lt

pub back_none : (trail : List Visit) (place : ℕ) → back_from trail place 0 ≡ []
unfolding back_from
back_none trail place = refl

-- one more before the place
pub back_more : (trail : List Visit) (place more : ℕ) → back_from trail (suc place) more ++ instance_at trail place ∷ [] ≡ back_from trail place (suc more)
unfolding back_from
back_more trail place zero = ap (λ k. instance_at trail k ∷ []) (let e : place ≡ place + 0 = omega arith in e)
back_more trail place (suc more) =
    ap (λ xs. instance_at trail (suc place + more) ∷ xs) (back_more trail place more)
    ∙ ap (λ k. instance_at trail k ∷ back_from trail place (suc more)) (let e : suc place + more ≡ place + suc more = omega arith in e)

-- what is at a place of them is an instance of the trail
at_back : (trail : List Visit) (place count j u : ℕ) → slice_get (back_from trail place count) j ≡ Some u
    → (j < count) × (instance_at trail (place + (count - suc j)) ≡ u)
unfolding back_from
at_back trail place zero j u e = absurd cc
at_back trail place (suc count) zero u e =
    let last : instance_at trail (place + count) ≡ u = cc in
    (omega arith, ap (instance_at trail) (let k : place + (suc count - 1) ≡ place + count = omega arith in k) ∙ last)
at_back trail place (suc count) (suc j) u e =
    let rest = at_back trail place count j u e in
    let lt = rest.0 in
    (omega (arith, lt), ap (instance_at trail) (let k : place + (suc count - suc (suc j)) ≡ place + (count - suc j) = omega arith in k) ∙ rest.1)

module _ (feeders : List (List ℕ)) (Has : ℕ → Type 0) (walk : WalkState) (is : IsWalk feeders Has walk) where
  -- the trail has each instance once, and so has what goes back along it
  pub back_once : (place : ℕ) → IsOnce (back_from walk.trail place (length walk.trail - place))
  back_once place j k u first second =
      let one = at_back walk.trail place count j u first in
      let other = at_back walk.trail place count k u second in
      let less = one.0 in
      let less_too = other.0 in
      let same = is.alone (place + (count - suc j)) (place + (count - suc k)) u
      (get_or walk.trail (place + (count - suc j)) no_visit).done (get_or walk.trail (place + (count - suc k)) no_visit).done
      (visit_of (place + (count - suc j)) one.1 (omega (arith, less))) (visit_of (place + (count - suc k)) other.1 (omega (arith, less_too))) in
      omega (arith, less, less_too, same)
    where
      count : ℕ
      count = length walk.trail - place

      visit_of : (i : ℕ) → instance_at walk.trail i ≡ u → i < length walk.trail → IsVisit walk.trail i u (get_or walk.trail i no_visit).done
      visit_of i e lt = subst (λ x. IsVisit walk.trail i x (get_or walk.trail i no_visit).done) e (visit_at walk.trail i lt)

  feeds_next : (i : ℕ) → suc i < length walk.trail → IsFeeder feeders (instance_at walk.trail (suc i)) (instance_at walk.trail i)
  feeds_next i lt =
      contained_at (row_of feeders (instance_at walk.trail i)) (get_or walk.trail i no_visit).done (instance_at walk.trail (suc i))
      (is.linked i (instance_at walk.trail i) (instance_at walk.trail (suc i)) (get_or walk.trail i no_visit).done (get_or walk.trail (suc i) no_visit).done
      (visit_at walk.trail i (omega (arith, lt))) (visit_at walk.trail (suc i) lt))

  -- from a place of the trail back to one before it
  chain_back : (more i : ℕ) → i + suc more < length walk.trail
      → IsChain (IsFeeder feeders) (instance_at walk.trail (i + suc more)) (back_from walk.trail (suc i) more) (instance_at walk.trail i)
  unfolding back_from
  chain_back zero i lt =
      subst (λ k. IsFeeder feeders (instance_at walk.trail k) (instance_at walk.trail i)) (let e : suc i ≡ i + 1 = omega arith in e) (feeds_next i (omega (arith, lt)))
  chain_back (suc more) i lt =
      let same : suc i + more ≡ i + suc more = omega arith in
      let next : suc (suc i + more) ≡ i + suc (suc more) = omega arith in (
        subst (λ k. IsFeeder feeders (instance_at walk.trail k) (instance_at walk.trail (suc i + more))) next (feeds_next (suc i + more) (omega (arith, lt))),
        subst (λ k. IsChain (IsFeeder feeders) (instance_at walk.trail k) (back_from walk.trail (suc i) more) (instance_at walk.trail i)) (sym same)
            (chain_back more i (omega (arith, lt))),
      )

  -- from the last of the trail back to one that feeds the last
  pub returns_back : (w place : ℕ) → Meets feeders walk w → IsVisitOf walk.trail w place
      → Returns (IsFeeder feeders) (back_from walk.trail place (length walk.trail - place))
  unfolding back_from
  returns_back w place meets visit =
      let lt = slice_get_within walk.trail place (record { instance = w; done = visit.0 }) visit.1 in
      let more = length walk.trail - place - 1 in
      let count : suc more ≡ length walk.trail - place = omega arith in
      subst (λ n. Returns (IsFeeder feeders) (back_from walk.trail place n)) count (returns more (omega arith))
    where
      is_w : instance_at walk.trail place ≡ w
      is_w = ap (λ (v : Visit). v.instance) (get_or_from_slice_get walk.trail place (record { instance = w; done = visit.0 }) no_visit visit.1)

      feeds_last : (last : ℕ) → suc last ≡ length walk.trail → IsFeeder feeders (instance_at walk.trail place) (instance_at walk.trail last)
      feeds_last last e =
          subst (λ x. IsFeeder feeders x (instance_at walk.trail last)) (sym is_w)
          (contained_at (row_of feeders (instance_at walk.trail last)) (get_or walk.trail last no_visit).done w
          (meets.leads last (instance_at walk.trail last) (get_or walk.trail last no_visit).done e (visit_at walk.trail last (omega (arith, e)))))

      returns : (more : ℕ) → suc (place + more) ≡ length walk.trail → Returns (IsFeeder feeders) (back_from walk.trail place (suc more))
      returns zero e =
          subst (λ x. IsFeeder feeders x (instance_at walk.trail (place + 0))) (ap (instance_at walk.trail) (let z : place ≡ place + 0 = omega arith in z))
          (feeds_last (place + 0) e)
      returns (suc more) e =
          subst (λ xs. IsChain (IsFeeder feeders) (instance_at walk.trail (place + suc more)) xs (instance_at walk.trail (place + suc more)))
          (back_more walk.trail place more)
          (chain_then (IsFeeder feeders) (back_from walk.trail (suc place) more) (instance_at walk.trail (place + suc more)) (instance_at walk.trail place) []
          (instance_at walk.trail (place + suc more)) (chain_back more place (omega (arith, e))) (feeds_last (place + suc more) e))

-- a list that returns and has each once, from its lowest on
pub loop_turned : (Feeds : ℕ → ℕ → Type 0) (back loop : List ℕ) → Returns Feeds back → IsOnce back → IsTurned back loop → IsSimpleLoop Feeds loop
loop_turned Feeds back loop returns once is =
    subst (IsSimpleLoop Feeds) (sym is.parts) (
      loop_of Feeds (drop is.place back ++ take is.place back) (get_or back is.place 0)
          (turned Feeds (take is.place back) (drop is.place back) (let e = length-drop is.place back in let lt = is.lowest.0 in omega arith)
          (subst (Returns Feeds) (sym (take-append-drop is.place back)) returns))
          (ap (λ xs. slice_get (xs ++ take is.place back) 0) (drop-cons back is.place 0 is.lowest.0))
          (All-append (λ w. get_or back is.place 0 ≤ w) (drop is.place back) (take is.place back)
          (All-drop (λ w. get_or back is.place 0 ≤ w) is.place back all) (All-take (λ w. get_or back is.place 0 ≤ w) is.place back all)),
      swapped_once (take is.place back) (drop is.place back) (subst IsOnce (sym (take-append-drop is.place back)) once),
    )
  where
    all : All (λ w. get_or back is.place 0 ≤ w) back
    all = All-from_get_or (λ w. get_or back is.place 0 ≤ w) back 0 is.lowest.1

pub some_back : (trail : List Visit) (w place : ℕ) (back : List ℕ) → IsVisitOf trail w place → back ≡ back_from trail place (length trail - place) → 0 < length back
unfolding back_from
some_back trail w place back visit e =
    let lt = slice_get_within trail place (record { instance = w; done = visit.0 }) visit.1 in
    let more : length trail - place ≡ suc (length trail - place - 1) = omega arith in
    let whole : length back ≡ length (back_from trail place (suc (length trail - place - 1))) = ap (λ (xs : List ℕ). length xs) (e ∙ ap (back_from trail place) more) in
    let one = longer (length trail - place - 1) in
    omega arith
  where
    longer : (n : ℕ) → 0 < length (back_from trail place (suc n))
    longer n = omega arith

-- after a root's visit
pub visited : (feeders : List (List ℕ)) (walk start new : WalkState) (root : ℕ) (o : Option ℕ) → root < length walk.marks
    → start ≡ record { marks = set walk.marks root Open; trail = walk.trail ++ record { instance = root; done = 0 } ∷ []; order = walk.order }
    → KeepsReached start new → IsFinish feeders new o → IsVisited feeders root new o
visited feeders walk start new root None within e keeps none = (none, keeps root (λ is_new. not_open (mark_of start.marks root) is_new marked))
  where
    marked : mark_of start.marks root ≡ Open
    marked = ap (λ (w : WalkState). mark_of w.marks root) e ∙ mark_set walk.marks root Open within
visited feeders walk start new root (Some w) within e keeps met = met

-- entering keeps what is reached
pub entered_reached : (walk start : WalkState) (root : ℕ) → root < length walk.marks
    → start ≡ record { marks = set walk.marks root Open; trail = walk.trail ++ record { instance = root; done = 0 } ∷ []; order = walk.order }
    → KeepsReached walk start
entered_reached walk start root within e x reached is_new =
    let still : mark_of (set walk.marks root Open) x ≡ New = sym (ap (λ (w : WalkState). mark_of w.marks x) e) ∙ is_new in
    elim (ℕ_discrete x root) [
      | yes same ↦ not_open (mark_of (set walk.marks root Open) root) (subst (λ y. mark_of (set walk.marks root Open) y ≡ New) same still) (mark_set walk.marks root Open within)
      | no ne ↦ reached (sym (mark_other walk.marks root Open within x ne) ∙ still)
    ]

-- one more of the trail, counted from its last
pub back_pushed : (trail : List Visit) (count k u : ℕ) (back : List ℕ) → k < count → u ≡ instance_at trail (count - 1 - k)
    → back ≡ back_from trail (count - k) k → back ++ u ∷ [] ≡ back_from trail (count - (k + 1)) (k + 1)
back_pushed trail count k u back lt read e =
    let place = count - (k + 1) in
    let before : count - 1 - k ≡ place = omega arith in
    let after : count - k ≡ suc place = omega arith in
    ap (λ xs. xs ++ u ∷ []) (e ∙ ap (λ n. back_from trail n k) after)
    ∙ ap (λ x. back_from trail (suc place) k ++ x ∷ []) (read ∙ ap (instance_at trail) before)
    ∙ back_more trail place k
    ∙ ap (back_from trail place) (let s : suc k ≡ k + 1 = omega arith in s)
