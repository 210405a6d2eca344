-- What each step of a walk keeps.
use Rattle.std.proofs.Common.{◌≡◌, ℕ, zero, suc, ◌+◌, ◌<◌, ◌≤◌, ◌⊎◌, List, [], ◌∷◌, ◌++◌, length, inl, inr}
use Rattle.std.proofs.Common.{refl, sym, ◌∙◌, ap, subst, arith, set, get_or-set_same, get_or-set_other}
use Rattle.std.proofs.Common.{length-set}
use Rattle.std.specs.Prelude.{Some, slice_get}
use Rattle.std.proofs.lemmas.List.{get_or_past}
use Rattle.std.proofs.lemmas.Option.{slice_get_within}
use Rattle.std.proofs.Math.Decide.{dec_le}
use native.Mathlib.Decide.{ℕ_discrete}
use Rattle.ca_linked.specs.declared.order.Mark.{Mark}
use Rattle.ca_linked.specs.declared.order.Mark.TheVariants.{New, Open, Done}
use Rattle.ca_linked.specs.declared.order.Visit.{Visit}
use Rattle.ca_linked.specs.code.Walk.{row_of, IsFeeder, mark_of, IsVisit, Stands, IsWalk, LeadsOn}
use Rattle.ca_linked.proofs.OrderLemmas.{place_of}

-- places of a list with one more at its end
pub get-push_old : {X : Type 0} (xs : List X) (y : X) (i : ℕ) (x : X) → slice_get xs i ≡ Some x → slice_get (xs ++ y ∷ []) i ≡ Some x
get-push_old [] y i x e = cc
get-push_old (z ∷ zs) y zero x e = e
get-push_old (z ∷ zs) y (suc i) x e = get-push_old zs y i x e

pub get-push_last : {X : Type 0} (xs : List X) (y : X) → slice_get (xs ++ y ∷ []) (length xs) ≡ Some y
get-push_last [] y = refl
get-push_last (z ∷ zs) y = get-push_last zs y

pub get-push_cases : {X : Type 0} (xs : List X) (y : X) (i : ℕ) (x : X) → slice_get (xs ++ y ∷ []) i ≡ Some x
    → (slice_get xs i ≡ Some x) ⊎ ((i ≡ length xs) × (y ≡ x))
get-push_cases [] y zero x e = inr (refl, let same : y ≡ x = cc in same)
get-push_cases [] y (suc i) x e = inl e
get-push_cases (z ∷ zs) y zero x e = inl e
get-push_cases (z ∷ zs) y (suc i) x e = elim (get-push_cases zs y i x e) [
  | inl old ↦ inl old
  | inr new ↦ inr (ap suc new.0, new.1)
]

-- what a mark is can be decided
pub not_open : (m : Mark) → m ≡ New → m ≡ Open → ⊥
not_open m e f = cc

pub not_done : (m : Mark) → m ≡ New → m ≡ Done → ⊥
not_done m e f = cc

pub open_or_done : (m : Mark) → m ≡ Open → m ≡ Done → ⊥
open_or_done m e f = cc

-- one that isn't new is in the list of marks
pub mark_within : (marks : List Mark) (u : ℕ) → (mark_of marks u ≡ New → ⊥) → u < length marks
mark_within marks u h = elim (dec_le (u + 1) (length marks)) [
  | yes lt ↦ omega arith
  | no ge ↦ absurd (h (get_or_past marks u New (omega arith)))
]

module _ (marks : List Mark) (w : ℕ) (m : Mark) (within : w < length marks) where
  pub mark_set : mark_of (set marks w m) w ≡ m
  mark_set = get_or-set_same marks w m New within

  pub mark_other : (x : ℕ) → (x ≡ w → ⊥) → mark_of (set marks w m) x ≡ mark_of marks x
  mark_other x ne = get_or-set_other marks w x m New ne

module _ (feeders : List (List ℕ)) (Has : ℕ → Type 0) where
  -- one more of those that feed the last of the trail is done
  pub advanced : (marks : List Mark) (trail : List Visit) (order : List ℕ) (u done w : ℕ)
      → IsWalk feeders Has (record { marks = marks; trail = trail ++ record { instance = u; done = done } ∷ []; order = order })
      → slice_get (row_of feeders u) done ≡ Some w → mark_of marks w ≡ Done
      → IsWalk feeders Has (record { marks = marks; trail = trail ++ record { instance = u; done = done + 1 } ∷ []; order = order })
  advanced marks trail order u done w is here is_done = record {
    room = is.room;
    listed = is.listed;
    once = is.once;
    after = is.after;
    on_trail = λ x is_open.
        let at = is.on_trail x is_open in
        elim (get-push_cases trail now at.0 (record { instance = x; done = at.1.0 }) at.1.1) [
          | inl old ↦ (at.0, (at.1.0, get-push_old trail next at.0 (record { instance = x; done = at.1.0 }) old))
          | inr new ↦
              let same : x ≡ u = sym (ap (λ (v : Visit). v.instance) new.1) in
              (length trail, (done + 1, subst (λ y. IsVisit (trail ++ next ∷ []) (length trail) y (done + 1)) (sym same) (get-push_last trail next)))
        ];
    opened = λ i x a visit. let was = before i x a visit in is.opened i x was.0 was.1;
    alone = λ i j x a b first second.
        let was = before i x a first in
        let other = before j x b second in
        is.alone i j x was.0 other.0 was.1 other.1;
    linked = λ i x y a b first second. elim (get-push_cases trail next i (record { instance = x; done = a }) first) [
      | inl old ↦
          let other = before (suc i) y b second in
          is.linked i x y a other.0 (get-push_old trail now i (record { instance = x; done = a }) old) other.1
      | inr new ↦
          let lt = slice_get_within (trail ++ next ∷ []) (suc i) (record { instance = y; done = b }) second in
          absurd (past_end trail next (suc i) (omega (arith, new.0)) lt)
    ];
    past = λ i x a k y visit lt fed. elim (get-push_cases trail next i (record { instance = x; done = a }) visit) [
      | inl old ↦ is.past i x a k y (get-push_old trail now i (record { instance = x; done = a }) old) lt fed
      | inr new ↦
          let same : u ≡ x = ap (λ (v : Visit). v.instance) new.1 in
          let most : done + 1 ≡ a = ap (λ (v : Visit). v.done) new.1 in
          let fed_u : slice_get (row_of feeders u) k ≡ Some y = subst (λ z. slice_get (row_of feeders z) k ≡ Some y) (sym same) fed in
          elim (ℕ_discrete k done) [
            | yes e ↦
                let both : Some w ≡ Some y = sym here ∙ ap (slice_get (row_of feeders u)) (sym e) ∙ fed_u in
                let equal : w ≡ y = cc in
                subst (λ z. mark_of marks z ≡ Done) equal is_done
            | no ne ↦ is.past (length trail) u done k y (get-push_last trail now) (omega arith) fed_u
          ]
    ];
    has = is.has;
  }
    where
      now : Visit
      now = record { instance = u; done = done }

      next : Visit
      next = record { instance = u; done = done + 1 }

      past_end : (xs : List Visit) (y : Visit) (k : ℕ) → length xs < k → k < length (xs ++ y ∷ []) → ⊥
      past_end [] y k less lt = omega (arith, less, lt)
      past_end (x ∷ xs) y zero less lt = omega (arith, less)
      past_end (x ∷ xs) y (suc k) less lt = past_end xs y k (omega (arith, less)) (omega (arith, lt))

      before : (i x a : ℕ) → IsVisit (trail ++ next ∷ []) i x a → (b : ℕ) × IsVisit (trail ++ now ∷ []) i x b
      before i x a visit = elim (get-push_cases trail next i (record { instance = x; done = a }) visit) [
        | inl old ↦ (a, get-push_old trail now i (record { instance = x; done = a }) old)
        | inr new ↦
            let same : u ≡ x = ap (λ (v : Visit). v.instance) new.1 in
            (done, subst (λ y. IsVisit (trail ++ now ∷ []) i y done) same (subst (λ z. IsVisit (trail ++ now ∷ []) z u done) (sym new.0) (get-push_last trail now)))
      ]

  -- the last of the trail is in order, once all that feed it are
  pub left : (marks : List Mark) (trail : List Visit) (order : List ℕ) (u done : ℕ)
      → IsWalk feeders Has (record { marks = marks; trail = trail ++ record { instance = u; done = done } ∷ []; order = order })
      → length (row_of feeders u) ≤ done
      → IsWalk feeders Has (record { marks = set marks u Done; trail = trail; order = order ++ u ∷ [] })
  left marks trail order u done is all = record {
    room = length-set marks u Done ∙ is.room;
    listed = λ x. elim (ℕ_discrete x u) [
      | yes e ↦ (
        λ _. subst (λ y. mark_of (set marks u Done) y ≡ Done) (sym e) now_done,
        λ _. (length order, subst (λ y. slice_get (order ++ u ∷ []) (length order) ≡ Some y) (sym e) (get-push_last order u)),
      )
      | no ne ↦ (
        λ at.
            elim (get-push_cases order u at.0 x at.1) [
              | inl old ↦ mark_other marks u Done within x ne ∙ (is.listed x).0 (at.0, old)
              | inr new ↦ absurd (ne (sym new.1))
            ],
        λ is_done.
            let at = (is.listed x).1 (sym (mark_other marks u Done within x ne) ∙ is_done) in
            (at.0, get-push_old order u at.0 x at.1),
      )
    ];
    once = λ j k x first second. elim (get-push_cases order u j x first) [
      | inl old ↦ elim (get-push_cases order u k x second) [
        | inl older ↦ is.once j k x old older
        | inr new ↦ absurd (not_listed x (j, old) (sym new.1))
      ]
      | inr new ↦ elim (get-push_cases order u k x second) [
        | inl old ↦ absurd (not_listed x (k, old) (sym new.1))
        | inr newer ↦ new.0 ∙ sym newer.0
      ]
    ];
    after = λ k x w at fed. elim (get-push_cases order u k x at) [
      | inl old ↦ let earlier = is.after k x w old fed in (earlier.0, earlier.1, get-push_old order u earlier.0 w earlier.2)
      | inr new ↦
          let fed_u : IsFeeder feeders w u = subst (IsFeeder feeders w) (sym new.1) fed in
          let place = fed_u.0 in
          let w_done = is.past (length trail) u done place w last (let lt = fed_u.1 in omega arith) (place_of (row_of feeders u) w fed_u) in
          let earlier = (is.listed w).1 w_done in
          (earlier.0, (let lt = slice_get_within order earlier.0 w earlier.1 in omega (arith, new.0)), get-push_old order u earlier.0 w earlier.1)
    ];
    on_trail = λ x is_open. elim (ℕ_discrete x u) [
      | yes e ↦ absurd (open_or_done (mark_of (set marks u Done) x) is_open (subst (λ y. mark_of (set marks u Done) y ≡ Done) (sym e) now_done))
      | no ne ↦
          let at = is.on_trail x (sym (mark_other marks u Done within x ne) ∙ is_open) in
          elim (get-push_cases trail here at.0 (record { instance = x; done = at.1.0 }) at.1.1) [
            | inl old ↦ (at.0, (at.1.0, old))
            | inr new ↦ absurd (ne (sym (ap (λ (v : Visit). v.instance) new.1)))
          ]
    ];
    opened = λ i x a visit. mark_other marks u Done within x (other i x a visit) ∙ is.opened i x a (more i x a visit);
    alone = λ i j x a b first second. is.alone i j x a b (more i x a first) (more j x b second);
    linked = λ i x y a b first second. is.linked i x y a b (more i x a first) (more (suc i) y b second);
    past = λ i x a k y visit lt fed. done_still y (is.past i x a k y (more i x a visit) lt fed);
    has = λ x not_new. elim (ℕ_discrete x u) [
      | yes e ↦ subst Has (sym e) (is.has u (λ new. not_open (mark_of marks u) new is_open))
      | no ne ↦ is.has x (λ new. not_new (mark_other marks u Done within x ne ∙ new))
    ];
  }
    where
      here : Visit
      here = record { instance = u; done = done }

      last : IsVisit (trail ++ here ∷ []) (length trail) u done
      last = get-push_last trail here

      is_open : mark_of marks u ≡ Open
      is_open = is.opened (length trail) u done last

      within : u < length marks
      within = mark_within marks u (λ new. not_open (mark_of marks u) new is_open)

      now_done : mark_of (set marks u Done) u ≡ Done
      now_done = mark_set marks u Done within

      more : (i x a : ℕ) → IsVisit trail i x a → IsVisit (trail ++ here ∷ []) i x a
      more i x a visit = get-push_old trail here i (record { instance = x; done = a }) visit

      -- no other visit is of u
      other : (i x a : ℕ) → IsVisit trail i x a → x ≡ u → ⊥
      other i x a visit e =
          let same : i ≡ length trail =
          is.alone i (length trail) u a done (subst (λ y. IsVisit (trail ++ here ∷ []) i y a) e (more i x a visit)) last in
          let lt : i < length trail = slice_get_within trail i (record { instance = x; done = a }) visit in
          omega arith

      not_listed : (x : ℕ) → Stands order x → x ≡ u → ⊥
      not_listed x at e =
          open_or_done (mark_of marks u) is_open (subst (λ y. mark_of marks y ≡ Done) e ((is.listed x).0 at))

      done_still : (y : ℕ) → mark_of marks y ≡ Done → mark_of (set marks u Done) y ≡ Done
      done_still y was = elim (ℕ_discrete y u) [
        | yes e ↦ subst (λ z. mark_of (set marks u Done) z ≡ Done) (sym e) now_done
        | no ne ↦ mark_other marks u Done within y ne ∙ was
      ]

  -- a new one goes on the trail
  pub entered : (marks : List Mark) (trail : List Visit) (order : List ℕ) (w : ℕ)
      → IsWalk feeders Has (record { marks = marks; trail = trail; order = order })
      → mark_of marks w ≡ New → w < length marks → Has w → LeadsOn feeders trail w
      → IsWalk feeders Has (record { marks = set marks w Open; trail = trail ++ record { instance = w; done = 0 } ∷ []; order = order })
  entered marks trail order w is is_new within has_w leads = record {
    room = length-set marks w Open ∙ is.room;
    listed = λ x. elim (ℕ_discrete x w) [
      | yes e ↦ (
        λ at. absurd (not_done (mark_of marks w) is_new (subst (λ y. mark_of marks y ≡ Done) e ((is.listed x).0 at))),
        λ is_done. absurd (open_or_done (mark_of (set marks w Open) w) now_open (subst (λ y. mark_of (set marks w Open) y ≡ Done) e is_done)),
      )
      | no ne ↦ (
        λ at. mark_other marks w Open within x ne ∙ (is.listed x).0 at,
        λ is_done. (is.listed x).1 (sym (mark_other marks w Open within x ne) ∙ is_done),
      )
    ];
    once = is.once;
    after = is.after;
    on_trail = λ x is_open. elim (ℕ_discrete x w) [
      | yes e ↦ (length trail, (0, subst (λ y. IsVisit (trail ++ first ∷ []) (length trail) y 0) (sym e) (get-push_last trail first)))
      | no ne ↦
          let at = is.on_trail x (sym (mark_other marks w Open within x ne) ∙ is_open) in
          (at.0, (at.1.0, get-push_old trail first at.0 (record { instance = x; done = at.1.0 }) at.1.1))
    ];
    opened = λ i x a visit. elim (get-push_cases trail first i (record { instance = x; done = a }) visit) [
      | inl old ↦ mark_other marks w Open within x (λ e. not_open (mark_of marks w) is_new (subst (λ y. mark_of marks y ≡ Open) e (is.opened i x a old))) ∙ is.opened i x a old
      | inr new ↦ subst (λ y. mark_of (set marks w Open) y ≡ Open) (ap (λ (v : Visit). v.instance) new.1) now_open
    ];
    alone = λ i j x a b one two. elim (get-push_cases trail first i (record { instance = x; done = a }) one) [
      | inl old ↦ elim (get-push_cases trail first j (record { instance = x; done = b }) two) [
        | inl older ↦ is.alone i j x a b old older
        | inr new ↦ absurd (not_on_trail i x a old (sym (ap (λ (v : Visit). v.instance) new.1)))
      ]
      | inr new ↦ elim (get-push_cases trail first j (record { instance = x; done = b }) two) [
        | inl old ↦ absurd (not_on_trail j x b old (sym (ap (λ (v : Visit). v.instance) new.1)))
        | inr newer ↦ new.0 ∙ sym newer.0
      ]
    ];
    linked = λ i x y a b one two. elim (get-push_cases trail first (suc i) (record { instance = y; done = b }) two) [
      | inl old ↦ is.linked i x y a b (earlier i x a (let lt = slice_get_within trail (suc i) (record { instance = y; done = b }) old in omega arith) one) old
      | inr new ↦
          subst (λ z. slice_get (row_of feeders x) a ≡ Some z) (ap (λ (v : Visit). v.instance) new.1)
          (leads i x a new.0 (earlier i x a (omega (arith, new.0)) one))
    ];
    past = λ i x a k y visit lt fed. elim (get-push_cases trail first i (record { instance = x; done = a }) visit) [
      | inl old ↦
          let was = is.past i x a k y old lt fed in
          mark_other marks w Open within y (λ e. not_done (mark_of marks w) is_new (subst (λ z. mark_of marks z ≡ Done) e was)) ∙ was
      | inr new ↦ let none : 0 ≡ a = ap (λ (v : Visit). v.done) new.1 in absurd (omega (arith, lt))
    ];
    has = λ x not_new. elim (ℕ_discrete x w) [
      | yes e ↦ subst Has (sym e) has_w
      | no ne ↦ is.has x (λ new. not_new (mark_other marks w Open within x ne ∙ new))
    ];
  }
    where
      first : Visit
      first = record { instance = w; done = 0 }

      now_open : mark_of (set marks w Open) w ≡ Open
      now_open = mark_set marks w Open within

      not_on_trail : (i x a : ℕ) → IsVisit trail i x a → x ≡ w → ⊥
      not_on_trail i x a visit e = not_open (mark_of marks w) is_new (subst (λ y. mark_of marks y ≡ Open) e (is.opened i x a visit))

      earlier : (i x a : ℕ) → i < length trail → IsVisit (trail ++ first ∷ []) i x a → IsVisit trail i x a
      earlier i x a lt visit = elim (get-push_cases trail first i (record { instance = x; done = a }) visit) [
        | inl old ↦ old
        | inr new ↦ absurd (let e = new.0 in omega arith)
      ]
