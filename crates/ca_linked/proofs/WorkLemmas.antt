-- Each step of a walk leaves less to do.
use Rattle.std.proofs.Common.{◌≡◌, ℕ, zero, suc, ◌+◌, ◌-◌, ◌<◌, ◌≤◌, List, [], ◌∷◌, ◌++◌, length, take, refl}
use Rattle.std.proofs.Common.{sym, ◌∙◌, ap, subst, arith, get_or, set}
use Rattle.std.specs.Prelude.{Some, slice_get}
use Rattle.std.specs.List.{Contains, sum_by}
use Rattle.std.proofs.lemmas.List.Sums.{sum_by-set, sum_by_push}
use Rattle.std.proofs.lemmas.List.{get_or_past}
use Rattle.std.proofs.lemmas.Option.{slice_get_within, slice_get-get_or}
use native.Mathlib.Decide.{ℕ_discrete}
use Rattle.std.proofs.Math.Decide.{dec_le}
use Rattle.ca_linked.specs.declared.order.Mark.{Mark}
use Rattle.ca_linked.specs.declared.order.Mark.TheVariants.{New, Open, Done}
use Rattle.ca_linked.specs.declared.order.Visit.{Visit}
use Rattle.ca_linked.specs.Walk.{WalkState}
use Rattle.ca_linked.specs.code.Walk.{row_of, mark_of, IsVisit, IsWalk, LeadsOn, AreClosed, HaveRows}
use Rattle.ca_linked.specs.code.Walk.{KeepsReached, mark_work, visit_work, GoesOn, Meets}
use Rattle.ca_linked.proofs.OrderLemmas.{contained_at}
use Rattle.ca_linked.proofs.WalkLemmas.{not_open, mark_within, mark_set, mark_other, advanced, left, entered}

-- a list is what comes before its last, and its last
pub last_apart : {X : Type 0} (xs : List X) (k : ℕ) (x : X) → suc k ≡ length xs → slice_get xs k ≡ Some x → xs ≡ take k xs ++ x ∷ []
last_apart [] k x e here = absurd (omega (arith, e))
last_apart (z ∷ []) zero x e here = let same : z ≡ x = cc in ap (λ y. y ∷ []) same
last_apart (z ∷ []) (suc k) x e here = absurd (omega (arith, e))
last_apart (z ∷ y ∷ ys) zero x e here = absurd (omega (arith, e))
last_apart (z ∷ y ∷ ys) (suc k) x e here = ap (λ zs. z ∷ zs) (last_apart (y ∷ ys) k x (omega (arith, e)) here)

pub last_set : {X : Type 0} (xs : List X) (k : ℕ) (x : X) → suc k ≡ length xs → set xs k x ≡ take k xs ++ x ∷ []
last_set [] k x e = absurd (omega (arith, e))
last_set (z ∷ []) zero x e = refl
last_set (z ∷ []) (suc k) x e = absurd (omega (arith, e))
last_set (z ∷ y ∷ ys) zero x e = absurd (omega (arith, e))
last_set (z ∷ y ∷ ys) (suc k) x e = ap (λ zs. z ∷ zs) (last_set (y ∷ ys) k x (omega (arith, e)))

-- no row is longer than all together
pub row_short : (feeders : List (List ℕ)) (u : ℕ) → length (row_of feeders u) ≤ sum_by (λ row. length row) feeders
row_short feeders u = elim (dec_le (u + 1) (length feeders)) [
  | yes lt ↦ let e = sum_by-set (λ (row : List ℕ). length row) feeders u [] [] (omega arith) in omega arith
  | no ge ↦ let e : length (row_of feeders u) ≡ 0 = ap (λ (row : List ℕ). length row) (get_or_past feeders u [] (omega arith)) in omega arith
]

module _ (feeders : List (List ℕ)) (roots : List ℕ) (closed : AreClosed feeders roots) (rows : HaveRows feeders roots)
    (marks : List Mark) (trail : List Visit) (order : List ℕ) (last u done : ℕ) (is_last : suc last ≡ length trail) (here : IsVisit trail last u done)
    (is : IsWalk feeders (Contains roots) (record { marks = marks; trail = trail; order = order })) where
  now : Visit
  now = record { instance = u; done = done }

  apart : trail ≡ take last trail ++ record { instance = u; done = done } ∷ []
  apart = last_apart trail last (record { instance = u; done = done }) is_last here

  walk_apart : IsWalk feeders (Contains roots) (record { marks = marks; trail = take last trail ++ record { instance = u; done = done } ∷ []; order = order })
  walk_apart = subst (λ t. IsWalk feeders (Contains roots) (record { marks = marks; trail = t; order = order })) apart is

  work_apart : sum_by (visit_work feeders) trail ≡ sum_by (visit_work feeders) (take last trail) + (1 + (length (row_of feeders u) - done))
  work_apart =
      ap (λ t. sum_by (visit_work feeders) t) apart ∙ sum_by_push (visit_work feeders) (take last trail) (record { instance = u; done = done })

  pub u_open : mark_of marks u ≡ Open
  u_open = is.opened last u done here

  pub u_within : u < length marks
  u_within = mark_within marks u (λ new. not_open (mark_of marks u) new u_open)

  still_reached : (w : ℕ) (m : Mark) (t : List Visit) (o : List ℕ) → w < length marks → (m ≡ New → ⊥)
      → KeepsReached (record { marks = marks; trail = trail; order = order }) (record { marks = set marks w m; trail = t; order = o })
  still_reached w m t o within not_new x reached is_new = elim (ℕ_discrete x w) [
    | yes e ↦ not_new (sym (mark_set marks w m within) ∙ subst (λ y. mark_of (set marks w m) y ≡ New) e is_new)
    | no ne ↦ reached (sym (mark_other marks w m within x ne) ∙ is_new)
  ]

  set_work : (w : ℕ) (m : Mark) → w < length marks → (most : ℕ)
      → sum_by (mark_work most) (set marks w m) + mark_work most (mark_of marks w) ≡ sum_by (mark_work most) marks + mark_work most m
  set_work w m within most = sum_by-set (mark_work most) marks w m New within

  pub leaves : length (row_of feeders u) ≤ done
      → GoesOn feeders roots (record { marks = marks; trail = trail; order = order })
      (record { marks = set marks u Done; trail = take last trail; order = order ++ u ∷ [] })
  leaves all = record {
    walk = left feeders (Contains roots) marks (take last trail) order u done walk_apart all;
    reached = still_reached u Done (take last trail) (order ++ u ∷ []) u_within (λ e. cc);
    less =
        let most = 2 + sum_by (λ (row : List ℕ). length row) feeders in
        let none : mark_work most (mark_of marks u) ≡ 0 = ap (mark_work most) u_open in
        let set_e = set_work u Done u_within most in
        let trail_e = work_apart in
        omega arith;
  }

  pub advances : (w : ℕ) → slice_get (row_of feeders u) done ≡ Some w → mark_of marks w ≡ Done
      → GoesOn feeders roots (record { marks = marks; trail = trail; order = order })
      (record { marks = marks; trail = set trail last (record { instance = u; done = done + 1 }); order = order })
  advances w fed is_done =
      subst (λ t. GoesOn feeders roots (record { marks = marks; trail = trail; order = order }) (record { marks = marks; trail = t; order = order }))
      (sym (last_set trail last (record { instance = u; done = done + 1 }) is_last))
      (record {
        walk = advanced feeders (Contains roots) marks (take last trail) order u done w walk_apart fed is_done;
        reached = λ x reached is_new. reached is_new;
        less =
            let lt : done < length (row_of feeders u) = slice_get_within (row_of feeders u) done w fed in
            let e = sum_by_push (visit_work feeders) (take last trail) (record { instance = u; done = done + 1 }) in
            let trail_e = work_apart in
            omega arith;
      })

  -- the last of the trail leads to the next that feeds it
  pub leads_to : (w : ℕ) → slice_get (row_of feeders u) done ≡ Some w → LeadsOn feeders trail w
  leads_to w fed i x a at visit =
      let same : i ≡ last = omega (arith, at, is_last) in
      let there : IsVisit trail last x a = subst (λ k. IsVisit trail k x a) same visit in
      let equal : record { instance = u; done = done } ≡ record { instance = x; done = a } = let v : Visit = record { instance = x; done = a } in let n : Visit = now in cc in
      subst (λ (v : Visit). slice_get (row_of feeders v.instance) v.done ≡ Some w) equal fed

  fed_by : (w : ℕ) → slice_get (row_of feeders u) done ≡ Some w → Contains roots w
  fed_by w fed = closed w u (contained_at (row_of feeders u) done w fed)

  pub w_within : (w : ℕ) → slice_get (row_of feeders u) done ≡ Some w → w < length marks
  w_within w fed = let lt = rows w (fed_by w fed) in let e = is.room in omega arith

  pub enters : (w : ℕ) → slice_get (row_of feeders u) done ≡ Some w → mark_of marks w ≡ New
      → GoesOn feeders roots (record { marks = marks; trail = trail; order = order })
      (record { marks = set marks w Open; trail = trail ++ record { instance = w; done = 0 } ∷ []; order = order })
  enters w fed is_new =
      let within = w_within w fed in
      record {
        walk = entered feeders (Contains roots) marks trail order w is is_new within (fed_by w fed) (leads_to w fed);
        reached = still_reached w Open (trail ++ record { instance = w; done = 0 } ∷ []) order within (λ e. cc);
        less =
            let most = 2 + sum_by (λ (row : List ℕ). length row) feeders in
            let all : mark_work most (mark_of marks w) ≡ most = ap (mark_work most) is_new in
            let set_e = set_work w Open within most in
            let push_e = sum_by_push (visit_work feeders) trail (record { instance = w; done = 0 }) in
            let short = row_short feeders w in
            omega arith;
      }

  pub meets : (w : ℕ) → slice_get (row_of feeders u) done ≡ Some w → mark_of marks w ≡ Open
      → Meets feeders (record { marks = marks; trail = trail; order = order }) w
  meets w fed is_open =
      let at = is.on_trail w is_open in
      record { place = at.0; done = at.1.0; on_trail = at.1.1; leads = leads_to w fed }

-- the cases of a step, for the visit at the end of the trail
module _ (feeders : List (List ℕ)) (roots : List ℕ) (closed : AreClosed feeders roots) (rows : HaveRows feeders roots) (walk : WalkState) (visit : Visit)
    (some : 0 < length walk.trail) (top : slice_get walk.trail (length walk.trail - 1) ≡ Some visit) (is : IsWalk feeders (Contains roots) walk)
    (row : List ℕ) (is_row : row ≡ row_of feeders visit.instance) where
  ends : suc (length walk.trail - 1) ≡ length walk.trail
  ends = omega (arith, some)

  pub step_within : visit.instance < length walk.marks
  step_within =
      u_within feeders roots closed rows walk.marks walk.trail walk.order (length walk.trail - 1) visit.instance visit.done ends top is

  pub step_leaves : (new : WalkState) → length row ≤ visit.done
      → new ≡ record { marks = set walk.marks visit.instance Done; trail = take (length walk.trail - 1) walk.trail; order = walk.order ++ visit.instance ∷ [] }
      → GoesOn feeders roots walk new
  step_leaves new all e =
      subst (GoesOn feeders roots walk) (sym e)
      (leaves feeders roots closed rows walk.marks walk.trail walk.order (length walk.trail - 1) visit.instance visit.done ends top is
      (subst (λ r. length r ≤ visit.done) is_row all))

  fed : visit.done < length row → slice_get (row_of feeders visit.instance) visit.done ≡ Some (get_or row visit.done 0)
  fed lt = ap (λ r. slice_get r visit.done) (sym is_row) ∙ slice_get-get_or row visit.done 0 lt

  pub next_within : visit.done < length row → get_or row visit.done 0 < length walk.marks
  next_within lt =
      w_within feeders roots closed rows walk.marks walk.trail walk.order (length walk.trail - 1) visit.instance visit.done ends top is
      (get_or row visit.done 0) (fed lt)

  pub step_advances : (new : WalkState) (m : Mark) → visit.done < length row → m ≡ mark_of walk.marks (get_or row visit.done 0) → m ≡ Done
      → new ≡ record {
        marks = walk.marks;
        trail = set walk.trail (length walk.trail - 1) (record { instance = visit.instance; done = visit.done + 1 });
        order = walk.order;
      } → GoesOn feeders roots walk new
  step_advances new m lt was is_done e =
      subst (GoesOn feeders roots walk) (sym e)
      (advances feeders roots closed rows walk.marks walk.trail walk.order (length walk.trail - 1) visit.instance visit.done ends top is
      (get_or row visit.done 0) (fed lt) (sym was ∙ is_done))

  pub step_enters : (new : WalkState) (m : Mark) → visit.done < length row → m ≡ mark_of walk.marks (get_or row visit.done 0) → m ≡ New
      → new ≡ record {
        marks = set walk.marks (get_or row visit.done 0) Open;
        trail = walk.trail ++ record { instance = get_or row visit.done 0; done = 0 } ∷ [];
        order = walk.order;
      } → GoesOn feeders roots walk new
  step_enters new m lt was is_new e =
      subst (GoesOn feeders roots walk) (sym e)
      (enters feeders roots closed rows walk.marks walk.trail walk.order (length walk.trail - 1) visit.instance visit.done ends top is
      (get_or row visit.done 0) (fed lt) (sym was ∙ is_new))

  pub step_meets : (m : Mark) → visit.done < length row → m ≡ mark_of walk.marks (get_or row visit.done 0) → m ≡ Open
      → Meets feeders walk (get_or row visit.done 0)
  step_meets m lt was is_open =
      meets feeders roots closed rows walk.marks walk.trail walk.order (length walk.trail - 1) visit.instance visit.done ends top is
      (get_or row visit.done 0) (fed lt) (sym was ∙ is_open)
