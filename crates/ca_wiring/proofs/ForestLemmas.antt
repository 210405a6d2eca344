-- Roots, and how they stay or come together.
use Rattle.std.proofs.Common.{◌≡◌, ℕ, zero, suc, ◌+◌, ◌<◌, ◌≤◌, List, [], ◌∷◌, ◌++◌, Bool, true, false}
use Rattle.std.proofs.Common.{length, inl, inr, refl, sym, ◌∙◌, ap, subst, arith, get_or, set}
use Rattle.std.proofs.Common.{get_or-set_same, get_or-set_other, length-set}
use Rattle.std.specs.Prelude.{Some, slice_get, eqb, nat_lt, if◌then◌else◌}
use Rattle.std.proofs.lemmas.Bool.{eq-eqb, ne_eqb, ltb-true, ltb-false}
use Rattle.std.specs.List.{Contains}
use Rattle.std.proofs.Math.Decide.{dec_le}
use Rattle.std.proofs.lemmas.List.{get_or_past, get_or_default, get_or_append_left, get_or-append-add}
use Rattle.std.proofs.lemmas.List.{set-get_or}
use native.Mathlib.Decide.{ℕ_discrete}
use Rattle.ca_wiring.specs.declared.joined.Join.{Join}
use Rattle.ca_wiring.specs.declared.joined.Span.{Span}
use Rattle.ca_wiring.specs.code.Spans.{join_at, IsAmongFirst}
use Rattle.ca_wiring.specs.Joined.{Links, AreJoined, Same, Across, AreEarliest}
use Rattle.ca_wiring.specs.code.Forest.{Itself, Above}
use Rattle.ca_wiring.specs.code.Forest.{parent_of, HasRoot, HaveOneRoot, LeadBack, IsForest, Shortens}
use Rattle.ca_wiring.specs.code.Forest.{Unites, UnitesSpan, UnitesFirst, AreTheirOwn, AreRoots, linked_roots}

module _ (joins : List Join) where
  pub joined_trans : (a b c : ℕ) → AreJoined joins a b → AreJoined joins b c → AreJoined joins a c
  joined_trans a b c h (Same e) = subst (AreJoined joins a) e h
  joined_trans a b c h (Across join d q has links) = Across join d (joined_trans a b d h q) has links

  links_back : (join : Join) (a b : ℕ) → Links join a b → Links join b a
  links_back join a b (inl l) = inr (l.1, l.0)
  links_back join a b (inr l) = inl (l.1, l.0)

  pub joined_sym : (a b : ℕ) → AreJoined joins a b → AreJoined joins b a
  joined_sym a b (Same e) = Same (sym e)
  joined_sym a b (Across join c h has links) =
      joined_trans b c a (Across join b (Same refl) has (links_back join c b links)) (joined_sym a c h)

module _ (parents : List ℕ) where
  pub root_is_root : (w r : ℕ) → HasRoot parents w r → parent_of parents r ≡ r
  root_is_root w r (Itself e at) = subst (λ x. parent_of parents x ≡ x) e at
  root_is_root w r (Above h) = root_is_root (parent_of parents w) r h

  pub root_itself : (w r : ℕ) → parent_of parents w ≡ w → HasRoot parents w r → w ≡ r
  root_itself w r at (Itself e p) = e
  root_itself w r at (Above h) = sym at ∙ root_itself (parent_of parents w) r (ap (parent_of parents) at) h

  -- a wire leads to one root
  pub one_root : (w r s : ℕ) → HasRoot parents w r → HasRoot parents w s → r ≡ s
  one_root w r s (Itself e at) other = sym e ∙ root_itself w s at other
  one_root w r s (Above h) (Itself e at) = one_root (parent_of parents w) r s h (subst (λ x. HasRoot parents x s) (sym at) (Itself e at))
  one_root w r s (Above h) (Above q) = one_root (parent_of parents w) r s h q

  pub root_no_later : ((w : ℕ) → parent_of parents w ≤ w) → (w r : ℕ) → HasRoot parents w r → r ≤ w
  root_no_later no_later w r (Itself e at) = omega (arith, e)
  root_no_later no_later w r (Above h) = let q = root_no_later no_later (parent_of parents w) r h in let p = no_later w in omega arith

  pub root_joined : (joins : List Join) → ((w : ℕ) → AreJoined joins w (parent_of parents w)) → (w r : ℕ) → HasRoot parents w r → AreJoined joins w r
  root_joined joins joined w r (Itself e at) = Same e
  root_joined joins joined w r (Above h) = joined_trans joins w (parent_of parents w) r (joined w) (root_joined joins joined (parent_of parents w) r h)

-- one wire is linked anew
module _ (parents : List ℕ) (at new : ℕ) (within : at < length parents) where
  pub parent_set : parent_of (set parents at new) at ≡ new
  parent_set = get_or-set_same parents at new at within

  pub parent_other : (w : ℕ) → (w ≡ at → ⊥) → parent_of (set parents at new) w ≡ parent_of parents w
  parent_other w ne = get_or-set_other parents at w new w ne

-- a wire's root is that of the next
pub below_root : (parents : List ℕ) (w r : ℕ) → HasRoot parents w r → HasRoot parents (parent_of parents w) r
below_root parents w r (Itself e at) = subst (λ x. HasRoot parents x r) (sym at) (Itself e at)
below_root parents w r (Above h) = h

-- each wire has a root, where the links lead back
pub some_root : (parents : List ℕ) → LeadBack parents → (most w : ℕ) → w < most → (r : ℕ) × HasRoot parents w r
some_root parents back zero w lt = absurd (omega (arith, lt))
some_root parents back (suc most) w lt = elim (ℕ_discrete (parent_of parents w) w) [
  | yes at ↦ (w, Itself refl at)
  | no ne ↦ let le = back w in let found = some_root parents back most (parent_of parents w) (omega arith) in (found.0, Above found.1)
]

-- a wire that is linked to the one after the next leads where it led
module _ (parents : List ℕ) (at : ℕ) (within : at < length parents) where
  following : ℕ
  following = parent_of parents (parent_of parents at)

  halved_root : (w r : ℕ) → HasRoot parents w r → HasRoot (set parents at (parent_of parents (parent_of parents at))) w r
  halved_root w r (Itself e here) = Itself e (elim (ℕ_discrete w at) [
    | yes same ↦
        subst (λ x. parent_of (set parents at (parent_of parents (parent_of parents at))) x ≡ x) (sym same)
        (parent_set parents at (parent_of parents (parent_of parents at)) within
        ∙ (let own : parent_of parents at ≡ at = subst (λ x. parent_of parents x ≡ x) same here in ap (parent_of parents) own ∙ own))
    | no ne ↦ parent_other parents at (parent_of parents (parent_of parents at)) within w ne ∙ here
  ])
  halved_root w r (Above (Itself e here)) = elim (ℕ_discrete w at) [
    | yes same ↦ Above (
        subst (λ x. HasRoot (set parents at (parent_of parents (parent_of parents at))) x r)
        (sym (ap (parent_of (set parents at (parent_of parents (parent_of parents at)))) same ∙ parent_set parents at (parent_of parents (parent_of parents at)) within
        ∙ (let two : parent_of parents (parent_of parents at) ≡ parent_of parents w = ap (λ x. parent_of parents (parent_of parents x)) (sym same) ∙ here in two)))
        (halved_root (parent_of parents w) r (Itself e here)))
    | no ne ↦ Above (
        subst (λ x. HasRoot (set parents at (parent_of parents (parent_of parents at))) x r)
        (sym (parent_other parents at (parent_of parents (parent_of parents at)) within w ne)) (halved_root (parent_of parents w) r (Itself e here)))
  ]
  halved_root w r (Above (Above h)) = elim (ℕ_discrete w at) [
    | yes same ↦ Above (
        subst (λ x. HasRoot (set parents at (parent_of parents (parent_of parents at))) x r)
        (sym (ap (parent_of (set parents at (parent_of parents (parent_of parents at)))) same ∙ parent_set parents at (parent_of parents (parent_of parents at)) within
        ∙ ap (λ x. parent_of parents (parent_of parents x)) (sym same)))
        (halved_root (parent_of parents (parent_of parents w)) r h))
    | no ne ↦ Above (
        subst (λ x. HasRoot (set parents at (parent_of parents (parent_of parents at))) x r)
        (sym (parent_other parents at (parent_of parents (parent_of parents at)) within w ne)) (halved_root (parent_of parents w) r (Above h)))
  ]

  pub halved : LeadBack parents → Shortens parents (set parents at (parent_of parents (parent_of parents at)))
  halved back = record {
    count = length-set parents at (parent_of parents (parent_of parents at));
    back = λ w. elim (ℕ_discrete w at) [
      | yes same ↦
          let e : parent_of (set parents at (parent_of parents (parent_of parents at))) w ≡ parent_of parents (parent_of parents at) =
          ap (parent_of (set parents at (parent_of parents (parent_of parents at)))) same ∙ parent_set parents at (parent_of parents (parent_of parents at)) within in
          let one = back at in
          let two = back (parent_of parents at) in
          omega arith
      | no ne ↦ subst (λ x. x ≤ w) (sym (parent_other parents at (parent_of parents (parent_of parents at)) within w ne)) (back w)
    ];
    roots = halved_root;
    forest = λ joins is. record {
      back = λ w. elim (ℕ_discrete w at) [
        | yes same ↦
            let e : parent_of (set parents at (parent_of parents (parent_of parents at))) w ≡ parent_of parents (parent_of parents at) =
            ap (parent_of (set parents at (parent_of parents (parent_of parents at)))) same ∙ parent_set parents at (parent_of parents (parent_of parents at)) within in
            let one = back at in
            let two = back (parent_of parents at) in
            omega arith
        | no ne ↦ subst (λ x. x ≤ w) (sym (parent_other parents at (parent_of parents (parent_of parents at)) within w ne)) (back w)
      ];
      joined = λ w. elim (ℕ_discrete w at) [
        | yes same ↦
            subst (AreJoined joins w)
            (sym (ap (parent_of (set parents at (parent_of parents (parent_of parents at)))) same ∙ parent_set parents at (parent_of parents (parent_of parents at)) within))
            (subst (λ x. AreJoined joins x (parent_of parents (parent_of parents at))) (sym same)
            (joined_trans joins at (parent_of parents at) (parent_of parents (parent_of parents at)) (is.joined at) (is.joined (parent_of parents at))))
        | no ne ↦ subst (AreJoined joins w) (sym (parent_other parents at (parent_of parents (parent_of parents at)) within w ne)) (is.joined w)
      ];
    };
  }

pub shortens_none : (parents : List ℕ) → LeadBack parents → Shortens parents parents
shortens_none parents back = record { count = refl; back = back; roots = λ w r h. h; forest = λ joins is. is }

pub shortens_then : (old mid new : List ℕ) → Shortens old mid → Shortens mid new → Shortens old new
shortens_then old mid new h q = record {
  count = q.count ∙ h.count;
  back = q.back;
  roots = λ w r root. q.roots w r (h.roots w r root);
  forest = λ joins is. q.forest joins (h.forest joins is);
}

-- a root is linked to another, which is earlier
module _ (parents : List ℕ) (at other : ℕ) (within : at < length parents) (less : other < at) (root : parent_of parents at ≡ at)
    (other_root : parent_of parents other ≡ other) where
  other_still : HasRoot (set parents at other) other other
  other_still = Itself refl (parent_other parents at other within other (λ e. omega (arith, e, less)) ∙ other_root)

  at_leads : HasRoot (set parents at other) at other
  at_leads = Above (subst (λ x. HasRoot (set parents at other) x other) (sym (parent_set parents at other within)) other_still)

  -- what led to the root leads to the other, and what led elsewhere still does
  leads : (w r : ℕ) → HasRoot parents w r → HasRoot (set parents at other) w (if eqb r at then other else r)
  leads w r (Itself e here) = elim (ℕ_discrete w at) [
    | yes same ↦
        subst (λ x. HasRoot (set parents at other) x (if eqb r at then other else r)) (sym same)
        (subst (HasRoot (set parents at other) at) (ap (λ (b : Bool). if b then other else r) (sym (eq-eqb r at (sym e ∙ same)))) at_leads)
    | no ne ↦
        subst (HasRoot (set parents at other) w) (ap (λ (b : Bool). if b then other else r) (sym (ne_eqb r at (λ same. ne (e ∙ same)))))
        (Itself e (parent_other parents at other within w ne ∙ here))
  ]
  leads w r (Above h) = elim (ℕ_discrete w at) [
    | yes same ↦
        subst (λ x. HasRoot (set parents at other) x (if eqb r at then other else r))
        (ap (parent_of parents) same ∙ root ∙ sym same) (leads (parent_of parents w) r h)
    | no ne ↦ Above (
        subst (λ x. HasRoot (set parents at other) x (if eqb r at then other else r)) (sym (parent_other parents at other within w ne))
        (leads (parent_of parents w) r h))
  ]

  pub linked_reported : (a b : ℕ) → HaveOneRoot parents a b → HaveOneRoot (set parents at other) a b
  linked_reported a b h = ((if eqb h.0 at then other else h.0), leads a h.0 h.1, leads b h.0 h.2)

  pub linked_one : (a b : ℕ) → HasRoot parents a at → HasRoot parents b other → HaveOneRoot (set parents at other) a b
  linked_one a b ha hb = (
    other,
    subst (HasRoot (set parents at other) a) (ap (λ (t : Bool). if t then other else at) (eq-eqb at at refl)) (leads a at ha),
    same_other b hb,
  )
    where
      same_other : (b : ℕ) → HasRoot parents b other → HasRoot (set parents at other) b other
      same_other b h = subst (HasRoot (set parents at other) b) (ap (λ (t : Bool). if t then other else other) (ne_eqb other at (λ e. omega (arith, e, less)))) (leads b other h)

  pub linked_back : LeadBack parents → LeadBack (set parents at other)
  linked_back back w = elim (ℕ_discrete w at) [
    | yes same ↦ let e : parent_of (set parents at other) w ≡ other = ap (parent_of (set parents at other)) same ∙ parent_set parents at other within in omega arith
    | no ne ↦ subst (λ x. x ≤ w) (sym (parent_other parents at other within w ne)) (back w)
  ]

  pub linked_joined : (joins : List Join) → AreJoined joins at other → IsForest joins parents → IsForest joins (set parents at other)
  linked_joined joins joined is = record {
    back = linked_back is.back;
    joined = λ w. elim (ℕ_discrete w at) [
      | yes same ↦
          subst (AreJoined joins w) (sym (ap (parent_of (set parents at other)) same ∙ parent_set parents at other within))
          (subst (λ x. AreJoined joins x other) (sym same) joined)
      | no ne ↦ subst (AreJoined joins w) (sym (parent_other parents at other within w ne)) (is.joined w)
    ];
  }

-- the two roots are linked, the later to the earlier
pub united : (join : Join) (old first mid new : List ℕ) (a b : ℕ) → Shortens old first → Shortens first mid → HasRoot first join.left a → HasRoot mid join.right b
    → a < length mid → b < length mid → new ≡ linked_roots mid a b → Unites join old new
united join old first mid new a b one two root_a root_b lt_a lt_b e =
    subst (Unites join old) (sym e) (by (nat_lt a b) refl)
  where
    both : Shortens old mid
    both = shortens_then old first mid one two

    left : HasRoot mid join.left a
    left = two.roots join.left a root_a

    sides : (joins : List Join) → Contains joins join → IsForest joins mid → AreJoined joins b a
    sides joins has is =
        joined_trans joins b join.right a (joined_sym joins join.right b (root_joined mid joins is.joined join.right b root_b))
        (joined_trans joins join.right join.left a (Across join join.right (Same refl) has (inr (refl, refl))) (root_joined mid joins is.joined join.left a left))

    by : (t : Bool) → nat_lt a b ≡ t → Unites join old (if t then set mid b a else set mid a b)
    by true less =
        let lt : a < b = ltb-true a b less in
        record {
          count = length-set mid b a ∙ both.count;
          back = linked_back mid b a lt_b lt (root_is_root mid join.right b root_b) (root_is_root mid join.left a left) both.back;
          reported = λ x y h. linked_reported mid b a lt_b lt (root_is_root mid join.right b root_b) (root_is_root mid join.left a left) x y
              (h.0, both.roots x h.0 h.1, both.roots y h.0 h.2);
          united = let one_root = linked_one mid b a lt_b lt (root_is_root mid join.right b root_b) (root_is_root mid join.left a left) join.right join.left root_b left in
              (one_root.0, one_root.2, one_root.1);
          forest = λ joins has is. linked_joined mid b a lt_b lt (root_is_root mid join.right b root_b) (root_is_root mid join.left a left) joins
              (sides joins has (both.forest joins is)) (both.forest joins is);
        }
    by false no_less = elim (ℕ_discrete a b) [
      | yes same ↦
          let still : set mid a b ≡ mid = ap (λ x. set mid a x) (sym same ∙ sym (root_is_root mid join.left a left)) ∙ set-get_or mid a a in
          subst (Unites join old) (sym still) (record {
            count = both.count;
            back = both.back;
            reported = λ x y h. (h.0, both.roots x h.0 h.1, both.roots y h.0 h.2);
            united = (a, left, subst (HasRoot mid join.right) (sym same) root_b);
            forest = λ joins has is. both.forest joins is;
          })
      | no ne ↦
          let lt : b < a = let ge = ltb-false a b no_less in omega arith in
          record {
            count = length-set mid a b ∙ both.count;
            back = linked_back mid a b lt_a lt (root_is_root mid join.left a left) (root_is_root mid join.right b root_b) both.back;
            reported = λ x y h. linked_reported mid a b lt_a lt (root_is_root mid join.left a left) (root_is_root mid join.right b root_b) x y
                (h.0, both.roots x h.0 h.1, both.roots y h.0 h.2);
            united = linked_one mid a b lt_a lt (root_is_root mid join.left a left) (root_is_root mid join.right b root_b) join.left join.right left root_b;
            forest = λ joins has is. linked_joined mid a b lt_a lt (root_is_root mid join.left a left) (root_is_root mid join.right b root_b) joins
                (joined_sym joins b a (sides joins has (both.forest joins is))) (both.forest joins is);
          }
    ]

-- wires that are linked to themselves
pub own_parent : (parents : List ℕ) → AreTheirOwn (length parents) parents → (w : ℕ) → parent_of parents w ≡ w
own_parent parents own w = elim (dec_le (w + 1) (length parents)) [
  | yes lt ↦ get_or_default parents w w 0 (omega arith) ∙ own w (omega arith)
  | no ge ↦ get_or_past parents w w (omega arith)
]

pub own_forest : (joins : List Join) (parents : List ℕ) → AreTheirOwn (length parents) parents → IsForest joins parents
own_forest joins parents own = record {
  back = λ w. let e = own_parent parents own w in omega arith;
  joined = λ w. Same (sym (own_parent parents own w));
}

-- no join of the span so far
pub span_none : (span : Span) (old : List ℕ) → LeadBack old → UnitesSpan span 0 old old
span_none span old back = record {
  count = refl;
  back = back;
  reported = λ a b one. one;
  united = λ step lt. absurd (omega (arith, lt));
  forest = λ joins has is. is;
}

-- one more join of the span
pub span_more : (span : Span) (steps : ℕ) (old mid new : List ℕ) → UnitesSpan span steps old mid
    → Unites (join_at span steps) mid new → UnitesSpan span (steps + 1) old new
span_more span steps old mid new before more = record {
  count = more.count ∙ before.count;
  back = more.back;
  reported = λ a b one. more.reported a b (before.reported a b one);
  united = λ step lt. elim (ℕ_discrete step steps) [
    | yes e ↦ subst (λ s. HaveOneRoot new (join_at span s).left (join_at span s).right) (sym e) more.united
    | no ne ↦ more.reported (join_at span step).left (join_at span step).right (before.united step (omega (arith, lt, ne)))
  ];
  forest = λ joins has is.
      more.forest joins (has steps (omega arith)) (before.forest joins (λ step lt. has step (omega (arith, lt))) is);
}

-- no span so far
pub first_none : (spans : List Span) (old : List ℕ) → LeadBack old → UnitesFirst spans 0 old old
first_none spans old back = record {
  count = refl;
  back = back;
  united = λ join among. absurd (let lt = among.before in omega (arith, lt));
  forest = λ joins has is. is;
}

-- one more span
pub first_more : (spans : List Span) (k : ℕ) (span : Span) (old mid new : List ℕ) → slice_get spans k ≡ Some span
    → UnitesFirst spans k old mid → UnitesSpan span span.count mid new → UnitesFirst spans (k + 1) old new
first_more spans k span old mid new at before more = record {
  count = more.count ∙ before.count;
  back = more.back;
  united = λ join among. elim (ℕ_discrete among.place k) [
    | yes e ↦
        let both : Some span ≡ Some among.span = sym at ∙ ap (slice_get spans) (sym e) ∙ among.at in
        let same : span ≡ among.span = cc in
        subst (λ (j : Join). HaveOneRoot new j.left j.right)
        (ap (λ (s : Span). join_at s among.step) same ∙ among.same)
        (more.united among.step (subst (λ (s : Span). among.step < s.count) (sym same) among.within))
    | no ne ↦ more.reported join.left join.right (before.united join (earlier join among ne))
  ];
  forest = λ joins has is.
      more.forest joins
      (λ step lt. has (join_at span step)
      (record { place = k; span = span; step = step; before = omega arith; at = at; within = lt; same = refl }))
      (before.forest joins (λ join among. has join (later join among)) is);
}
  where
    earlier : (join : Join) (among : IsAmongFirst spans (k + 1) join) → (among.place ≡ k → ⊥) → IsAmongFirst spans k join
    earlier join among ne = record {
      place = among.place;
      span = among.span;
      step = among.step;
      before = (let lt = among.before in omega (arith, lt, ne));
      at = among.at;
      within = among.within;
      same = among.same;
    }

    later : (join : Join) → IsAmongFirst spans k join → IsAmongFirst spans (k + 1) join
    later join among = record {
      place = among.place;
      span = among.span;
      step = among.step;
      before = (let lt = among.before in omega (arith, lt));
      at = among.at;
      within = among.within;
      same = among.same;
    }

-- the root of a wire that is linked to an earlier one is the earlier one's
pub root_after : (parents roots : List ℕ) (w next : ℕ) → next ≡ parent_of parents w → AreRoots parents w roots → next < w → HasRoot parents w (get_or roots next 0)
root_after parents roots w next is_next are lt = Above (subst (λ x. HasRoot parents x (get_or roots next 0)) is_next (are next lt))

pub root_own : (parents : List ℕ) (w next : ℕ) → LeadBack parents → next ≡ parent_of parents w → w ≤ next → HasRoot parents w w
root_own parents w next back is_next ge = let le = back w in Itself refl (let same : parent_of parents w ≡ w = omega arith in same)

pub roots_more : (parents roots new : List ℕ) (w root : ℕ) → length roots ≡ w → AreRoots parents w roots → HasRoot parents w root → new ≡ roots ++ root ∷ []
    → AreRoots parents (w + 1) new
roots_more parents roots new w root count are here e = subst (AreRoots parents (w + 1)) (sym e) more
  where
    more : AreRoots parents (w + 1) (roots ++ root ∷ [])
    more x lt = elim (ℕ_discrete x w) [
      | yes same ↦
          subst (HasRoot parents x) (sym (ap (λ k. get_or (roots ++ root ∷ []) k 0) (let s : x ≡ length roots + 0 = omega (arith, same, count) in s) ∙ get_or-append-add roots (root ∷ []) 0 0))
          (subst (λ y. HasRoot parents y root) (sym same) here)
      | no ne ↦
          subst (HasRoot parents x) (sym (get_or_append_left roots (root ∷ []) 0 x (omega (arith, count, ne, lt)))) (are x (omega (arith, ne, lt)))
    ]

-- the roots are the earliest of those that are joined, once each join is made
pub roots_are_earliest : (joins : List Join) (parents roots : List ℕ) (wires : ℕ) → IsForest joins parents
    → ((join : Join) → Contains joins join → HaveOneRoot parents join.left join.right) → length parents ≡ wires → length roots ≡ length parents → AreRoots parents (length parents) roots → AreEarliest joins wires roots
roots_are_earliest joins parents roots wires is reported count room are = record {
  count = room ∙ count;
  each = λ w lt.
      let root = are w (omega arith) in
      record {
        joined = root_joined parents joins is.joined w (get_or roots w 0) root;
        none_before = λ other joined.
            let same = one w other joined in
            let equal : get_or roots w 0 ≡ same.0 = one_root parents w (get_or roots w 0) same.0 root same.1 in
            let le = root_no_later parents is.back other same.0 same.2 in
            omega arith;
      };
}
  where
    -- what is joined leads to one root
    one : (a b : ℕ) → AreJoined joins a b → HaveOneRoot parents a b
    one a b (Same e) = let found = some_root parents is.back (a + 1) a (omega arith) in (found.0, found.1, subst (λ x. HasRoot parents x found.0) e found.1)
    one a b (Across join c h has links) =
        let before = one a c h in
        let sides = reported join has in
        elim links [
          | inl l ↦
              let at_c : HasRoot parents c sides.0 = subst (λ x. HasRoot parents x sides.0) l.0 sides.1 in
              let same : sides.0 ≡ before.0 = one_root parents c sides.0 before.0 at_c before.2 in
              (before.0, before.1, subst (HasRoot parents b) same (subst (λ x. HasRoot parents x sides.0) l.1 sides.2))
          | inr l ↦
              let at_c : HasRoot parents c sides.0 = subst (λ x. HasRoot parents x sides.0) l.0 sides.2 in
              let same : sides.0 ≡ before.0 = one_root parents c sides.0 before.0 at_c before.2 in
              (before.0, before.1, subst (HasRoot parents b) same (subst (λ x. HasRoot parents x sides.0) l.1 sides.1))
        ]
