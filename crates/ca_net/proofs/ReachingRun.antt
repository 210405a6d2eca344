-- One pair run ends in the last limit.
use Rattle.std.proofs.Common.{◌≡◌, ℕ, zero, suc, ◌+◌, ◌<◌, ◌≤◌, ◌⊎◌, List, [], ◌∷◌, ◌++◌, length, inl, inr}
use Rattle.std.proofs.Common.{refl, sym, ◌∙◌, ap, subst, arith, get_or, get_or-set_same, get_or-set_other}
use Rattle.std.proofs.Common.{length-set}
use Rattle.std.proofs.Math.Decide.{dec_le}
use native.Mathlib.Decide.{ℕ_discrete}
use Rattle.std.specs.List.{Contains, AllByRecursion, slice_set}
use Rattle.std.proofs.lemmas.List.{get_or_past}
use Rattle.ca_net.specs.declared.trit.Trit.{Trit}
use Rattle.ca_net.specs.declared.trit.Trit.TheVariants.{Zero, One, X}
use Rattle.ca_net.specs.declared.node.NodeKind.TheVariants.{Input}
use Rattle.ca_net.specs.Trit.{IsBelow, meet_of}
use Rattle.ca_net.specs.Circuit.{Circuit, IsWellFormed, kind_at, IsInput, IsStorage}
use Rattle.ca_net.specs.State.{IsStateBelow, value_at, IsState}
use Rattle.ca_net.specs.Response.{IsResponse}
use Rattle.ca_net.specs.Event.{Event, Settle, Blur, Set, IsEvent, IsUnstable, Step, Run, IsQuiet}
use Rattle.ca_net.specs.PairRun.{HasRounds, MayCome, EndsAt}
use Rattle.ca_net.specs.Limits.{HasInputs, IsFixed, IsHeld, AboveAtStorage, AreLimits, IsMeet}
use Rattle.ca_net.proofs.ResponseLaws.{response_rises_lem}
use Rattle.ca_net.proofs.StateLemmas.{IsBelow-trans, IsBelow-stable, storage_or_input, storage_within}
use Rattle.ca_net.proofs.StateLemmas.{input_responds, some_list, definites, definites-le, definites-same}
use Rattle.ca_net.proofs.HeldStates.{Held, held_response, keep_run, IsNext, some_next, next_up, next_held}
use Rattle.ca_net.proofs.EndsAbove.{base, base_state, base_inputs, base_storage, base_below, next_inputs}
use Rattle.ca_net.proofs.EndsAbove.{next_below, meet_X, meet_below}

pub Trit-stable : (a b : Trit) → ((a ≡ b → ⊥) → ⊥) → a ≡ b
Trit-stable Zero Zero h = refl
Trit-stable Zero One h = absurd (h (λ e. cc))
Trit-stable Zero X h = absurd (h (λ e. cc))
Trit-stable One Zero h = absurd (h (λ e. cc))
Trit-stable One One h = refl
Trit-stable One X h = absurd (h (λ e. cc))
Trit-stable X Zero h = absurd (h (λ e. cc))
Trit-stable X One h = absurd (h (λ e. cc))
Trit-stable X X h = refl

IsBelow-both : (a b : Trit) → IsBelow a b → IsBelow b a → a ≡ b
IsBelow-both a b (inr e) q = e
IsBelow-both a b (inl e) (inl f) = e ∙ sym f
IsBelow-both a b (inl e) (inr f) = sym f

may_come : (a b : Trit) → (a ≡ b → a ≡ X) ⊎ ((a ≡ b) × (a ≡ X → ⊥) × (meet_of a b ≡ b))
may_come Zero Zero = inr (refl, (λ e. cc), refl)
may_come Zero One = inl (λ e. cc)
may_come Zero X = inl (λ e. cc)
may_come One Zero = inl (λ e. cc)
may_come One One = inr (refl, (λ e. cc), refl)
may_come One X = inl (λ e. cc)
may_come X b = inl (λ e. refl)

-- the k numbers from j on
count_from : ℕ → ℕ → List ℕ
count_from j zero = []
count_from j (suc k) = j ∷ count_from (j + 1) k

length-count_from : (j k : ℕ) → length (count_from j k) ≡ k
unfolding count_from
length-count_from j zero = refl
length-count_from j (suc k) = ap suc (length-count_from (j + 1) k)

get_or-count_from : (j k n d : ℕ) → n < k → get_or (count_from j k) n d ≡ j + n
unfolding count_from
get_or-count_from j zero n d lt = absurd (omega arith)
get_or-count_from j (suc k) zero d lt = omega arith
get_or-count_from j (suc k) (suc n) d lt = get_or-count_from (j + 1) k n d (omega arith) ∙ omega arith

among : (k n : ℕ) → n < k → Contains (count_from 0 k) n
among k n lt = (n, subst (λ x. n < x) (sym (length-count_from 0 k)) lt, get_or-count_from 0 k n n lt ∙ omega arith)

among_below : (k n : ℕ) → Contains (count_from 0 k) n → n < k
among_below k n c =
    let lt : c.0 < k = subst (λ x. c.0 < x) (length-count_from 0 k) c.1 in
    let e : 0 + c.0 ≡ n = sym (get_or-count_from 0 k c.0 n lt) ∙ c.2 in omega arith

repeats : ℕ → Event → List Event
repeats zero e = []
repeats (suc k) e = e ∷ repeats k e

-- the same values at all nodes
abbrev Same : List Trit → List Trit → Type 0
Same a b = (n : ℕ) → value_at a n ≡ value_at b n

module _ (net : Circuit) (well_formed : IsWellFormed net) where
  settle_all : Event
  settle_all = Settle (count_from 0 (length net.nodes))

  blur_all : Event
  blur_all = Blur (count_from 0 (length net.nodes))

  rounds_of : (k : ℕ) → HasRounds net k (repeats k settle_all)
  unfolding repeats settle_all
  rounds_of zero = tt
  rounds_of (suc k) =
      (settle_all ∷ [], repeats k settle_all, refl, record { quiet = (tt, tt); each = λ n lt. inl (among (length net.nodes) n lt) }, rounds_of k)

  past : (s : List Trit) (n : ℕ) → IsState net s → length net.nodes ≤ n → value_at s n ≡ X
  past s n is le = get_or_past s n X (subst (λ x. x ≤ n) (sym is) le)

  settle_step : (g t : List Trit) → IsState net g → IsNext net well_formed g t → Step net g settle_all t
  unfolding settle_all
  settle_step g t is next = (
    next.is_state,
    λ n c. next.responds n (among_below (length net.nodes) n c),
    λ n out. elim (dec_le (n + 1) (length net.nodes)) [
      | yes lt ↦ absurd (out (among (length net.nodes) n (omega arith)))
      | no ge ↦ past t n next.is_state (omega arith) ∙ sym (past g n is (omega arith))
    ],
  )

  settle_event : IsEvent net settle_all
  unfolding settle_all
  settle_event n c = among_below (length net.nodes) n c

  blur_event : IsEvent net blur_all
  unfolding blur_all
  blur_event n c = among_below (length net.nodes) n c

  -- k rounds that settle all nodes lead to the limit
  module _ (v m l : List Trit) (fix : IsFixed net v l) (least : (t : List Trit) → IsFixed net v t → AboveAtStorage net m t → IsStateBelow l t) where
    settles : (k : ℕ) (g : List Trit) → IsState net g → Held net g → HasInputs net v g → AboveAtStorage net m g → IsStateBelow g l
        → ((length net.nodes ≤ definites g + k) ⊎ Same g l)
        → ((t : List Trit) → Run net g (repeats k settle_all) t → Same t l → IsState net t → ⊥) → ⊥
    unfolding repeats
    settles zero g is held ins above below (inr same) out = out g refl same is
    settles zero g is held ins above below (inl enough) out =
        let most : definites l ≤ length l = definites-le l in
        let len : length l ≡ length net.nodes = fix.is_state in
        out g refl (definites-same g l (is ∙ sym len) below (omega arith)) is
    settles (suc k) g is held ins above below enough out = some_next net well_formed g (λ t next.
        let up = next_up net well_formed g t is held next in
        let down = next_below net well_formed v m l fix least g t below ins next in
        let go : ((length net.nodes ≤ definites t + k) ⊎ Same t l) → ⊥ = λ e.
        settles k t next.is_state (next_held net well_formed g t is held next) (next_inputs net well_formed v m l fix least g t ins next)
        (λ n st. IsBelow-trans _ _ _ (above n st) (up n)) down e
        (λ u run same isu. out u (settle_event, (t, settle_step g t is next, run)) same isu) in
        elim enough [
          | inr same ↦ go (inr (λ n. IsBelow-both _ _ (down n) (subst (λ x. IsBelow x (value_at t n)) (same n) (up n))))
          | inl enough ↦ elim (dec_le (definites t) (definites g)) [
            | no more ↦ go (inl (omega arith))
            | yes le ↦
                let same : Same g t = definites-same g t (is ∙ sym next.is_state) up le in
                let low = least g (record {
                  is_state = is;
                  inputs = ins;
                  fixed = λ n st. subst (IsResponse net g n) (sym (same n)) (next.responds n (storage_within net n st));
                }) above in
                go (inr (λ n. IsBelow-both _ _ (down n) (subst (λ x. IsBelow (value_at l n) x) (same n) (low n))))
          ]
        ])

  -- the inputs that may change take the values of w
  record SetRun (v1 v2 w s : List Trit) (k : ℕ) : Type 0 where
    events : List Event
    to : List Trit
    may : AllByRecursion (MayCome v1 v2) events
    run : Run net s events to
    is_state : IsState net to
    changed : (n : ℕ) → n < k → IsInput net n → (value_at v1 n ≡ value_at v2 n → value_at v1 n ≡ X) → value_at to n ≡ value_at w n
    storage : (n : ℕ) → IsStorage net n → value_at to n ≡ value_at s n
    same : (n : ℕ) → ((value_at v1 n ≡ value_at v2 n → value_at v1 n ≡ X) → ⊥) → value_at to n ≡ value_at s n

  pub run_append : (es bs : List Event) (s m t : List Trit) → Run net s es m → Run net m bs t → Run net s (es ++ bs) t
  run_append [] bs s m t p q = subst (λ x. Run net x bs t) p q
  run_append (e ∷ es) bs s m t p q = (p.0, (p.1.0, p.1.1, run_append es bs p.1.0 m t p.1.2 q))

  may_append : (v1 v2 : List Trit) (es bs : List Event) → AllByRecursion (MayCome v1 v2) es → AllByRecursion (MayCome v1 v2) bs → AllByRecursion (MayCome v1 v2) (es ++ bs)
  may_append v1 v2 [] bs p q = q
  may_append v1 v2 (e ∷ es) bs p q = (p.0, may_append v1 v2 es bs p.1 q)

  set_more : (v1 v2 w s : List Trit) (k : ℕ) → SetRun v1 v2 w s k → IsInput net k → (value_at v1 k ≡ value_at v2 k → value_at v1 k ≡ X) → SetRun v1 v2 w s (suc k)
  set_more v1 v2 w s k r i may = record {
    events = r.events ++ Set k (value_at w k) ∷ [];
    to = slice_set r.to k (value_at w k);
    may = may_append v1 v2 r.events (Set k (value_at w k) ∷ []) r.may (may, tt);
    run = run_append r.events (Set k (value_at w k) ∷ []) s r.to _ r.run (i, (slice_set r.to k (value_at w k), refl, refl));
    is_state = length-set r.to k (value_at w k) ∙ r.is_state;
    changed = λ n lt h m. elim (ℕ_discrete n k) [
      | yes e ↦ subst (λ x. value_at (slice_set r.to k (value_at w k)) x ≡ value_at w x) (sym e) (get_or-set_same r.to k (value_at w k) X (subst (λ x. k < x) (sym r.is_state) i.0))
      | no ne ↦ get_or-set_other r.to k n (value_at w k) X ne ∙ r.changed n (omega arith) h m
    ];
    storage = λ n st. get_or-set_other r.to k n (value_at w k) X (λ e. st (subst (λ x. kind_at net x ≡ Input) (sym e) i.1)) ∙ r.storage n st;
    same = λ n no_may. get_or-set_other r.to k n (value_at w k) X (λ e. no_may (subst (λ x. value_at v1 x ≡ value_at v2 x → value_at v1 x ≡ X) (sym e) may)) ∙ r.same n no_may;
  }

  set_skip : (v1 v2 w s : List Trit) (k : ℕ) → SetRun v1 v2 w s k → (IsInput net k → (value_at v1 k ≡ value_at v2 k → value_at v1 k ≡ X) → ⊥) → SetRun v1 v2 w s (suc k)
  set_skip v1 v2 w s k r none = record {
    events = r.events;
    to = r.to;
    may = r.may;
    run = r.run;
    is_state = r.is_state;
    changed = λ n lt h m. elim (ℕ_discrete n k) [
      | yes e ↦ absurd (none (subst (IsInput net) e h) (subst (λ x. value_at v1 x ≡ value_at v2 x → value_at v1 x ≡ X) e m))
      | no ne ↦ r.changed n (omega arith) h m
    ];
    storage = r.storage;
    same = r.same;
  }

  set_run : (v1 v2 w s : List Trit) (k : ℕ) → IsState net s → k ≤ length net.nodes → SetRun v1 v2 w s k
  set_run v1 v2 w s zero is le = record {
    events = [];
    to = s;
    may = tt;
    run = refl;
    is_state = is;
    changed = λ n lt. absurd (omega arith);
    storage = λ n st. refl;
    same = λ n none. refl;
  }
  set_run v1 v2 w s (suc k) is le =
      let r = set_run v1 v2 w s k is (omega arith) in
      elim (storage_or_input net k) [
        | inl st ↦ set_skip v1 v2 w s k r (λ i m. st i.1)
        | inr e ↦ elim (may_come (value_at v1 k) (value_at v2 k)) [
          | inl may ↦ set_more v1 v2 w s k r (omega arith, e) may
          | inr same ↦ set_skip v1 v2 w s k r (λ i m. same.1 (m same.0))
        ]
      ]

  -- what all nodes are when the unstable ones have become unknown
  record IsBlurred (b t : List Trit) : Type 0 where
    is_state : IsState net t
    unstable : (n : ℕ) → n < length net.nodes → IsUnstable net b n → value_at t n ≡ X
    stable : (n : ℕ) → n < length net.nodes → (IsUnstable net b n → ⊥) → value_at t n ≡ value_at b n

  some_blurred : (b : List Trit) → ((t : List Trit) → IsBlurred b t → ⊥) → ⊥
  some_blurred b out =
      some_list (λ n v. (IsUnstable net b n → v ≡ X) × ((IsUnstable net b n → ⊥) → v ≡ value_at b n))
      (λ n out. out (value_at b n) ((λ un. absurd (out X ((λ _. refl), (λ no_un. absurd (no_un un))))), (λ _. refl)))
      (length net.nodes)
      (λ t len h. out t (record { is_state = len; unstable = λ n lt. (h n lt).0; stable = λ n lt. (h n lt).1 }))

  blur_step : (b t : List Trit) → IsState net b → IsBlurred b t → Step net b blur_all t
  unfolding blur_all
  blur_step b t is h = (
    h.is_state,
    (λ n c un. h.unstable n (among_below (length net.nodes) n c) un),
    (λ n out. elim (dec_le (n + 1) (length net.nodes)) [
      | yes lt ↦ h.stable n (omega arith) (out (among (length net.nodes) n (omega arith)))
      | no ge ↦ past t n h.is_state (omega arith) ∙ sym (past b n is (omega arith))
    ]),
  )

  blur_quiet : AllByRecursion IsQuiet (blur_all ∷ [])
  unfolding blur_all
  blur_quiet = (tt, tt)

  blur_may : (v1 v2 : List Trit) → MayCome v1 v2 blur_all
  unfolding blur_all
  blur_may v1 v2 = tt

  blurred_down : (b t : List Trit) → IsBlurred b t → IsStateBelow t b
  blurred_down b t h n = elim (dec_le (n + 1) (length net.nodes)) [
    | no ge ↦ inl (past t n h.is_state (omega arith))
    | yes le ↦ let lt : n < length net.nodes = omega arith in IsBelow-stable _ _ (λ out.
        let stable : IsUnstable net b n → ⊥ = λ un. out (inl (h.unstable n lt un)) in
        out (inr (h.stable n lt stable)))
  ]

  -- blurs lead from a state above to the middle limit
  record BlurRun (v1 v2 b middle : List Trit) : Type 0 where
    events : List Event
    to : List Trit
    may : AllByRecursion (MayCome v1 v2) events
    run : Run net b events to
    is_state : IsState net to
    same : Same to middle

  module _ (v1 v2 vm first middle : List Trit) (mid : IsHeld net vm first middle) (greatest : (t : List Trit) → IsHeld net vm first t → IsStateBelow t middle) where
    blurs : (k : ℕ) (b : List Trit) → IsState net b → HasInputs net vm b → IsStateBelow middle b → IsStateBelow b first
        → definites b ≤ definites middle + k → (BlurRun v1 v2 b middle → ⊥) → ⊥
    blurs zero b is ins up down enough out =
        let same : Same middle b = definites-same middle b (mid.is_state ∙ sym is) up (omega arith) in
        out (record { events = []; to = b; may = tt; run = refl; is_state = is; same = λ n. sym (same n) })
    blurs (suc k) b is ins up down enough out = some_blurred b (λ t h.
        let low = blurred_down b t h in
        let step : Run net b (blur_all ∷ []) t = (blur_event, (t, blur_step b t is h, refl)) in
        elim (dec_le (definites b) (definites t)) [
          | no less ↦ blurs k t h.is_state
              (λ n i. h.stable n i.0 (λ un. un (input_responds net b n i.1)) ∙ ins n i)
              (keep_run net well_formed (blur_all ∷ []) middle b t mid.held up blur_quiet step)
              (λ n. IsBelow-trans _ _ _ (low n) (down n)) (omega arith)
              (λ r. out (record {
                events = blur_all ∷ r.events;
                to = r.to;
                may = (blur_may v1 v2, r.may);
                run = (blur_event, (t, blur_step b t is h, r.run));
                is_state = r.is_state;
                same = r.same;
              }))
          | yes le ↦
              let same : Same t b = definites-same t b (h.is_state ∙ sym is) low le in
              let held : IsHeld net vm first b = record {
                is_state = is;
                inputs = ins;
                below_first = down;
                held = λ n st r hr. IsBelow-stable _ _ (λ no_way.
                    let stable : IsUnstable net b n → ⊥ = λ un. no_way (inl (sym (same n) ∙ h.unstable n (storage_within net n st) un)) in
                    stable (λ here. no_way (response_rises_lem net b b n (value_at b n) r well_formed (storage_within net n st) (λ m. inr refl) here hr)));
              } in
              let high = greatest b held in
              out (record { events = []; to = b; may = tt; run = refl; is_state = is; same = λ n. IsBelow-both _ _ (high n) (up n) })
        ])

  pub ends_at_last : (v1 vm v2 first middle last : List Trit) (n : ℕ) (v : Trit) → IsMeet net v1 v2 vm → AreLimits net v1 vm v2 first middle last
      → EndsAt net v1 v2 n v → value_at last n ≡ v
  ends_at_last v1 vm v2 first middle last n v meets lim ends = Trit-stable _ _ (λ out.
      let f = lim.is_first.fixed in
      let mid = lim.is_middle.held in
      let l = lim.is_last.fixed in
      let start : List Trit = base net v1 [] in
      settles v1 [] first f (λ t ft a. lim.is_first.least t ft) (length net.nodes) start (base_state net v1 [])
      (λ n st r h. inl (base_storage net v1 [] n st)) (base_inputs net v1 []) (λ n st. inl refl)
      (base_below net v1 [] first (λ n h. inr (sym (f.inputs n h))) (λ n st. inl refl)) (inl (omega arith))
      (λ s1 run1 same1 is1.
      let a = set_run v1 v2 [] s1 (length net.nodes) is1 (omega arith) in
      let a_inputs : HasInputs net vm a.to = λ n i. elim (may_come (value_at v1 n) (value_at v2 n)) [
        | inl may ↦ a.changed n i.0 i may ∙ sym (meets n i ∙ meet_X net well_formed (value_at v1 n) (value_at v2 n) may)
        | inr same ↦ a.same n (λ m. same.1 (m same.0)) ∙ same1 n ∙ f.inputs n i ∙ same.0 ∙ sym same.2 ∙ sym (meets n i)
      ] in
      let a_storage : (n : ℕ) → IsStorage net n → value_at a.to n ≡ value_at first n = λ n st. a.storage n st ∙ same1 n in
      let a_up : IsStateBelow middle a.to = λ n. elim (storage_or_input net n) [
        | inl st ↦ subst (λ x. IsBelow (value_at middle n) x) (sym (a_storage n st)) (mid.below_first n)
        | inr e ↦ elim (dec_le (n + 1) (length net.nodes)) [
          | yes le ↦ let lt : n < length net.nodes = omega arith in inr (mid.inputs n (lt, e) ∙ sym (a_inputs n (lt, e)))
          | no ge ↦ inl (past middle n mid.is_state (omega arith))
        ]
      ] in
      let a_down : IsStateBelow a.to first = λ n. elim (storage_or_input net n) [
        | inl st ↦ inr (a_storage n st)
        | inr e ↦ elim (dec_le (n + 1) (length net.nodes)) [
          | yes le ↦ let lt : n < length net.nodes = omega arith in
              elim (may_come (value_at v1 n) (value_at v2 n)) [
                | inl may ↦ inl (a.changed n lt (lt, e) may)
                | inr same ↦ inr (a.same n (λ m. same.1 (m same.0)) ∙ same1 n)
              ]
          | no ge ↦ inl (past a.to n a.is_state (omega arith))
        ]
      ] in
      let most : definites a.to ≤ length a.to = definites-le a.to in
      let len : length a.to ≡ length net.nodes = a.is_state in
      blurs v1 v2 vm first middle mid lim.is_middle.greatest (length net.nodes) a.to a.is_state a_inputs a_up a_down (omega arith) (λ b.
      let c = set_run v1 v2 v2 b.to (length net.nodes) b.is_state (omega arith) in
      let c_inputs : HasInputs net v2 c.to = λ n i. elim (may_come (value_at v1 n) (value_at v2 n)) [
        | inl may ↦ c.changed n i.0 i may
        | inr same ↦ c.same n (λ m. same.1 (m same.0)) ∙ b.same n ∙ mid.inputs n i ∙ meets n i ∙ same.2
      ] in
      let c_storage : (n : ℕ) → IsStorage net n → value_at c.to n ≡ value_at middle n = λ n st. c.storage n st ∙ b.same n in
      let c_up : IsStateBelow middle c.to = λ n. elim (storage_or_input net n) [
        | inl st ↦ inr (sym (c_storage n st))
        | inr e ↦ elim (dec_le (n + 1) (length net.nodes)) [
          | yes le ↦ let lt : n < length net.nodes = omega arith in
              subst (λ x. IsBelow x (value_at c.to n)) (sym (mid.inputs n (lt, e) ∙ meets n (lt, e)))
              (subst (λ x. IsBelow (meet_of (value_at v1 n) (value_at v2 n)) x) (sym (c_inputs n (lt, e))) (meet_below net well_formed (value_at v1 n) (value_at v2 n)))
          | no ge ↦ inl (past middle n mid.is_state (omega arith))
        ]
      ] in
      let c_down : IsStateBelow c.to last = λ n. elim (storage_or_input net n) [
        | inl st ↦ subst (λ x. IsBelow x (value_at last n)) (sym (c_storage n st)) (lim.is_last.above n st)
        | inr e ↦ elim (dec_le (n + 1) (length net.nodes)) [
          | yes le ↦ let lt : n < length net.nodes = omega arith in inr (c_inputs n (lt, e) ∙ sym (l.inputs n (lt, e)))
          | no ge ↦ inl (past c.to n c.is_state (omega arith))
        ]
      ] in
      settles v2 middle last l lim.is_last.least (length net.nodes) c.to c.is_state
      (λ n st r h. subst (λ x. IsBelow x r) (sym (c_storage n st)) (held_response net well_formed middle c.to n r mid.held c_up h))
      c_inputs (λ n st. inr (sym (c_storage n st))) c_down (inl (omega arith))
      (λ s2 run2 same2 is2.
      out (sym (same2 n) ∙ ends.every_run s2 (record {
        start = start;
        settled = s1;
        changed = c.to;
        first_phase = repeats (length net.nodes) settle_all;
        change = a.events ++ (b.events ++ c.events);
        last_phase = repeats (length net.nodes) settle_all;
        start_is_state = base_state net v1 [];
        start_inputs = λ n h. inr (sym (base_inputs net v1 [] n h));
        first_is_long = rounds_of (length net.nodes);
        first_run = run1;
        change_may_come = may_append v1 v2 a.events (b.events ++ c.events) a.may (may_append v1 v2 b.events c.events b.may c.may);
        change_run = run_append a.events (b.events ++ c.events) s1 a.to c.to a.run (run_append b.events c.events a.to b.to c.to b.run c.run);
        changed_inputs = λ n h. inr (sym (c_inputs n h));
        last_is_long = rounds_of (length net.nodes);
        last_run = run2;
      }))))))
