-- Every pair run ends at or above the last limit.
use Rattle.std.proofs.Common.{◌≡◌, ℕ, zero, suc, ◌+◌, ◌<◌, ◌≤◌, List, [], ◌∷◌, ◌++◌, length, inl, inr, refl}
use Rattle.std.proofs.Common.{sym, ◌∙◌, ap, subst, arith, get_or-set_other}
use Rattle.std.proofs.Math.Decide.{dec_le}
use native.Mathlib.Decide.{ℕ_discrete}
use Rattle.std.specs.List.{AllByRecursion, slice_set}
use Rattle.std.proofs.lemmas.List.{get_or_past}
use Rattle.ca_net.specs.declared.trit.Trit.{Trit}
use Rattle.ca_net.specs.declared.trit.Trit.TheVariants.{Zero, One, X}
use Rattle.ca_net.specs.declared.node.NodeKind.{NodeKind}
use Rattle.ca_net.specs.declared.node.NodeKind.TheVariants.{Input, Storage}
use Rattle.ca_net.specs.Trit.{IsBelow, meet_of}
use Rattle.ca_net.specs.Circuit.{Circuit, IsWellFormed, kind_at, IsStorage}
use Rattle.ca_net.specs.State.{IsStateBelow, value_at, IsState}
use Rattle.ca_net.specs.Response.{IsResponse}
use Rattle.ca_net.specs.Event.{Event, Settle, Blur, Set, Run, IsQuiet}
use Rattle.ca_net.specs.PairRun.{HasRounds, MayCome, InputsAbove, PairRun}
use Rattle.ca_net.specs.Limits.{HasInputs, IsFixed, AboveAtStorage, AreLimits, IsMeet}
use Rattle.ca_net.proofs.ResponseLaws.{response_rises_lem}
use Rattle.ca_net.proofs.StateLemmas.{IsBelow-trans, IsBelow-stable, storage_or_input, storage_within}
use Rattle.ca_net.proofs.StateLemmas.{response_of_input, definites, definites-le, definites-same, table_from}
use Rattle.ca_net.proofs.StateLemmas.{length-table_from, value_at-table_from}
use Rattle.ca_net.proofs.HeldStates.{Held, held_response, keep_run, run_parts, IsNext, some_next, next_up}
use Rattle.ca_net.proofs.HeldStates.{next_held, round_up}

quiet_append : (es bs : List Event) → AllByRecursion IsQuiet es → AllByRecursion IsQuiet bs → AllByRecursion IsQuiet (es ++ bs)
quiet_append [] bs p q = q
quiet_append (e ∷ es) bs p q = (p.0, quiet_append es bs p.1 q)

pub rounds_quiet : (net : Circuit) (k : ℕ) (es : List Event) → HasRounds net k es → AllByRecursion IsQuiet es
rounds_quiet net zero es h = h
rounds_quiet net (suc k) es h =
    subst (AllByRecursion IsQuiet) (sym h.2) (quiet_append h.0 h.1 h.3.quiet (rounds_quiet net k h.1 h.4))

abbrev pick : NodeKind → Trit → Trit → Trit
pick Input a b = a
pick (Storage z) a b = b

pick_input : (k : NodeKind) (a b : Trit) → k ≡ Input → pick k a b ≡ a
pick_input Input a b e = refl
pick_input (Storage z) a b e = cc

pick_storage : (k : NodeKind) (a b : Trit) → (k ≡ Input → ⊥) → pick k a b ≡ b
pick_storage Input a b e = absurd (e refl)
pick_storage (Storage z) a b e = refl

-- the state with v at the inputs and m elsewhere
pub base : Circuit → List Trit → List Trit → List Trit
base net v m = table_from (λ n. pick (kind_at net n) (value_at v n) (value_at m n)) 0 (length net.nodes)

module _ (net : Circuit) (v m : List Trit) where
  pub base_state : IsState net (base net v m)
  unfolding base
  base_state = length-table_from _ 0 (length net.nodes)

  base_at : (n : ℕ) → n < length net.nodes → value_at (base net v m) n ≡ pick (kind_at net n) (value_at v n) (value_at m n)
  unfolding base
  base_at n lt = value_at-table_from (λ n. pick (kind_at net n) (value_at v n) (value_at m n)) 0 (length net.nodes) n lt ∙ ap (λ n. pick (kind_at net n) (value_at v n) (value_at m n)) (omega arith)

  pub base_inputs : HasInputs net v (base net v m)
  base_inputs n h = base_at n h.0 ∙ pick_input (kind_at net n) (value_at v n) (value_at m n) h.1

  pub base_storage : (n : ℕ) → IsStorage net n → value_at (base net v m) n ≡ value_at m n
  base_storage n st = base_at n (storage_within net n st) ∙ pick_storage (kind_at net n) (value_at v n) (value_at m n) st

  pub base_below : (s : List Trit) → InputsAbove net v s → AboveAtStorage net m s → IsStateBelow (base net v m) s
  base_below s ins up n = elim (storage_or_input net n) [
    | inl st ↦ subst (λ x. IsBelow x (value_at s n)) (sym (base_storage n st)) (up n st)
    | inr e ↦ elim (dec_le (n + 1) (length net.nodes)) [
      | yes le ↦ let lt : n < length net.nodes = omega arith in
          subst (λ x. IsBelow x (value_at s n)) (sym (base_inputs n (lt, e))) (ins n (lt, e))
      | no ge ↦ inl (get_or_past (base net v m) n X (subst (λ x. x ≤ n) (sym base_state) (omega arith)))
    ]
  ]

module _ (net : Circuit) (well_formed : IsWellFormed net) where
  pub fixed_held : (v l : List Trit) → IsFixed net v l → Held net l
  fixed_held v l fix n st r h =
      response_rises_lem net l l n (value_at l n) r well_formed (storage_within net n st) (λ m. inr refl) (fix.fixed n st) h

  module _ (v m l : List Trit) (fix : IsFixed net v l) (least : (t : List Trit) → IsFixed net v t → AboveAtStorage net m t → IsStateBelow l t) where
    pub next_inputs : (g t : List Trit) → HasInputs net v g → IsNext net well_formed g t → HasInputs net v t
    next_inputs g t ins next n h = response_of_input net g n (value_at t n) h.1 (next.responds n h.0) ∙ ins n h

    pub next_below : (g t : List Trit) → IsStateBelow g l → HasInputs net v g → IsNext net well_formed g t → IsStateBelow t l
    next_below g t up ins next n = elim (dec_le (n + 1) (length net.nodes)) [
      | no ge ↦ inl (get_or_past t n X (subst (λ x. x ≤ n) (sym next.is_state) (omega arith)))
      | yes le ↦ let lt : n < length net.nodes = omega arith in elim (storage_or_input net n) [
        | inl st ↦ response_rises_lem net g l n (value_at t n) (value_at l n) well_formed lt up (next.responds n lt) (fix.fixed n st)
        | inr e ↦ inr (next_inputs g t ins next n (lt, e) ∙ sym (fix.inputs n (lt, e)))
      ]
    ]

    -- k rounds are enough where g has no more than k values that are still unknown
    pub phase : (k : ℕ) (es : List Event) (g s u : List Trit) → IsState net g → Held net g → HasInputs net v g → AboveAtStorage net m g
        → IsStateBelow g l → IsStateBelow g s → HasRounds net k es → Run net s es u → length net.nodes ≤ definites g + k → IsStateBelow l u
    phase zero es g s u is held ins above below up rounds run enough n =
        let most : definites l ≤ length l = definites-le l in
        let len : length l ≡ length net.nodes = fix.is_state in
        let same : value_at g n ≡ value_at l n = definites-same g l (is ∙ sym len) below (omega arith) n in
        subst (λ x. IsBelow x (value_at u n)) same (keep_run net well_formed es g s u held up rounds run n)
    phase (suc k) es g s u is held ins above below up rounds run enough n = IsBelow-stable _ _ (λ out. some_next net well_formed g (λ t next.
        elim (dec_le (definites t) (definites g)) [
          | yes le ↦
              let same : (n : ℕ) → value_at g n ≡ value_at t n = definites-same g t (is ∙ sym next.is_state) (next_up net well_formed g t is held next) le in
              let fixed : IsFixed net v g = record {
                is_state = is;
                inputs = ins;
                fixed = λ n st. subst (IsResponse net g n) (sym (same n)) (next.responds n (storage_within net n st));
              } in
              let low = least g fixed above in
              out (keep_run net well_formed es l s u (fixed_held v l fix) (λ n. IsBelow-trans _ _ _ (low n) (up n)) (rounds_quiet net (suc k) es rounds) run n)
          | no more ↦
              let p = run_parts net well_formed rounds.0 rounds.1 s u (subst (λ x. Run net s x u) rounds.2 run) in
              out (phase k rounds.1 t p.0 u next.is_state (next_held net well_formed g t is held next) (next_inputs g t ins next)
              (λ n st. IsBelow-trans _ _ _ (above n st) (next_up net well_formed g t is held next n)) (next_below g t below ins next)
              (round_up net well_formed g t s p.0 rounds.0 is held next up rounds.3 p.1) rounds.4 p.2 (omega arith) n)
        ]))

  pub meet_X : (a b : Trit) → (a ≡ b → a ≡ X) → meet_of a b ≡ X
  meet_X Zero Zero h = h refl
  meet_X Zero One h = refl
  meet_X Zero X h = refl
  meet_X One Zero h = refl
  meet_X One One h = h refl
  meet_X One X h = refl
  meet_X X b h = refl

  pub meet_below : (a b : Trit) → IsBelow (meet_of a b) b
  meet_below Zero Zero = inr refl
  meet_below Zero One = inl refl
  meet_below Zero X = inl refl
  meet_below One Zero = inl refl
  meet_below One One = inr refl
  meet_below One X = inl refl
  meet_below X b = inl refl

  -- the middle limit is kept while inputs change
  module _ (v1 v2 vm m : List Trit) (meets : IsMeet net v1 v2 vm) (held : Held net m) (ins : HasInputs net vm m) where
    keep_change_step : (e : Event) (s t : List Trit) → IsStateBelow m s → MayCome v1 v2 e → Run net s (e ∷ []) t → IsStateBelow m t
    keep_change_step (Settle ns) s t up may h n = keep_run net well_formed (Settle ns ∷ []) m s t held up (tt, tt) h n
    keep_change_step (Blur ns) s t up may h n = keep_run net well_formed (Blur ns ∷ []) m s t held up (tt, tt) h n
    keep_change_step (Set i v) s t up may h n =
        let e : t ≡ slice_set s i v = h.1.2 ∙ h.1.1 in
        subst (λ x. IsBelow (value_at m n) (value_at x n)) (sym e) (elim (ℕ_discrete n i) [
          | yes q ↦ inl (ap (value_at m) q ∙ ins i h.0 ∙ meets i h.0 ∙ meet_X (value_at v1 i) (value_at v2 i) may)
          | no q ↦ subst (λ x. IsBelow (value_at m n) x) (sym (get_or-set_other s i n v X q)) (up n)
        ])

    pub keep_change : (es : List Event) (s t : List Trit) → IsStateBelow m s → AllByRecursion (MayCome v1 v2) es → Run net s es t → IsStateBelow m t
    keep_change [] s t up may h = λ n. subst (λ x. IsBelow (value_at m n) (value_at x n)) (sym h) (up n)
    keep_change (e ∷ es) s t up may h =
        keep_change es h.1.0 t (keep_change_step e s h.1.0 up may.0 (h.0, (h.1.0, h.1.1, refl))) may.1 h.1.2

  pub ends_above : (v1 vm v2 first middle last : List Trit) → IsMeet net v1 v2 vm → AreLimits net v1 vm v2 first middle last
      → (end : List Trit) → PairRun net v1 v2 end → IsStateBelow last end
  ends_above v1 vm v2 first middle last meets lim end run =
      let f = lim.is_first.fixed in
      let mid = lim.is_middle.held in
      let l = lim.is_last.fixed in
      let g1 = base net v1 [] in
      let up1 : IsStateBelow first run.settled =
      phase v1 [] first f (λ t ft a. lim.is_first.least t ft) (length net.nodes) run.first_phase (base net v1 []) run.start run.settled
      (base_state net v1 []) (λ n st r h. inl (base_storage net v1 [] n st)) (base_inputs net v1 []) (λ n st. inl refl)
      (base_below net v1 [] first (λ n h. inr (sym (f.inputs n h))) (λ n st. inl refl))
      (base_below net v1 [] run.start run.start_inputs (λ n st. inl refl))
      run.first_is_long run.first_run (omega arith) in
      let up2 : IsStateBelow middle run.changed =
      keep_change v1 v2 vm middle meets mid.held mid.inputs run.change run.settled run.changed
      (λ n. IsBelow-trans _ _ _ (mid.below_first n) (up1 n)) run.change_may_come run.change_run in
      let low : IsStateBelow middle (base net v2 middle) = λ n. elim (storage_or_input net n) [
        | inl st ↦ inr (sym (base_storage net v2 middle n st))
        | inr e ↦ elim (dec_le (n + 1) (length net.nodes)) [
          | yes le ↦ let lt : n < length net.nodes = omega arith in
              subst (λ x. IsBelow x (value_at (base net v2 middle) n)) (sym (mid.inputs n (lt, e) ∙ meets n (lt, e)))
              (subst (λ x. IsBelow (meet_of (value_at v1 n) (value_at v2 n)) x) (sym (base_inputs net v2 middle n (lt, e))) (meet_below (value_at v1 n) (value_at v2 n)))
          | no ge ↦ inl (get_or_past middle n X (subst (λ x. x ≤ n) (sym mid.is_state) (omega arith)))
        ]
      ] in
      phase v2 middle last l lim.is_last.least (length net.nodes) run.last_phase (base net v2 middle) run.changed end
      (base_state net v2 middle)
      (λ n st r h. subst (λ x. IsBelow x r) (sym (base_storage net v2 middle n st)) (held_response net well_formed middle (base net v2 middle) n r mid.held low h))
      (base_inputs net v2 middle) (λ n st. inr (sym (base_storage net v2 middle n st)))
      (base_below net v2 middle last (λ n h. inr (sym (l.inputs n h))) lim.is_last.above)
      (base_below net v2 middle run.changed run.changed_inputs (λ n st. up2 n))
      run.last_is_long run.last_run (omega arith)
