-- Runs stay above the states that their responses hold up.
use Rattle.std.proofs.Common.{◌≡◌, ◌≢◌, ℕ, ◌+◌, ◌<◌, ◌≤◌, List, [], ◌∷◌, ◌++◌, length, inl, inr, refl, sym}
use Rattle.std.proofs.Common.{◌∙◌, ap, subst, arith, set, get_or-set_same, get_or-set_other}
use Rattle.std.proofs.Math.Decide.{dec_le}
use native.Mathlib.Decide.{ℕ_discrete}
use Rattle.std.specs.List.{Contains, AllByRecursion}
use Rattle.std.proofs.lemmas.List.{get_or_past}
use Rattle.ca_net.specs.declared.trit.Trit.{Trit}
use Rattle.ca_net.specs.declared.trit.Trit.TheVariants.{X}
use Rattle.ca_net.specs.Trit.{IsBelow}
use Rattle.ca_net.specs.Circuit.{Circuit, IsWellFormed, IsStorage}
use Rattle.ca_net.specs.State.{IsStateBelow, value_at, IsState}
use Rattle.ca_net.specs.Response.{IsResponse}
use Rattle.ca_net.specs.Event.{Event, Settle, Blur, Set, IsUnstable, Step, Run, IsQuiet, SomeSettles}
use Rattle.ca_net.specs.PairRun.{IsRound}
use Rattle.ca_net.proofs.ResponseLaws.{response_rises_lem}
use Rattle.ca_net.proofs.StateLemmas.{IsBelow-trans, IsBelow-stable, storage_or_input, storage_within}
use Rattle.ca_net.proofs.StateLemmas.{some_response, response_of_input, some_list}

-- each storage node is at or below its response
abbrev pub Held : Circuit → List Trit → Type 0
Held net g = (n : ℕ) → IsStorage net n → (r : Trit) → IsResponse net g n r → IsBelow (value_at g n) r

module _ (net : Circuit) (well_formed : IsWellFormed net) where
  -- the responses in a state above a held one are above that one
  pub held_response : (g s : List Trit) (n : ℕ) (r : Trit) → Held net g → IsStateBelow g s → IsResponse net s n r → IsBelow (value_at g n) r
  held_response g s n r held up h = elim (storage_or_input net n) [
    | inl st ↦ IsBelow-stable _ _ (λ no. some_response net g n (λ q hq.
        no (IsBelow-trans _ _ _ (held n st q hq) (response_rises_lem net g s n q r well_formed (storage_within net n st) up hq h))))
    | inr e ↦ subst (λ x. IsBelow (value_at g n) x) (sym (response_of_input net s n r e h)) (up n)
  ]

  -- a definite value of the held state below is kept
  stays : (g s : List Trit) (n : ℕ) → Held net g → IsStateBelow g s → (value_at g n ≡ X → ⊥) → IsResponse net s n (value_at s n)
      → value_at g n ≡ value_at s n
  stays g s n held up def h = elim (up n) [ inl e ↦ absurd (def e) | inr e ↦ e ]

  keep_step : (g s t : List Trit) (e : Event) → Held net g → IsStateBelow g s → IsQuiet e → Step net s e t → IsStateBelow g t
  keep_step g s t (Settle ns) held up quiet h n = IsBelow-stable _ _ (λ no.
      let out : Contains ns n → ⊥ = λ c. no (held_response g s n (value_at t n) held up (h.1 n c)) in
      no (subst (λ x. IsBelow (value_at g n) x) (sym (h.2 n out)) (up n)))
  keep_step g s t (Blur ns) held up quiet h n = IsBelow-stable _ _ (λ no.
      let def : value_at g n ≡ X → ⊥ = λ e. no (inl e) in
      let same : value_at g n ≡ value_at s n = elim (up n) [ inl e ↦ absurd (def e) | inr e ↦ e ] in
      -- the value is the response, so the node isn't blurred
      let stable : IsUnstable net s n → ⊥ = λ un. some_response net s n (λ r hr.
      elim (held_response g s n r held up hr) [
        | inl e ↦ def e
        | inr e ↦ un (subst (IsResponse net s n) (sym e ∙ same) hr)
      ]) in
      no (subst (λ x. IsBelow (value_at g n) x) (sym (h.2 n (λ c un. stable un))) (up n)))
  keep_step g s t (Set i v) held up quiet h n = absurd quiet

  pub keep_run : (es : List Event) (g s t : List Trit) → Held net g → IsStateBelow g s → AllByRecursion IsQuiet es → Run net s es t → IsStateBelow g t
  keep_run [] g s t held up quiet h = λ n. subst (λ x. IsBelow (value_at g n) (value_at x n)) (sym h) (up n)
  keep_run (e ∷ es) g s t held up quiet h =
      keep_run es g h.1.0 t held (keep_step g s h.1.0 e held up quiet.0 h.1.1) quiet.1 h.1.2

  -- a run in two parts
  pub run_parts : (es bs : List Event) (s t : List Trit) → Run net s (es ++ bs) t → (mid : List Trit) × Run net s es mid × Run net mid bs t
  run_parts [] bs s t h = (s, refl, h)
  run_parts (e ∷ es) bs s t h =
      let p = run_parts es bs h.1.0 t h.1.2 in (p.0, (h.0, (h.1.0, h.1.1, p.1)), p.2)

  -- the responses in g at once
  pub record IsNext (g t : List Trit) : Type 0 where
    pub is_state : IsState net t
    pub responds : (n : ℕ) → n < length net.nodes → IsResponse net g n (value_at t n)

  pub some_next : (g : List Trit) → ((t : List Trit) → IsNext g t → ⊥) → ⊥
  some_next g out = some_list (IsResponse net g) (some_response net g) (length net.nodes)
      (λ t len h. out t (record { is_state = len; responds = h }))

  pub next_up : (g t : List Trit) → IsState net g → Held net g → IsNext g t → IsStateBelow g t
  next_up g t is held next n = elim (dec_le (n + 1) (length net.nodes)) [
    | yes lt ↦ held_response g g n (value_at t n) held (λ m. inr refl) (next.responds n (omega arith))
    | no ge ↦ inl (get_or_past g n X (subst (λ x. x ≤ n) (sym is) (omega arith)))
  ]

  pub next_held : (g t : List Trit) → IsState net g → Held net g → IsNext g t → Held net t
  next_held g t is held next n st r h =
      let lt = storage_within net n st in
      response_rises_lem net g t n (value_at t n) r well_formed lt (next_up g t is held next) (next.responds n lt) h

  -- g with the response of the node n in place of its value
  module _ (g t : List Trit) (is : IsState net g) (held : Held net g) (next : IsNext g t) (n : ℕ) (lt : n < length net.nodes) where
    one : List Trit
    one = set g n (value_at t n)

    one_same : value_at one n ≡ value_at t n
    unfolding one
    one_same = get_or-set_same g n (value_at t n) X (subst (λ x. n < x) (sym is) lt)

    one_other : (m : ℕ) → m ≢ n → value_at one m ≡ value_at g m
    unfolding one
    one_other m ne = get_or-set_other g n m (value_at t n) X ne

    one_up : IsStateBelow g one
    one_up m = elim (ℕ_discrete m n) [
      | yes e ↦ subst (λ x. IsBelow (value_at g x) (value_at one x)) (sym e) (subst (λ x. IsBelow (value_at g n) x) (sym one_same) (next_up g t is held next n))
      | no ne ↦ inr (sym (one_other m ne))
    ]

    one_held : Held net one
    one_held m st r h = elim (ℕ_discrete m n) [
      | yes e ↦
          let q : IsResponse net g n (value_at t n) = next.responds n lt in
          subst (λ x. IsBelow x r) (sym (ap (value_at one) e ∙ one_same))
          (response_rises_lem net g one n (value_at t n) r well_formed lt one_up q (subst (λ x. IsResponse net one x r) e h))
      | no ne ↦ subst (λ x. IsBelow x r) (sym (one_other m ne)) (held_response g one m r held one_up h)
    ]

    one_below : (s : List Trit) → IsStateBelow g s → IsBelow (value_at t n) (value_at s n) → IsStateBelow one s
    one_below s up h m = elim (ℕ_discrete m n) [
      | yes e ↦ subst (λ x. IsBelow x (value_at s m)) (sym (ap (value_at one) e ∙ one_same)) (subst (λ x. IsBelow (value_at t n) (value_at s x)) (sym e) h)
      | no ne ↦ subst (λ x. IsBelow x (value_at s m)) (sym (one_other m ne)) (up m)
    ]

    -- after events of which one settles n, n is at or above its response in g
    settled : (es : List Event) (s u : List Trit) → IsStateBelow g s → AllByRecursion IsQuiet es → SomeSettles n es → Run net s es u → IsBelow (value_at t n) (value_at u n)
    settled [] s u up quiet some h = absurd some
    settled (Settle ns ∷ es) s u up quiet (inl c) h =
        let a : IsBelow (value_at t n) (value_at h.1.0 n) =
        response_rises_lem net g s n (value_at t n) (value_at h.1.0 n) well_formed lt up (next.responds n lt) (h.1.1.1 n c) in
        let b = keep_step g s h.1.0 (Settle ns) held up tt h.1.1 in
        subst (λ x. IsBelow x (value_at u n)) one_same (keep_run es one h.1.0 u one_held (one_below h.1.0 b a) quiet.1 h.1.2 n)
    settled (Blur ns ∷ es) s u up quiet (inl c) h = absurd c
    settled (Set i v ∷ es) s u up quiet (inl c) h = absurd c
    settled (e ∷ es) s u up quiet (inr some) h =
        settled es h.1.0 u (keep_step g s h.1.0 e held up quiet.0 h.1.1) quiet.1 some h.1.2

  -- a round takes what is above g above the responses in g
  pub round_up : (g t s u : List Trit) (es : List Event) → IsState net g → Held net g → IsNext g t → IsStateBelow g s → IsRound net es → Run net s es u → IsStateBelow t u
  round_up g t s u es is held next up round run n = elim (dec_le (n + 1) (length net.nodes)) [
    | yes le ↦ let lt : n < length net.nodes = omega arith in settled g t is held next n lt es s u up round.quiet (round.each n lt) run
    | no ge ↦ inl (get_or_past t n X (subst (λ x. x ≤ n) (sym next.is_state) (omega arith)))
  ]
