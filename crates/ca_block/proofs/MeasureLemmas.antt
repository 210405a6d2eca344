-- Sums over lanes, by which turns end.
use Rattle.std.proofs.Common.{◌≡◌, ℕ, zero, suc, ◌+◌, ◌-◌, ◌<◌, ◌≤◌, List, length, refl, sym, ◌∙◌, ap, subst, arith}
use Rattle.std.proofs.Math.Decide.{dec_le}
use Rattle.std.proofs.lemmas.List.{same_lists}
use Rattle.std.proofs.lemmas.Option.{slice_get-get_or, get_or_from_slice_get}
use Rattle.ca_net.specs.declared.trit.Trit.{Trit}
use Rattle.ca_net.specs.declared.trit.Trit.TheVariants.{Zero, One, X}
use Rattle.ca_net.specs.State.{value_at}
use Rattle.ca_net.proofs.StateLemmas.{definites}
use Rattle.ca_net.specs.Circuit.{Circuit, IsWellFormed}
use Rattle.ca_net.specs.Response.{AreResponses}
use Rattle.ca_settle.specs.code.Turns.{HasSameValues, AreBlurred}
use Rattle.ca_settle.proofs.TurnLemmas.{Rises, rises_fewer, Falls, falls_fewer}

-- the sum over the first lanes
unfoldable pub total : (ℕ → ℕ) → ℕ → ℕ
total f zero = 0
total f (suc n) = f n + total f n

-- how many values are X
abbrev pub unknowns : List Trit → ℕ
unknowns s = length s - definites s

total_le : (f g : ℕ → ℕ) (n : ℕ) → ((k : ℕ) → k < n → f k ≤ g k) → total f n ≤ total g n
unfolding total
total_le f g zero le = omega arith
total_le f g (suc n) le =
    let here : f n ≤ g n = le n (omega arith) in
    let rest : total f n ≤ total g n = total_le f g n (λ k lt. le k (omega arith)) in omega arith

-- where no lane has more, and the sums are the same, so is each lane
total_same : (f g : ℕ → ℕ) (n : ℕ) → ((k : ℕ) → k < n → f k ≤ g k) → total g n ≤ total f n → (k : ℕ) → k < n → g k ≤ f k
unfolding total
total_same f g zero le same k lt = absurd (omega arith)
total_same f g (suc n) le same k lt =
    let here : f n ≤ g n = le n (omega arith) in
    let rest : total f n ≤ total g n = total_le f g n (λ j l. le j (omega arith)) in
    let whole : g n + total g n ≤ f n + total f n = same in
    elim (dec_le (k + 1) n) [
      | yes less ↦ total_same f g n (λ j l. le j (omega arith)) (omega arith) k (omega arith)
      | no ge ↦
          let is : n ≡ k = omega arith in
          subst (λ j. g j ≤ f j) is (omega arith)
    ]

trit_is : (a b : Trit) → ((a ≡ b → ⊥) → ⊥) → a ≡ b
trit_is Zero Zero h = refl
trit_is One One h = refl
trit_is X X h = refl
trit_is Zero One h = absurd (h (λ e. cc))
trit_is Zero X h = absurd (h (λ e. cc))
trit_is One Zero h = absurd (h (λ e. cc))
trit_is One X h = absurd (h (λ e. cc))
trit_is X Zero h = absurd (h (λ e. cc))
trit_is X One h = absurd (h (λ e. cc))

module _ (measure : List Trit → ℕ) (s t : List Trit) (room : length t ≡ length s) (fewer : (HasSameValues s t → ⊥) → measure t < measure s) where
  same_list : HasSameValues s t → t ≡ s
  same_list same = same_lists t s room (λ k d lt.
      get_or_from_slice_get t k (value_at t k) d (slice_get-get_or t k X lt) ∙ sym (same k)
      ∙ sym (get_or_from_slice_get s k (value_at s k) d (slice_get-get_or s k X (omega (arith, lt, room)))))

  -- a turn that leaves less, or changes nothing, leaves no more
  no_more : measure t ≤ measure s
  no_more = elim (dec_le (measure t) (measure s)) [
    | yes le ↦ le
    | no gt ↦
        let lt : measure t < measure s = fewer (λ same. let e = ap measure (same_list same) in omega (arith, gt, e)) in omega (arith, lt, gt)
  ]

  -- where it leaves no less it changes nothing
  same_where : measure s ≤ measure t → HasSameValues s t
  same_where le n = trit_is (value_at s n) (value_at t n) (λ ne. let lt = fewer (λ same. ne (same n)) in omega (arith, le, lt))

-- turns in all lanes at once, some of which changes something
pub total_falls : (measure : List Trit → ℕ) (s t : ℕ → List Trit) → ((k : ℕ) → k < 64 → length (t k) ≡ length (s k))
    → ((k : ℕ) → k < 64 → (HasSameValues (s k) (t k) → ⊥) → measure (t k) < measure (s k))
    → (((k : ℕ) → k < 64 → HasSameValues (s k) (t k)) → ⊥)
    → total (λ k. measure (t k)) 64 < total (λ k. measure (s k)) 64
total_falls measure s t room fewer changed =
    let le : (k : ℕ) → k < 64 → measure (t k) ≤ measure (s k) = λ k lt. no_more measure (s k) (t k) (room k lt) (fewer k lt) in
    elim (dec_le (total (λ k. measure (s k)) 64) (total (λ k. measure (t k)) 64)) [
      | yes still ↦ absurd (changed (λ k lt. same_where measure (s k) (t k) (room k lt) (fewer k lt)
          (total_same (λ j. measure (t j)) (λ j. measure (s j)) 64 le still k lt)))
      | no less ↦ omega arith
    ]

-- a turn upwards in all lanes that changes something leaves fewer values unknown
pub rises_smaller : (net : Circuit) → IsWellFormed net → (b s t x : ℕ → List Trit) → ((k : ℕ) → x k ≡ t k) → ((k : ℕ) → k < 64 → Rises net (b k) (s k))
    → ((k : ℕ) → k < 64 → AreResponses net (s k) (t k)) → (((k : ℕ) → k < 64 → HasSameValues (s k) (t k)) → ⊥)
    → total (λ k. unknowns (x k)) 64 < total (λ k. unknowns (s k)) 64
rises_smaller net well_formed b s t x is rises responses changed =
    total_falls unknowns s x (λ k lt. ap length (is k) ∙ (responses k lt).is_state ∙ sym (rises k lt).is_state)
    (λ k lt differ. rises_fewer net well_formed (b k) (s k) (t k) (rises k lt) (responses k lt) (x k) (is k) (λ same. differ (subst (HasSameValues (s k)) (sym (is k)) same)))
    (λ all. changed (λ k lt. subst (HasSameValues (s k)) (is k) (all k lt)))

-- and one downwards fewer values that are known
pub falls_smaller : (net : Circuit) → IsWellFormed net → (b s t x : ℕ → List Trit) → ((k : ℕ) → x k ≡ t k) → ((k : ℕ) → k < 64 → Falls net (b k) (s k))
    → ((k : ℕ) → k < 64 → AreBlurred net (s k) (t k)) → (((k : ℕ) → k < 64 → HasSameValues (s k) (t k)) → ⊥)
    → total (λ k. definites (x k)) 64 < total (λ k. definites (s k)) 64
falls_smaller net well_formed b s t x is falls blurred changed =
    total_falls definites s x (λ k lt. ap length (is k) ∙ (blurred k lt).is_state ∙ sym (falls k lt).is_state)
    (λ k lt differ. falls_fewer net well_formed (b k) (s k) (t k) (falls k lt) (blurred k lt) (x k) (is k) (λ same. differ (subst (HasSameValues (s k)) (sym (is k)) same)))
    (λ all. changed (λ k lt. subst (HasSameValues (s k)) (is k) (all k lt)))
