-- Rounds that settle all nodes at once.
use Rattle.std.proofs.Common.{◌≡◌, ℕ, zero, suc, ◌+◌, ◌<◌, ◌≤◌, List, length, refl, sym, ◌∙◌, subst, arith}
use Rattle.std.specs.List.{Contains, range_with_len}
use Rattle.std.proofs.Math.Decide.{dec_le}
use Rattle.std.proofs.lemmas.List.{get_or_past}
use Rattle.std.proofs.lemmas.List.FromFn.{length-range_with_len, get_or-range_with_len}
use Rattle.ca_net.specs.declared.trit.Trit.{Trit}
use Rattle.ca_net.specs.declared.trit.Trit.TheVariants.{X}
use Rattle.ca_net.specs.Circuit.{Circuit}
use Rattle.ca_net.specs.State.{IsState, value_at}
use Rattle.ca_net.specs.Response.{AreResponses}
use Rattle.ca_net.specs.Event.{Settle, IsEvent, Step, Run}
use Rattle.ca_replay.specs.Replay.{all_nodes, rounds}

-- all nodes are among all nodes, and nothing else is
pub among : (count n : ℕ) → n < count → Contains (range_with_len 0 count) n
among count n lt =
    (n, subst (λ x. n < x) (sym (length-range_with_len 0 count)) lt, get_or-range_with_len 0 count n n lt ∙ omega arith)

pub among_below : (count n : ℕ) → Contains (range_with_len 0 count) n → n < count
among_below count n has =
    let lt : has.0 < count = subst (λ x. has.0 < x) (length-range_with_len 0 count) has.1 in
    let e : 0 + has.0 ≡ n = sym (get_or-range_with_len 0 count has.0 n lt) ∙ has.2 in omega arith

module _ (net : Circuit) where
  pub round_event : IsEvent net (Settle (all_nodes net))
  round_event n has = among_below (length net.nodes) n has

  -- a state past its end
  past : (s : List Trit) (n : ℕ) → IsState net s → length net.nodes ≤ n → value_at s n ≡ X
  past s n is le = get_or_past s n X (subst (λ x. x ≤ n) (sym is) le)

  -- a round gives each node its response
  pub round_step : (s t : List Trit) → IsState net s → AreResponses net s t → Step net s (Settle (all_nodes net)) t
  round_step s t is are = (
    are.is_state,
    λ n has. are.responds n (among_below (length net.nodes) n has),
    λ n out. elim (dec_le (n + 1) (length net.nodes)) [
      | yes le ↦ absurd (out (among (length net.nodes) n (omega arith)))
      | no gt ↦ past t n are.is_state (omega arith) ∙ sym (past s n is (omega arith))
    ],
  )

  -- a round before others
  pub round_before : (count left : ℕ) (s mid t : List Trit) → left ≡ suc count → Step net s (Settle (all_nodes net)) mid
      → Run net mid (rounds net count) t → Run net s (rounds net left) t
  unfolding rounds
  round_before count left s mid t is step run =
      subst (λ k. Run net s (rounds net k) t) (sym is) (round_event, (mid, step, run))

  -- no round
  pub no_round : (left : ℕ) (s : List Trit) → left ≡ 0 → Run net s (rounds net left) s
  unfolding rounds
  no_round left s is = subst (λ k. Run net s (rounds net k) s) (sym is) refl

  -- where a round changes nothing, no later one does
  pub rounds_stay : (count : ℕ) (s : List Trit) → Step net s (Settle (all_nodes net)) s → Run net s (rounds net count) s
  unfolding rounds
  rounds_stay zero s step = refl
  rounds_stay (suc count) s step = (round_event, (s, step, rounds_stay count s step))
