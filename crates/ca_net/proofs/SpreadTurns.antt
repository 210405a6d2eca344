-- One turn of the search after another.
use Rattle.std.proofs.Common.{◌≡◌, ℕ, ◌+◌, ◌<◌, ◌≤◌, ◌⊎◌, List, Bool, true, length, inl, inr, refl, sym, ◌∙◌}
use Rattle.std.proofs.Common.{ap, subst, arith, get_or, set, get_or-set_same, get_or-set_other}
use Rattle.std.specs.Prelude.{Some, Option}
use Rattle.std.specs.List.{slice_set}
use Rattle.std.proofs.Math.Decide.{dec_le}
use native.Mathlib.Decide.{ℕ_discrete}
use Rattle.std.proofs.lemmas.Option.{slice_get_within}
use Rattle.ca_net.specs.declared.path_kind.PathKind.{PathKind}
use Rattle.ca_net.specs.declared.search.PathEnd.{PathEnd}
use Rattle.ca_net.specs.declared.trit.Trit.{Trit}
use Rattle.ca_net.specs.Circuit.{Circuit}
use Rattle.ca_net.specs.code.Walk.{Here, Onward}
use Rattle.ca_net.specs.code.Walk.{IsHop, Leads, Explores}

-- the end of a path at a node
abbrev pub path_end : ℕ → ℕ → PathEnd
path_end node strength = record { node = record { 0 = node }; strength = strength }

module _ (net : Circuit) (s : List Trit) (kind : PathKind) (floor : List ℕ) (on : List Bool) (at k : ℕ) where
  -- the same as far as the first devices
  pub record Explored (count : ℕ) (old new : List ℕ) : Type 0 where
    pub kept : (m : ℕ) → get_or old m 0 ≤ get_or new m 0
    pub own : k ≤ get_or new at 0
    pub reached : (i next left m l : ℕ) → i < count → IsHop net s kind floor on at k i next left
        → Leads net s kind floor (slice_set on next true) next left m l → l ≤ get_or new m 0
    pub only : (m : ℕ) → (get_or new m 0 ≡ get_or old m 0) ⊎ Leads net s kind floor on at k m (get_or new m 0)

  pub Explored-kept : (old : List ℕ) → k ≤ get_or old at 0 → Explored 0 old old
  Explored-kept old le = record {
    kept = λ m. omega arith;
    own = le;
    reached = λ i next left m l lt. absurd (omega arith);
    only = λ m. inl refl;
  }

  pub Explored-raised : (old : List ℕ) → at < length old → get_or old at 0 < k → Explored 0 old (set old at k)
  Explored-raised old within lt = record {
    kept = λ m. elim (ℕ_discrete m at) [
      | yes e ↦ rw (e, get_or-set_same) (omega arith)
      | no e ↦ rw get_or-set_other (omega arith)
    ];
    own = rw get_or-set_same (omega arith);
    reached = λ i next left m l lt. absurd (omega arith);
    only = λ m. elim (ℕ_discrete m at) [
      | yes e ↦ inr (rw (e, get_or-set_same) (Here refl refl))
      | no e ↦ inl (rw get_or-set_other refl)
    ];
  }

  pub Explored-skip : (i : ℕ) (old new : List ℕ) → ((next left : ℕ) → IsHop net s kind floor on at k i next left → ⊥)
      → Explored i old new → Explored (i + 1) old new
  Explored-skip i old new none h = record {
    kept = h.kept;
    own = h.own;
    reached = λ j next left m l lt hop leads. elim (dec_le (j + 1) i) [
      | yes le ↦ h.reached j next left m l (omega arith) hop leads
      | no gt ↦ let e : j ≡ i = omega arith in absurd (none next left (subst (λ x. IsHop net s kind floor on at k x next left) e hop))
    ];
    only = h.only;
  }

  pub Explored-hop : (i next left : ℕ) (old new newer : List ℕ) → IsHop net s kind floor on at k i next left
      → ((n l : ℕ) → IsHop net s kind floor on at k i n l → (n ≡ next) × (l ≡ left))
      → Explored i old new → Explores net s kind floor (slice_set on next true) next left new newer → Explored (i + 1) old newer
  Explored-hop i next left old new newer hop only h e = record {
    kept = λ m. let a : get_or old m 0 ≤ get_or new m 0 = h.kept m in let b : get_or new m 0 ≤ get_or newer m 0 = e.kept m in omega arith;
    own = let a : k ≤ get_or new at 0 = h.own in let b : get_or new at 0 ≤ get_or newer at 0 = e.kept at in omega arith;
    reached = λ j n l m r lt hj leads. elim (dec_le (j + 1) i) [
      | yes le ↦
          let a : r ≤ get_or new m 0 = h.reached j n l m r (omega arith) hj leads in
          let b : get_or new m 0 ≤ get_or newer m 0 = e.kept m in omega arith
      | no gt ↦
          let q : j ≡ i = omega arith in
          let o : (n ≡ next) × (l ≡ left) = only n l (subst (λ x. IsHop net s kind floor on at k x n l) q hj) in
          e.reached m r (subst (λ x. Leads net s kind floor (slice_set on next true) next x m r) o.1
          (subst (λ x. Leads net s kind floor (slice_set on x true) x l m r) o.0 leads))
    ];
    only = λ m. elim (e.only m) [
      | inl same ↦ elim (h.only m) [
        | inl a ↦ inl (same ∙ a)
        | inr a ↦ inr (subst (λ x. Leads net s kind floor on at k m x) (sym same) a)
      ]
      | inr leads ↦ inr (Onward i next left hop leads)
    ];
  }

  pub Explored-done : (old new : List ℕ) → Explored (length net.devices) old new → Explores net s kind floor on at k old new
  Explored-done old new h = record {
    kept = h.kept;
    reached = λ m l leads. all m l leads;
    only = h.only;
  } where
    all : (m l : ℕ) → Leads net s kind floor on at k m l → l ≤ get_or new m 0
    all m l (Here a b) = subst (λ x. l ≤ get_or new x 0) a (subst (λ x. x ≤ get_or new at 0) b h.own)
    all m l (Onward i next left hop leads) = h.reached i next left m l (slice_get_within net.devices i hop.device hop.is_device) hop leads

  pub Explored-count : (i n : ℕ) (old new : List ℕ) → i ≡ n → Explored i old new → Explored n old new
  Explored-count i n old new e h = subst (λ x. Explored x old new) e h

  -- a turn, where the marks are those of the path
  pub Explored-turn : (marks : List Bool) (i next left : ℕ) (old new newer : List ℕ) → marks ≡ on
      → IsHop net s kind floor marks at k i next left
      → ((n l : ℕ) → IsHop net s kind floor marks at k i n l
      → ◌≡◌ {A = Option PathEnd} (Some (path_end next left)) (Some (path_end n l)))
      → Explored i old new → Explores net s kind floor (slice_set marks next true) next left new newer → Explored (i + 1) old newer
  Explored-turn marks i next left old new newer same hop only h e =
      Explored-hop i next left old new newer (subst (λ x. IsHop net s kind floor x at k i next left) same hop)
      (λ n l hn.
      let f : ◌≡◌ {A = Option PathEnd} (Some (path_end next left)) (Some (path_end n l)) =
      only n l (subst (λ x. IsHop net s kind floor x at k i n l) (sym same) hn) in
      let q : path_end next left ≡ path_end n l = cc in
      (sym (ap (λ e. e.node.0) q), sym (ap (λ e. e.strength) q)))
      h
      (subst (λ x. Explores net s kind floor (slice_set x next true) next left new newer) same e)

  pub Explored-no_turn : (marks : List Bool) (i : ℕ) (old new : List ℕ) → marks ≡ on
      → ((n l : ℕ) → IsHop net s kind floor marks at k i n l → ⊥) → Explored i old new → Explored (i + 1) old new
  Explored-no_turn marks i old new same none h =
      Explored-skip i old new (λ n l hn. none n l (subst (λ x. IsHop net s kind floor x at k i n l) (sym same) hn)) h
