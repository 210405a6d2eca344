-- Whether a definite path to a node is stronger than k.
use Rattle.std.proofs.Common.{ℕ, zero, suc, ◌+◌, ◌<◌, ◌≤◌, ◌⊎◌, List, Bool, true, false, length, inl, inr}
use Rattle.std.proofs.Common.{sym, subst, arith, get_or, set, replicate}
use Rattle.std.specs.Prelude.{not}
use Rattle.std.specs.List.{count_by}
use native.Mathlib.Decide.{ℕ_discrete}
use Rattle.std.proofs.lemmas.List.{length-replicate}
use Rattle.ca_net.specs.declared.trit.Trit.{Trit}
use Rattle.ca_net.specs.Circuit.{Circuit, kind_at}
use Rattle.ca_net.specs.Path.{Path, Root, Via, IsPath, strength_of, root_strength}
use Rattle.ca_net.specs.Response.{HasStronger}
use Rattle.ca_net.proofs.Choices.{IsMarked, true_or_false, none_marked}
use Rattle.ca_net.proofs.Levels.{IsLevel, Level, HasMarkedPath, extended_level}
use Rattle.ca_net.proofs.NextNode.{extends_or_full}
use Rattle.ca_net.proofs.Hops.{marks_fall}

-- a bound on what the first j nodes give to paths
most_of : Circuit → ℕ → ℕ
most_of net zero = 0
most_of net (suc j) = most_of net j + root_strength (kind_at net j)

-- no node among them gives more
root_strength-le_most : (net : Circuit) (j r : ℕ) → r < j → root_strength (kind_at net r) ≤ most_of net j
unfolding most_of
root_strength-le_most net zero r lt = absurd (omega arith)
root_strength-le_most net (suc j) r lt = elim (ℕ_discrete r j) [
  | yes e ↦ subst (λ x. root_strength (kind_at net x) ≤ most_of net j + root_strength (kind_at net j)) (sym e) (omega arith)
  | no ne ↦ let le : root_strength (kind_at net r) ≤ most_of net j = root_strength-le_most net j r (omega arith) in omega arith
]

-- and so no path is stronger
strength_of-le_most : (net : Circuit) (p : Path) → IsPath net p → strength_of net p ≤ most_of net (length net.nodes)
strength_of-le_most net (Root r) ip = root_strength-le_most net (length net.nodes) r ip
strength_of-le_most net (Via p d n) ip =
    let le : strength_of net p ≤ most_of net (length net.nodes) = strength_of-le_most net p ip.0 in omega arith

module _ (net : Circuit) (s : List Trit) where
  -- nodes are marked until all are that have a definite path of strength k or more; j bounds those that are
  -- not
  filled : (k j : ℕ) (on : List Bool) → IsLevel net s k on → count_by not on ≤ j → Level net s k
  filled k zero on level le = elim (extends_or_full net s k on level) [
    | inl e ↦ let fewer : count_by not (set on e.node true) < count_by not on = marks_fall on e.node e.unmarked in absurd (omega arith)
    | inr full ↦ record { on = on; is_level = level; full = full }
  ]
  filled k (suc j) on level le = elim (extends_or_full net s k on level) [
    | inl e ↦
        let fewer : count_by not (set on e.node true) < count_by not on = marks_fall on e.node e.unmarked in
        filled k j (set on e.node true) (extended_level net s k on level e) (omega arith)
    | inr full ↦ record { on = on; is_level = level; full = full }
  ]

  -- above all strengths no node is marked
  top_level : (k : ℕ) → most_of net (length net.nodes) < k → Level net s k
  top_level k lt = record {
    on = replicate (length net.nodes) false;
    is_level = record {
      room = length-replicate (length net.nodes) false;
      paths = λ n m. absurd (none_marked (length net.nodes) n m);
      stronger = λ n b. absurd (too_strong b.path b.is_path (weaken k (strength_of net b.path) b.stronger));
    };
    full = λ p ip id le. absurd (too_strong p ip le);
  } where
    weaken : (a b : ℕ) → a < b → a ≤ b
    weaken a b less = omega arith

    too_strong : (p : Path) → IsPath net p → k ≤ strength_of net p → ⊥
    too_strong p ip le =
        let most : strength_of net p ≤ most_of net (length net.nodes) = strength_of-le_most net p ip in omega arith

  -- the marks for k + 1 are a beginning for k
  begun : (k : ℕ) (above : Level net s (k + 1)) → IsLevel net s k above.on
  begun k above = record {
    room = above.is_level.room;
    paths = λ n m.
        let h : HasMarkedPath net s (k + 1) above.on n = above.is_level.paths n m in
        let le : k + 1 ≤ strength_of net h.free.path = h.strength in
        record { free = h.free; strength = omega arith; within = h.within };
    stronger = λ n b.
        let lt : k < strength_of net b.path = b.stronger in
        subst (IsMarked above.on) b.ends (above.full b.path b.is_path b.definite (omega arith));
  }

  -- the marks for k, where k + j is above all strengths
  level_from : (j k : ℕ) → most_of net (length net.nodes) < k + j → Level net s k
  level_from zero k lt = top_level k (omega arith)
  level_from (suc j) k lt =
      let above : Level net s (k + 1) = level_from j (k + 1) (omega arith) in
      filled k (count_by not above.on) above.on (begun k above) (omega arith)

  -- the nodes with a definite path of strength k or more, each with one that is not blocked
  pub level_at : (k : ℕ) → Level net s k
  level_at k = level_from (most_of net (length net.nodes) + 1) k (omega arith)

  -- a definite path to n is stronger than k, or none is
  pub stronger_or_not : (n k : ℕ) → HasStronger net s n k ⊎ (HasStronger net s n k → ⊥)
  stronger_or_not n k =
      let level : Level net s (k + 1) = level_at (k + 1) in
      elim (true_or_false (get_or level.on n false)) [
        | inl marked ↦
            let h : HasMarkedPath net s (k + 1) level.on n = level.is_level.paths n marked in
            let le : k + 1 ≤ strength_of net h.free.path = h.strength in
            inl (record { path = h.free.path; is_path = h.free.is_path; ends = h.free.ends; definite = h.free.definite; stronger = omega arith })
        | inr off ↦ inr (λ b.
            let lt : k < strength_of net b.path = b.stronger in
            let marked : IsMarked level.on n = subst (IsMarked level.on) b.ends (level.full b.path b.is_path b.definite (omega arith)) in cc)
      ]
