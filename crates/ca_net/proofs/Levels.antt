-- Nodes that are marked, each with a definite path of strength k or more that is not blocked.
use Rattle.std.proofs.Common.{◌≡◌, ℕ, ◌≤◌, ◌⊎◌, List, Bool, true, false, length, inl, inr, sym, ◌∙◌, subst}
use Rattle.std.proofs.Common.{slice_get, set, get_or-set_other, length-set}
use Rattle.std.specs.Prelude.{Some}
use native.Mathlib.Decide.{ℕ_discrete}
use Rattle.ca_net.specs.declared.trit.Trit.{Trit}
use Rattle.ca_net.specs.Circuit.{Circuit}
use Rattle.ca_net.specs.Path.{Path, end_of, IsOn, IsPath, IsDefinite, strength_of}
use Rattle.ca_net.specs.Response.{HasStronger, HasUnblocked}
use Rattle.ca_net.proofs.Choices.{IsMarked, marked_now, marked_still}

module _ (net : Circuit) (s : List Trit) where
  -- a definite path to n that is not blocked, of strength k or more, through marked nodes alone
  pub record HasMarkedPath (k : ℕ) (on : List Bool) (n : ℕ) : Type 0 where
    pub free : HasUnblocked net s n
    pub strength : k ≤ strength_of net free.path
    pub within : (m : ℕ) → IsOn m free.path → IsMarked on m

  -- each marked node has such a path, and each node with a definite path stronger than k is marked
  pub record IsLevel (k : ℕ) (on : List Bool) : Type 0 where
    pub room : length on ≡ length net.nodes
    pub paths : (n : ℕ) → IsMarked on n → HasMarkedPath k on n
    pub stronger : (n : ℕ) → HasStronger net s n k → IsMarked on n

  -- the nodes with a definite path of strength k or more are those that are marked
  pub record Level (k : ℕ) : Type 0 where
    pub on : List Bool
    pub is_level : IsLevel k on
    pub full : (p : Path) → IsPath net p → IsDefinite s p → k ≤ strength_of net p → IsMarked on (end_of p)

  module _ (k : ℕ) (on : List Bool) where
    -- a node that may be marked next, with its path
    pub record Extends : Type 0 where
      pub node : ℕ
      pub unmarked : slice_get on node ≡ Some false
      pub free : HasUnblocked net s node
      pub strength : k ≤ strength_of net free.path
      pub within : (m : ℕ) → IsOn m free.path → (m ≡ node) ⊎ IsMarked on m

    -- the marks with one more
    pub extended_level : IsLevel k on → (e : Extends) → IsLevel k (set on e.node true)
    extended_level level e = record {
      room = length-set on e.node true ∙ level.room;
      paths = λ n m. elim (ℕ_discrete n e.node) [
        | yes same ↦ subst (HasMarkedPath k (set on e.node true)) (sym same) (record {
          free = e.free;
          strength = e.strength;
          within = λ x o. elim (e.within x o) [
            | inl now ↦ subst (IsMarked (set on e.node true)) (sym now) (marked_now on e.node e.unmarked)
            | inr before ↦ marked_still on e.node x e.unmarked before
          ];
        })
        | no ne ↦
            let h : HasMarkedPath k on n = level.paths n (sym (get_or-set_other on e.node n true false ne) ∙ m) in
            record { free = h.free; strength = h.strength; within = λ x o. marked_still on e.node x e.unmarked (h.within x o) }
      ];
      stronger = λ n b. marked_still on e.node n e.unmarked (level.stronger n b);
    }
