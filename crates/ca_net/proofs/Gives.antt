-- Whether all paths that reach a node give it one value.
use Rattle.std.proofs.Common.{◌≡◌, ℕ, ◌+◌, ◌<◌, ◌≤◌, List, Bool, true, false, length, sym, subst, arith}
use native.Mathlib.Decide.{ℕ_discrete}
use Rattle.ca_net.specs.declared.trit.Trit.{Trit}
use Rattle.ca_net.specs.Circuit.{Circuit}
use Rattle.ca_net.specs.State.{value_at}
use Rattle.ca_net.specs.Path.{Path, root_of}
use Rattle.ca_net.specs.Response.{Reaches, AllGive}
use Rattle.ca_net.specs.code.Walk.{RootReaches}
use Rattle.ca_net.proofs.Strongest.{root_within}

module _ (net : Circuit) (s : List Trit) where
  -- whether all paths from the first roots give v
  pub record GivesFrom (node : ℕ) (v : Trit) (roots : ℕ) (gives : Bool) : Type 0 where
    pub all : gives ≡ true → (p : Path) → Reaches net s node p → root_of p < roots → value_at s (root_of p) ≡ v
    pub some : gives ≡ false → AllGive net s node v → ⊥

  pub gives_start : (node : ℕ) (v : Trit) → GivesFrom node v 0 true
  gives_start node v = record { all = λ e p r lt. absurd (omega arith); some = λ e. cc }

  pub gives_skip : (node : ℕ) (v : Trit) (i : ℕ) (gives : Bool) → (RootReaches net s i node → value_at s i ≡ v) → GivesFrom node v i gives → GivesFrom node v (i + 1) gives
  gives_skip node v i gives here h = record {
    all = λ e p r lt. elim (ℕ_discrete (root_of p) i) [
      | yes eq ↦ subst (λ x. value_at s x ≡ v) (sym eq) (here (record { path = p; from = eq; reaches = r }))
      | no ne ↦ h.all e p r (omega arith)
    ];
    some = h.some;
  }

  pub gives_other : (node : ℕ) (v : Trit) (i : ℕ) → RootReaches net s i node → (value_at s i ≡ v → ⊥) → GivesFrom node v (i + 1) false
  gives_other node v i r other = record {
    all = λ e. cc;
    some = λ e all. other (subst (λ x. value_at s x ≡ v) r.from (all r.path r.reaches));
  }

  pub gives_all : (node : ℕ) (v : Trit) (roots : ℕ) (gives : Bool) → length net.nodes ≤ roots → gives ≡ true → GivesFrom node v roots gives → AllGive net s node v
  gives_all node v roots gives le e h p r =
      h.all e p r (let lt : root_of p < length net.nodes = root_within net p r.is_path in omega arith)
