-- A walk, which may come to a node again, gives a path that is as good: what a relaxation of strengths needs.
use Rattle.std.proofs.Common.{◌≡◌, ℕ, ◌<◌, ◌≤◌, ◌⊎◌, List, length, min, inl, inr, refl, sym, ◌∙◌, subst}
use Rattle.std.proofs.Common.{arith, get_or}
use Rattle.std.specs.List.{Contains}
use native.Mathlib.Decide.{ℕ_discrete}
use Rattle.ca_net.specs.declared.path_kind.PathKind.{PathKind}
use Rattle.ca_net.specs.declared.trit.Trit.{Trit}
use Rattle.ca_net.specs.Circuit.{Circuit}
use Rattle.ca_net.specs.Conduction.{Links}
use Rattle.ca_net.specs.Path.{Path, Root, Via, root_of, end_of, IsOn, IsPath, strength_of}
use Rattle.ca_net.proofs.HopPaths.{Goes}

-- a path but for its nodes, which may come again
abbrev pub IsWalk : Circuit → Path → Type 0
IsWalk net (Root r) = r < length net.nodes
IsWalk net (Via p d n) = IsWalk net p × Contains net.devices d × Links d (end_of p) n × (n < length net.nodes)

is_on : (p : Path) (n : ℕ) → IsOn n p ⊎ (IsOn n p → ⊥)
is_on (Root r) n = elim (ℕ_discrete n r) [ yes e ↦ inl e | no ne ↦ inr ne ]
is_on (Via p d m) n = elim (ℕ_discrete n m) [
  | yes e ↦ inl (inl e)
  | no ne ↦ elim (is_on p n) [
    | inl o ↦ inl (inr o)
    | inr off ↦ inr (λ x. elim x [ inl e ↦ ne e | inr o ↦ off o ])
  ]
]

module _ (net : Circuit) (s : List Trit) (kind : PathKind) (floor : List ℕ) where
  -- a path from this root to n, at least as strong as l
  pub record AsGood (root n l : ℕ) : Type 0 where
    pub path : Path
    pub is_path : IsPath net path
    pub goes : Goes net s kind floor path
    pub from : root_of path ≡ root
    pub ends : end_of path ≡ n
    pub strength : l ≤ strength_of net path

  cut_at : (p : Path) (n : ℕ) → IsOn n p → IsPath net p → Goes net s kind floor p → AsGood (root_of p) n (strength_of net p)
  cut_at (Root r) n on is_path goes = record { path = Root r; is_path = is_path; goes = goes; from = refl; ends = sym on; strength = omega arith }
  cut_at (Via p d m) n (inl e) is_path goes = record { path = Via p d m; is_path = is_path; goes = goes; from = refl; ends = sym e; strength = omega arith }
  cut_at (Via p d m) n (inr on) is_path goes =
      let q = cut_at p n on is_path.0 goes.0 in
      let le : strength_of net p ≤ strength_of net q.path = q.strength in
      record { path = q.path; is_path = q.is_path; goes = q.goes; from = q.from; ends = q.ends; strength = omega arith }

  pub path_of_walk : (w : Path) → IsWalk net w → Goes net s kind floor w → AsGood (root_of w) (end_of w) (strength_of net w)
  path_of_walk (Root r) is_walk goes = record { path = Root r; is_path = is_walk; goes = goes; from = refl; ends = refl; strength = omega arith }
  path_of_walk (Via w d n) is_walk goes =
      let q = path_of_walk w is_walk.0 goes.0 in
      let le : strength_of net w ≤ strength_of net q.path = q.strength in
      elim (is_on q.path n) [
        | inl on ↦
            let r = cut_at q.path n on q.is_path q.goes in
            let up : strength_of net q.path ≤ strength_of net r.path = r.strength in
            record { path = r.path; is_path = r.is_path; goes = r.goes; from = r.from ∙ q.from; ends = r.ends; strength = omega arith }
        | inr off ↦
            let floor_n : get_or floor n 0 ≤ min (strength_of net w) d.strength = goes.3 in
            record {
              path = Via q.path d n;
              is_path = (q.is_path, is_walk.1, subst (λ m. Links d m n) (sym q.ends) is_walk.2, is_walk.3, off);
              goes = (q.goes, goes.1, goes.2, omega arith);
              from = q.from;
              ends = refl;
              strength = omega arith;
            }
      ]
