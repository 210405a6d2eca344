-- Paths and input nodes.
use Rattle.std.proofs.Common.{◌≡◌, ℕ, ◌<◌, ◌≤◌, List, inl, inr, refl, sym, ap, subst, arith}
use Rattle.ca_net.specs.declared.scale.TheConstants.{INPUT}
use Rattle.ca_net.specs.declared.trit.Trit.{Trit}
use Rattle.ca_net.specs.declared.device.Device.{Device}
use Rattle.ca_net.specs.Circuit.{Circuit, IsWellFormed, HasStrength, kind_at}
use Rattle.ca_net.specs.Conduction.{Links}
use Rattle.ca_net.specs.Path.{Path, Root, Via, end_of, IsOn, IsPath, IsDefinite, strength_of, root_strength}
use Rattle.ca_net.specs.Response.{IsBlocked}
use Rattle.ca_net.proofs.StateLemmas.{storage_or_input}
use Rattle.ca_net.proofs.ScaleLemmas.{strength_below_input}
use Rattle.ca_net.specs.code.Walk.{IsInner}

-- a device of a path is weaker than an input node
device_below_input : (net : Circuit) → IsWellFormed net → (p : Path) (d : Device) (n : ℕ) → IsPath net (Via p d n) → d.strength < INPUT
device_below_input net well_formed p d n is_path = strength_below_input d (subst HasStrength is_path.1.2 (well_formed.strengths is_path.1.0 d is_path.1.1))

-- a path that isn't blocked has no input node but its root
pub unblocked_inner : (net : Circuit) (s : List Trit) → IsWellFormed net → (p : Path) → IsPath net p → (IsBlocked net s p → ⊥) → IsInner net p
unblocked_inner net s well_formed (Root r) is_path unblocked = tt
unblocked_inner net s well_formed (Via p d n) is_path unblocked = (
  λ e.
      let own : root_strength (kind_at net n) ≡ INPUT = ap root_strength e in
      let weak : d.strength < INPUT = device_below_input net well_formed p d n is_path in
      unblocked (inr (record { path = Root n; is_path = is_path.3; ends = refl; definite = tt; stronger = omega arith })),
  unblocked_inner net s well_formed p is_path.0 (λ b. unblocked (inl b)),
)

-- a path that is as good as p, and has no input node but its root
pub record Shortened (net : Circuit) (s : List Trit) (p : Path) : Type 0 where
  pub path : Path
  pub is_path : IsPath net path
  pub definite : IsDefinite s path
  pub inner : IsInner net path
  pub ends : end_of path ≡ end_of p
  pub strength : strength_of net p ≤ strength_of net path
  pub within : (m : ℕ) → IsOn m path → IsOn m p

pub shortened : (net : Circuit) (s : List Trit) → IsWellFormed net → (p : Path) → IsPath net p → IsDefinite s p → Shortened net s p
shortened net s well_formed (Root r) is_path definite =
    record { path = Root r; is_path = is_path; definite = tt; inner = tt; ends = refl; strength = omega arith; within = λ m on. on }
shortened net s well_formed (Via p d n) is_path definite = elim (storage_or_input net n) [
  | inl st ↦
      let q = shortened net s well_formed p is_path.0 definite.0 in
      let le : strength_of net p ≤ strength_of net q.path = q.strength in
      record {
        path = Via q.path d n;
        is_path = (q.is_path, is_path.1, subst (λ m. Links d m n) (sym q.ends) is_path.2, is_path.3, λ on. is_path.4 (q.within n on));
        definite = (q.definite, definite.1);
        inner = (st, q.inner);
        ends = refl;
        strength = omega arith;
        within = λ m on. elim on [ inl e ↦ inl e | inr o ↦ inr (q.within m o) ];
      }
  | inr e ↦
      let own : root_strength (kind_at net n) ≡ INPUT = ap root_strength e in
      let weak : d.strength < INPUT = device_below_input net well_formed p d n is_path in
      record { path = Root n; is_path = is_path.3; definite = tt; inner = tt; ends = refl; strength = omega arith; within = λ m on. inl on }
]
