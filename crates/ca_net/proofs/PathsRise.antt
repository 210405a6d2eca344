-- A state that is above another has responses above that one's.
use Rattle.std.proofs.Common.{◌≡◌, ℕ, List, inl, inr, sym, subst}
use Rattle.ca_net.specs.declared.trit.Trit.{Trit}
use Rattle.ca_net.specs.declared.trit.Trit.TheVariants.{Zero, One}
use Rattle.ca_net.specs.declared.device.DeviceKind.{DeviceKind}
use Rattle.ca_net.specs.declared.device.DeviceKind.TheVariants.{N, P, D}
use Rattle.ca_net.specs.Trit.{IsBelow}
use Rattle.ca_net.specs.Circuit.{Circuit}
use Rattle.ca_net.specs.State.{IsStateBelow, value_at}
use Rattle.ca_net.specs.Conduction.{OpenAt, ConductsAt}
use Rattle.ca_net.specs.Path.{Path, Root, Via, root_of, IsPotential, IsDefinite}
use Rattle.ca_net.specs.Response.{HasStronger, IsBlocked, Reaches, AllGive}

-- a definite value stays as it is further up
pub IsBelow-Zero : (b : Trit) → IsBelow Zero b → b ≡ Zero
IsBelow-Zero b (inl e) = cc
IsBelow-Zero b (inr e) = sym e

pub IsBelow-One : (b : Trit) → IsBelow One b → b ≡ One
IsBelow-One b (inl e) = cc
IsBelow-One b (inr e) = sym e

pub OpenAt-up : (k : DeviceKind) (a b : Trit) → IsBelow a b → OpenAt k a → OpenAt k b
OpenAt-up N a b h o = IsBelow-Zero b (subst (λ x. IsBelow x b) o h)
OpenAt-up P a b h o = IsBelow-One b (subst (λ x. IsBelow x b) o h)
OpenAt-up D a b h o = o

pub ConductsAt-up : (k : DeviceKind) (a b : Trit) → IsBelow a b → ConductsAt k a → ConductsAt k b
ConductsAt-up N a b h o = IsBelow-One b (subst (λ x. IsBelow x b) o h)
ConductsAt-up P a b h o = IsBelow-Zero b (subst (λ x. IsBelow x b) o h)
ConductsAt-up D a b h o = tt

module _ (net : Circuit) (s t : List Trit) (up : IsStateBelow s t) where
  pub IsPotential-down : (p : Path) → IsPotential t p → IsPotential s p
  IsPotential-down (Root r) h = tt
  IsPotential-down (Via p d n) h = (IsPotential-down p h.0, λ o. h.1 (OpenAt-up d.kind _ _ (up d.gate.0) o))

  pub IsDefinite-up : (p : Path) → IsDefinite s p → IsDefinite t p
  IsDefinite-up (Root r) h = tt
  IsDefinite-up (Via p d n) h = (IsDefinite-up p h.0, ConductsAt-up d.kind _ _ (up d.gate.0) h.1)

  pub HasStronger-up : (n k : ℕ) → HasStronger net s n k → HasStronger net t n k
  HasStronger-up n k b = record {
    path = b.path;
    is_path = b.is_path;
    ends = b.ends;
    definite = IsDefinite-up b.path b.definite;
    stronger = b.stronger;
  }

  pub IsBlocked-up : (p : Path) → IsBlocked net s p → IsBlocked net t p
  IsBlocked-up (Root r) b = HasStronger-up r _ b
  IsBlocked-up (Via p d n) (inl b) = inl (IsBlocked-up p b)
  IsBlocked-up (Via p d n) (inr b) = inr (HasStronger-up n _ b)

  pub Reaches-down : (n : ℕ) (p : Path) → Reaches net t n p → Reaches net s n p
  Reaches-down n p h = record {
    is_path = h.is_path;
    ends = h.ends;
    potential = IsPotential-down p h.potential;
    unblocked = λ b. h.unblocked (IsBlocked-up p b);
  }

  pub AllGive-Zero-up : (n : ℕ) → AllGive net s n Zero → AllGive net t n Zero
  AllGive-Zero-up n all p h =
      IsBelow-Zero _ (subst (λ x. IsBelow x (value_at t (root_of p))) (all p (Reaches-down n p h)) (up (root_of p)))

  pub AllGive-One-up : (n : ℕ) → AllGive net s n One → AllGive net t n One
  AllGive-One-up n all p h =
      IsBelow-One _ (subst (λ x. IsBelow x (value_at t (root_of p))) (all p (Reaches-down n p h)) (up (root_of p)))
