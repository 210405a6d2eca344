-- The laws of specs/Laws.antt.
use Rattle.std.proofs.Common.{◌≡◌, ℕ, ◌<◌, List, length, inl, inr, refl, sym, subst}
use Rattle.ca_net.specs.declared.trit.Trit.{Trit}
use Rattle.ca_net.specs.declared.trit.Trit.TheVariants.{Zero, One, X}
use Rattle.ca_net.specs.declared.node.NodeKind.{NodeKind}
use Rattle.ca_net.specs.declared.node.NodeKind.TheVariants.{Input, Storage}
use Rattle.ca_net.specs.declared.device.DeviceKind.{DeviceKind}
use Rattle.ca_net.specs.declared.device.DeviceKind.TheVariants.{N, P, D}
use Rattle.ca_net.specs.Trit.{IsBelow}
use Rattle.ca_net.specs.Circuit.{Circuit, IsWellFormed, kind_at}
use Rattle.ca_net.specs.State.{IsStateBelow, value_at}
use Rattle.ca_net.specs.Conduction.{OpenAt, ConductsAt}
use Rattle.ca_net.specs.Path.{Path, Root, Via, root_of, IsPotential, IsDefinite}
use Rattle.ca_net.specs.Response.{Reaches, HasUnblocked, AllGive, ResponseAt}
use Rattle.ca_net.specs.Laws.{ResponseRises}
use Rattle.ca_net.proofs.PathsRise.{AllGive-Zero-up, AllGive-One-up}
use Rattle.ca_net.proofs.FreePath.{free_path}

-- a device that conducts is not open
not_open : (k : DeviceKind) (v : Trit) → ConductsAt k v → OpenAt k v → ⊥
not_open N v c o = cc
not_open P v c o = cc
not_open D v c o = o

module _ (net : Circuit) (s : List Trit) where
  -- a definite path is potential
  pub IsDefinite-potential : (p : Path) → IsDefinite s p → IsPotential s p
  IsDefinite-potential (Root r) h = tt
  IsDefinite-potential (Via p d n) h = (IsDefinite-potential p h.0, not_open d.kind _ h.1)

  -- so at most one value is given by all
  pub AllGive-not_both : (n : ℕ) → n < length net.nodes → AllGive net s n Zero → AllGive net s n One → ⊥
  AllGive-not_both n lt zero one =
      let f : HasUnblocked net s n = free_path net s n lt in
      let r : Reaches net s n f.path = record { is_path = f.is_path; ends = f.ends; potential = IsDefinite-potential f.path f.definite; unblocked = f.unblocked } in
      let z : value_at s (root_of f.path) ≡ Zero = zero f.path r in
      let o : value_at s (root_of f.path) ≡ One = one f.path r in cc

up_at : (k : NodeKind) (net : Circuit) (s t : List Trit) (n : ℕ) (v w : Trit) → IsWellFormed net → n < length net.nodes → IsStateBelow s t
    → ResponseAt k net s n v → ResponseAt k net t n w → IsBelow v w
up_at Input net s t n v w well_formed lt up hv hw = subst (λ a. IsBelow a w) (sym hv) (subst (λ b. IsBelow (value_at s n) b) (sym hw) (up n))
up_at (Storage z) net s t n X w well_formed lt up hv hw = inl refl
up_at (Storage z) net s t n Zero Zero well_formed lt up hv hw = inr refl
up_at (Storage z) net s t n Zero One well_formed lt up hv hw = absurd (AllGive-not_both net t n lt (AllGive-Zero-up net s t up n hv) hw)
up_at (Storage z) net s t n Zero X well_formed lt up hv hw = absurd (hw.0 (AllGive-Zero-up net s t up n hv))
up_at (Storage z) net s t n One Zero well_formed lt up hv hw = absurd (AllGive-not_both net t n lt hw (AllGive-One-up net s t up n hv))
up_at (Storage z) net s t n One One well_formed lt up hv hw = inr refl
up_at (Storage z) net s t n One X well_formed lt up hv hw = absurd (hw.1 (AllGive-One-up net s t up n hv))

pub response_rises_lem : ResponseRises
response_rises_lem net s t n v w well_formed lt up hv hw = up_at (kind_at net n) net s t n v w well_formed lt up hv hw
