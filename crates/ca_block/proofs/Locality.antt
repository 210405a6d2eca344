-- The response of a node hangs on the devices around its channel group alone, on what their gates are, and on
-- the values of their ends and of the group's nodes: a path that isn't blocked has no input node but its root,
-- since an input node is stronger than each device.
use Rattle.std.proofs.Common.{◌≡◌, ℕ, ◌<◌, ◌≤◌, ◌⊎◌, List, min, inl, inr, refl, sym, ◌∙◌, ap, subst, arith}
use Rattle.std.specs.List.{Contains}
use Rattle.ca_net.specs.declared.trit.Trit.{Trit}
use Rattle.ca_net.specs.declared.trit.Trit.TheVariants.{Zero, One, X}
use Rattle.ca_net.specs.declared.node.NodeKind.{NodeKind}
use Rattle.ca_net.specs.declared.node.NodeKind.TheVariants.{Input, Storage}
use Rattle.ca_net.specs.declared.device.Device.{Device}
use Rattle.ca_net.specs.Circuit.{Circuit, IsWellFormed, IsStorage, kind_at}
use Rattle.ca_net.specs.Conduction.{Links, ConductsAt, OpenAt}
use Rattle.ca_net.specs.State.{value_at}
use Rattle.ca_net.specs.Path.{Path, Root, Via, root_of, end_of, strength_of, IsPath, IsPotential, IsDefinite}
use Rattle.ca_net.specs.Response.{HasStronger, IsBlocked, Reaches, AllGive, StorageResponse, ResponseAt, IsResponse}
use Rattle.ca_net.specs.code.Walk.{IsInner}
use Rattle.ca_net.proofs.StateLemmas.{storage_or_input}
use Rattle.ca_net.proofs.InnerPaths.{unblocked_inner, shortened}

-- the network of these nodes and devices
abbrev pub net_of : List NodeKind → List Device → Circuit
net_of nodes devices = record { nodes = nodes; devices = devices }

-- of the devices with an end in a set of storage nodes, each is one of the others and has in both states the
-- same values at its gate and at its other end, which is in the set too, or is an input node
pub record IsCovered (nodes : List NodeKind) (S : ℕ → Type 0) (ds es : List Device) (s t : List Trit) : Type 0 where
  pub storage : (n : ℕ) → S n → IsStorage (net_of nodes ds) n
  pub closed : (d : Device) (m n : ℕ) → Contains ds d → Links d m n → S n → IsStorage (net_of nodes ds) m → S m
  pub has : (d : Device) (m n : ℕ) → Contains ds d → Links d m n → S n → Contains es d
  pub gates : (d : Device) (m n : ℕ) → Contains ds d → Links d m n → S n → value_at s d.gate.0 ≡ value_at t d.gate.0
  pub ends : (d : Device) (m n : ℕ) → Contains ds d → Links d m n → S n → value_at s m ≡ value_at t m

module _ (nodes : List NodeKind) (S : ℕ → Type 0) (ds es : List Device) (s t : List Trit) (covered : IsCovered nodes S ds es s t) where
  -- the node is in the set, or an input node
  abbrev IsAround : ℕ → Type 0
  IsAround n = S n ⊎ (kind_at (net_of nodes ds) n ≡ Input)

  here : (n : ℕ) → IsStorage (net_of nodes ds) n → IsAround n → S n
  here n st (inl is) = is
  here n st (inr e) = absurd (st e)

  before : (d : Device) (m n : ℕ) → Contains ds d → Links d m n → S n → IsAround m
  before d m n has links is = elim (storage_or_input (net_of nodes ds) m) [
    | inl st ↦ inl (covered.closed d m n has links is st)
    | inr e ↦ inr e
  ]

  -- a path to a node of the set, or to an input node, is one of the other network
  moved : (p : Path) → IsPath (net_of nodes ds) p → IsInner (net_of nodes ds) p → IsAround (end_of p) → IsPath (net_of nodes es) p
  moved (Root r) is_path inner around = is_path
  moved (Via p d n) is_path inner around =
      let is = here n inner.0 around in (
        moved p is_path.0 inner.1 (before d (end_of p) n is_path.1 is_path.2 is),
        covered.has d (end_of p) n is_path.1 is_path.2 is,
        is_path.2,
        is_path.3,
        is_path.4,
      )

  -- and so are its devices what they were
  moved_definite : (p : Path) → IsPath (net_of nodes ds) p → IsInner (net_of nodes ds) p → IsAround (end_of p) → IsDefinite s p → IsDefinite t p
  moved_definite (Root r) is_path inner around definite = tt
  moved_definite (Via p d n) is_path inner around definite =
      let is = here n inner.0 around in (
        moved_definite p is_path.0 inner.1 (before d (end_of p) n is_path.1 is_path.2 is) definite.0,
        subst (ConductsAt d.kind) (covered.gates d (end_of p) n is_path.1 is_path.2 is) definite.1,
      )

  moved_potential : (p : Path) → IsPath (net_of nodes ds) p → IsInner (net_of nodes ds) p → IsAround (end_of p) → IsPotential s p → IsPotential t p
  moved_potential (Root r) is_path inner around potential = tt
  moved_potential (Via p d n) is_path inner around potential =
      let is = here n inner.0 around in (
        moved_potential p is_path.0 inner.1 (before d (end_of p) n is_path.1 is_path.2 is) potential.0,
        λ opens. potential.1 (subst (OpenAt d.kind) (sym (covered.gates d (end_of p) n is_path.1 is_path.2 is)) opens),
      )

  -- the root has the value that it had, if the end has
  moved_root : (p : Path) → IsPath (net_of nodes ds) p → IsInner (net_of nodes ds) p → IsAround (end_of p) → value_at s (end_of p) ≡ value_at t (end_of p)
      → value_at s (root_of p) ≡ value_at t (root_of p)
  moved_root (Root r) is_path inner around same = same
  moved_root (Via p d n) is_path inner around same =
      let is = here n inner.0 around in
      moved_root p is_path.0 inner.1 (before d (end_of p) n is_path.1 is_path.2 is) (covered.ends d (end_of p) n is_path.1 is_path.2 is)

  moved_inner : (p : Path) → IsInner (net_of nodes ds) p → IsInner (net_of nodes es) p
  moved_inner (Root r) inner = tt
  moved_inner (Via p d n) inner = (inner.0, moved_inner p inner.1)

  -- and as strong
  moved_strength : (p : Path) → strength_of (net_of nodes ds) p ≡ strength_of (net_of nodes es) p
  moved_strength (Root r) = refl
  moved_strength (Via p d n) = ap (λ k. min k d.strength) (moved_strength p)

  moved_stronger : IsWellFormed (net_of nodes ds) → (n k : ℕ) → IsAround n → HasStronger (net_of nodes ds) s n k → HasStronger (net_of nodes es) t n k
  moved_stronger well_formed n k around h =
      let q = shortened (net_of nodes ds) s well_formed h.path h.is_path h.definite in
      let ends : end_of q.path ≡ n = q.ends ∙ h.ends in
      let at = subst IsAround (sym ends) around in
      let le : strength_of (net_of nodes ds) h.path ≤ strength_of (net_of nodes ds) q.path = q.strength in
      let lt : k < strength_of (net_of nodes ds) h.path = h.stronger in
      record {
        path = q.path;
        is_path = moved q.path q.is_path q.inner at;
        ends = ends;
        definite = moved_definite q.path q.is_path q.inner at q.definite;
        stronger = subst (λ x. k < x) (moved_strength q.path) (omega arith);
      }

  moved_blocked : IsWellFormed (net_of nodes ds) → (p : Path) → IsPath (net_of nodes ds) p → IsInner (net_of nodes ds) p → IsAround (end_of p)
      → IsBlocked (net_of nodes ds) s p → IsBlocked (net_of nodes es) t p
  moved_blocked well_formed (Root r) is_path inner around blocked = moved_stronger well_formed r (strength_of (net_of nodes ds) (Root r)) around blocked
  moved_blocked well_formed (Via p d n) is_path inner around (inl blocked) =
      inl (moved_blocked well_formed p is_path.0 inner.1 (before d (end_of p) n is_path.1 is_path.2 (here n inner.0 around)) blocked)
  moved_blocked well_formed (Via p d n) is_path inner around (inr h) =
      inr (subst (HasStronger (net_of nodes es) t n) (moved_strength (Via p d n)) (moved_stronger well_formed n (strength_of (net_of nodes ds) (Via p d n)) around h))

module _ (nodes : List NodeKind) (S : ℕ → Type 0) (ds es : List Device) (s t : List Trit) (well_formed : IsWellFormed (net_of nodes ds))
    (well_formed_there : IsWellFormed (net_of nodes es)) (covered : IsCovered nodes S ds es s t) (covered_there : IsCovered nodes S es ds t s)
    (values : (n : ℕ) → S n → value_at s n ≡ value_at t n) where
  -- what reaches a node of the set there reaches it here
  reaches_here : (n : ℕ) → S n → (p : Path) → Reaches (net_of nodes es) t n p → Reaches (net_of nodes ds) s n p
  reaches_here n is p r =
      let inner = unblocked_inner (net_of nodes es) t well_formed_there p r.is_path r.unblocked in
      let around : S (end_of p) ⊎ (kind_at (net_of nodes es) (end_of p) ≡ Input) = inl (subst S (sym r.ends) is) in
      let is_path = moved nodes S es ds t s covered_there p r.is_path inner around in
      record {
        is_path = is_path;
        ends = r.ends;
        potential = moved_potential nodes S es ds t s covered_there p r.is_path inner around r.potential;
        unblocked = λ blocked.
            r.unblocked (moved_blocked nodes S ds es s t covered well_formed p is_path (moved_inner nodes S es ds t s covered_there p inner) around blocked);
      }

  same_root : (n : ℕ) → S n → (p : Path) → Reaches (net_of nodes ds) s n p → value_at s (root_of p) ≡ value_at t (root_of p)
  same_root n is p r =
      let inner = unblocked_inner (net_of nodes ds) s well_formed p r.is_path r.unblocked in
      let at = subst S (sym r.ends) is in
      moved_root nodes S ds es s t covered p r.is_path inner (inl at) (values (end_of p) at)

  pub gives_there : (n : ℕ) (v : Trit) → S n → AllGive (net_of nodes ds) s n v → AllGive (net_of nodes es) t n v
  gives_there n v is all p r =
      let h = reaches_here n is p r in
      sym (same_root n is p h) ∙ all p h

module _ (nodes : List NodeKind) (S : ℕ → Type 0) (ds es : List Device) (s t : List Trit) (well_formed : IsWellFormed (net_of nodes ds))
    (well_formed_there : IsWellFormed (net_of nodes es)) (covered : IsCovered nodes S ds es s t) (covered_there : IsCovered nodes S es ds t s)
    (values : (n : ℕ) → S n → value_at s n ≡ value_at t n) where
  there : (n : ℕ) (v : Trit) → S n → AllGive (net_of nodes ds) s n v → AllGive (net_of nodes es) t n v
  there = gives_there nodes S ds es s t well_formed well_formed_there covered covered_there values

  back : (n : ℕ) (v : Trit) → S n → AllGive (net_of nodes es) t n v → AllGive (net_of nodes ds) s n v
  back = gives_there nodes S es ds t s well_formed_there well_formed covered_there covered (λ n is. sym (values n is))

  storage_there : (n : ℕ) (v : Trit) → S n → StorageResponse (net_of nodes ds) s n v → StorageResponse (net_of nodes es) t n v
  storage_there n Zero is h = there n Zero is h
  storage_there n One is h = there n One is h
  storage_there n X is h = (λ all. h.0 (back n Zero is all), λ all. h.1 (back n One is all))

  by_kind : (kind : NodeKind) (n : ℕ) (v : Trit) → (kind ≡ Input → ⊥) → S n → ResponseAt kind (net_of nodes ds) s n v → ResponseAt kind (net_of nodes es) t n v
  by_kind Input n v storage is h = absurd (storage refl)
  by_kind (Storage size) n v storage is h = storage_there n v is h

  -- so each node of the set responds there as here
  pub responds_there : (n : ℕ) (v : Trit) → S n → IsResponse (net_of nodes ds) s n v → IsResponse (net_of nodes es) t n v
  responds_there n v is h = by_kind (kind_at (net_of nodes ds) n) n v (covered.storage n is) is h
