-- The library instances of a chip, and how many defects they have.
use Rattle.std.proofs.Common.{ℕ, zero, suc, ◌+◌, ◌≡◌, refl, sym, ap, subst, arith, List, [], ◌∷◌, ◌++◌}
use Rattle.std.proofs.Common.{Option, Some, None}
use Rattle.std.specs.Prelude.{IsSomeAnd, slice_get}
use Rattle.ca_cell.specs.declared.raw.RawCell.{RawCell}
use Rattle.ca_cell.specs.Nodes.{defect_count}
use Rattle.ca_linked.specs.declared.parts.Body.{Body}
use Rattle.ca_linked.specs.declared.parts.Body.TheVariants.{Gate, Scan}
use Rattle.ca_linked.specs.declared.parts.Part.{Part}
use Rattle.ca_linked.specs.Linked.{LinkedChip, IsGate, IsLibrary}
use Rattle.ca_linked.specs.Instances.{if_gate, gates_from, gates_of, IsCellOf}
use Rattle.ca_on_chip.specs.Lines.{body_defects, part_defects}

-- an instance among these, of which the first has this number, is one of the library
record IsGateFrom (u : ℕ) (parts : List Part) (v : ℕ) : Type 0 where
  place : ℕ
  is : v ≡ u + place
  gate : IsSomeAnd (slice_get parts place) (λ part. IsGate part.body)

gates_are : (u : ℕ) (parts : List Part) (k v : ℕ) → slice_get (gates_from u parts) k ≡ Some v → IsGateFrom u parts v
gates_are u [] k v at = absurd cc
gates_are u (part ∷ more) k v at = by part.body refl (λ k at. gates_are (u + 1) more k v at) k at
  where
    later : IsGateFrom (u + 1) more v → IsGateFrom u (part ∷ more) v
    later found =
        let same = found.is in
        record { place = suc found.place; is = omega (arith, same); gate = found.gate }

    by : (body : Body) → part.body ≡ body
        → ((k : ℕ) → slice_get (gates_from (u + 1) more) k ≡ Some v → IsGateFrom (u + 1) more v) → (k : ℕ) → slice_get (if_gate u body ++ gates_from (u + 1) more) k ≡ Some v
        → IsGateFrom u (part ∷ more) v
    by (Gate cell inputs outputs) is on zero at =
        let same : u ≡ v = cc in
        record { place = 0; is = omega (arith, same); gate = rw is tt }
    by (Gate cell inputs outputs) is on (suc k) at = later (on k at)
    by (Scan nets) is on k at = later (on k at)

-- the k-th library instance is one
pub gate_is_library : (chip : LinkedChip) (k u : ℕ) → slice_get (gates_of chip) k ≡ Some u → IsLibrary chip u
gate_is_library chip k u at =
    let found = gates_are 0 chip.parts k u at in
    let same : found.place ≡ u = (let is = found.is in omega (arith, is)) in
    subst (IsLibrary chip) same found.gate

-- the defects of an instance are those of its cell
pub defects_are : (cells : List RawCell) (there : Option Part) (raw : RawCell)
    → IsSomeAnd there (λ part. IsCellOf cells part.body raw) → part_defects cells there ≡ defect_count raw
defects_are cells None raw held = absurd held
defects_are cells (Some part) raw held = by part.body held
  where
    by : (body : Body) → IsCellOf cells body raw → body_defects cells body ≡ defect_count raw
    by (Gate cell inputs outputs) same = ap defect_count (sym same)
    by (Scan nets) none = absurd none
