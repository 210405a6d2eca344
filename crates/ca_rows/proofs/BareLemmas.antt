-- No pair of vectors exposes a defect of a scan instance: its cell has no devices, and so no run's end is
-- sure.
use Rattle.std.proofs.Common.{◌≡◌, ℕ, ◌<◌, List, [], length, refl, sym, ◌∙◌, ap, subst, arith}
use Rattle.std.specs.Prelude.{◌↔◌, IsTrue, Bool, Option, Some, None, true, false, slice_get, IsSomeAnd}
use Rattle.ca_net.specs.declared.scale.TheConstants.{OUTPUT_NET}
use Rattle.ca_net.specs.declared.node.NodeKind.{NodeKind}
use Rattle.ca_net.specs.declared.node.NodeKind.TheVariants.{Input, Storage}
use Rattle.ca_net.specs.declared.trit.Trit.{Trit}
use Rattle.ca_net.specs.Circuit.{Circuit, IsWellFormed, IsStorage, kind_at}
use Rattle.ca_net.specs.PairRun.{EndsAt}
use Rattle.ca_net.proofs.StateLemmas.{storage_within}
use Rattle.ca_net.proofs.LastLimit.{last_limit_is_end_lem}
use Rattle.ca_parts.proofs.RisingLimits.{limits_exist_lem}
use Rattle.ca_parts.proofs.EndLaws.{meets, are_meets, meets_under_first, meets_under_last}
use Rattle.ca_cell.specs.declared.raw.RawCell.{RawCell}
use Rattle.ca_cell.specs.Raw.{circuit_of}
use Rattle.ca_cell.proofs.CircuitLemmas.{well_formed_all_but}
use Rattle.ca_cell.specs.declared.defect.Defect.{Defect}
use Rattle.ca_cell.specs.declared.row.Row.{Row}
use Rattle.ca_cell.specs.Exposes.{IsOutputPin, Exposes}
use Rattle.ca_flat.specs.declared.chip_defect.ChipDefect.{ChipDefect}
use Rattle.ca_flat.specs.Chip.{Instance, cell_at, IsDefectIn}
use Rattle.ca_flat.specs.Rows.{ListsExposingRows}
use Rattle.ca_flat.proofs.Undriven.{last_unknown}
use Rattle.ca_linked.specs.declared.parts.Body.{Body}
use Rattle.ca_linked.specs.declared.parts.Part.{Part}
use Rattle.ca_linked.specs.declared.parts.ScanNets.{ScanNets}
use Rattle.ca_linked.specs.declared.parts.Body.TheVariants.{Gate, Scan}
use Rattle.ca_linked.specs.Linked.{LinkedChip, IsGate, IsLibrary}
use Rattle.ca_view.specs.Core.{empty_cell, core_instance, core_of}
use Rattle.ca_view.proofs.CorePartLemmas.{core_at, part_at, body_is_cell}
use Rattle.ca_flat.specs.Detection.{IsExposableIn}

-- no run's end is sure at a node that no device reaches
never_ends : (net : Circuit) → net.devices ≡ [] → IsWellFormed net → (v1 v2 : List Trit) (n : ℕ) (v : Trit) → IsStorage net n → EndsAt net v1 v2 n v → ⊥
never_ends net bare formed v1 v2 n v st ends =
    limits_exist_lem net v1 (meets net v1 v2) v2 formed (meets_under_first net v1 v2) (meets_under_last net v1 v2) (λ first middle last limits.
    let sure = (last_limit_is_end_lem net v1 (meets net v1 v2) v2 first middle last n v formed (storage_within net n st) (are_meets net v1 v2) limits).1 ends in
    sure.0 (sym sure.1 ∙ last_unknown net bare v1 (meets net v1 v2) v2 first middle last limits n st))

empty_has_no_device : (qn : Option ℕ) → (circuit_of (empty_cell qn)).devices ≡ []
empty_has_no_device None = refl
empty_has_no_device (Some net) = refl

stored_is_no_input : (k : NodeKind) (size : ℕ) → k ≡ Storage size → k ≡ Input → ⊥
stored_is_no_input k size stored given = let same : Input ≡ Storage size = sym given ∙ stored in cc

empty_stores : (qn : Option ℕ) (n : ℕ) → IsOutputPin (empty_cell qn) n → IsStorage (circuit_of (empty_cell qn)) n
empty_stores None n pin = absurd (omega (arith, pin.0, pin.1))
empty_stores (Some net) n pin =
    let second : 2 ≡ n = omega (arith, pin.0, pin.1) in
    subst (IsStorage (circuit_of (empty_cell (Some net)))) second
    (stored_is_no_input (kind_at (circuit_of (empty_cell (Some net))) 2) OUTPUT_NET refl)

empty_exposes_none : (chip : LinkedChip) (nets : ScanNets) (defect : Defect) (first last : List Trit) → Exposes (empty_cell nets.qn) defect first last → ⊥
empty_exposes_none chip nets defect first last exposes =
    let cell = body_is_cell chip (Scan nets) tt in
    never_ends (circuit_of (empty_cell nets.qn)) (empty_has_no_device nets.qn) (well_formed_all_but (empty_cell nets.qn) cell.is_raw cell.keeps) _ _
    exposes.output exposes.value (empty_stores nets.qn exposes.output exposes.is_output) exposes.good

-- where the answer is that it isn't one of the library
pub not_library : (kept chip : LinkedChip) (u : ℕ) (answer : Bool) → kept ≡ chip → IsTrue answer ↔ IsLibrary kept u → answer ≡ false → IsLibrary chip u → ⊥
not_library kept chip u answer same is denied library =
    let yes : IsTrue answer = is.1 (subst (λ (c : LinkedChip). IsLibrary c u) (sym same) library) in
    let clash : IsTrue false = subst IsTrue denied yes in
    let differ : false ≡ true = clash in cc

-- a scan instance and its cell in the core
record IsScanAt (chip : LinkedChip) (u : ℕ) : Type 0 where
  nets : ScanNets
  cell : cell_at (core_of chip) u ≡ empty_cell nets.qn

scan_at : (chip : LinkedChip) (u : ℕ) → u < length (core_of chip).instances → (IsLibrary chip u → ⊥) → IsScanAt chip u
scan_at chip u known other =
    let found = part_at chip u known in by found.part found.at found.part.body refl
  where
    by : (part : Part) → slice_get chip.parts u ≡ Some part → (body : Body) → part.body ≡ body → IsScanAt chip u
    by part at (Gate cell inputs outputs) e =
        absurd (other (subst (λ (o : Option Part). IsSomeAnd o (λ p. IsGate p.body)) (sym at) (subst IsGate (sym e) tt)))
    by part at (Scan nets) e = record {
      nets = nets;
      cell = ap (λ (i : Instance). i.cell) (core_at chip u part at ∙ ap (core_instance chip) e);
    }

module _ (chip : LinkedChip) (defect : ChipDefect) (is : IsDefectIn (core_of chip) defect) (other : IsLibrary chip defect.instance → ⊥) where
  exposes_none : (first last : List Trit) → Exposes (cell_at (core_of chip) defect.instance) defect.defect first last → ⊥
  exposes_none first last exposes =
      let scan = scan_at chip defect.instance is.known other in
      empty_exposes_none chip scan.nets defect.defect first last
      (subst (λ (raw : RawCell). Exposes raw defect.defect first last) scan.cell exposes)

  -- so no rows are all of them
  pub scan_rows : (rows : List Row) → rows ≡ [] → ListsExposingRows (core_of chip) defect rows
  scan_rows rows empty row = (
    λ has. let lt : has.0 < length rows = has.1 in let none : length rows ≡ 0 = ap (λ (l : List Row). length l) empty in absurd (omega arith),
    λ exposing. absurd (exposes_none _ _ exposing.exposes),
  )

  -- and it isn't exposable
  pub scan_unexposable : (answer : Bool) → answer ≡ false → IsTrue answer ↔ IsExposableIn (core_of chip) defect
  scan_unexposable answer denied = (
    λ yes. let clash : IsTrue false = subst IsTrue denied yes in absurd (let differ : false ≡ true = clash in cc),
    λ exposable. absurd (exposes_none exposable.0 exposable.1 exposable.2),
  )
