-- Library instances and scan instances, and their instances of the core.
use Rattle.std.proofs.Common.{◌≡◌, ℕ, ◌+◌, ◌<◌, List, ◌++◌, length, length-append, inl, inr, refl, sym, ◌∙◌}
use Rattle.std.proofs.Common.{ap, subst, arith, get_or}
use Rattle.std.specs.Prelude.{slice_get, IsSomeAnd, Option, Some, None}
use Rattle.std.specs.List.{All}
use Rattle.std.proofs.lemmas.List.{get_or-map}
use Rattle.std.proofs.lemmas.Option.{slice_get_within, get_or_from_slice_get, slice_get_cases}
use Rattle.ca_cell.specs.declared.raw.RawCell.{RawCell}
use Rattle.ca_cell.specs.Raw.{is_input, is_output, role_count}
use Rattle.ca_linked.specs.declared.parts.Body.{Body}
use Rattle.ca_linked.specs.declared.parts.Part.{Part}
use Rattle.ca_linked.specs.declared.parts.ScanNets.{ScanNets}
use Rattle.ca_linked.specs.declared.parts.Body.TheVariants.{Gate, Scan}
use Rattle.ca_linked.specs.Linked.{LinkedChip, cell_of, net_count, data_nets, IsBody, IsGateOf, IsGate, IsLibrary}
use Rattle.ca_linked.specs.Linked.{IsWired}
use Rattle.ca_linked.specs.Instances.{pin_nets, IsCellOf, IsScan}
use Rattle.ca_linked.proofs.OrderLemmas.{contained_at}
use Rattle.ca_linked.proofs.PartLemmas.{of_all, of_list}
use Rattle.ca_flat.specs.Chip.{Instance, instance_at, cell_at, inputs_at, outputs_at, net_of}
use Rattle.ca_view.specs.Core.{core_net, core_instance, core_of}
use Rattle.ca_view.proofs.CorePartLemmas.{core_at}

-- a library instance, with its cell and its nets
pub record GateAt (chip : LinkedChip) (u : ℕ) : Type 0 where
  pub part : Part
  pub cell : ℕ
  pub inputs : List ℕ
  pub outputs : List ℕ
  pub at : slice_get chip.parts u ≡ Some part
  pub body : part.body ≡ Gate cell inputs outputs

pub gate_at : (chip : LinkedChip) (u : ℕ) → IsLibrary chip u → GateAt chip u
gate_at chip u library = by (slice_get chip.parts u) refl library
  where
    by_body : (part : Part) → slice_get chip.parts u ≡ Some part → (body : Body) → part.body ≡ body → IsGate body → GateAt chip u
    by_body part at (Gate cell inputs outputs) is gate =
        record { part = part; cell = cell; inputs = inputs; outputs = outputs; at = at; body = is }
    by_body part at (Scan nets) is gate = elim gate [ ]

    by : (o : Option Part) → slice_get chip.parts u ≡ o → IsSomeAnd o (λ p. IsGate p.body) → GateAt chip u
    by None at gate = elim gate [ ]
    by (Some part) at gate = by_body part at part.body refl gate

pub some_at : (P : Part → Type 0) (parts : List Part) (u : ℕ) (part : Part) → slice_get parts u ≡ Some part → P part → IsSomeAnd (slice_get parts u) P
some_at P parts u part at is = subst (λ (o : Option Part). IsSomeAnd o P) (sym at) is

pub at_some : (P : Part → Type 0) (parts : List Part) (u : ℕ) (part : Part) → slice_get parts u ≡ Some part → IsSomeAnd (slice_get parts u) P → P part
at_some P parts u part at is = subst (λ (o : Option Part). IsSomeAnd o P) at is

pub library_known : (chip : LinkedChip) (u : ℕ) → IsLibrary chip u → u < length chip.parts
library_known chip u library = let g = gate_at chip u library in slice_get_within chip.parts u g.part g.at

pub core_gate : (chip : LinkedChip) (u : ℕ) (g : GateAt chip u) → instance_at (core_of chip) u ≡ core_instance chip (Gate g.cell g.inputs g.outputs)
core_gate chip u g = core_at chip u g.part g.at ∙ ap (core_instance chip) g.body

-- what is read as the cell of a library instance is that of the core's
pub cell_read : (chip : LinkedChip) (u : ℕ) (raw : RawCell) → IsLibrary chip u
    → IsSomeAnd (slice_get chip.parts u) (λ part. IsCellOf chip.cells part.body raw) → raw ≡ cell_at (core_of chip) u
cell_read chip u raw library found =
    let g = gate_at chip u library in
    let is : IsCellOf chip.cells (Gate g.cell g.inputs g.outputs) raw =
    subst (λ (b : Body). IsCellOf chip.cells b raw) g.body (at_some (λ part. IsCellOf chip.cells part.body raw) chip.parts u g.part g.at found) in
    is ∙ sym (ap (λ (i : Instance). i.cell) (core_gate chip u g))

module _ (chip : LinkedChip) (is : IsWired chip) (u : ℕ) (library : IsLibrary chip u) where
  g : GateAt chip u
  g = gate_at chip u library

  is_gate : IsGateOf (cell_of chip.cells g.cell) g.inputs g.outputs
  is_gate = subst (IsBody chip.cells) g.body (of_all (λ (p : Part). IsBody chip.cells p.body) chip.parts u g.part is.bodies g.at)

  on_nets : All (λ net. net < net_count chip) (g.inputs ++ g.outputs)
  on_nets = subst (λ (b : Body). All (λ net. net < net_count chip) (data_nets b)) g.body
      (of_all (λ (p : Part). All (λ net. net < net_count chip) (data_nets p.body)) chip.parts u g.part is.on_nets g.at)

  input_count : inputs_at (core_of chip) u ≡ length g.inputs
  input_count = ap (λ (i : Instance). role_count is_input i.cell.pins) (core_gate chip u g) ∙ sym is_gate.net_per_input

  output_count : outputs_at (core_of chip) u ≡ length g.outputs
  output_count = ap (λ (i : Instance). role_count is_output i.cell.pins) (core_gate chip u g) ∙ sym is_gate.net_per_output

  pub pin_within : (pin : ℕ) → pin < inputs_at (core_of chip) u + outputs_at (core_of chip) u
      → IsSomeAnd (slice_get chip.parts u) (λ part. pin < length (pin_nets part.body))
  pin_within pin lt =
      some_at (λ part. pin < length (pin_nets part.body)) chip.parts u g.part g.at
      (subst (λ (b : Body). pin < length (pin_nets b)) (sym g.body)
      (let i = input_count in let o = output_count in let l = length-append g.inputs g.outputs in omega arith))

  pin_get : (pin net : ℕ) → IsSomeAnd (slice_get chip.parts u) (λ part. slice_get (pin_nets part.body) pin ≡ Some net)
      → slice_get (g.inputs ++ g.outputs) pin ≡ Some net
  pin_get pin net found = subst (λ (b : Body). slice_get (pin_nets b) pin ≡ Some net) g.body
      (at_some (λ part. slice_get (pin_nets part.body) pin ≡ Some net) chip.parts u g.part g.at found)

  pub pin_on_net : (pin net : ℕ) → IsSomeAnd (slice_get chip.parts u) (λ part. slice_get (pin_nets part.body) pin ≡ Some net)
      → net < net_count chip
  pin_on_net pin net found =
      of_list (λ n. n < net_count chip) (g.inputs ++ g.outputs) net on_nets (contained_at (g.inputs ++ g.outputs) pin net (pin_get pin net found))

  pub pin_read : (pin net : ℕ) → IsSomeAnd (slice_get chip.parts u) (λ part. slice_get (pin_nets part.body) pin ≡ Some net)
      → core_net chip net ≡ net_of (core_of chip) u pin
  pin_read pin net found =
      let at = pin_get pin net found in
      sym (ap (λ (i : Instance). get_or i.pins pin 0) (core_gate chip u g)
      ∙ get_or-map (core_net chip) (g.inputs ++ g.outputs) pin 0 0 (slice_get_within (g.inputs ++ g.outputs) pin net at)
      ∙ ap (core_net chip) (get_or_from_slice_get (g.inputs ++ g.outputs) pin net 0 at))

-- a scan instance, with its nets
pub record ScanAt (chip : LinkedChip) (u : ℕ) : Type 0 where
  pub part : Part
  pub nets : ScanNets
  pub at : slice_get chip.parts u ≡ Some part
  pub body : part.body ≡ Scan nets

pub scan_at : (chip : LinkedChip) (u : ℕ) → IsSomeAnd (slice_get chip.parts u) (λ part. IsScan part.body) → ScanAt chip u
scan_at chip u scan = by (slice_get chip.parts u) refl scan
  where
    by_body : (part : Part) → slice_get chip.parts u ≡ Some part → (body : Body) → part.body ≡ body → IsScan body → ScanAt chip u
    by_body part at (Gate cell inputs outputs) is scan = elim scan [ ]
    by_body part at (Scan nets) is scan = record { part = part; nets = nets; at = at; body = is }

    by : (o : Option Part) → slice_get chip.parts u ≡ o → IsSomeAnd o (λ p. IsScan p.body) → ScanAt chip u
    by None at scan = elim scan [ ]
    by (Some part) at scan = by_body part at part.body refl scan

-- an instance that isn't one of the library is a scan instance
pub scan_of_other : (chip : LinkedChip) (u : ℕ) → u < length chip.parts → (IsLibrary chip u → ⊥) → IsSomeAnd (slice_get chip.parts u) (λ part. IsScan part.body)
scan_of_other chip u known other = elim (slice_get_cases chip.parts u).1 [
  | inl there ↦ by there.0 there.2 there.0.body refl
  | inr past ↦ absurd (let following = past.0 in omega arith)
]
  where
    by : (part : Part) → slice_get chip.parts u ≡ Some part → (body : Body) → part.body ≡ body → IsSomeAnd (slice_get chip.parts u) (λ p. IsScan p.body)
    by part at (Gate cell inputs outputs) is = absurd (other (some_at (λ p. IsGate p.body) chip.parts u part at (subst IsGate (sym is) tt)))
    by part at (Scan nets) is = some_at (λ p. IsScan p.body) chip.parts u part at (subst IsScan (sym is) tt)
