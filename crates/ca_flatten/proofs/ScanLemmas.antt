-- Scan instances, and their instances of the core.
use Rattle.std.proofs.Common.{◌≡◌, ℕ, ◌+◌, ◌<◌, ◌≤◌, [], ◌∷◌, ◌++◌, length, map, Bool, true, false, eqb, refl}
use Rattle.std.proofs.Common.{sym, ◌∙◌, ap, subst, arith, get_or}
use Rattle.std.specs.Prelude.{slice_get, cond, IsSomeAnd, IsSome, Option, Some, None, option_to_list}
use Rattle.std.specs.List.{Contains}
use Rattle.std.proofs.lemmas.Option.{same_Some}
use Rattle.ca_cell.specs.Raw.{is_input, is_output, role_count, circuit_of}
use Rattle.ca_linked.specs.declared.parts.ScanNets.{ScanNets}
use Rattle.ca_linked.specs.declared.parts.Body.{Body}
use Rattle.ca_linked.specs.declared.parts.Part.{Part}
use Rattle.ca_linked.specs.declared.parts.Body.TheVariants.{Gate, Scan}
use Rattle.ca_linked.specs.Linked.{LinkedChip, net_count, data_nets, IsGate, IsLibrary, IsWired}
use Rattle.ca_linked.specs.Instances.{pin_nets}
use Rattle.ca_cell.specs.declared.defect.Defect.{Defect}
use Rattle.ca_cell.specs.declared.defect.Defect.TheVariants.{OpenDrain, OpenSource, OpenGate, OpenPin}
use Rattle.ca_cell.specs.declared.defect.Defect.TheVariants.{Short}
use Rattle.ca_cell.specs.List.{IsDefectOf}
use Rattle.ca_flat.specs.declared.chip_defect.ChipDefect.{ChipDefect}
use Rattle.ca_flat.specs.Chip.{Instance, instance_at, cell_at, circuit_at, net_of, IsChipDefect}
use Rattle.ca_parts.specs.Part.{moved}
use Rattle.ca_flat.specs.Flat.{new_nodes, old_devices, defect_at, circuit_in, place, outer_count, devices_of}
use Rattle.ca_flat.proofs.Shapes.{length-with_defect}
use Rattle.std.proofs.lemmas.Bool.{eqb-true}
use Rattle.ca_view.specs.Core.{core_net, core_instance, core_of, empty_cell}
use Rattle.ca_view.proofs.CorePartLemmas.{core_at, part_at}
use Rattle.ca_view.proofs.CoreIsChip.{data_within}
use Rattle.ca_flatten.specs.code.Kept.{IsInverting}
use Rattle.ca_flatten.proofs.GateLemmas.{some_at, at_some}
use Rattle.ca_flatten.proofs.SizeLemmas.{core_count}

-- a scan instance, with its nets
pub record ScanAt (chip : LinkedChip) (u : ℕ) : Type 0 where
  pub part : Part
  pub nets : ScanNets
  pub at : slice_get chip.parts u ≡ Some part
  pub body : part.body ≡ Scan nets

scan_of : (chip : LinkedChip) (u : ℕ) (part : Part) → slice_get chip.parts u ≡ Some part → (IsGate part.body → ⊥) → ScanAt chip u
scan_of chip u part at scan = by part.body refl scan
  where
    by : (body : Body) → part.body ≡ body → (IsGate body → ⊥) → ScanAt chip u
    by (Gate cell inputs outputs) is other = absurd (other tt)
    by (Scan nets) is other = record { part = part; nets = nets; at = at; body = is }

pub scan_at : (chip : LinkedChip) (u : ℕ) → u < length chip.parts → (IsLibrary chip u → ⊥) → ScanAt chip u
scan_at chip u known scan =
    let has = part_at chip u (let e = core_count chip in omega arith) in
    scan_of chip u has.part has.at (λ gate. scan (some_at (λ p. IsGate p.body) chip.parts u has.part has.at gate))

pub core_scan : (chip : LinkedChip) (u : ℕ) (s : ScanAt chip u) → instance_at (core_of chip) u ≡ core_instance chip (Scan s.nets)
core_scan chip u s = core_at chip u s.part s.at ∙ ap (core_instance chip) s.body

-- an open isn't among the defects of a cell without devices and input pins
no_open : (qn : Option ℕ) (defect : Defect) → IsDefectOf (empty_cell qn) defect → length (new_nodes (Some defect)) ≡ 0
no_open None (OpenDrain d) is = absurd (omega (arith, is))
no_open None (OpenSource d) is = absurd (omega (arith, is))
no_open None (OpenGate d) is = absurd (let no : ⊥ = cc in no)
no_open None (OpenPin p) is = absurd (omega (arith, is.0, is.1))
no_open None (Short m n) is = refl
no_open (Some net) (OpenDrain d) is = absurd (omega (arith, is))
no_open (Some net) (OpenSource d) is = absurd (omega (arith, is))
no_open (Some net) (OpenGate d) is = absurd (let no : ⊥ = cc in no)
no_open (Some net) (OpenPin p) is = absurd (omega (arith, is.0, is.1))
no_open (Some net) (Short m n) is = refl

module _ (chip : LinkedChip) (u : ℕ) (s : ScanAt chip u) where
  no_new : (given : Option ChipDefect) → IsChipDefect (core_of chip) given → length (new_nodes (defect_at given u)) ≡ 0
  no_new None fits = refl
  no_new (Some d) fits = by (eqb u d.instance) refl
    where
      by : (b : Bool) → eqb u d.instance ≡ b → length (new_nodes (cond b (Some d.defect) None)) ≡ 0
      by true e =
          no_open s.nets.qn d.defect
          (subst (λ (i : Instance). IsDefectOf i.cell d.defect) (core_scan chip u s)
          (subst (λ w. IsDefectOf (cell_at (core_of chip) w) d.defect) (sym (eqb-true u d.instance e)) fits.listed))
      by false e = refl

  node_total : (given : Option ChipDefect) → IsChipDefect (core_of chip) given
      → length (circuit_in (core_of chip) given u).nodes ≡ length (circuit_of (empty_cell s.nets.qn)).nodes
  node_total given fits =
      let total = length-with_defect (circuit_at (core_of chip) u) (defect_at given u) in
      let none = no_new given fits in
      let same : length (circuit_at (core_of chip) u).nodes ≡ length (circuit_of (empty_cell s.nets.qn)).nodes =
      ap (λ (i : Instance). length (circuit_of i.cell).nodes) (core_scan chip u s) in
      omega arith

  -- its only node besides the rails is that of its inverted output
  inverting_of : (qn : Option ℕ) (n : ℕ) → 2 ≤ n → n < length (circuit_of (empty_cell qn)).nodes → IsSome qn × (n ≡ 2)
  inverting_of None n ge lt = absurd (omega (arith, ge, lt))
  inverting_of (Some net) n ge lt = (refl, omega (arith, ge, lt))

  pub node_is_two : (given : Option ChipDefect) (n : ℕ) → IsChipDefect (core_of chip) given → 2 ≤ n → n < length (circuit_in (core_of chip) given u).nodes → n ≡ 2
  node_is_two given n fits ge lt = (inverting_of s.nets.qn n ge (let e = node_total given fits in omega arith)).1

  pub node_is_inverting : (given : Option ChipDefect) (n : ℕ) → IsChipDefect (core_of chip) given → 2 ≤ n → n < length (circuit_in (core_of chip) given u).nodes
      → IsSomeAnd (slice_get chip.parts u) (λ part. IsInverting part.body)
  node_is_inverting given n fits ge lt =
      some_at (λ part. IsInverting part.body) chip.parts u s.part s.at
      (subst IsInverting (sym s.body) (inverting_of s.nets.qn n ge (let e = node_total given fits in omega arith)).0)

-- a scan instance with an inverted output, and the net of this
pub record InvertedAt (chip : LinkedChip) (u : ℕ) : Type 0 where
  pub part : Part
  pub nets : ScanNets
  pub net : ℕ
  pub at : slice_get chip.parts u ≡ Some part
  pub body : part.body ≡ Scan nets
  pub inverted : nets.qn ≡ Some net

inverted_of : (chip : LinkedChip) (u : ℕ) (part : Part) → slice_get chip.parts u ≡ Some part → IsInverting part.body → InvertedAt chip u
inverted_of chip u part at inverting = by part.body refl inverting
  where
    by_net : (nets : ScanNets) → part.body ≡ Scan nets → (qn : Option ℕ) → nets.qn ≡ qn → IsSome qn → InvertedAt chip u
    by_net nets is None e some = absurd cc
    by_net nets is (Some net) e some = record { part = part; nets = nets; net = net; at = at; body = is; inverted = e }

    by : (body : Body) → part.body ≡ body → IsInverting body → InvertedAt chip u
    by (Gate cell inputs outputs) is other = absurd other
    by (Scan nets) is some = by_net nets is nets.qn refl some

pub inverted_at : (chip : LinkedChip) (u : ℕ) → IsSomeAnd (slice_get chip.parts u) (λ part. IsInverting part.body) → InvertedAt chip u
inverted_at chip u inverting = by (slice_get chip.parts u) refl inverting
  where
    by : (o : Option Part) → slice_get chip.parts u ≡ o → IsSomeAnd o (λ part. IsInverting part.body) → InvertedAt chip u
    by None at none = elim none [ ]
    by (Some part) at some = inverted_of chip u part at some

module _ (chip : LinkedChip) (u : ℕ) (v : InvertedAt chip u) where
  core_inverted : instance_at (core_of chip) u ≡ record { cell = empty_cell (Some v.net); pins = core_net chip v.net ∷ [] }
  core_inverted =
      core_at chip u v.part v.at ∙ ap (core_instance chip) v.body
      ∙ ap (λ (qn : Option ℕ). record { cell = empty_cell qn; pins = map (core_net chip) (option_to_list qn) }) v.inverted

  pub inverted_outer : outer_count (core_of chip) u ≡ 3
  inverted_outer = ap (λ (i : Instance). 2 + role_count is_input i.cell.pins + role_count is_output i.cell.pins) core_inverted

  pub inverted_core_net : net_of (core_of chip) u 0 ≡ core_net chip v.net
  inverted_core_net = ap (λ (i : Instance). get_or i.pins 0 0) core_inverted

  pub inverted_get : (net : ℕ) → IsSomeAnd (slice_get chip.parts u) (λ part. slice_get (pin_nets part.body) 6 ≡ Some net) → net ≡ v.net
  inverted_get net found =
      let at : slice_get (pin_nets (Scan v.nets)) 6 ≡ Some net = subst (λ (b : Body). slice_get (pin_nets b) 6 ≡ Some net) v.body
      (at_some (λ part. slice_get (pin_nets part.body) 6 ≡ Some net) chip.parts u v.part v.at found) in
      let here : slice_get (v.nets.d ∷ v.nets.si ∷ v.nets.se ∷ v.nets.ck ∷ v.nets.hold ∷ v.nets.q ∷ (option_to_list (Some v.net) ++ v.nets.so ∷ [])) 6 ≡ Some net =
      subst (λ (qn : Option ℕ). slice_get (v.nets.d ∷ v.nets.si ∷ v.nets.se ∷ v.nets.ck ∷ v.nets.hold ∷ v.nets.q ∷ (option_to_list qn ++ v.nets.so ∷ [])) 6 ≡ Some net) v.inverted at in
      sym (same_Some v.net net here)

  pub inverted_on_net : IsWired chip → v.net < net_count chip
  inverted_on_net is =
      let has : Contains (data_nets (Scan v.nets)) v.net =
      subst (λ (qn : Option ℕ). Contains (v.nets.d ∷ v.nets.q ∷ option_to_list qn) v.net) (sym v.inverted) (2, omega arith, refl) in
      data_within chip is u v.part v.net v.at (subst (λ (b : Body). Contains (data_nets b) v.net) (sym v.body) has)

none_changed : (new : ℕ) (o : Option Defect) → old_devices [] new o ≡ []
none_changed new None = refl
none_changed new (Some defect) = refl

none_there : (qn : Option ℕ) → (circuit_of (empty_cell qn)).devices ≡ []
none_there None = refl
none_there (Some net) = refl

-- a scan instance has no devices
pub scan_devices : (chip : LinkedChip) (u : ℕ) (s : ScanAt chip u) (given : Option ChipDefect) → devices_of (core_of chip) given u ≡ []
scan_devices chip u s given =
    let core = core_of chip in
    let none : (circuit_at core u).devices ≡ [] = ap (λ (i : Instance). (circuit_of i.cell).devices) (core_scan chip u s) ∙ none_there s.nets.qn in
    ap (map (moved (place core u)))
    (ap (λ devices. old_devices devices (length (circuit_at core u).nodes) (defect_at given u)) none
    ∙ none_changed (length (circuit_at core u).nodes) (defect_at given u))
