-- The instances of the core, and the nets that they drive and read.
use Rattle.std.proofs.Common.{◌≡◌, ℕ, ◌+◌, ◌<◌, [], ◌∷◌, ◌++◌, length, length-append, map, inl, inr, refl}
use Rattle.std.proofs.Common.{sym, ◌∙◌, ap, arith, get_or}
use Rattle.std.specs.Prelude.{slice_get, Option, Some, None, option_to_list}
use Rattle.std.specs.List.{Contains}
use Rattle.std.proofs.lemmas.List.{get_or-map, length-map, get_or_append_left, get_or-append-add}
use Rattle.std.proofs.lemmas.List.{get_or_default}
use Rattle.std.proofs.lemmas.List.Elements.{Contains-append_left, Contains-append_right}
use Rattle.std.proofs.lemmas.Option.{slice_get_within, slice_get-get_or, get_or_from_slice_get}
use Rattle.std.proofs.lemmas.Option.{slice_get_cases}
use Rattle.ca_cell.specs.declared.rule.CellRule.{CellRule}
use Rattle.ca_cell.specs.declared.rule.CellRule.TheVariants.{NoRail, TooManyDevices, TooManyNodes}
use Rattle.ca_cell.specs.declared.rule.CellRule.TheVariants.{TooManyInputs, NoOutput, TooManyOutputs}
use Rattle.ca_cell.specs.declared.rule.CellRule.TheVariants.{InputDrivesChannel}
use Rattle.ca_cell.specs.Raw.{is_input, is_output, role_count}
use Rattle.ca_cell.specs.Rules.{Breaks}
use Rattle.ca_linked.specs.declared.parts.Body.{Body}
use Rattle.ca_linked.specs.declared.parts.Part.{Part}
use Rattle.ca_linked.specs.declared.parts.Body.TheVariants.{Gate, Scan}
use Rattle.ca_linked.specs.Linked.{LinkedChip, gate_inputs, data_nets, output_nets, IsBody}
use Rattle.ca_flat.specs.Chip.{no_instance, instance_at, IsCell}
use Rattle.ca_view.specs.Core.{core_net, stored_nets, empty_cell, core_instance, core_of}

-- the numbers of input pins and of output pins of the core's instance
abbrev pub pins_in : LinkedChip → Body → ℕ
pins_in chip body = role_count is_input (core_instance chip body).cell.pins

abbrev pub pins_out : LinkedChip → Body → ℕ
pins_out chip body = role_count is_output (core_instance chip body).cell.pins

-- a cell without devices breaks no rule but that on outputs
empty_is_cell : (qn : Option ℕ) → IsCell (empty_cell qn)
empty_is_cell None = record {
  is_raw = record {
    few_nets = omega arith;
    few_devices = omega arith;
    pins = omega arith;
    places = λ k d lt. absurd (omega (arith, lt));
    devices = λ k d lt. absurd (omega (arith, lt));
  };
  keeps = keeps;
}
  where
    keeps : (rule : CellRule) → (rule ≡ NoOutput → ⊥) → Breaks (empty_cell None) rule → ⊥
    keeps NoRail other breaks = elim breaks [ inl none ↦ omega (arith, none) | inr none ↦ omega (arith, none) ]
    keeps (TooManyDevices count) other breaks = omega (arith, breaks.0, breaks.1)
    keeps (TooManyNodes count) other breaks = omega (arith, breaks.0, breaks.1)
    keeps (TooManyInputs count) other breaks = omega (arith, breaks.0, breaks.1)
    keeps NoOutput other breaks = other refl
    keeps (TooManyOutputs count) other breaks = omega (arith, breaks.0, breaks.1)
    keeps (InputDrivesChannel pin device) other breaks = breaks.first.here
empty_is_cell (Some net) = record {
  is_raw = record {
    few_nets = omega arith;
    few_devices = omega arith;
    pins = omega arith;
    places = λ k d lt. absurd (omega (arith, lt));
    devices = λ k d lt. absurd (omega (arith, lt));
  };
  keeps = keeps;
}
  where
    keeps : (rule : CellRule) → (rule ≡ NoOutput → ⊥) → Breaks (empty_cell (Some net)) rule → ⊥
    keeps NoRail other breaks = elim breaks [ inl none ↦ omega (arith, none) | inr none ↦ omega (arith, none) ]
    keeps (TooManyDevices count) other breaks = omega (arith, breaks.0, breaks.1)
    keeps (TooManyNodes count) other breaks = omega (arith, breaks.0, breaks.1)
    keeps (TooManyInputs count) other breaks = omega (arith, breaks.0, breaks.1)
    keeps NoOutput other breaks = other refl
    keeps (TooManyOutputs count) other breaks = omega (arith, breaks.0, breaks.1)
    keeps (InputDrivesChannel pin device) other breaks = breaks.first.here

pub body_is_cell : (chip : LinkedChip) (body : Body) → IsBody chip.cells body → IsCell (core_instance chip body).cell
body_is_cell chip (Gate cell inputs outputs) is = record { is_raw = is.is_raw; keeps = λ rule other breaks. is.keeps rule breaks }
body_is_cell chip (Scan nets) is = empty_is_cell nets.qn

-- each stored net is on an output pin, in order
pub stored_count : (chip : LinkedChip) (body : Body) → IsBody chip.cells body → length (stored_nets body) ≡ pins_out chip body
stored_count chip (Gate cell inputs outputs) is = is.net_per_output
stored_count chip (Scan nets) is = by nets.qn
  where
    by : (qn : Option ℕ) → length (option_to_list qn) ≡ role_count is_output (empty_cell qn).pins
    by None = refl
    by (Some net) = refl

no_input : (qn : Option ℕ) → role_count is_input (empty_cell qn).pins ≡ 0
no_input None = refl
no_input (Some net) = refl

pub stored_pin : (chip : LinkedChip) (body : Body) (output : ℕ) → IsBody chip.cells body → output < length (stored_nets body)
    → get_or (core_instance chip body).pins (pins_in chip body + output) 0 ≡ core_net chip (get_or (stored_nets body) output 0)
stored_pin chip (Gate cell inputs outputs) output is lt =
    ap (λ k. get_or (map (core_net chip) (inputs ++ outputs)) (k + output) 0) (sym is.net_per_input)
    ∙ get_or-map (core_net chip) (inputs ++ outputs) (length inputs + output) 0 0 (let l = length-append inputs outputs in omega arith)
    ∙ ap (core_net chip) (get_or-append-add inputs outputs output 0)
stored_pin chip (Scan nets) output is lt =
    ap (λ k. get_or (map (core_net chip) (option_to_list nets.qn)) k 0) (let e = no_input nets.qn in let s : role_count is_input (empty_cell nets.qn).pins + output ≡ output = omega arith in s)
    ∙ get_or-map (core_net chip) (option_to_list nets.qn) output 0 0 lt

-- each input pin is on a net that the instance reads
pub read_count : (chip : LinkedChip) (body : Body) → IsBody chip.cells body → length (gate_inputs body) ≡ pins_in chip body
read_count chip (Gate cell inputs outputs) is = is.net_per_input
read_count chip (Scan nets) is = sym (no_input nets.qn)

pub read_pin : (chip : LinkedChip) (body : Body) (pin : ℕ) → IsBody chip.cells body → pin < pins_in chip body
    → get_or (core_instance chip body).pins pin 0 ≡ core_net chip (get_or (gate_inputs body) pin 0)
read_pin chip (Gate cell inputs outputs) pin is lt =
    get_or-map (core_net chip) (inputs ++ outputs) pin 0 0 (let e = is.net_per_input in let l = length-append inputs outputs in omega arith)
    ∙ ap (core_net chip) (get_or_append_left inputs outputs 0 pin (let e = is.net_per_input in omega arith))
read_pin chip (Scan nets) pin is lt = absurd (let e = no_input nets.qn in omega (arith, lt))

-- what is stored is data, and is driven from the instance's pin at a place of its own
pub stored_is_data : (body : Body) (output : ℕ) → output < length (stored_nets body) → Contains (data_nets body) (get_or (stored_nets body) output 0)
stored_is_data (Gate cell inputs outputs) output lt = Contains-append_right inputs outputs _ (output, lt, get_or_default outputs output _ 0 lt)
stored_is_data (Scan nets) output lt = by nets.qn lt
  where
    by : (qn : Option ℕ) → output < length (option_to_list qn) → Contains (nets.d ∷ nets.q ∷ option_to_list qn) (get_or (option_to_list qn) output 0)
    by None less = absurd (omega (arith, less))
    by (Some net) less = (2, omega arith, (let e : output ≡ 0 = omega (arith, less) in ap (λ k. get_or (net ∷ []) k 0) (sym e)))

pub read_is_data : (body : Body) (pin : ℕ) → pin < length (gate_inputs body) → Contains (data_nets body) (get_or (gate_inputs body) pin 0)
read_is_data (Gate cell inputs outputs) pin lt = Contains-append_left inputs outputs _ (pin, lt, get_or_default inputs pin _ 0 lt)
read_is_data (Scan nets) pin lt = absurd (omega (arith, lt))

-- the place of the first stored net among those that the instance drives
abbrev pub first_stored : Body → ℕ
first_stored (Gate cell inputs outputs) = 0
first_stored (Scan nets) = 1

pub stored_is_driven : (body : Body) (output : ℕ) → output < length (stored_nets body)
    → slice_get (output_nets body) (first_stored body + output) ≡ Some (get_or (stored_nets body) output 0)
stored_is_driven (Gate cell inputs outputs) output lt = ap (slice_get outputs) (let e : 0 + output ≡ output = omega arith in e) ∙ slice_get-get_or outputs output 0 lt
stored_is_driven (Scan nets) output lt = by nets.qn lt
  where
    by : (qn : Option ℕ) → output < length (option_to_list qn)
        → slice_get (nets.q ∷ (option_to_list qn ++ nets.so ∷ [])) (1 + output) ≡ Some (get_or (option_to_list qn) output 0)
    by None less = absurd (omega (arith, less))
    by (Some net) less = ap (λ k. slice_get (nets.q ∷ net ∷ nets.so ∷ []) (1 + k)) first ∙ ap (λ k. Some (get_or (net ∷ []) k 0)) (sym first)
      where
        first : output ≡ 0
        first = omega (arith, less)

-- the instance at a place of the core
pub core_at : (chip : LinkedChip) (u : ℕ) (part : Part) → slice_get chip.parts u ≡ Some part → instance_at (core_of chip) u ≡ core_instance chip part.body
core_at chip u part at =
    get_or-map (λ (p : Part). core_instance chip p.body) chip.parts u part no_instance (slice_get_within chip.parts u part at)
    ∙ ap (λ (p : Part). core_instance chip p.body) (get_or_from_slice_get chip.parts u part part at)

-- each instance of the core has its part
pub record HasPart (chip : LinkedChip) (u : ℕ) : Type 0 where
  pub part : Part
  pub at : slice_get chip.parts u ≡ Some part

pub part_at : (chip : LinkedChip) (u : ℕ) → u < length (core_of chip).instances → HasPart chip u
part_at chip u lt = elim (slice_get_cases chip.parts u).1 [
  | inl there ↦ record { part = there.0; at = there.2 }
  | inr past ↦ absurd (let l = length-map chip.parts (λ (p : Part). core_instance chip p.body) in let following = past.0 in omega arith)
]
