-- The instances and nets of the core of a wired chip.
use Rattle.std.proofs.Common.{◌≡◌, ℕ, ◌<◌, length, sym, ◌∙◌, ap, arith, get_or}
use Rattle.std.specs.Prelude.{slice_get, Some, Option, None, refl}
use Rattle.std.proofs.lemmas.List.{length-map}
use Rattle.ca_cell.specs.Raw.{is_input, role_count}
use Rattle.ca_linked.specs.declared.parts.Part.{Part}
use Rattle.ca_linked.specs.Linked.{LinkedChip, gate_inputs, IsWired}
use Rattle.ca_flat.specs.Chip.{Instance, inputs_at, net_of, count_of}
use Rattle.ca_view.specs.Core.{core_net, core_instance, core_of, empty_cell}
use Rattle.ca_view.proofs.CoreIsChip.{body_of}
use Rattle.ca_view.proofs.CorePartLemmas.{core_at, read_pin, read_count}

-- the core has an instance for each of the chip
pub core_count : (chip : LinkedChip) → count_of (core_of chip) ≡ length chip.parts
core_count chip = length-map chip.parts (λ (p : Part). core_instance chip p.body)

-- a cell without devices has no input pin
pub no_pin : (qn : Option ℕ) → role_count is_input (empty_cell qn).pins ≡ 0
no_pin None = refl
no_pin (Some net) = refl

module _ (chip : LinkedChip) (is : IsWired chip) where
  -- the input pins of the core's instance are those that its body reads
  pub inputs_are : (u : ℕ) (part : Part) → slice_get chip.parts u ≡ Some part → inputs_at (core_of chip) u ≡ length (gate_inputs part.body)
  inputs_are u part at =
      ap (λ (i : Instance). role_count is_input i.cell.pins) (core_at chip u part at) ∙ sym (read_count chip part.body (body_of chip is u part at))

  pub input_net_is : (u : ℕ) (part : Part) (pin : ℕ) → slice_get chip.parts u ≡ Some part → pin < length (gate_inputs part.body)
      → net_of (core_of chip) u pin ≡ core_net chip (get_or (gate_inputs part.body) pin 0)
  input_net_is u part pin at lt =
      ap (λ (i : Instance). get_or i.pins pin 0) (core_at chip u part at)
      ∙ read_pin chip part.body pin (body_of chip is u part at) (let e = read_count chip part.body (body_of chip is u part at) in omega arith)
