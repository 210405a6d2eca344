-- The netlist of a chip is readable.
use Rattle.std.proofs.Common.{◌≡◌, ℕ, zero, suc, ◌+◌, ◌^◌, ◌<◌, List, [], ◌∷◌, get_or, length, refl, sym, ap}
use Rattle.std.proofs.Common.{subst, arith}
use Rattle.std.specs.Prelude.{slice_get, Some}
use Rattle.std.specs.List.{All}
use Rattle.std.proofs.lemmas.Option.{slice_get-get_or}
use Rattle.std.proofs.lemmas.List.Elements.{All-from_get_or}
use Rattle.ca_flat.specs.Chip.{Chip, instance_at, inputs_at, outputs_at, count_of, IsChip}
use Rattle.ca_flat.specs.Chip as flat
use Rattle.ca_lanes.specs.declared.constants.Constant.{Constant}
use Rattle.ca_lanes.specs.declared.good_rows.GoodRows.{GoodRows}
use Rattle.ca_lanes.specs.declared.netlist.Instance.{Instance}
use Rattle.ca_lanes.specs.Netlist.{ArePinsOf, IsInstanceReadable, AreInstancesOf, IsOnNets, constants_of}
use Rattle.ca_lanes.specs.Netlist.{NetlistsAreReadable}

-- a constant as one of a chip
abbrev as_chip : Constant → flat.Constant
as_chip constant = record { net = constant.net; value = constant.value }

read_constant : (constants : List Constant) (k : ℕ) (d : Constant) → k < length constants
    → slice_get (constants_of constants) k ≡ Some (as_chip (get_or constants k d))
read_constant [] k d fits = let no : ⊥ = omega (arith, fits) in absurd no
read_constant (constant ∷ constants) zero d fits = refl
read_constant (constant ∷ constants) (suc k) d fits = read_constant constants k d (omega (arith, fits))

module _ (chip : Chip) (rank : ℕ → ℕ) (is : IsChip chip rank) (on : IsOnNets chip) where
  -- an instance has a net for each pin
  has_pins : (u : ℕ) → u < count_of chip → ArePinsOf (length chip.nets) (inputs_at chip u) (outputs_at chip u) (instance_at chip u).pins
  has_pins u known = record {
    count = on.pins u known;
    within = λ pin fits. is.on_nets u pin known fits;
    apart = λ output other fits other_fits same.
        (is.one_driver _ (record { instance = u; output = output; known = known; within = fits; on = same })
        (record { instance = u; output = other; known = known; within = other_fits; on = refl })).1;
  }

  are_readable : (instances : List Instance) (goods : List GoodRows) → AreInstancesOf chip instances goods
      → All (λ instance. instance.cell < length goods) instances → All (IsInstanceReadable (length chip.nets) goods) instances
  are_readable instances goods are cells u d fits = record {
    known = cells u d fits;
    pins = λ rows found.
        let there : slice_get instances u ≡ Some (get_or instances u d) = slice_get-get_or instances u d fits in
        let of = are.rows u (get_or instances u d) rows there found in
        subst (λ i. ArePinsOf (length chip.nets) i rows.outputs (get_or instances u d).pins.items) (sym of.inputs)
        (subst (λ o. ArePinsOf (length chip.nets) (inputs_at chip u) o (get_or instances u d).pins.items) (sym of.outputs)
        (subst (ArePinsOf (length chip.nets) (inputs_at chip u) (outputs_at chip u)) (sym (are.pins u (get_or instances u d) there))
        (has_pins u (subst (λ n. u < n) are.count fits))));
  }

  constants_on_nets : (constants : List Constant) → constants_of constants ≡ chip.constants → All (λ constant. constant.net < length chip.nets) constants
  constants_on_nets constants same k d fits =
      on.constants k (as_chip (get_or constants k d)) (subst (λ list. slice_get list k ≡ Some (as_chip (get_or constants k d))) same (read_constant constants k d fits))

pub netlists_are_readable_lem : NetlistsAreReadable
netlists_are_readable_lem chip rank netlist goods is on of cells = record {
  inputs = subst (All (λ net. net < length chip.nets)) (sym of.inputs_are)
      (All-from_get_or (λ net. net < length chip.nets) chip.inputs 0 on.inputs);
  constants = constants_on_nets chip rank is on netlist.constants.items of.constants_are;
  instances = are_readable chip rank is on netlist.instances.items goods of.instances_are cells;
  order = All-from_get_or (λ u. u < length netlist.instances.items) netlist.order.items 0 (λ place fits.
      subst (λ n. get_or netlist.order.items place 0 < n) (sym of.instances_are.count) (of.order_is.known place fits));
  few = subst (λ n. n + n < 2 ^ 64) (sym (ap length of.inputs_are)) on.few;
}
