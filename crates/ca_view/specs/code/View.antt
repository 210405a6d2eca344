-- Words of the code beside those of `specs/View.antt`. Private functions and proofs cite them.
use Rattle.std.specs.Prelude.{ℕ, ◌^◌, ◌≡◌, ◌<◌, List, Bool, length}
use Rattle.std.specs.List.{All}
use Rattle.ca_linked.specs.Linked as linked
use Rattle.ca_view.specs.Core.{core_of}
use Rattle.ca_view.specs.declared.constants.FixedNet.{FixedNet}
use Rattle.ca_view.specs.Pins.{Pins}
use Rattle.ca_view.specs.code.Pins.{ArePinsOf}
use Rattle.ca_view.specs.View.{Viewed, IsViewOf}

-- The chip is wired and has few nets, the tables are its own, and the pins are those of its instances. Only
-- the proofs of the code cite this.
pub record IsKept (pins : Pins) (view : Viewed) : Type 0 where
  pub wired : linked.IsWired view.chip
  pub few_nets : linked.net_count view.chip < 2 ^ 32
  pub is_view : IsViewOf view.chip view
  pub pins_are : ArePinsOf (core_of view.chip) pins
  pub room : length view.lists.observed ≡ length (core_of view.chip).nets
  pub inputs_within : All (λ net. net < length (core_of view.chip).nets) view.lists.inputs

-- a chip and its tables as one record
abbrev pub viewed_as : linked.LinkedChip → List ℕ → List (List ℕ) → List FixedNet → Pins → List (List ℕ)
    → List (List ℕ) → List Bool → List ℕ → List ℕ → Viewed
viewed_as chip ranks readers constants pins onward back observed inputs outputs = record {
  chip = chip;
  core = core_of chip;
  ranks = ranks;
  readers = readers;
  constants = constants;
  lists = record {
    onward = onward;
    back = back;
    observed = observed;
    input_pins = pins.inputs;
    output_pins = pins.outputs;
    inputs = inputs;
  };
  outputs = outputs;
}
