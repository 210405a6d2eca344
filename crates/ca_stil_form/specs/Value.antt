-- The values of the form that a chip, its pairs and their expected values make.
use Rattle.std.specs.Prelude.{ℕ, ◌+◌, Bool, false, List, [], ◌∷◌, length, map, reverse, Option, Some, None}
use Rattle.std.specs.Prelude.{get_or, decimal}
use Rattle.ca_net.specs.declared.trit.Trit.{Trit}
use Rattle.ca_net.specs.declared.trit.Trit.TheVariants.{X}
use Rattle.ca_stil.specs.declared.chip.Signal as code
use Rattle.ca_stil.specs.declared.chip.StilChain.{StilChain}
use Rattle.ca_stil.specs.declared.chip.StilChip.{StilChip}
use Rattle.ca_stil.specs.Chip.{part, width_of}
use Rattle.ca_stil_form.specs.Frame.{Names, Scan, Signal}
use Rattle.ca_stil_form.specs.Pattern.{PairValues}
use Rattle.ca_stil_form.specs.Whole.{Stil}

-- a signal: its name and its direction
abbrev pub signal_seen : code.Signal → Signal
signal_seen signal = (signal.name, signal.is_input)

-- a group that has members
abbrev pub group_of : Names → Option Names
group_of [] = None
group_of (name ∷ names) = Some (name ∷ names)

-- the scan groups of a chip that has chains
abbrev pub scan_of : Names → List StilChain → Option Scan
scan_of controls [] = None
scan_of controls (chain ∷ chains) =
    Some (
      controls,
      (map (λ chain. chain.scan_in) (chain ∷ chains), map (λ chain. chain.scan_out) (chain ∷ chains)),
    )

-- the values of a group that has members
abbrev pub values_of : {Value : Type 0} → List Value → List (List Value)
values_of [] = []
values_of (value ∷ values) = (value ∷ values) ∷ []

-- the values in a chain's cells as they are written, the last cell first; `values` are those of all scan
-- instances in netlist order
abbrev pub in_chain : {Value : Type 0} → Value → List Value → StilChain → List Value
in_chain other values chain = reverse (map (λ place. get_or values place other) chain.places)

-- the values of a pair, in the order of its text: the first state, the first vector, the second state, the
-- second vector, and what is expected at the ports and in the cells
abbrev pub pair_values : StilChip → List Bool → List Trit → PairValues
pair_values chip pair expected =
    let ports : ℕ = length chip.inputs in
    let outputs : ℕ = length chip.outputs in (
      map (in_chain false (part ports chip.scan_count pair)) chip.chains,
      (
        values_of (part 0 ports pair),
        (
          map (in_chain false (part (width_of chip + ports) chip.scan_count pair)) chip.chains,
          (
            values_of (part (width_of chip) ports pair),
            (
              values_of (part 0 outputs expected),
              map
                  (in_chain X (part outputs chip.scan_count expected)) chip.chains,
            ),
          ),
        ),
      ),
    )

-- the values of the pairs, each with its expected values
unfoldable pub all_values : StilChip → List (List Bool) → List (List Trit) → List PairValues
all_values chip [] expected = []
all_values chip (pair ∷ pairs) [] = []
all_values chip (pair ∷ pairs) (values ∷ expected) =
    pair_values chip pair values ∷ all_values chip pairs expected

-- the values of a whole text
abbrev pub stil_value : StilChip → List (List Bool) → List (List Trit) → Stil
stil_value chip pairs expected = (
  map signal_seen chip.signals,
  (
    group_of chip.inputs,
    (
      group_of chip.outputs,
      (
        scan_of chip.controls chip.chains,
        (map (λ chain. decimal (length chain.places)) chip.chains, all_values chip pairs expected),
      ),
    ),
  ),
)
