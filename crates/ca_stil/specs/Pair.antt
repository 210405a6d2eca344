-- The statements of a pair of vectors. Of a chip with scan chains they are six: the first state is loaded,
-- the first vector is applied, the second state is loaded while hold is 1, the second vector is applied and
-- the outputs are compared, the cells capture, and the chains are unloaded and compared. Of another chip they
-- are the two that apply the vectors.
use Rattle.std.specs.Prelude.{ℕ, ◌+◌, ◌-◌, ◌==◌, Bool, false, List, [], ◌∷◌, ◌++◌, length, map, replicate}
use Rattle.std.specs.Prelude.{codes, decimal, if◌then◌else◌}
use Rattle.ca_net.specs.declared.trit.Trit.{Trit}
use Rattle.ca_net.specs.declared.trit.Trit.TheVariants.{X}
use Rattle.ca_stil.specs.declared.chip.StilChain.{StilChain}
use Rattle.ca_stil.specs.declared.chip.StilChip.{StilChip}
use Rattle.ca_stil.specs.declared.chip.End.{End}
use Rattle.ca_stil.specs.declared.chip.End.TheVariants as at
use Rattle.ca_stil.specs.Chip.{part, width_of, end_of}
use Rattle.ca_stil.specs.Words.{quoted, digit_of, level_of, member_text, cell_bits, cell_levels}

-- Members of a shift. `most` is the number of cells of the longest chain; `values` are those of all scan
-- instances, in netlist order.

-- the bits of a chain, after zeros that fill up
unfoldable pub state_text : ℕ → List Bool → StilChain → List ℕ
state_text most values chain =
    member_text chain.scan_in
    (replicate (most - length chain.places) (digit_of false) ++ cell_bits values chain.places)

-- those of each chain
unfoldable pub states_text : ℕ → List Bool → List StilChain → List ℕ
states_text most values [] = []
states_text most values (chain ∷ chains) = state_text most values chain ++ states_text most values chains

-- the expected values of a chain, before X that fill up
unfoldable pub levels_text : ℕ → List Trit → StilChain → List ℕ
levels_text most values chain =
    member_text chain.scan_out
    (cell_levels values chain.places ++ replicate (most - length chain.places) (level_of X))

-- those of each chain
unfoldable pub all_levels_text : ℕ → List Trit → List StilChain → List ℕ
all_levels_text most values [] = []
all_levels_text most values (chain ∷ chains) =
    levels_text most values chain ++ all_levels_text most values chains

-- for each chain the same letter throughout
unfoldable pub steady_text : ℕ → End → ℕ → List StilChain → List ℕ
steady_text letter end most [] = []
steady_text letter end most (chain ∷ chains) =
    member_text (end_of end chain) (replicate most letter) ++ steady_text letter end most chains

-- Members of a statement that applies a vector.

-- the control ports, where there are chains: held
unfoldable pub hold_text : List StilChain → List ℕ
hold_text [] = []
hold_text (chain ∷ chains) = codes " \"_ctl_\"=000;"

-- the bits of `count` chip inputs
unfoldable pub vector_text : ℕ → List Bool → List ℕ
vector_text count bits = if count == 0 then [] else codes " \"_pi_\"=" ++ (map digit_of bits ++ codes ";")

-- the expected values at `count` observed outputs
unfoldable pub expected_text : ℕ → List Trit → List ℕ
expected_text count values =
    if count == 0 then [] else codes " \"_po_\"=" ++ (map level_of values ++ codes ";")

-- nothing is compared at `count` observed outputs
unfoldable pub unobserved_text : ℕ → List ℕ
unobserved_text count =
    if count == 0 then [] else codes " \"_po_\"=" ++ (replicate count (level_of X) ++ codes ";")

-- Statements.

-- a state is loaded into the chains, where there are some, and nothing is compared
unfoldable pub load_of_text : ℕ → List Bool → List StilChain → List ℕ
load_of_text most state chains =
    codes "Macro \"_shift_\" {" ++ (states_text most state chains
    ++ (steady_text (level_of X) at.Out most chains ++ codes " }\n  "))

unfoldable pub load_text : ℕ → List Bool → List StilChain → List ℕ
load_text most state [] = []
load_text most state (chain ∷ chains) = load_of_text most state (chain ∷ chains)

-- a vector is applied; what is compared follows
unfoldable pub apply_text : StilChip → List Bool → List ℕ
apply_text chip vector = codes "V {" ++ (hold_text chip.chains ++ vector_text (length chip.inputs) vector)

-- the bits from a place on, those of one vector: its state is loaded, and its ports are applied
unfoldable pub half_text : StilChip → ℕ → List Bool → ℕ → List ℕ
half_text chip most pair from =
    load_text most (part (from + length chip.inputs) chip.scan_count pair) chip.chains
    ++ apply_text chip (part from (length chip.inputs) pair)

-- the first vector, under which nothing is compared
unfoldable pub first_text : StilChip → ℕ → List Bool → List ℕ
first_text chip most pair =
    half_text chip most pair 0 ++ (unobserved_text (length chip.outputs) ++ codes " }\n")

-- the second vector, under which the outputs are compared
unfoldable pub second_text : StilChip → ℕ → List Bool → List Trit → List ℕ
second_text chip most pair expected =
    half_text chip most pair (width_of chip)
    ++ (expected_text (length chip.outputs) (part 0 (length chip.outputs) expected) ++ codes " }\n")

-- the cells capture
unfoldable pub capture_text : ℕ → List ℕ
capture_text outputs = codes "  V { \"_ctl_\"=0P1;" ++ (unobserved_text outputs ++ codes " }\n")

-- the chains are unloaded and compared, and zeros are shifted in
unfoldable pub unload_of_text : ℕ → List Trit → List StilChain → List ℕ
unload_of_text most values chains =
    codes "  Macro \"_shift_\" {" ++ (steady_text (digit_of false) at.In most chains
    ++ (all_levels_text most values chains ++ codes " }\n"))

-- both, where there are chains
unfoldable pub unload_text : ℕ → ℕ → List Trit → List StilChain → List ℕ
unload_text outputs most values [] = []
unload_text outputs most values (chain ∷ chains) =
    capture_text outputs ++ unload_of_text most values (chain ∷ chains)

-- the label of a pair
unfoldable pub label_text : ℕ → List ℕ
label_text number = quoted (codes "pair " ++ decimal number) ++ codes ": "

-- the statements of a pair
unfoldable pub pair_text : StilChip → ℕ → ℕ → List Bool → List Trit → List ℕ
pair_text chip most number pair expected =
    codes "  " ++ (label_text number ++ (first_text chip most pair
    ++ (codes "  " ++ (second_text chip most pair expected
    ++ unload_text (length chip.outputs) most
    (part (length chip.outputs) chip.scan_count expected) chip.chains))))
