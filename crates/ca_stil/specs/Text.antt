-- The whole text, block after block.
use Rattle.std.specs.Prelude.{ℕ, ◌+◌, Bool, List, [], ◌∷◌, ◌++◌, codes}
use Rattle.ca_net.specs.declared.trit.Trit.{Trit}
use Rattle.ca_stil.specs.declared.chip.StilChip.{StilChip}
use Rattle.ca_stil.specs.Chip.{longest}
use Rattle.ca_stil.specs.Groups.{signals_text, groups_text}
use Rattle.ca_stil.specs.Frame.{timing_text, structures_text, burst_text, macro_text}
use Rattle.ca_stil.specs.Pair.{pair_text}

-- the chains, the burst and the macro
unfoldable pub structure_text : StilChip → List ℕ
structure_text chip = structures_text chip.chains ++ (burst_text ++ macro_text chip.chains)

-- all before the patterns
unfoldable pub frame_text : StilChip → List ℕ
frame_text chip =
    codes "STIL 1.0;\n" ++ (signals_text chip.signals ++ (groups_text chip ++ (timing_text chip
    ++ structure_text chip)))

-- the statements of the pairs, the first of which has this number
unfoldable pub pairs_text : StilChip → ℕ → ℕ → List (List Bool) → List (List Trit) → List ℕ
pairs_text chip most number [] expected = []
pairs_text chip most number (pair ∷ pairs) [] = []
pairs_text chip most number (pair ∷ pairs) (values ∷ expected) =
    pair_text chip most number pair values ++ pairs_text chip most (number + 1) pairs expected

-- the block of the patterns
unfoldable pub patterns_text : StilChip → List (List Bool) → List (List Trit) → List ℕ
patterns_text chip pairs expected =
    codes "Pattern \"_pattern_\" {\n  W \"_wft_\";\n"
    ++ (pairs_text chip (longest chip.chains) 0 pairs expected ++ codes "}\n")

-- the text of a chip's pairs and of the values that are expected under each
unfoldable pub stil_text : StilChip → List (List Bool) → List (List Trit) → List ℕ
stil_text chip pairs expected = frame_text chip ++ patterns_text chip pairs expected
