-- One run of a linked chip between two vectors, good or with one of its defects: what it is of, and what it
-- ends with at the observed outputs.
use Rattle.std.specs.Prelude.{ℕ, ◌+◌, ◌≡◌, ◌<◌, List, map, length, slice_index, Option}
use Rattle.ca_net.specs.declared.trit.Trit.{Trit}
use Rattle.ca_net.specs.declared.node.NodeId.{NodeId}
use Rattle.ca_net.specs.State.{value_at}
use Rattle.ca_net.specs.Event.{Event}
use Rattle.ca_net.specs.PairRun.{PairRun}
use Rattle.ca_flat.specs.declared.chip_defect.ChipDefect.{ChipDefect}
use Rattle.ca_flat.specs.Chip.{Chip}
use Rattle.ca_flat.specs.Flat.{flat}
use Rattle.ca_flat.specs.Pair.{first_vector, last_vector}
use Rattle.ca_replay.specs.Replay.{IsReplay}

-- the nodes of the chip inputs in the flat network, in their order
abbrev pub input_nodes : Chip → List NodeId
input_nodes chip = map (λ net. record { 0 = 2 + net }) chip.inputs

-- a chip, one of its defects or none, and the two vectors
pub record RunOf : Type 0 where
  pub chip : Chip
  pub given : Option ChipDefect
  pub pair : List Trit

-- The values are those of the observed outputs in the state in which this run ends: a long phase under the
-- first vector, the events, the chip inputs set to the last vector in their order, and a long phase. It is a
-- pair run of the flat network, so that what every pair run ends with at an output is what this one ends
-- with.
pub record AreReplayed (run : RunOf) (events : List Event) (values : List Trit) : Type 0 where
  pub end : List Trit
  pub is_replay : IsReplay (flat run.chip run.given) (input_nodes run.chip) (first_vector run.chip run.pair)
      (last_vector run.chip run.pair) events end
  pub is_pair_run : PairRun (flat run.chip run.given) (first_vector run.chip run.pair)
      (last_vector run.chip run.pair) end
  pub count : length values ≡ length run.chip.outputs
  pub each : (o : ℕ) → o < length run.chip.outputs
      → value_at values o ≡ value_at end (2 + slice_index run.chip.outputs o)
