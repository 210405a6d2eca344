-- One run of a chip between two vectors, as a text names it.
use Rattle.std.specs.Prelude.{ℕ, List, map, Result, Ok, Err}
use Rattle.ca_net.specs.declared.trit.Trit.{Trit}
use Rattle.ca_flat.specs.Flat.{flat}
use Rattle.ca_flat.specs.Pair.{first_vector, last_vector}
use Rattle.ca_order.specs.declared.event.Event.{Event}
use Rattle.ca_order.specs.declared.event.OrderFault.{OrderFault}
use Rattle.ca_order.specs.declared.event.OrderFault.TheVariants as order
use Rattle.ca_order.specs.Allowed.{meaning, ReadsFor}
use Rattle.ca_chip_replay.specs.ChipRun.{RunOf, AreReplayed}

-- what a text reads as, as an order file for the run's flat network and its two vectors
abbrev pub ReadsRun : RunOf → List ℕ → Result (List Event) OrderFault → Type 0
ReadsRun run text answer = ReadsFor (flat run.chip run.given) (first_vector run.chip run.pair)
    (last_vector run.chip run.pair) text answer

-- the text names events, and the values are those of the observed outputs at the end of the run with these
pub record AreRunEnds (run : RunOf) (text : List ℕ) (values : List Trit) : Type 0 where
  pub events : List Event
  pub reads : ReadsRun run text (Ok events)
  pub ends : AreReplayed run (map meaning events) values

-- this line of the text is its first that isn't allowed
abbrev pub IsFaultyLine : RunOf → ℕ → List ℕ → Type 0
IsFaultyLine run line text = ReadsRun run text (Err (order.At line))
