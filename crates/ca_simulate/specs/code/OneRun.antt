-- Words of the code beside those of `specs/OneRun.antt`. Private functions and proofs cite them.
use Rattle.std.specs.Prelude.{ℕ, List, ⊤}
use Rattle.ca_order.specs.declared.event.OrderFault.{OrderFault}
use Rattle.ca_order.specs.declared.event.OrderFault.TheVariants as order
use Rattle.ca_chip_replay.specs.ChipRun.{RunOf}
use Rattle.ca_simulate.specs.OneRun.{IsFaultyLine}

-- why a text names no run: its first faulty line, or there was no memory
abbrev pub IsRunFault : RunOf → List ℕ → OrderFault → Type 0
IsRunFault run text (order.At line) = IsFaultyLine run line text
IsRunFault run text order.NoMemory = ⊤
