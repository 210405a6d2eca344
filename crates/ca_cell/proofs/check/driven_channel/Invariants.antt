use Rattle.std.proofs.Common.{take}
use Rattle.std.specs.Prelude.{IsSome}
use Rattle.std.specs.List.{All}
use Rattle.ca_cell.specs.Rules.{channel_pin}
use Rattle.ca_cell.proofs.check.driven_channel.Given as goal

abbrev pub invariant-loop-i : goal.invariant-loop-i
invariant-loop-i l = All (λ d. ¬ (IsSome (channel_pin l.raw.pins d))) (take l.i l.raw.devices)
