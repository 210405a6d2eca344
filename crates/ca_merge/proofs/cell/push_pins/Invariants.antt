use Rattle.std.proofs.Common.{◌≡◌, ◌++◌, replicate}
use Rattle.ca_merged.specs.Cluster.{bare_pin}
use Rattle.ca_merge.proofs.cell.push_pins.Given as goal

abbrev pub invariant-loop-pin : goal.invariant-loop-pin
invariant-loop-pin l = l.pins ≡ l.fn.pins ++ replicate l._pin (bare_pin l.role)
