use Rattle.std.proofs.Common.{◌+◌, ◌-◌, length, drop}
use Rattle.ca_flat.specs.Pair.{input_value}
use Rattle.ca_chip_replay.specs.code.Kept.{IsVector}
use Rattle.ca_chip_replay.proofs.vectors.set_inputs.Given as goal

abbrev pub invariant-loop-k : goal.invariant-loop-k
invariant-loop-k g l = IsVector (length l.fn.vector) (length l.view.core.nets)
    (input_value (drop (l.inputs - l.k) l.view.core.inputs) (g.B.Bits.bits l.pair) (l.from + (l.inputs - l.k))) l.vector
