use Rattle.std.proofs.Common.{◌-◌, length, drop}
use Rattle.ca_flat.specs.Pair.{input_value, constant_value}
use Rattle.ca_chip_replay.specs.code.Kept.{IsVector}
use Rattle.ca_chip_replay.proofs.vectors.set_constants.Given as goal

abbrev pub invariant-loop-k : goal.invariant-loop-k
invariant-loop-k g l = IsVector (length l.fn.vector) (length l.view.core.nets)
    (λ net. constant_value (drop (l.constants - l.k) l.view.core.constants)
    (input_value l.view.core.inputs (g.B.Bits.bits l.pair) l.from net) net) l.vector
