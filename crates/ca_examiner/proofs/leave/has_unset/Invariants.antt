use Rattle.std.proofs.Common.{ℕ, ◌≡◌, ◌<◌}
use Rattle.ca_net.specs.declared.trit.Trit.TheVariants.{X}
use Rattle.ca_net.specs.State.{value_at}
use Rattle.ca_flat.specs.Chain.{IsSupportBit}
use Rattle.ca_examiner.proofs.leave.has_unset.Given as goal

abbrev pub invariant-loop-bit : goal.invariant-loop-bit
invariant-loop-bit g l = (bit : ℕ) → bit < l.bit → IsSupportBit (g.V.NetWaves.seen l.waves).chip l.defect bit
    → value_at (g.V.NetWaves.seen l.waves).pair bit ≡ X → ⊥
