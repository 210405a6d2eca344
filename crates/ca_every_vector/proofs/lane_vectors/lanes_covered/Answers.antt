use Rattle.std.proofs.Common.{◌≡◌, ◌∙◌, true, false, inl, inr, sym, arith}
use Rattle.ca_planes.proofs.BitLemmas.{in_none}
use Rattle.ca_every_vector.proofs.LaneLemmas.{one_true}
use Rattle.ca_every_vector.proofs.lane_vectors.lanes_covered.Goals as goal

pub loop-number-init : goal.loop-number-init
loop-number-init c = λ lane low has. let e : false ≡ true = sym (in_none lane) ∙ has in absurd cc

pub loop-number-preserved : goal.loop-number-preserved
loop-number-preserved c = λ lane low has. elim (one_true _ _ (sym (c.either-lanes.ensures.lanes lane) ∙ has)) [
  | inl before ↦ let at = c.loop-number.invariant lane low before in (at.0, omega (arith, at.1), at.2)
  | inr here ↦ (c.loop-number.number, omega arith, here)
]

pub returns : goal.returns
returns c = λ lane low has. let at = c.loop-number.invariant lane low has in (at.0, omega (arith, at.1), at.2)
