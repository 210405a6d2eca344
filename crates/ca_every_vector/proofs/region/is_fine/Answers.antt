use Rattle.std.proofs.Common.{inl, inr}
use Rattle.ca_every_vector.proofs.region.is_fine.Goals as goal

pub returns-then-is_given : goal.returns-then-is_given
returns-then-is_given c = λ is. inl (c.is_given.ensures c.if-is_given.true)

pub returns : goal.returns
returns c = λ is. inr (c.are_unknown.ensures is)
