use Rattle.std.proofs.Common.{inl, inr}
use Rattle.ca_levels.proofs.advance.begin.Goals as goal

pub returns-then-not-given-clause-begun : goal.returns-then-not-given-clause-begun
returns-then-not-given-clause-begun c n lane lt =
    (λ has. inl has, λ b. elim b [ inl has ↦ has | inr h ↦ absurd (c.requires.given c.if-not-given.true n lt h.0) ])
