use Rattle.std.proofs.Common.{◌≡◌, ◌+◌, length}
use Rattle.ca_judge.specs.Attempt.{IsTriedOn}
use Rattle.ca_sweep.specs.Seen.{IsForChip}
use Rattle.ca_bridges.specs.code.Parts.{AreEachFrom, AreParts}
use Rattle.ca_bridges.proofs.parts.parts_of.Given as goal

abbrev pub invariant-loop-k : goal.invariant-loop-k
invariant-loop-k g l = record {
  are : AreParts l.own.core l.budget l.clusters l.k l.parts.items;
  left : length l.choices.items + l.k ≡ length l.clusters;
  found : length l.finders.items + l.k ≡ length l.clusters;
  choices : AreEachFrom (λ view choice. IsTriedOn view.core view.ranks (g.P.Attempts.tried choice)) l.views l.k l.choices.items;
  finders : AreEachFrom (λ view finder. IsForChip view.core view.ranks (g.F.FlipFinder.loaded finder)) l.views l.k l.finders.items;
}
