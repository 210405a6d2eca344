use Rattle.std.proofs.Common.{ap}
use Rattle.ca_sim.specs.Seen.{Seen}
use Rattle.ca_engine.proofs.FlipLemmas.{flip_kept}
use Rattle.ca_engine.proofs.flip_bench.FlipBench.is_alike.Goals as goal

pub invariant_of-self : goal.invariant_of-self
invariant_of-self g c =
    let same = c.is_alike.ensures.kept.seen in
    flip_kept c.self.inside.judge c.is_alike.new.self (g.F.FlipFinder.loaded c.self.inside.finder) c.self.inside.is_loaded (ap (λ (seen : Seen). seen.chip) same)
    (ap (λ (seen : Seen). seen.places) same) (ap (λ (seen : Seen). seen.pair) same) c.self.invariant
