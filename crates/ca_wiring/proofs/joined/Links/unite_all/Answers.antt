use Rattle.std.proofs.lemmas.Option.{slice_get-get_or}
use Rattle.ca_wiring.proofs.ForestLemmas.{first_none, first_more}
use Rattle.ca_wiring.proofs.joined.Links.unite_all.Goals as goal

pub loop-k-init : goal.loop-k-init
loop-k-init c = first_none c.args.spans.now c.args.self.now c.requires.back

pub loop-k-preserved : goal.loop-k-preserved
loop-k-preserved c =
    let lt = c.loop-k-test.true in
    first_more c.args.spans.now c.loop-k.k _ c.args.self.now c.loop-k.self c.unite_span.new.self
    (slice_get-get_or c.args.spans.now c.loop-k.k _ lt) c.loop-k.invariant c.unite_span.ensures
