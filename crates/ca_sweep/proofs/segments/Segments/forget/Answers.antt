use Rattle.std.proofs.Common.{refl, ◌∙◌}
use Rattle.ca_sweep.proofs.SegmentLemmas.{segments_newer, segments_empty}
use Rattle.ca_sweep.proofs.segments.Segments.forget.Goals as goal

pub returns-then-self : goal.returns-then-self
returns-then-self c = λ chip place_of old new are.
    segments_empty chip place_of new _ (c.empty.ensures.room ∙ are.room) c.empty.ensures.none

pub returns-else-self : goal.returns-else-self
returns-else-self c = λ chip place_of old new are.
    segments_newer chip place_of old new c.args.self.now _ are refl refl
