use Rattle.std.proofs.Common.{refl}
use Rattle.ca_sweep.proofs.SegmentLemmas.{segments_put}
use Rattle.ca_sweep.proofs.segments.Segments.put.Goals as goal

pub returns : goal.returns
returns c = λ chip place_of goods are is.
    segments_put chip place_of goods c.args.self.now _ c.args.u c.args.flips c.args.segment (record { age = c.args.self.now.age; segment = c.args.segment })
    c.code_of.result c.code_of.ensures.same c.requires.room are is refl refl refl refl
