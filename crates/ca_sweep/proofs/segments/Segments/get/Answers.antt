use Rattle.std.proofs.Common.{◌+◌, ◌*◌, None, arith}
use Rattle.std.proofs.lemmas.List.{get_or_read}
use Rattle.ca_sweep.proofs.SegmentLemmas.{segment_read}
use Rattle.ca_sweep.proofs.segments.Segments.get.Goals as goal

pub returns : goal.returns
returns c = λ chip place_of goods are.
    let small = c.code_of.ensures.few in
    let room = c.requires.room in
    segment_read chip place_of goods c.args.self.now c.args.u c.args.flips c.code_of.result c.index.result.now c.segment_of.result c.code_of.ensures.same are
    (get_or_read c.args.self.now.slots.items (4 * c.args.u + c.code_of.result) c.index.result.now (omega arith) c.index.ensures None) c.segment_of.ensures
