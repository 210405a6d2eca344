use Rattle.std.proofs.Common.{arith, refl, sym, ◌∙◌, slice_set}
use Rattle.std.proofs.lemmas.List.{get_or_default}
use Rattle.ca_view.specs.Linked.{place_in}
use Rattle.ca_sweep.proofs.LaneLemmas.{put_lanes, put_lanes_same}
use Rattle.ca_sweep.proofs.lane_values.LaneValues.put.Goals as goal

pub returns-clause-put : goal.returns-clause-put
returns-clause-put c =
    put_lanes c.args.chip.now.core (place_in c.args.chip.now.ranks) c.args.net c.args.plane c.args.self.now.ones.items
    (slice_set c.args.self.now.ones.items c.args.net c.args.plane) c.args.self.now.due c.mark_readers.new.due
    (let room = c.requires.room.nets in let known = c.requires.known in omega arith) refl c.mark_readers.ensures

pub returns-then-index-plane-clause-put : goal.returns-then-index-plane-clause-put
returns-then-index-plane-clause-put c =
    put_lanes_same c.args.chip.now.core (place_in c.args.chip.now.ranks) c.args.net c.args.plane c.args.self.now
    (let room = c.requires.room.nets in let known = c.requires.known in omega arith)
    (sym (c.index.ensures ∙ get_or_default c.args.self.now.ones.items c.args.net c.index.result.now 0 (let room = c.requires.room.nets in let known = c.requires.known in omega arith)) ∙ c.if-index-plane.true)
