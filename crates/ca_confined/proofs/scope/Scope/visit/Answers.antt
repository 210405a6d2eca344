use Rattle.std.proofs.Common.{◌≡◌, ◌+◌, ◌∙◌, refl, ap, arith}
use Rattle.ca_flat.specs.Chip.{net_of, output_net}
use Rattle.ca_view.specs.Linked.{place_in}
use Rattle.ca_view.specs.Places.{cell_number}
use Rattle.ca_confined.proofs.ScopeLemmas.{marked_room, visited_more}
use Rattle.ca_confined.proofs.scope.Scope.visit.Goals as goal

pub note-requires-clause-room : goal.note-requires-clause-room
note-requires-clause-room c =
    let core = c.args.chip.now.core in
    let mid = c.loop-output.self in
    marked_room core (place_in c.args.chip.now.ranks) (cell_number c.args.chip.now.chip) c.linked.ensures.linked c.pin_net-net.result mid
    (record { drivers = mid.drivers; reach = c.mark_readers.new.due; outputs = mid.outputs; places = mid.places })
    c.loop-output.invariant.room c.mark_readers.ensures refl refl refl

pub loop-output-preserved : goal.loop-output-preserved
loop-output-preserved c =
    let core = c.args.chip.now.core in
    let mid = c.loop-output.self in
    let net_is : c.pin_net-net.result ≡ output_net core c.args.u c.loop-output.output =
    c.pin_net-net.ensures ∙ ap (λ k. net_of core c.args.u (k + c.loop-output.output)) c.inputs_at-first.ensures in
    record {
      room = c.note.ensures.room;
      visited = visited_more core (place_in c.args.chip.now.ranks) (cell_number c.args.chip.now.chip) c.linked.ensures.linked c.args.u c.loop-output.output
          c.pin_net-net.result c.args.self.now mid (record { drivers = mid.drivers; reach = c.mark_readers.new.due; outputs = mid.outputs; places = mid.places })
          c.note.new.self c.requires.placed (omega arith) net_is c.loop-output.invariant.visited c.mark_readers.ensures refl refl c.note.ensures.noted;
    }
