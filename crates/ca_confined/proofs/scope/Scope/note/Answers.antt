use Rattle.std.proofs.Common.{◌∙◌, sym, refl}
use Rattle.ca_places.proofs.PlaceLemmas.{holds_as}
use Rattle.ca_view.specs.Linked.{place_in}
use Rattle.ca_view.specs.Places.{cell_number}
use Rattle.ca_confined.proofs.ScopeLemmas.{noted_some, noted_room}
use Rattle.ca_confined.proofs.scope.Scope.note.Goals as goal

pub returns-clause-room : goal.returns-clause-room
returns-clause-room c =
    let core = c.args.chip.now.core in
    let old = c.args.self.now in
    let observed = (c.linked.ensures.nets.observed c.args.net).0 (sym c.is_observed.ensures ∙ c.if-not-is_observed.false) in
    noted_room core (place_in c.args.chip.now.ranks) (cell_number c.args.chip.now.chip) c.linked.ensures.linked c.args.u c.args.net c.rank.result old
    (record { drivers = old.drivers; reach = old.reach; outputs = c.insert.new.self; places = c.insert-2.new.self })
    c.requires.placed c.requires.net observed c.rank.ensures refl refl c.insert.ensures.here c.insert.ensures.others
    (holds_as old.outputs c.insert.new.self c.insert.ensures.room) c.insert-2.ensures.here c.insert-2.ensures.others
    (holds_as old.places c.insert-2.new.self c.insert-2.ensures.room) c.requires.room

pub returns-clause-noted : goal.returns-clause-noted
returns-clause-noted c =
    let core = c.args.chip.now.core in
    let old = c.args.self.now in
    let observed = (c.linked.ensures.nets.observed c.args.net).0 (sym c.is_observed.ensures ∙ c.if-not-is_observed.false) in
    noted_some core (place_in c.args.chip.now.ranks) (cell_number c.args.chip.now.chip) c.linked.ensures.linked c.args.u c.args.net c.rank.result old
    (record { drivers = old.drivers; reach = old.reach; outputs = c.insert.new.self; places = c.insert-2.new.self })
    c.requires.placed c.requires.net observed c.rank.ensures refl refl c.insert.ensures.here c.insert.ensures.others
    (holds_as old.outputs c.insert.new.self c.insert.ensures.room) c.insert-2.ensures.here c.insert-2.ensures.others
    (holds_as old.places c.insert-2.new.self c.insert-2.ensures.room)
