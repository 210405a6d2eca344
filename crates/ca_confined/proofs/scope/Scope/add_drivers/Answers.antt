use Rattle.std.proofs.Common.{◌≡◌, ◌<◌, refl, subst, arith}
use Rattle.std.specs.Prelude.{slice_index}
use Rattle.std.proofs.lemmas.List.{get_or_read}
use Rattle.ca_flat.specs.Chip.{inputs_at}
use Rattle.ca_view.specs.Linked.{place_in}
use Rattle.ca_view.specs.Places.{cell_number}
use Rattle.ca_confined.specs.declared.scope.Scope.{Scope}
use Rattle.ca_confined.specs.code.Scope.{HasDriversTo}
use Rattle.ca_confined.proofs.ScopeLemmas.{driver_room, driver_adds, driver_has, closed_more}
use Rattle.ca_confined.proofs.scope.Scope.add_drivers.Goals as goal

pub loop-pin-preserved : goal.loop-pin-preserved
loop-pin-preserved c =
    let core = c.args.chip.now.core in
    let place_of = place_in c.args.chip.now.ranks in
    let mid = c.loop-pin.self in
    let new : Scope = record { drivers = mid.drivers; reach = mid.reach; outputs = mid.outputs; places = c.add_before.new.set } in
    let linked = c.linked.ensures.linked in
    let number_of = cell_number c.args.chip.now.chip in
    let within : c.loop-pin.pin < inputs_at core c.order-u.result = omega arith in
    let driver_at : c.index-driver.result.now ≡ slice_index mid.drivers.items c.pin_net.result = get_or_read mid.drivers.items c.pin_net.result c.index-driver.result.now
    (let on = linked.is_chip.on_nets c.order-u.result c.loop-pin.pin c.order-u.ensures.placed.known (omega arith) in
    let count = c.loop-pin.invariant.room.drivers.some.count in let e = c.pin_net.ensures in omega arith) c.index-driver.ensures 0 in
    record {
      room = driver_room core place_of number_of linked c.order-u.result c.args.place c.loop-pin.pin c.pin_net.result c.index-driver.result.now c.args.self.now mid new
          c.order-u.ensures.placed c.order-u.ensures.at within c.pin_net.ensures c.loop-pin.invariant.room driver_at c.add_before.ensures refl refl refl;
      adds = driver_adds core place_of number_of linked c.order-u.result c.args.place c.loop-pin.pin c.pin_net.result c.index-driver.result.now c.args.self.now mid new
          c.order-u.ensures.placed c.order-u.ensures.at within c.pin_net.ensures c.loop-pin.invariant.room driver_at c.add_before.ensures refl refl refl c.loop-pin.invariant.adds;
      has = driver_has core place_of number_of linked c.order-u.result c.args.place c.loop-pin.pin c.pin_net.result c.index-driver.result.now c.args.self.now mid new
          c.order-u.ensures.placed c.order-u.ensures.at within c.pin_net.ensures c.loop-pin.invariant.room driver_at c.add_before.ensures refl refl refl c.loop-pin.invariant.has;
    }

pub returns-clause-closed : goal.returns-clause-closed
returns-clause-closed c after =
    let core = c.args.chip.now.core in
    let place_of = place_in c.args.chip.now.ranks in
    closed_more core place_of (cell_number c.args.chip.now.chip) c.linked.ensures.linked c.args.place c.order-u.result c.args.self.now c.loop-pin.self
    c.order-u.ensures.placed c.order-u.ensures.at
    (subst (λ k. HasDriversTo core place_of c.order-u.result k c.loop-pin.self) (let e : c.loop-pin.pin ≡ inputs_at core c.order-u.result = omega arith in e) c.loop-pin.invariant.has)
    c.loop-pin.invariant.adds after
