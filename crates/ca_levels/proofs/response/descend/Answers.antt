use Rattle.std.proofs.Common.{arith, refl}
use Rattle.ca_planes.specs.Trits.{state_in}
use Rattle.ca_levels.proofs.ResponseLemmas.{reached_unused, spread_unused, read_false, some_carried}
use Rattle.ca_levels.specs.Levels.{with_devices}
use Rattle.ca_levels.proofs.response.descend.Goals as goal

pub returns-else-index-2-clause-reached : goal.returns-else-index-2-clause-reached
returns-else-index-2-clause-reached g c lane low =
    let whole = g.N.Network.circuit c.args._net.now in
    let devices = c.args.devices.now in
    let net = with_devices whole devices in
    let levels = c.args.levels.now in
    let out = c.args.out.now in
    let holds = c.requires.loaded.holds in
    reached_unused net levels.own.items devices c.args.level holds.room.own holds.own refl
    (holds.given c.args.level (omega (arith, c.requires.scale)) (read_false levels.given.items c.args.level c.index.result.now (omega (arith, holds.room.given_room, c.requires.scale)) c.index.ensures c.if-index.false))
    (some_carried whole devices c.args.level c.requires.some (holds.carried c.args.level (omega (arith, c.requires.scale))
    (read_false levels.carried.items c.args.level c.index-else-index.result.now (omega (arith, holds.room.carried_room, c.requires.scale)) c.index-else-index.ensures c.if-index-2.false)))
    (state_in c.args.from.now lane) lane levels.stronger.items out.zeros.items out.ones.items c.requires.level (c.requires.above lane low)

pub returns-else-index-2-clause-spread : goal.returns-else-index-2-clause-spread
returns-else-index-2-clause-spread g c =
    let whole = g.N.Network.circuit c.args._net.now in
    let devices = c.args.devices.now in
    let levels = c.args.levels.now in
    let holds = c.requires.loaded.holds in
    spread_unused devices c.args.from.now c.args.level levels c.args.out.now c.requires.level
    (some_carried whole devices c.args.level c.requires.some (holds.carried c.args.level (omega (arith, c.requires.scale))
    (read_false levels.carried.items c.args.level c.index-else-index.result.now (omega (arith, holds.room.carried_room, c.requires.scale)) c.index-else-index.ensures c.if-index-2.false)))
    c.requires.spread
