use Rattle.std.proofs.Common.{◌-◌, length}
use Rattle.ca_net.specs.declared.scale.TheConstants.{INPUT}
use Rattle.ca_planes.specs.Trits.{HasNodes}
use Rattle.ca_levels.specs.Levels.{with_devices}
use Rattle.ca_levels.specs.code.Reached.{IsLoaded, AreReached, IsSpreadTo}
use Rattle.ca_levels.proofs.response.respond.Given as goal

abbrev pub invariant-loop-above : goal.invariant-loop-above
invariant-loop-above g l = record {
  loaded : IsLoaded (g.N.Network.circuit l.net) l.from l.levels;
  room : HasNodes (length (g.N.Network.circuit l.net).nodes) l.out;
  reached : AreReached (with_devices (g.N.Network.circuit l.net) l.devices) l.from (INPUT - l.above) l.levels l.out;
  spread : IsSpreadTo l.devices l.from (INPUT - l.above) l.levels l.out;
}
