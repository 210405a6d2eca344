use Rattle.ca_simulate.specs.code.Lasts.{HaveLasts}
use Rattle.ca_simulate.proofs.simulation.last_values.Given as goal

abbrev pub invariant-loop-o : goal.invariant-loop-o
invariant-loop-o g l = record {
  good : HaveLasts l.view.core.outputs (g.N.NetWaves.seen l.sim).good l.o l.good.items;
  faulty : HaveLasts l.view.core.outputs (g.N.NetWaves.seen l.sim).faulty l.o l.faulty.items;
}
