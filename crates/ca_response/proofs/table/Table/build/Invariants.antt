use Rattle.std.proofs.Common.{map}
use Rattle.ca_settle.specs.Settled.{HoldsGroups}
use Rattle.ca_response.proofs.TableLemmas.{IsBuiltTo}
use Rattle.ca_response.proofs.table.Table.build.Given as goal

abbrev pub invariant-loop-place : goal.invariant-loop-place
invariant-loop-place g l = record {
  built : IsBuiltTo (g.N.CellNet.subcircuit l.net) (g.N.Network.circuit l.net) l.place (map (λ entry. entry.items) l.entries.items);
  held : HoldsGroups (g.N.Network.circuit l.net) l.work;
}
