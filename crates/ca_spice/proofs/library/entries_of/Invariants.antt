use Rattle.std.proofs.Common.{◌≡◌, map}
use Rattle.std.specs.List.{All}
use Rattle.ca_cell.specs.Library.{IsEntry}
use Rattle.ca_spice.specs.Reading.{resolved_cell}
use Rattle.ca_spice.specs.Views.{subcircuit_seen}
use Rattle.ca_spice.proofs.library.entries_of.Given as goal

abbrev pub invariant-cells : goal.invariant-cells
invariant-cells l = record {
  seen : map subcircuit_seen l.library ≡ map resolved_cell l.yielded;
  entries : All (λ named. IsEntry named.entry) l.library;
}
