use Rattle.std.specs.List.{IsDistinct}
use Rattle.ca_load.proofs.tables.open_table.Goals as goal

pub returns-in-None-clause-distinct : goal.returns-in-None-clause-distinct
unfolding IsDistinct
returns-in-None-clause-distinct g c = rw c.new.ensures tt
