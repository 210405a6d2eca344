use Rattle.ca_load.proofs.RowLemmas.{table_differs}
use Rattle.ca_load.proofs.tables.table_in.Goals as goal

pub returns-in-Ok-clause-distinct : goal.returns-in-Ok-clause-distinct
returns-in-Ok-clause-distinct c = table_differs c.args.bytes.now c.in-Ok.table (c.in-Ok.ensures).exact
