use Rattle.ca_csv.specs.Records.{text_records}
use Rattle.ca_scan.specs.Table.{table_of}
use Rattle.ca_scan.proofs.table.read_table.Goals as goal

pub returns : goal.returns
unfolding table_of
returns c = record { exact = c.table_after-table.ensures (text_records c.args.bytes.now) c.reader_of-reader.ensures }
