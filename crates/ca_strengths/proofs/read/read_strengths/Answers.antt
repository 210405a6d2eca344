use Rattle.ca_csv.specs.Records.{text_records}
use Rattle.ca_strengths.proofs.AscendingLemmas.{answered}
use Rattle.ca_strengths.proofs.read.read_strengths.Goals as goal

pub returns : goal.returns
returns c =
    let read = c.read_records-read.ensures (text_records c.args.bytes.now) c.reader_of-reader.ensures in
    record { exact = read; ascending = answered (text_records c.args.bytes.now) c.read_records-read.result read }
