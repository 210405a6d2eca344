use Rattle.ca_stil_form.specs.Whole.{stil_form}
use Rattle.ca_stil_form.proofs.StilLemmas.{stil_exact}
use Rattle.ca_stil_form.proofs.ReadingLemmas.{written_read, read_written, fault_found, fault_reported}
use Rattle.ca_stil_form.proofs.laws.stil_reading.Goals as goal

pub returns : goal.returns
returns c = record {
  written = written_read stil_form stil_exact;
  read = read_written stil_form stil_exact;
  found = fault_found stil_form stil_exact;
  reported = fault_reported stil_form stil_exact;
}
