use Rattle.std.proofs.Common.{length, arith, ap, sym, ◌∙◌}
use Rattle.ca_token.specs.Scan.{scan_of}
use Rattle.ca_verilog.specs.Reading.{Reading}
use Rattle.ca_verilog.specs.Text.{reads_scan, ended}
use Rattle.ca_verilog.specs.code.Views.{reading_seen}
use Rattle.ca_verilog.proofs.SoundLemmas.{whole_reading, kept_in}
use Rattle.ca_verilog.proofs.text.read_netlist.Goals as goal

pub limited-requires : goal.limited-requires
limited-requires c =
    whole_reading c.args.bytes.now (reading_seen c.read_text.new.reading)
    (ap (λ (it : Reading). ended c.args.bytes.now (reads_scan c.args.bytes.now it (scan_of c.args.bytes.now))) (sym c.new-reading.ensures)
    ∙ c.in_ok-read_text.ensures)

pub returns-clause-kept : goal.returns-clause-kept
returns-clause-kept c =
    kept_in (reading_seen c.read_text.new.reading)
    (whole_reading c.args.bytes.now (reading_seen c.read_text.new.reading)
    (ap (λ (it : Reading). ended c.args.bytes.now (reads_scan c.args.bytes.now it (scan_of c.args.bytes.now))) (sym c.new-reading.ensures)
    ∙ c.in_ok-read_text.ensures)) (omega (arith, c.if-as_slice-gt-MOST_INSTANCES.false, ap length c.as_slice.ensures)) c.limited.result c.limited.ensures
