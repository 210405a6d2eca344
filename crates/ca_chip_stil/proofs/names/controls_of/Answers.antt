use Rattle.ca_scan.proofs.JointLemmas.{scan_at}
use Rattle.ca_chip_stil.proofs.names.controls_of.Goals as goal

pub name_at-requires-clause-scan : goal.name_at-requires-clause-scan
name_at-requires-clause-scan c = scan_at c.args.chip.now 0 c.scan-u.result.0 c.scan-u.ensures

pub name_at-requires-then-scan_count-gt0-clause-scan :
    goal.name_at-requires-then-scan_count-gt0-clause-scan
name_at-requires-then-scan_count-gt0-clause-scan c = scan_at c.args.chip.now 0 c.scan-u.result.0 c.scan-u.ensures

pub name_at-requires-then-scan_count-gt0-2-clause-scan :
    goal.name_at-requires-then-scan_count-gt0-2-clause-scan
name_at-requires-then-scan_count-gt0-2-clause-scan c = scan_at c.args.chip.now 0 c.scan-u.result.0 c.scan-u.ensures
