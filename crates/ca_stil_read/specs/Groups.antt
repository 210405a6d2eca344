-- What a group's names have to be, as the code has it.
use Rattle.std.specs.Prelude.{Option, Some, None}
use Rattle.ca_stil_form.specs.Frame.{Scan}
use Rattle.ca_stil_read.specs.declared.groups.ScanGroups.{ScanGroups}

-- the scan groups
abbrev pub scan_seen : ScanGroups → Scan
scan_seen groups = (groups.controls, (groups.scan_ins, groups.scan_outs))

abbrev pub scan_in : Option ScanGroups → Option Scan
scan_in None = None
scan_in (Some groups) = Some (scan_seen groups)
