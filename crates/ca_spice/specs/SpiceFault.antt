-- Why a text gives no library.
use Rattle.std.specs.Prelude.{Option, Some, None}
use Rattle.ca_spice.specs.declared.fault.SpiceFault.{SpiceFault}
use Rattle.ca_spice.specs.declared.fault.SpiceFault.TheVariants.{At, TooManyCells, NoMemory}

-- the fault of the text that an error is; out of memory says nothing about the text
abbrev pub fault_reported : SpiceFault → Option SpiceFault
fault_reported (At line kind) = Some (At line kind)
fault_reported (TooManyCells count) = Some (TooManyCells count)
fault_reported NoMemory = None
