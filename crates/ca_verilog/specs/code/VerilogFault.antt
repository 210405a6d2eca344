-- Words of the code beside those of `specs/VerilogFault.antt`. Private functions and proofs cite them.
use Rattle.std.specs.Prelude.{Option, Some, None}
use Rattle.ca_verilog.specs.declared.fault.VerilogKind.{VerilogKind}
use Rattle.ca_verilog.specs.declared.fault.VerilogFault.TheVariants.{NoMemory}
use Rattle.ca_verilog.specs.declared.fault.Refusal.{Refusal}
use Rattle.ca_verilog.specs.declared.fault.Refusal.TheVariants as refusal

-- the rule that a refusal says a token breaks, if it isn't out of memory
abbrev pub kind_reported : Refusal → Option VerilogKind
kind_reported (refusal.Kind kind) = Some kind
kind_reported refusal.NoMemory = None
