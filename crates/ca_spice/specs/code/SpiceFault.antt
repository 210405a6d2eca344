-- Words of the code beside those of `specs/SpiceFault.antt`. Private functions and proofs cite them.
use Rattle.std.specs.Prelude.{Option, Some, None}
use Rattle.ca_spice.specs.declared.fault.SpiceKind.{SpiceKind}
use Rattle.ca_spice.specs.declared.fault.Refusal.{Refusal}
use Rattle.ca_spice.specs.declared.fault.Refusal.TheVariants as refusal

-- the rule that a refusal says a line breaks, if it isn't out of memory
abbrev pub kind_reported : Refusal → Option SpiceKind
kind_reported (refusal.Kind kind) = Some kind
kind_reported refusal.NoMemory = None
