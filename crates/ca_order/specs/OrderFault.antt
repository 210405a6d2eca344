-- Why a text is no order file.
use Rattle.std.specs.Prelude.{ℕ, ◌≡◌, List, Result, Ok, Err}
use Rattle.ca_order.specs.declared.event.Event.{Event}
use Rattle.ca_order.specs.declared.event.OrderFault.{OrderFault}
use Rattle.ca_order.specs.declared.event.OrderFault.TheVariants as fault

-- what is answered where a text reads as these events, or has this first faulty line; out of memory is always
-- allowed
abbrev pub Reads : Result (List Event) OrderFault → Result (List Event) ℕ → Type 0
Reads (Ok events) wanted = wanted ≡ Ok events
Reads (Err (fault.At line)) wanted = wanted ≡ Err line
Reads (Err fault.NoMemory) wanted = Unit {0}
