-- The laws of linked chips.
use Rattle.ca_linked.specs.Order.{HasNoLoop}
use Rattle.ca_linked.specs.Linked.{LinkedChip, Feeds, IsWired}

-- where there is an order of those that feed, there is no loop
abbrev pub OrderHasNoLoop : Type 0
OrderHasNoLoop = (chip : LinkedChip) → IsWired chip → HasNoLoop (Feeds chip)
