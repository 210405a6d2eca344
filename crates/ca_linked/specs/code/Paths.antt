-- Words of the code beside those of `specs/Paths.antt`. Private functions and proofs cite them.
use Rattle.std.specs.Prelude.{ℕ, ◌≡◌, ◌<◌, false, Option}
use Rattle.std.specs.Prelude.{Some, None}
use Rattle.ca_linked.specs.Linked.{LinkedChip, net_count}
use Rattle.ca_linked.specs.Paths.{is_observed, IsFirstObserved}

abbrev pub IsObservedAt : LinkedChip → Option ℕ → Type 0
IsObservedAt chip None = (net : ℕ) → net < net_count chip → is_observed chip net ≡ false
IsObservedAt chip (Some net) = IsFirstObserved chip net
