-- Words of the code beside those of `specs/Found.antt`. Private functions and proofs cite them.
use Rattle.std.specs.Prelude.{Bool, true, false}
use Rattle.ca_sweep.specs.declared.seen.Seen.{Seen}
use Rattle.ca_sweep.specs.declared.seen.Seen.TheVariants.{Undecided, Nowhere, At}

-- what is answered where flips are seen so: that a detection was found only where all last values of the
-- outputs of the defect's instance are known
abbrev pub reported : Bool → Seen → Seen
reported known Undecided = Undecided
reported known Nowhere = Nowhere
reported true (At output) = At output
reported false (At output) = Undecided
