-- Words of the code beside those of `specs/Choice.antt`. Private functions and proofs cite them.
use Rattle.std.specs.Prelude.{Bool, ◌&&◌, ◌||◌}
use Rattle.ca_net.specs.declared.trit.Trit.{Trit}
use Rattle.ca_net.specs.declared.trit.Trit.TheVariants.{X}
use Rattle.ca_lanes.specs.Choice.{Choice, choice_for}

-- what one of the two may be
abbrev pub either_choice : Choice → Choice → Choice
either_choice a b = record { zero = a.zero || b.zero; one = a.one || b.one }

-- the choice where that is allowed, else neither
abbrev pub choice_over : Bool → Choice → Choice
choice_over allowed choice = record { zero = allowed && choice.zero; one = allowed && choice.one }

-- with what a row of this value may be, where the row is allowed
abbrev pub choice_with : Choice → Bool → Trit → Choice
choice_with choice allowed value = either_choice choice (choice_over allowed (choice_for value))

-- what an unknown value may be
abbrev pub unknown : Choice
unknown = choice_for X
