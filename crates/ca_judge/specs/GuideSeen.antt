-- What the guide sees of a simulator.
use Rattle.std.specs.Prelude.{Bool, true, false, Option, None, Some, map}
use Rattle.ca_net.specs.declared.trit.Trit.{Trit}
use Rattle.ca_net.specs.declared.trit.Trit.TheVariants.{Zero, One, X}
use Rattle.ca_guide.specs.Seen as guide
use Rattle.ca_sim.specs.Seen.{Seen}

-- the bit that has the value, unset for X
abbrev pub bit_of : Trit → Option Bool
bit_of Zero = Some false
bit_of One = Some true
bit_of X = None

-- the waves and the bits
abbrev pub guide_seen : Seen → guide.Seen
guide_seen seen = record { good = seen.good; faulty = seen.faulty; bits = map bit_of seen.pair }
