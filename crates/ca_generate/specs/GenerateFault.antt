-- When the work gives up.
use Rattle.std.specs.Prelude.{◌+◌, ◌≡◌, length}
use Rattle.ca_credit.specs.Defects.{Task}
use Rattle.ca_credit.specs.Listed.{AreAims}
use Rattle.ca_credit.specs.declared.limit.TheConstants.{MOST_PAIRS}
use Rattle.ca_generate.specs.declared.fault.GenerateFault.{GenerateFault}
use Rattle.ca_generate.specs.declared.fault.GenerateFault.TheVariants.{TooManyPairs, NoMemory}

-- The limit is passed by one pair. Each pair was found for its aim and is the first that detects it, and the
-- aims ascend.
abbrev pub IsCause : Task → GenerateFault → Type 0
IsCause task (TooManyPairs pairs aims) = (length pairs ≡ MOST_PAIRS + 1) × AreAims task pairs aims
IsCause task NoMemory = Unit {0}
