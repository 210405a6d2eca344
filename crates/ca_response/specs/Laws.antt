-- The law of what networks of a cell give.
use Rattle.std.specs.Prelude.{◌≡◌, List}
use Rattle.ca_net.specs.declared.wave.Wave.{Wave}
use Rattle.ca_net.specs.Circuit.{Circuit}
use Rattle.ca_cell.specs.declared.raw.RawCell.{RawCell}
use Rattle.ca_response.specs.Outputs.{AreOutputWaves}
use Rattle.ca_response.specs.Gives.{Gives}

-- what is given is what `respond` answers: the three limits
abbrev pub GivenIsResponse : Type 0
GivenIsResponse =
    (raw : RawCell) (net : Circuit) (pins outputs given : List Wave)
    → AreOutputWaves raw net pins outputs → Gives raw net pins given → given ≡ outputs
