-- The sites are those of the chip inputs and of the observed outputs.
use Rattle.std.specs.Prelude.{◌≡◌, true, false, map}
use Rattle.ca_linked.specs.Linked.{LinkedChip, inputs_of, outputs_of}
use Rattle.ca_chip_stil.specs.Sites.{set_sites, seen_sites, site_net}

-- the nets of the sites where a vector is set are those of the chip inputs, in the same order
abbrev pub SetSitesAreInputs : Type 0
SetSitesAreInputs = (chip : LinkedChip) → map (site_net chip true) (set_sites chip) ≡ inputs_of chip

-- the nets of the sites where values are observed are those of the observed outputs, in the same order
abbrev pub SeenSitesAreOutputs : Type 0
SeenSitesAreOutputs = (chip : LinkedChip) → map (site_net chip false) (seen_sites chip) ≡ outputs_of chip
