-- Words of the code beside those of `specs/File.antt`. Private functions and proofs cite them.
use Rattle.std.specs.Prelude.{ℕ, ◌≡◌, List, map}
use Rattle.ca_stil.specs.declared.chip.StilChip.{StilChip}
use Rattle.ca_stil_read.specs.declared.pair.TextPair.{TextPair}
use Rattle.ca_stil_pairs.specs.declared.file.StilFile.{StilFile}
use Rattle.ca_stil_pairs.specs.Chip.{order_of}
use Rattle.ca_stil_pairs.specs.code.Places.{AreSites, chip_bits, chip_levels}

-- the file has the pairs of a text by place
pub record IsMade (chip : StilChip) (sites : List ℕ) (pairs : List TextPair) (file : StilFile) : Type 0 where
  pub pairs_are : file.pairs ≡ map (chip_bits chip sites) pairs
  pub expected_are : file.expected ≡ map (chip_levels chip sites) pairs

-- so it has, by the sites of the chip's scan instances
pub record IsMadeFrom (chip : StilChip) (pairs : List TextPair) (file : StilFile) : Type 0 where
  pub sites : List ℕ
  pub are_sites : AreSites (order_of chip.chains) chip.scan_count sites
  pub made : IsMade chip sites pairs file
