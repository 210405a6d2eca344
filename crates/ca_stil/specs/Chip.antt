-- What a STIL text needs of a chip, and which pairs and expected values are of it.
use Rattle.std.specs.Prelude.{ℕ, ◌≡◌, ◌+◌, ◌<◌, Bool, List, [], ◌∷◌, length, map, max, take, drop}
use Rattle.std.specs.List.{All}
use Rattle.ca_net.specs.declared.trit.Trit.{Trit}
use Rattle.ca_stil.specs.declared.chip.StilChain.{StilChain}
use Rattle.ca_stil.specs.declared.chip.StilChip.{StilChip}
use Rattle.ca_stil.specs.declared.chip.End.{End}
use Rattle.ca_stil.specs.declared.chip.End.TheVariants as at

-- `count` values, from a place on
abbrev pub part : {Value : Type 0} → ℕ → ℕ → List Value → List Value
part from count values = take count (drop from values)

-- how many pattern bits a vector has: first one for each chip input among the ports, and then one for each
-- scan instance
abbrev pub width_of : StilChip → ℕ
width_of chip = length chip.inputs + chip.scan_count

-- the port at an end of a chain
abbrev pub end_of : End → StilChain → List ℕ
end_of at.In chain = chain.scan_in
end_of at.Out chain = chain.scan_out

-- the ports of the chains at one end
abbrev pub ends_of : End → List StilChain → List (List ℕ)
ends_of end chains = map (end_of end) chains

-- how many cells the longest of the chains has
unfoldable pub longest : List StilChain → ℕ
longest [] = 0
longest (chain ∷ chains) = max (length chain.places) (longest chains)

-- the chain's scan instances are among the first `count`
abbrev pub IsWithin : ℕ → StilChain → Type 0
IsWithin count chain = All (λ place. place < count) chain.places

-- the chains are of the chip's scan instances
abbrev pub IsStilChip : StilChip → Type 0
IsStilChip chip = All (IsWithin chip.scan_count) chip.chains

-- the pair has the chip's pattern bits: those of the first vector, and then those of the second
abbrev pub IsPairOf : StilChip → List Bool → Type 0
IsPairOf chip pair = length pair ≡ width_of chip + width_of chip

-- there is a value for each observed output: first for the ports, and then for the scan instances
abbrev pub AreValuesOf : StilChip → List Trit → Type 0
AreValuesOf chip values = length values ≡ length chip.outputs + chip.scan_count

-- the chains, the pairs and their expected values are of the chip
pub record AreOf (chip : StilChip) (pairs : List (List Bool)) (expected : List (List Trit)) : Type 0 where
  pub chains : IsStilChip chip
  pub bits : All (IsPairOf chip) pairs
  pub values : All (AreValuesOf chip) expected
  pub counted : length pairs ≡ length expected
