-- What only proofs of code cite: the places of claims that speak of detections.
use Rattle.std.specs.Prelude.{ℕ, ◌≡◌, ◌<◌, true, List, length, slice_get, Some}
use Rattle.ca_places.specs.declared.place_set.PlaceSet.{PlaceSet}
use Rattle.ca_places.specs.PlaceSet.{Has}
use Rattle.ca_claim.specs.declared.claim.Claim.{Claim}
use Rattle.ca_cert.specs.code.Found.{asks}

-- the set has the places of the first `count` claims that speak of detections, and none past the claims
pub record AreAsked (claims : List Claim) (count : ℕ) (set : PlaceSet) : Type 0 where
  pub each : (place : ℕ) (claim : Claim) → place < count → slice_get claims place ≡ Some claim
      → asks claim ≡ true → Has set place
  pub within : (place : ℕ) → Has set place → place < length claims
