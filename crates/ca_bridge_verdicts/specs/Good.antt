-- What is promised of verdicts on bridges, by the flat networks without and with the bridge.
use Rattle.std.specs.Prelude.{ℕ, ◌≡◌, Bool, List, length, slice_get, Some, All, IsSomeAnd}
use Rattle.std.specs.List.{Contains}
use Rattle.ca_base.specs.First.{IsFirst}
use Rattle.ca_flat.specs.declared.token.Token.{Token}
use Rattle.ca_flat.specs.Chip.{Chip}
use Rattle.ca_flat.specs.Pair.{bit_count}
use Rattle.ca_flat.specs.Detection.{trits_of}
use Rattle.ca_credit.specs.declared.verdict.Verdict.{Verdict}
use Rattle.ca_credit.specs.declared.verdict.Verdict.TheVariants.{Credited, Untestable, Aborted}
use Rattle.ca_merged.specs.Bridge.{BridgeDetectsAt}
use Rattle.ca_bridge_verdicts.specs.Bridges.{Ends}

-- the pair detects the bridge at some observed output
pub record DetectsBridge (chip : Chip) (ends : Ends) (pair : List Bool) : Type 0 where
  pub output : ℕ
  pub observed : Contains chip.outputs output
  pub detects : BridgeDetectsAt chip ends.instance ends.low ends.high (trits_of pair) output

-- it is the first observed output at which the pair detects the bridge
abbrev pub IsFirstBridgeOutput : Chip → Ends → ℕ → List Bool → Type 0
IsFirstBridgeOutput chip ends output pair =
    IsFirst (BridgeDetectsAt chip ends.instance ends.low ends.high (trits_of pair)) chip.outputs output

-- the pair is the first of the list that detects the bridge, and the output the first at which it does
pub record IsFirstBridgeDetection (chip : Chip) (ends : Ends) (pairs : List (List Bool)) (pair output : ℕ)
    : Type 0 where
  pub first_pair : IsFirst (DetectsBridge chip ends) pairs pair
  pub first_output : IsSomeAnd (slice_get pairs pair) (IsFirstBridgeOutput chip ends output)

-- no pair of the list detects the bridge
abbrev pub NoneDetectsBridge : Chip → Ends → List (List Bool) → Type 0
NoneDetectsBridge chip ends pairs = All (λ pair. ¬ (DetectsBridge chip ends pair)) pairs

-- no definite pair detects it
abbrev pub IsUntestableBridge : Chip → Ends → Type 0
IsUntestableBridge chip ends =
    (pair : List Bool) → length pair ≡ bit_count chip → ¬ (DetectsBridge chip ends pair)

-- the bridge at this place of the list has the verdict
pub record HasBridgeVerdict (bridges : List Ends) (verdicts : List Verdict) (place : ℕ) (ends : Ends)
    (verdict : Verdict) : Type 0 where
  pub is_bridge : slice_get bridges place ≡ Some ends
  pub is_verdict : slice_get verdicts place ≡ Some verdict

-- what the verdicts say of the bridges is so: a credit names the first pair that detects the bridge, and the
-- first output at which it does; untestable is only one that no definite pair detects, and aborted only one
-- that no listed pair detects
pub record AreGoodBridges (chip : Chip) (bridges : List Ends) (pairs : List (List Bool))
    (verdicts : List Verdict) : Type 0 where
  pub one_each : length verdicts ≡ length bridges
  pub credited : (place pair output : ℕ) (ends : Ends)
      → HasBridgeVerdict bridges verdicts place ends (Credited pair output)
      → IsFirstBridgeDetection chip ends pairs pair output
  pub untestable : (place : ℕ) (ends : Ends) → HasBridgeVerdict bridges verdicts place ends Untestable
      → IsUntestableBridge chip ends
  pub undetected : (place : ℕ) (ends : Ends) (code : List Token)
      → HasBridgeVerdict bridges verdicts place ends (Aborted code) → NoneDetectsBridge chip ends pairs
