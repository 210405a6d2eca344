-- The verdicts on the first bridges: what only the proofs of the code cite.
use Rattle.std.specs.Prelude.{ℕ, ◌≡◌, ◌<◌, ◌≤◌, List, length, slice_get, Some}
use Rattle.ca_credit.specs.declared.verdict.Verdict.{Verdict}
use Rattle.ca_targets.specs.declared.target.Target.{Target}
use Rattle.ca_bridge_verdicts.specs.declared.verdict.BridgeVerdict.{BridgeVerdict}
use Rattle.ca_bridges.specs.Numbers.{IsShort, own_word, word_of}

-- so it is of the first bridges, before which there are so many shorts
pub record IsPutUpTo (targets : List Target) (numbers : List ℕ) (given : List Verdict)
    (words : List BridgeVerdict) (before count : ℕ) : Type 0 where
  pub counted : length words ≡ count
  pub passed : (k place : ℕ) → slice_get numbers k ≡ Some place → k < before → place < count
  pub to_come : (k place : ℕ) → slice_get numbers k ≡ Some place → before ≤ k → count ≤ place
  pub own : (place : ℕ) (target : Target) → place < count → slice_get targets place ≡ Some target
      → ¬ (IsShort target) → slice_get words place ≡ Some (own_word target)
  pub given_are : (k place : ℕ) (verdict : Verdict) → k < before → slice_get numbers k ≡ Some place
      → slice_get given k ≡ Some verdict → slice_get words place ≡ Some (word_of verdict)
