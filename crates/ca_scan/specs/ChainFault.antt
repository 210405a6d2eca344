-- What the chains of a chip are, and why it has none.
use Rattle.std.specs.Prelude.{ℕ, ◌≡◌, ◌≢◌, ◌<◌, ◌≤◌, List, length}
use Rattle.ca_scan.specs.declared.fault.ChainFault.{ChainFault}
use Rattle.ca_scan.specs.declared.fault.ChainFault.TheVariants.{ChainBroken, TooManyChains, NoMemory}
use Rattle.ca_scan.specs.declared.whole.TheConstants.{MOST_CHAINS}
use Rattle.ca_linked.specs.Linked.{LinkedChip}
use Rattle.ca_scan.specs.Chain.{AreChains, AreOnChains, IsFirstOff}

-- these are the whole chains, at most 64 of them, and each scan instance is on one
pub record AreAllChains (chip : LinkedChip) (chains : List (List ℕ)) : Type 0 where
  pub are : AreChains chip chains
  pub on_chains : AreOnChains chip
  pub few : length chains ≤ MOST_CHAINS

-- each scan instance is on a whole chain, and there are `count` of these, more than 64
pub record AreTooMany (chip : LinkedChip) (count : ℕ) : Type 0 where
  pub chains : List (List ℕ)
  pub are : AreChains chip chains
  pub on_chains : AreOnChains chip
  pub counted : count ≡ length chains
  pub many : MOST_CHAINS < count

-- why the chip has no chains
abbrev pub IsChainCause : LinkedChip → ChainFault → Type 0
IsChainCause chip (ChainBroken instance) = IsFirstOff chip instance.0
IsChainCause chip (TooManyChains count) = AreTooMany chip count
IsChainCause chip NoMemory = Unit {0}

-- a chip has one list of chains at most, one cause at most to have none, and never both; out of memory aside
pub record HasOneAnswer (chip : LinkedChip) : Type 0 where
  pub one_list : (chains others : List (List ℕ)) → AreAllChains chip chains → AreAllChains chip others
      → chains ≡ others
  pub one_cause : (fault other : ChainFault) → IsChainCause chip fault → IsChainCause chip other
      → fault ≢ NoMemory → other ≢ NoMemory → fault ≡ other
  pub not_both : (chains : List (List ℕ)) (fault : ChainFault) → AreAllChains chip chains
      → IsChainCause chip fault → fault ≡ NoMemory
