-- The laws of generated chips, linked: they keep the rules of linking, and have no scan chains.
use Rattle.std.specs.Prelude.{ℕ, ◌≡◌, ◌≤◌, List, []}
use Rattle.ca_linked.specs.Linked.{LinkedChip}
use Rattle.ca_wiring.specs.Linking.{IsLinkOf}
use Rattle.ca_wiring.specs.Rules.{KeepsRules}
use Rattle.ca_wiring.specs.Wiring.{wiring_of}
use Rattle.ca_scan.specs.declared.fault.ChainFault.{ChainFault}
use Rattle.ca_scan.specs.declared.fault.ChainFault.TheVariants.{NoMemory}
use Rattle.ca_scan.specs.Chain.{IsScanAt}
use Rattle.ca_scan.specs.ChainFault.{AreAllChains, IsChainCause}
use Rattle.ca_make.specs.declared.gate.TheConstants.{MOST_GATES}
use Rattle.ca_make_laws.specs.Cells.{sound_library}
use Rattle.ca_make_laws.specs.ChipNetlist.{chip_netlist}

-- a generated chip, over its library and with no scan cells, breaks no rule of linking and passes no limit
abbrev pub ChipKeepsRules : Type 0
ChipKeepsRules = (n : ℕ) → n ≤ MOST_GATES → KeepsRules (chip_netlist n) sound_library []

-- no instance is a scan instance; the empty list has all chains of the chip, and no other list has; and only
-- out of memory can be a reason to give no list
pub record HasNoChains (chip : LinkedChip) : Type 0 where
  pub no_scan : (u : ℕ) → IsScanAt chip u → ⊥
  pub none : AreAllChains chip []
  pub no_other : (chains : List (List ℕ)) → AreAllChains chip chains → chains ≡ []
  pub memory_alone : (fault : ChainFault) → IsChainCause chip fault → fault ≡ NoMemory

-- a generated chip, linked over its library and with no scan cells, has no chains
abbrev pub ChipHasNoChains : Type 0
ChipHasNoChains = (n : ℕ) → n ≤ MOST_GATES → (chip : LinkedChip)
    → IsLinkOf (wiring_of (chip_netlist n) sound_library []) chip → HasNoChains chip
