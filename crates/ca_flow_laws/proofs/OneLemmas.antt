-- The chips that inputs give are one but for the order of their library instances.
use Rattle.std.proofs.Common.{◌≡◌, ◌≤◌, ℕ, ◌∙◌, sym, List, length}
use Rattle.std.specs.Prelude.{IsSomeAnd, Option, Some, None}
use Rattle.ca_store.specs.Store.{Files}
use Rattle.ca_linked.specs.Linked.{LinkedChip}
use Rattle.ca_linked.specs.Instances.{IsNamedGate}
use Rattle.ca_wiring.specs.Wiring.{wiring_of}
use Rattle.ca_view.specs.Core.{core_of}
use Rattle.ca_link_laws.specs.Alike.{AreAlike}
use Rattle.ca_link_laws.proofs.AlikeLemmas.{links_alike}
use Rattle.ca_link_laws.proofs.TraceLemmas.{alike_back}
use Rattle.ca_load.specs.declared.netlists.TheConstants.{MAX_NETLIST}
use Rattle.ca_load.specs.Texts.{IsNetlistOf, InputFiles, Inputs, ReadAs}
use Rattle.ca_load.specs.Chips.{IsChipOf}
use Rattle.ca_flow_laws.proofs.CoreLemmas.{one_core}
use Rattle.ca_flow_laws.proofs.NamedLemmas.{HaveNames, distinct_names, one_named}

-- both chips are alike, and have one core
pub record AreOne (chip also : LinkedChip) : Type 0 where
  pub alike : AreAlike chip also
  pub core : core_of chip ≡ core_of also

pub one_chip : (inputs : Inputs) (chip also : LinkedChip) → IsChipOf inputs chip → IsChipOf inputs also → AreOne chip also
one_chip inputs chip also is too =
    let wiring = wiring_of inputs.netlist inputs.library inputs.rows in
    record {
      alike = links_alike wiring chip also is.link too.link;
      core = one_core wiring chip also is.link too.link is.wired too.wired (is.cells ∙ sym too.cells);
    }

pub one_back : (chip also : LinkedChip) → AreOne chip also → AreOne also chip
one_back chip also are = record { alike = alike_back chip also are.alike; core = sym are.core }

-- a name means one instance of the chip
abbrev pub NamesOne : LinkedChip → Type 0
NamesOne chip = (name : List ℕ) (u v : ℕ) → IsNamedGate chip name u → IsNamedGate chip name v → u ≡ v

pub names_one : (names : InputFiles) (inputs : Inputs) (reported : Files) (chip : LinkedChip) → ReadAs names inputs reported → IsChipOf inputs chip → NamesOne chip
names_one names inputs reported chip read is =
    one_named inputs.netlist inputs.library inputs.rows chip is.link (by (reported names.netlist) read.netlist)
  where
    by : (there : Option (List ℕ)) → IsSomeAnd there (λ bytes. (length bytes ≤ MAX_NETLIST) × IsNetlistOf inputs.netlist bytes)
        → HaveNames inputs.netlist
    by None held = absurd held
    by (Some bytes) held = distinct_names bytes inputs.netlist held.1
