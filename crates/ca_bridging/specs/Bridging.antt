-- What `bridges` finds of a chip, and why it finds nothing.
use Rattle.std.specs.Prelude.{ℕ, ◌≡◌, ◌⊎◌, Bool, List, Option}
use Rattle.ca_store.specs.Store.{Files}
use Rattle.ca_linked.specs.Linked.{LinkedChip}
use Rattle.ca_linked.specs.Instances.{IsNamedGate}
use Rattle.ca_cluster.specs.declared.bridge.Bridge.{Bridge}
use Rattle.ca_cluster.specs.Bridges.{AreBridgesOf}
use Rattle.ca_bridge_verdicts.specs.declared.verdict.BridgeVerdict.{BridgeVerdict}
use Rattle.ca_bridge_verdicts.specs.Promise.{AreGoodVerdicts}
use Rattle.ca_fault.specs.declared.fault.Fault.{Fault}
use Rattle.ca_fault.specs.declared.fault.Fault.TheVariants.{NoInstance}
use Rattle.ca_load.specs.Texts.{InputFiles}
use Rattle.ca_load.specs.Causes.{IsLoadCause}
use Rattle.ca_request.specs.Asked.{IsInstanceCause}
use Rattle.ca_words.specs.Budget.{HasBudget}
use Rattle.ca_on_chip.specs.OnChip.{OfChip}

-- the list has the bridges of a library instance of this name, and the verdicts on them keep their promise
pub record AreJudgedOf (instance : List ℕ) (budget : ℕ) (chip : LinkedChip) (bridges : List Bridge)
    (pairs : List (List Bool)) (aims : List ℕ) (verdicts : List BridgeVerdict) : Type 0 where
  pub u : ℕ
  pub named : IsNamedGate chip instance u
  pub bridges_are : AreBridgesOf chip u bridges
  pub good : AreGoodVerdicts chip budget bridges pairs aims verdicts

-- the same for the budget that a word says
pub record AreJudgedFor (instance budget_word : List ℕ) (chip : LinkedChip) (bridges : List Bridge)
    (pairs : List (List Bool)) (aims : List ℕ) (verdicts : List BridgeVerdict) : Type 0 where
  pub budget : ℕ
  pub said : HasBudget budget_word budget
  pub judged : AreJudgedOf instance budget chip bridges pairs aims verdicts

-- the fault of an instance reports the word that was typed, whatever is known of the store
abbrev pub IsInstanceWord : List ℕ → Fault → Type 0
IsInstanceWord instance (NoInstance typed) = typed ≡ instance
IsInstanceWord instance _ = ⊥

-- no library instance of the chip of the files has the name
abbrev pub IsUnknownInstance : InputFiles → List ℕ → Option Files → Fault → Type 0
IsUnknownInstance names instance files fault =
    IsInstanceWord instance fault × OfChip files names (λ chip. IsInstanceCause chip instance fault)

-- why `bridges` found no tests
abbrev pub IsBridgesCause : InputFiles → List ℕ → Option Files → ℕ → ℕ → Fault → Type 0
IsBridgesCause names instance files before after fault =
    IsLoadCause names files before after fault ⊎ IsUnknownInstance names instance files fault
