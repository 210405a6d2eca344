-- How what `bridges` ends with follows from what it finds.
use Rattle.std.proofs.Common.{ℕ, ◌≡◌, ◌≢◌, ◌⊎◌, ◌∙◌, inl, inr, refl, sym, subst, Bool, List, Option, Some}
use Rattle.ca_store.specs.Store.{Files}
use Rattle.ca_fault.specs.declared.fault.Fault.{Fault}
use Rattle.ca_fault.specs.declared.fault.Fault.TheVariants.{SinkFailed}
use Rattle.ca_linked.specs.Linked.{LinkedChip}
use Rattle.ca_scan.specs.ChainFault.{AreAllChains}
use Rattle.ca_atpg.specs.Atpg.{IsStil}
use Rattle.ca_cluster.specs.declared.bridge.Bridge.{Bridge}
use Rattle.ca_bridge_verdicts.specs.declared.verdict.BridgeVerdict.{BridgeVerdict}
use Rattle.ca_bridge_report.specs.BridgeReport.{bridges_report}
use Rattle.ca_load.specs.Texts.{InputFiles, names_of}
use Rattle.ca_load.specs.Causes.{IsLoadCause}
use Rattle.ca_words.specs.Words.{chip_files, instance_word}
use Rattle.ca_words.specs.declared.words.BridgesWords.{BridgesWords}
use Rattle.ca_words.specs.Command.{IsSpelledBridges}
use Rattle.ca_on_chip.specs.OnChip.{IsChipOfFiles}
use Rattle.ca_bridging.specs.Bridging.{AreJudgedOf, IsBridgesCause}
use Rattle.ca_flow.specs.declared.finished.Done.TheVariants.{Bridges}
use Rattle.ca_flow.specs.declared.work.OutFile.{OutFile}
use Rattle.ca_flow.specs.code.Work.{IsOutFile, HasFiles}
use Rattle.ca_flow.specs.Fault.{IsOwnCause, IsWorkCause}
use Rattle.ca_flow.specs.Ends.{IsAsked}
use Rattle.ca_flow.proofs.CauseLemmas.{no_check_sink}

-- the verdicts that the words of `bridges` ask for
pub bridges_asked : (words : List (List ℕ)) (request : BridgesWords) (files : Option Files) (chip : LinkedChip) (chains : List (List ℕ))
    (bridges : List Bridge) (pairs : List (List Bool)) (aims : List ℕ) (verdicts : List BridgeVerdict) → IsSpelledBridges words request
    → AreAllChains chip chains → IsChipOfFiles files (names_of request.files) chip
    → AreJudgedOf request.instance.now request.budget chip bridges pairs aims verdicts
    → IsAsked words files (Bridges chip chains bridges pairs aims verdicts)
bridges_asked words request files chip chains bridges pairs aims verdicts spelled all held judged = (
  spelled.is,
  (
    all,
    (
      subst (λ asked. IsChipOfFiles files asked chip) spelled.files held,
      record {
        budget = request.budget;
        said = spelled.budget;
        judged = subst (λ name. AreJudgedOf name request.budget chip bridges pairs aims verdicts) spelled.instance judged;
      },
    ),
  ),
)

-- the files that they name
pub bridges_files : (words : List (List ℕ)) (request : BridgesWords) (chip : LinkedChip) (chains : List (List ℕ))
    (bridges : List Bridge) (pairs : List (List Bool)) (aims : List ℕ) (verdicts : List BridgeVerdict) (stil report : List ℕ)
    (first second : OutFile) → IsSpelledBridges words request → IsStil chip chains pairs stil
    → report ≡ bridges_report chip bridges verdicts
    → IsOutFile request.stil.now stil first → IsOutFile request.report.now report second
    → HasFiles words (Bridges chip chains bridges pairs aims verdicts) (Some first) (Some second)
bridges_files words request chip chains bridges pairs aims verdicts stil report first second spelled is report_is first_is second_is = record {
  first_is = record {
    name_is = first_is.name_is ∙ spelled.stil;
    typed_is = first_is.typed_is ∙ spelled.stil;
    holds = subst (IsStil chip chains pairs) (sym first_is.bytes_are) is;
  };
  second_is = record {
    name_is = second_is.name_is ∙ spelled.report;
    typed_is = second_is.typed_is ∙ spelled.report;
    bytes_are = second_is.bytes_are ∙ report_is;
  };
}

-- why they ask for none
pub bridges_cause : (words : List (List ℕ)) (request : BridgesWords) (files : Option Files) (before after : ℕ) (fault : Fault)
    → IsSpelledBridges words request → IsBridgesCause (names_of request.files) request.instance.now files before after fault
    → IsWorkCause words files before after fault
bridges_cause words request files before after fault spelled cause = inr (inr (inr (inr (inl (
  inr (inr (inr (inr (inr (inr (inr (inr (inr spelled.is)))))))),
  by (subst (λ name. IsBridgesCause (chip_files words) name files before after fault) spelled.instance
      (subst (λ asked. IsBridgesCause asked request.instance.now files before after fault) spelled.files cause)),
)))))
  where
    by : IsBridgesCause (chip_files words) (instance_word words) files before after fault
        → IsLoadCause (chip_files words) files before after fault ⊎ IsOwnCause words files before after fault
    by (inl load) = inl load
    by (inr unknown) = inr (inr (inr (inr (inr (inr (inr (inr (inr (spelled.is, unknown)))))))))

-- no work of `bridges` is refused for the output
pub no_bridges_sink : (names : InputFiles) (instance : List ℕ) (files : Option Files) (before after : ℕ) (fault : Fault)
    → IsBridgesCause names instance files before after fault → fault ≢ SinkFailed
no_bridges_sink names instance files before after fault cause same =
    by (subst (IsBridgesCause names instance files before after) same cause)
  where
    by : IsBridgesCause names instance files before after SinkFailed → ⊥
    by (inl load) = no_check_sink names files before after SinkFailed load refl
    by (inr (word, held)) = word
