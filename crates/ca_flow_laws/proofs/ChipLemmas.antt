-- What is reported of a command on a chip is one fault; of several loops any may be reported.
use Rattle.std.proofs.Common.{ap, sym, ◌∙◌, ℕ, ◌≡◌, ◌≤◌, ◌⊎◌, inl, inr, refl, arith, List, length, get_or, Option, Some, None}
use Rattle.std.specs.Prelude.{IsSomeAnd}
use Rattle.ca_store.specs.Store.{Files}
use Rattle.ca_linked.specs.Linked.{LinkedChip}
use Rattle.ca_scan.specs.ChainFault.{AreAllChains}
use Rattle.ca_fault.specs.declared.fault.Fault.{Fault}
use Rattle.ca_fault.specs.declared.fault.Fault.TheVariants.{Order, TooManyPairs}
use Rattle.ca_load.specs.Texts.{Inputs}
use Rattle.ca_load.specs.Chips.{IsChipOf, IsTraced}
use Rattle.ca_load.specs.Files.{OfFile}
use Rattle.ca_load.specs.Causes.{IsLoadCause}
use Rattle.ca_words.specs.Words.{chip_files, instance_word, chip_defect_word, chip_first_word, chip_last_word, order_word, stil_word, log_word, cert_word}
use Rattle.ca_words.specs.Words.{IsFlatten, IsSimulate, IsAtpg, IsReplay, IsGrade, IsDiagnose, IsCertify, IsVerify, IsBridges, IsOnChip}
use Rattle.ca_patterns.specs.declared.patterns.TheConstants.{MAX_STIL}
use Rattle.ca_patterns.specs.Patterns.{IsStilCause, OfTraced, IsPatternsCause}
use Rattle.ca_stil_pairs.specs.declared.file.StilFile.{StilFile}
use Rattle.ca_diagnosing.specs.declared.logs.TheConstants.{MAX_LOG}
use Rattle.ca_diagnosing.specs.Diagnosing.{IsBadLog, HasRight, IsLogCause}
use Rattle.ca_verifying.specs.declared.certificates.TheConstants.{MAX_CERT}
use Rattle.ca_verifying.specs.Verifying.{IsBadCert, IsCertCause}
use Rattle.ca_flow_laws.proofs.LogLemmas.{AtDiagnosis, diagnosis_also, one_diagnosis}
use Rattle.ca_flow_laws.proofs.CertLemmas.{AtVerification, verification_also, one_verification}
use Rattle.ca_flow_laws.proofs.StilLemmas.{ReportsStil, AtPatterns, patterns_also, one_patterns}
use Rattle.ca_on_chip.specs.declared.replays.TheConstants.{MAX_ORDER}
use Rattle.ca_on_chip.specs.OnChip.{GiveChipWith, OfChip, IsSimulationCause, IsPairsFault}
use Rattle.ca_on_chip.specs.Replay.{HasFaultyLine, HasRun, IsOrderCause}
use Rattle.ca_flow.specs.Fault.{IsOwnCause}
use Rattle.ca_flow_laws.specs.Same.{IsInputFault, IsSame}
use Rattle.ca_flow_laws.specs.Reported.{IsChipFile, IsInputFile}
use Rattle.ca_flow_laws.proofs.FileLemmas.{AtFile, one_of, of_bytes, of_file, of_read}
use Rattle.ca_flow_laws.proofs.OneLemmas.{AreOne, one_chip, NamesOne, names_one}
use Rattle.ca_flow_laws.proofs.LoadLemmas.{AreReadAs, AtLoad, one_read, one_load, no_load, read_given, of_load}
use Rattle.ca_flow_laws.proofs.OwnLemmas.{AtDefect, AtPair, ReportsLine, AtOrder, AtRun, of_defect, of_simulation, defect_also, pair_also}
use Rattle.ca_flow_laws.proofs.OwnLemmas.{at_run_also, one_defect, one_pair, one_at_run}
use Rattle.ca_flow_laws.proofs.OwnLemmas.{AtInstance, of_instance, instance_also, one_instance}
use Rattle.ca_request.specs.Asked.{IsInstanceCause}

-- words of two commands
pub flatten_or_simulate : (words : List (List ℕ)) → IsFlatten words → IsSimulate words → ⊥
flatten_or_simulate words one other = let seven = one.seven in let eight = other.eight in omega (arith, seven, eight)

pub flatten_or_replay : (words : List (List ℕ)) → IsFlatten words → IsReplay words → ⊥
flatten_or_replay words one other = let seven = one.seven in let nine = other.nine in omega (arith, seven, nine)

pub simulate_or_replay : (words : List (List ℕ)) → IsSimulate words → IsReplay words → ⊥
simulate_or_replay words one other = let eight = one.eight in let nine = other.nine in omega (arith, eight, nine)

pub atpg_or_flatten : (words : List (List ℕ)) → IsAtpg words → IsFlatten words → ⊥
atpg_or_flatten words one other = omega (arith, ap length (sym one.command ∙ other.command))

pub atpg_or_simulate : (words : List (List ℕ)) → IsAtpg words → IsSimulate words → ⊥
atpg_or_simulate words one other = let seven = one.seven in let eight = other.eight in omega (arith, seven, eight)

pub atpg_or_replay : (words : List (List ℕ)) → IsAtpg words → IsReplay words → ⊥
atpg_or_replay words one other = let seven = one.seven in let nine = other.nine in omega (arith, seven, nine)

pub flatten_or_grade : (words : List (List ℕ)) → IsFlatten words → IsGrade words → ⊥
flatten_or_grade words one other = let seven = one.seven in let six = other.six in omega (arith, seven, six)

pub simulate_or_grade : (words : List (List ℕ)) → IsSimulate words → IsGrade words → ⊥
simulate_or_grade words one other = let eight = one.eight in let six = other.six in omega (arith, eight, six)

pub replay_or_grade : (words : List (List ℕ)) → IsReplay words → IsGrade words → ⊥
replay_or_grade words one other = let nine = one.nine in let six = other.six in omega (arith, nine, six)

pub atpg_or_grade : (words : List (List ℕ)) → IsAtpg words → IsGrade words → ⊥
atpg_or_grade words one other = let seven = one.seven in let six = other.six in omega (arith, seven, six)

pub flatten_or_diagnose : (words : List (List ℕ)) → IsFlatten words → IsDiagnose words → ⊥
flatten_or_diagnose words one other = omega (arith, ap length (sym one.command ∙ other.command))

pub simulate_or_diagnose : (words : List (List ℕ)) → IsSimulate words → IsDiagnose words → ⊥
simulate_or_diagnose words one other = let eight = one.eight in let seven = other.seven in omega (arith, eight, seven)

pub replay_or_diagnose : (words : List (List ℕ)) → IsReplay words → IsDiagnose words → ⊥
replay_or_diagnose words one other = let nine = one.nine in let seven = other.seven in omega (arith, nine, seven)

pub atpg_or_diagnose : (words : List (List ℕ)) → IsAtpg words → IsDiagnose words → ⊥
atpg_or_diagnose words one other = omega (arith, ap length (sym one.command ∙ other.command))

pub grade_or_diagnose : (words : List (List ℕ)) → IsGrade words → IsDiagnose words → ⊥
grade_or_diagnose words one other = let six = one.six in let seven = other.seven in omega (arith, six, seven)

pub flatten_or_verify : (words : List (List ℕ)) → IsFlatten words → IsVerify words → ⊥
flatten_or_verify words one other = let seven = one.seven in let six = other.six in omega (arith, seven, six)

pub simulate_or_verify : (words : List (List ℕ)) → IsSimulate words → IsVerify words → ⊥
simulate_or_verify words one other = let eight = one.eight in let six = other.six in omega (arith, eight, six)

pub replay_or_verify : (words : List (List ℕ)) → IsReplay words → IsVerify words → ⊥
replay_or_verify words one other = let nine = one.nine in let six = other.six in omega (arith, nine, six)

pub atpg_or_verify : (words : List (List ℕ)) → IsAtpg words → IsVerify words → ⊥
atpg_or_verify words one other = let seven = one.seven in let six = other.six in omega (arith, seven, six)

pub grade_or_verify : (words : List (List ℕ)) → IsGrade words → IsVerify words → ⊥
grade_or_verify words one other = omega (arith, ap length (sym one.command ∙ other.command))

pub diagnose_or_verify : (words : List (List ℕ)) → IsDiagnose words → IsVerify words → ⊥
diagnose_or_verify words one other = let seven = one.seven in let six = other.six in omega (arith, seven, six)

pub certify_or_flatten : (words : List (List ℕ)) → IsCertify words → IsFlatten words → ⊥
certify_or_flatten words one other = omega (arith, ap (λ (word : List ℕ). get_or word 0 0) (sym one.command ∙ other.command))

pub certify_or_simulate : (words : List (List ℕ)) → IsCertify words → IsSimulate words → ⊥
certify_or_simulate words one other = let seven = one.seven in let eight = other.eight in omega (arith, seven, eight)

pub certify_or_replay : (words : List (List ℕ)) → IsCertify words → IsReplay words → ⊥
certify_or_replay words one other = let seven = one.seven in let nine = other.nine in omega (arith, seven, nine)

pub certify_or_grade : (words : List (List ℕ)) → IsCertify words → IsGrade words → ⊥
certify_or_grade words one other = let seven = one.seven in let six = other.six in omega (arith, seven, six)

pub certify_or_diagnose : (words : List (List ℕ)) → IsCertify words → IsDiagnose words → ⊥
certify_or_diagnose words one other = omega (arith, ap length (sym one.command ∙ other.command))

pub certify_or_verify : (words : List (List ℕ)) → IsCertify words → IsVerify words → ⊥
certify_or_verify words one other = let seven = one.seven in let six = other.six in omega (arith, seven, six)

pub flatten_or_bridges : (words : List (List ℕ)) → IsFlatten words → IsBridges words → ⊥
flatten_or_bridges words one other = let seven = one.seven in let eight = other.eight in omega (arith, seven, eight)

pub simulate_or_bridges : (words : List (List ℕ)) → IsSimulate words → IsBridges words → ⊥
simulate_or_bridges words one other = omega (arith, ap length (sym one.command ∙ other.command))

pub replay_or_bridges : (words : List (List ℕ)) → IsReplay words → IsBridges words → ⊥
replay_or_bridges words one other = let nine = one.nine in let eight = other.eight in omega (arith, nine, eight)

pub grade_or_bridges : (words : List (List ℕ)) → IsGrade words → IsBridges words → ⊥
grade_or_bridges words one other = let six = one.six in let eight = other.eight in omega (arith, six, eight)

pub diagnose_or_bridges : (words : List (List ℕ)) → IsDiagnose words → IsBridges words → ⊥
diagnose_or_bridges words one other = let seven = one.seven in let eight = other.eight in omega (arith, seven, eight)

pub verify_or_bridges : (words : List (List ℕ)) → IsVerify words → IsBridges words → ⊥
verify_or_bridges words one other = let six = one.six in let eight = other.eight in omega (arith, six, eight)

pub atpg_or_bridges : (words : List (List ℕ)) → IsAtpg words → IsBridges words → ⊥
atpg_or_bridges words one other = let seven = one.seven in let eight = other.eight in omega (arith, seven, eight)

pub certify_or_bridges : (words : List (List ℕ)) → IsCertify words → IsBridges words → ⊥
certify_or_bridges words one other = let seven = one.seven in let eight = other.eight in omega (arith, seven, eight)

-- what is reported of the own words of a command, of a chip
abbrev pub AtOwn : List (List ℕ) → Files → LinkedChip → Fault → Type 0
AtOwn words given chip fault =
    (IsFlatten words × AtDefect (instance_word words) (chip_defect_word words) chip fault)
    ⊎ ((IsSimulate words
    × AtPair (instance_word words) (chip_defect_word words) (chip_first_word words) (chip_last_word words) chip fault)
    ⊎ ((IsReplay words
    × AtRun (instance_word words) (chip_defect_word words) (chip_first_word words) (chip_last_word words) (order_word words) given chip fault)
    ⊎ ((IsGrade words × AtPatterns (stil_word words) given chip fault)
    ⊎ ((IsDiagnose words × AtDiagnosis (stil_word words) (log_word words) given chip fault)
    ⊎ ((IsVerify words × AtVerification (stil_word words) (cert_word words) given chip fault)
    ⊎ (IsBridges words × AtInstance (instance_word words) chip fault))))))

-- the inputs give a chip with chains, of which it is reported
pub record IsOwn (words : List (List ℕ)) (given : Files) (fault : Fault) (inputs : Inputs) : Type 0 where
  pub chip : LinkedChip
  pub is : IsChipOf inputs chip
  pub traced : IsTraced chip
  pub at : AtOwn words given chip fault

abbrev pub AtChipWords : List (List ℕ) → Files → Fault → Type 0
AtChipWords words given fault = AtLoad (chip_files words) given fault ⊎ AreReadAs (chip_files words) given (IsOwn words given fault)

module _ (words : List (List ℕ)) (given : Files) where
  own_also : (chip also : LinkedChip) → AreOne chip also → (fault : Fault) → AtOwn words given chip fault → AtOwn words given also fault
  own_also chip also are fault (inl (is, at)) = inl (is, defect_also chip also are (instance_word words) (chip_defect_word words) fault at)
  own_also chip also are fault (inr (inl (is, at))) = inr (inl (
    is,
    pair_also chip also are (instance_word words) (chip_defect_word words)
        (chip_first_word words) (chip_last_word words) fault at,
  ))
  own_also chip also are fault (inr (inr (inl (is, at)))) = inr (inr (inl (
    is,
    at_run_also chip also are (instance_word words) (chip_defect_word words)
        (chip_first_word words) (chip_last_word words) (order_word words) given fault at,
  )))
  own_also chip also are fault (inr (inr (inr (inl (is, at))))) =
      inr (inr (inr (inl (is, patterns_also chip also are (stil_word words) given fault at))))
  own_also chip also are fault (inr (inr (inr (inr (inl (is, at)))))) =
      inr (inr (inr (inr (inl (is, diagnosis_also chip also are (stil_word words) (log_word words) given fault at)))))
  own_also chip also are fault (inr (inr (inr (inr (inr (inl (is, at))))))) =
      inr (inr (inr (inr (inr (inl (is, verification_also chip also are (stil_word words) (cert_word words) given fault at))))))
  own_also chip also are fault (inr (inr (inr (inr (inr (inr (is, at))))))) =
      inr (inr (inr (inr (inr (inr (is, instance_also chip also are (instance_word words) fault at))))))

  one_of_chip : (chip : LinkedChip) → NamesOne chip → (fault other : Fault) → AtOwn words given chip fault → AtOwn words given chip other → fault ≡ other
  one_of_chip chip one fault other (inl (is, here)) (inr (inr (inr (inr (inr (inl (too, there))))))) = absurd (flatten_or_verify words is too)
  one_of_chip chip one fault other (inr (inr (inr (inr (inr (inl (is, here))))))) (inl (too, there)) = absurd (flatten_or_verify words too is)
  one_of_chip chip one fault other (inr (inl (is, here))) (inr (inr (inr (inr (inr (inl (too, there))))))) = absurd (simulate_or_verify words is too)
  one_of_chip chip one fault other (inr (inr (inr (inr (inr (inl (is, here))))))) (inr (inl (too, there))) = absurd (simulate_or_verify words too is)
  one_of_chip chip one fault other (inr (inr (inl (is, here)))) (inr (inr (inr (inr (inr (inl (too, there))))))) = absurd (replay_or_verify words is too)
  one_of_chip chip one fault other (inr (inr (inr (inr (inr (inl (is, here))))))) (inr (inr (inl (too, there)))) = absurd (replay_or_verify words too is)
  one_of_chip chip one fault other (inr (inr (inr (inl (is, here))))) (inr (inr (inr (inr (inr (inl (too, there))))))) = absurd (grade_or_verify words is too)
  one_of_chip chip one fault other (inr (inr (inr (inr (inr (inl (is, here))))))) (inr (inr (inr (inl (too, there))))) = absurd (grade_or_verify words too is)
  one_of_chip chip one fault other (inr (inr (inr (inr (inl (is, here)))))) (inr (inr (inr (inr (inr (inl (too, there))))))) = absurd (diagnose_or_verify words is too)
  one_of_chip chip one fault other (inr (inr (inr (inr (inr (inl (is, here))))))) (inr (inr (inr (inr (inl (too, there)))))) = absurd (diagnose_or_verify words too is)
  one_of_chip chip one fault other (inr (inr (inr (inr (inr (inl (is, here))))))) (inr (inr (inr (inr (inr (inl (too, there))))))) =
      one_verification chip (stil_word words) (cert_word words) given fault other here there
  one_of_chip chip one fault other (inl (is, here)) (inl (too, there)) =
      one_defect chip (instance_word words) (chip_defect_word words) fault other here there
  one_of_chip chip one fault other (inl (is, here)) (inr (inl (too, there))) = absurd (flatten_or_simulate words is too)
  one_of_chip chip one fault other (inl (is, here)) (inr (inr (inl (too, there)))) = absurd (flatten_or_replay words is too)
  one_of_chip chip one fault other (inl (is, here)) (inr (inr (inr (inl (too, there))))) = absurd (flatten_or_grade words is too)
  one_of_chip chip one fault other (inl (is, here)) (inr (inr (inr (inr (inl (too, there)))))) = absurd (flatten_or_diagnose words is too)
  one_of_chip chip one fault other (inr (inl (is, here))) (inl (too, there)) = absurd (flatten_or_simulate words too is)
  one_of_chip chip one fault other (inr (inl (is, here))) (inr (inl (too, there))) =
      one_pair chip (instance_word words) (chip_defect_word words) (chip_first_word words) (chip_last_word words) fault other here there
  one_of_chip chip one fault other (inr (inl (is, here))) (inr (inr (inl (too, there)))) = absurd (simulate_or_replay words is too)
  one_of_chip chip one fault other (inr (inl (is, here))) (inr (inr (inr (inl (too, there))))) = absurd (simulate_or_grade words is too)
  one_of_chip chip one fault other (inr (inl (is, here))) (inr (inr (inr (inr (inl (too, there)))))) = absurd (simulate_or_diagnose words is too)
  one_of_chip chip one fault other (inr (inr (inl (is, here)))) (inl (too, there)) = absurd (flatten_or_replay words too is)
  one_of_chip chip one fault other (inr (inr (inl (is, here)))) (inr (inl (too, there))) = absurd (simulate_or_replay words too is)
  one_of_chip chip one fault other (inr (inr (inl (is, here)))) (inr (inr (inr (inl (too, there))))) = absurd (replay_or_grade words is too)
  one_of_chip chip one fault other (inr (inr (inl (is, here)))) (inr (inr (inr (inr (inl (too, there)))))) = absurd (replay_or_diagnose words is too)
  one_of_chip chip one fault other (inr (inr (inr (inl (is, here))))) (inl (too, there)) = absurd (flatten_or_grade words too is)
  one_of_chip chip one fault other (inr (inr (inr (inl (is, here))))) (inr (inl (too, there))) = absurd (simulate_or_grade words too is)
  one_of_chip chip one fault other (inr (inr (inr (inl (is, here))))) (inr (inr (inl (too, there)))) = absurd (replay_or_grade words too is)
  one_of_chip chip one fault other (inr (inr (inr (inl (is, here))))) (inr (inr (inr (inl (too, there))))) =
      one_patterns chip (stil_word words) given fault other here there
  one_of_chip chip one fault other (inr (inr (inr (inl (is, here))))) (inr (inr (inr (inr (inl (too, there)))))) = absurd (grade_or_diagnose words is too)
  one_of_chip chip one fault other (inr (inr (inr (inr (inl (is, here)))))) (inl (too, there)) = absurd (flatten_or_diagnose words too is)
  one_of_chip chip one fault other (inr (inr (inr (inr (inl (is, here)))))) (inr (inl (too, there))) = absurd (simulate_or_diagnose words too is)
  one_of_chip chip one fault other (inr (inr (inr (inr (inl (is, here)))))) (inr (inr (inl (too, there)))) = absurd (replay_or_diagnose words too is)
  one_of_chip chip one fault other (inr (inr (inr (inr (inl (is, here)))))) (inr (inr (inr (inl (too, there))))) = absurd (grade_or_diagnose words too is)
  one_of_chip chip one fault other (inr (inr (inr (inr (inl (is, here)))))) (inr (inr (inr (inr (inl (too, there)))))) =
      one_diagnosis chip (stil_word words) (log_word words) given fault other here there
  one_of_chip chip one fault other (inr (inr (inl (is, here)))) (inr (inr (inl (too, there)))) =
      one_at_run chip one (instance_word words) (chip_defect_word words) (chip_first_word words) (chip_last_word words) (order_word words) given
      fault other here there
  one_of_chip chip one fault other (inl (is, here)) (inr (inr (inr (inr (inr (inr (too, there))))))) = absurd (flatten_or_bridges words is too)
  one_of_chip chip one fault other (inr (inr (inr (inr (inr (inr (is, here))))))) (inl (too, there)) = absurd (flatten_or_bridges words too is)
  one_of_chip chip one fault other (inr (inl (is, here))) (inr (inr (inr (inr (inr (inr (too, there))))))) = absurd (simulate_or_bridges words is too)
  one_of_chip chip one fault other (inr (inr (inr (inr (inr (inr (is, here))))))) (inr (inl (too, there))) = absurd (simulate_or_bridges words too is)
  one_of_chip chip one fault other (inr (inr (inl (is, here)))) (inr (inr (inr (inr (inr (inr (too, there))))))) = absurd (replay_or_bridges words is too)
  one_of_chip chip one fault other (inr (inr (inr (inr (inr (inr (is, here))))))) (inr (inr (inl (too, there)))) = absurd (replay_or_bridges words too is)
  one_of_chip chip one fault other (inr (inr (inr (inl (is, here))))) (inr (inr (inr (inr (inr (inr (too, there))))))) = absurd (grade_or_bridges words is too)
  one_of_chip chip one fault other (inr (inr (inr (inr (inr (inr (is, here))))))) (inr (inr (inr (inl (too, there))))) = absurd (grade_or_bridges words too is)
  one_of_chip chip one fault other (inr (inr (inr (inr (inl (is, here)))))) (inr (inr (inr (inr (inr (inr (too, there))))))) = absurd (diagnose_or_bridges words is too)
  one_of_chip chip one fault other (inr (inr (inr (inr (inr (inr (is, here))))))) (inr (inr (inr (inr (inl (too, there)))))) = absurd (diagnose_or_bridges words too is)
  one_of_chip chip one fault other (inr (inr (inr (inr (inr (inl (is, here))))))) (inr (inr (inr (inr (inr (inr (too, there))))))) = absurd (verify_or_bridges words is too)
  one_of_chip chip one fault other (inr (inr (inr (inr (inr (inr (is, here))))))) (inr (inr (inr (inr (inr (inl (too, there))))))) = absurd (verify_or_bridges words too is)
  one_of_chip chip one fault other (inr (inr (inr (inr (inr (inr (is, here))))))) (inr (inr (inr (inr (inr (inr (too, there))))))) = one_instance chip (instance_word words) fault other here there

  one_own : (fault other : Fault) → AreReadAs (chip_files words) given (IsOwn words given fault)
      → AreReadAs (chip_files words) given (IsOwn words given other) → fault ≡ other
  one_own fault other (inputs, (read, here)) also =
      let there = one_read (chip_files words) given (IsOwn words given other) inputs read also in
      let one = one_chip inputs there.chip here.chip there.is here.is in
      one_of_chip here.chip (names_one (chip_files words) inputs given here.chip read here.is) fault other here.at
      (own_also there.chip here.chip one other there.at)

  -- what is reported of a command on a chip is one fault
  pub one_at_chip : (fault other : Fault) → AtChipWords words given fault → AtChipWords words given other → IsSame fault other
  one_at_chip = one_of IsSame (AtLoad (chip_files words) given) (λ fault. AreReadAs (chip_files words) given (IsOwn words given fault))
      (one_load (chip_files words) given)
      (λ fault other here there. inl (one_own fault other here there))
      (λ fault other here there. no_load (chip_files words) given there.0 there.1.0 there.1.1.chip there.1.1.is there.1.1.traced fault here)

-- a fault that has pairs is none of input
pub pairs_input : (fault : Fault) → IsInputFault fault → IsPairsFault fault → ⊥
pairs_input (TooManyPairs pairs aims) is many = is
pairs_input fault is many = many

-- what is known of the store, where it has the given files
module _ (words : List (List ℕ)) (files : Option Files) (reported : Files) (are : files ≡ Some reported) (given : Files)
    (agree : (name : List ℕ) → IsInputFile words name → reported name ≡ given name) (chip : IsOnChip words) where
  of_names : (name : List ℕ) → IsChipFile (chip_files words) name → reported name ≡ given name
  of_names name is = agree name (inr (inl (chip, is)))

  -- what is said of the chip of the files is said of the given ones
  of_chip : (Holds : LinkedChip → Type 0) → OfChip files (chip_files words) Holds → AreReadAs (chip_files words) given (GiveChipWith Holds)
  of_chip Holds held =
      let found = held reported are in
      (found.0, (read_given files reported are (chip_files words) given of_names found.0 found.1.0, found.1.1))

  own_of : (Holds : LinkedChip → Type 0) (fault : Fault) → ((chip : LinkedChip) → Holds chip → AtOwn words given chip fault) → OfChip files (chip_files words) Holds
      → AreReadAs (chip_files words) given (IsOwn words given fault)
  own_of Holds fault next held =
      let found = of_chip Holds held in
      let it = found.1.1 in
      (found.0, (found.1.0, record { chip = it.chip; is = it.is; traced = it.traced; at = next it.chip it.holds }))

  module _ (before after : ℕ) where
    of_order : IsReplay words → (fault : Fault) → IsInputFault fault
        → IsOrderCause (chip_files words) (instance_word words) (chip_defect_word words) (chip_first_word words) (chip_last_word words)
        (order_word words) files before after fault
        → AreReadAs (chip_files words) given (IsOwn words given fault)
    of_order replay (Order line) is held =
        own_of _ (Order line) (λ chip there. inr (inr (inl (replay, inr (by chip there))))) held
      where
        same : reported (order_word words) ≡ given (order_word words)
        same = agree (order_word words) (inr (inr (inl (replay, refl))))

        run_in : (chip : LinkedChip) (file : Option (List ℕ)) → IsSomeAnd file (λ bytes. (length bytes ≤ MAX_ORDER)
            × HasFaultyLine (instance_word words) (chip_defect_word words) (chip_first_word words) (chip_last_word words) line chip bytes)
            → HasRun (instance_word words) (chip_defect_word words) (chip_first_word words) (chip_last_word words) chip
        run_in chip None there = absurd there
        run_in chip (Some bytes) there = (there.1.run, there.1.asked)

        by : (chip : LinkedChip) → OfFile files (order_word words) MAX_ORDER
            (HasFaultyLine (instance_word words) (chip_defect_word words) (chip_first_word words) (chip_last_word words) line chip)
            → AtOrder (instance_word words) (chip_defect_word words) (chip_first_word words) (chip_last_word words) (order_word words) given chip (Order line)
        by chip there =
            let P : List ℕ → Type 0 =
            HasFaultyLine (instance_word words) (chip_defect_word words) (chip_first_word words) (chip_last_word words) line chip in
            let file = of_file files reported are (order_word words) (given (order_word words)) same MAX_ORDER P there in (
              run_in chip (given (order_word words)) file,
              of_bytes MAX_ORDER (order_word words)
                  (ReportsLine (instance_word words) (chip_defect_word words) (chip_first_word words) (chip_last_word words) chip)
                  (given (order_word words)) P (Order line) (λ bytes faulty. (line, (refl, faulty))) file,
            )
    of_order replay fault is (held, read) = own_of (HasRun (instance_word words) (chip_defect_word words) (chip_first_word words) (chip_last_word words))
        fault (λ chip run. inr (inr (inl (
          replay,
          inr (
            run,
            of_read files reported are (order_word words) (given (order_word words))
                (agree (order_word words) (inr (inr (inl (replay, refl))))) MAX_ORDER
                (ReportsLine (instance_word words) (chip_defect_word words) (chip_first_word words) (chip_last_word words) chip) before after fault is read,
          ),
        )))) held

    -- what is said of the chip of the files and its chains is said of the given ones
    own_traced : (Holds : LinkedChip → List (List ℕ) → Type 0) (fault : Fault)
        → ((chip : LinkedChip) (chains : List (List ℕ)) → AreAllChains chip chains → Holds chip chains → AtOwn words given chip fault)
        → OfTraced files (chip_files words) Holds → AreReadAs (chip_files words) given (IsOwn words given fault)
    own_traced Holds fault next held =
        let found = held reported are in
        let it = found.1.1 in (
          found.0,
          (
            read_given files reported are (chip_files words) given of_names found.0 found.1.0,
            record { chip = it.chip; is = it.is; traced = (it.chains, it.all); at = next it.chip it.chains it.all it.holds },
          ),
        )

    -- what is said of the file of patterns, which is one that the command reads
    of_patterns : reported (stil_word words) ≡ given (stil_word words) → (fault : Fault)
        → ((chip : LinkedChip) → AtPatterns (stil_word words) given chip fault → AtOwn words given chip fault) → IsInputFault fault
        → IsPatternsCause (chip_files words) (stil_word words) files before after fault
        → AreReadAs (chip_files words) given (IsOwn words given fault)
    of_patterns same fault next is (inl (held, read)) = own_traced _ fault (λ chip chains all there. next chip
        (of_read files reported are (stil_word words) (given (stil_word words)) same MAX_STIL (ReportsStil chip) before after fault is read)) held
    of_patterns same fault next is (inr (word, held)) =
        own_traced (λ chip chains. OfFile files (stil_word words) MAX_STIL (IsStilCause chip chains fault)) fault
        (λ chip chains all there. next chip
        (of_bytes MAX_STIL (stil_word words) (ReportsStil chip) (given (stil_word words)) (IsStilCause chip chains fault) fault
        (λ bytes cause. (chains, (all, cause)))
        (of_file files reported are (stil_word words) (given (stil_word words)) same MAX_STIL (IsStilCause chip chains fault) there))) held

    -- and of right patterns
    of_right : reported (stil_word words) ≡ given (stil_word words) → (chip : LinkedChip) (chains : List (List ℕ)) (Holds Wanted : StilFile → Type 0)
        → ((file : StilFile) → Holds file → Wanted file)
        → OfFile files (stil_word words) MAX_STIL (HasRight chip chains Holds)
        → IsSomeAnd (given (stil_word words)) (λ bytes. (length bytes ≤ MAX_STIL) × HasRight chip chains Wanted bytes)
    of_right agreed chip chains Holds Wanted next held = by (given (stil_word words))
        (of_file files reported are (stil_word words) (given (stil_word words)) agreed MAX_STIL (HasRight chip chains Holds) held)
      where
        by : (file : Option (List ℕ)) → IsSomeAnd file (λ bytes. (length bytes ≤ MAX_STIL) × HasRight chip chains Holds bytes)
            → IsSomeAnd file (λ bytes. (length bytes ≤ MAX_STIL) × HasRight chip chains Wanted bytes)
        by None there = there
        by (Some bytes) (within, right) = (
          within,
          record {
            file = right.file;
            is = right.is;
            few = right.few;
            right = right.right;
            holds = next right.file right.holds;
          },
        )

    of_log : IsDiagnose words → (fault : Fault) → IsInputFault fault
        → IsLogCause (chip_files words) (stil_word words) (log_word words) files before after fault
        → AreReadAs (chip_files words) given (IsOwn words given fault)
    of_log diagnose fault is cause = by cause
      where
        same : reported (log_word words) ≡ given (log_word words)
        same = agree (log_word words) (inr (inr (inr (inr (inl (diagnose, inr refl))))))

        own : (chip : LinkedChip) (chains : List (List ℕ)) (Holds : StilFile → Type 0) → AreAllChains chip chains
            → ((file : StilFile) → Holds file → AtFile MAX_LOG (log_word words) (IsBadLog chip file.expected) (given (log_word words)) fault)
            → OfFile files (stil_word words) MAX_STIL (HasRight chip chains Holds) → AtOwn words given chip fault
        own chip chains Holds all next there = inr (inr (inr (inr (inl (
          diagnose,
          inr (record {
            chains = chains;
            all = all;
            at = of_right (agree (stil_word words) (inr (inr (inr (inr (inl (diagnose, inl refl))))))) chip chains Holds
                (λ file. AtFile MAX_LOG (log_word words) (IsBadLog chip file.expected) (given (log_word words)) fault) next there;
          }),
        )))))

        by : IsLogCause (chip_files words) (stil_word words) (log_word words) files before after fault
            → AreReadAs (chip_files words) given (IsOwn words given fault)
        by (inl (held, read)) = own_traced (λ chip chains. OfFile files (stil_word words) MAX_STIL (HasRight chip chains (λ file. Unit {0}))) fault
            (λ chip chains all there. own chip chains (λ file. Unit {0}) all
            (λ file holds. of_read files reported are (log_word words) (given (log_word words)) same MAX_LOG (IsBadLog chip file.expected)
            before after fault is read) there) held
        by (inr (word, held)) = own_traced (λ chip chains. OfFile files (stil_word words) MAX_STIL
            (HasRight chip chains (λ file. OfFile files (log_word words) MAX_LOG (IsBadLog chip file.expected fault)))) fault
            (λ chip chains all there. own chip chains (λ file. OfFile files (log_word words) MAX_LOG (IsBadLog chip file.expected fault)) all
            (λ file holds. of_bytes MAX_LOG (log_word words) (IsBadLog chip file.expected) (given (log_word words)) (IsBadLog chip file.expected fault)
            fault (λ bytes bad. bad)
            (of_file files reported are (log_word words) (given (log_word words)) same MAX_LOG (IsBadLog chip file.expected fault) holds)) there) held

    of_cert : IsVerify words → (fault : Fault) → IsInputFault fault
        → IsCertCause (chip_files words) (stil_word words) (cert_word words) files before after fault
        → AreReadAs (chip_files words) given (IsOwn words given fault)
    of_cert verify fault is cause = by cause
      where
        same : reported (cert_word words) ≡ given (cert_word words)
        same = agree (cert_word words) (inr (inr (inr (inr (inr (verify, inr refl))))))

        own : (chip : LinkedChip) (chains : List (List ℕ)) (Holds : StilFile → Type 0) → AreAllChains chip chains
            → ((file : StilFile) → Holds file → AtFile MAX_CERT (cert_word words) (IsBadCert chip) (given (cert_word words)) fault)
            → OfFile files (stil_word words) MAX_STIL (HasRight chip chains Holds) → AtOwn words given chip fault
        own chip chains Holds all next there = inr (inr (inr (inr (inr (inl (
          verify,
          inr (record {
            chains = chains;
            all = all;
            at = of_right (agree (stil_word words) (inr (inr (inr (inr (inr (verify, inl refl))))))) chip chains Holds
                (λ file. AtFile MAX_CERT (cert_word words) (IsBadCert chip) (given (cert_word words)) fault) next there;
          }),
        ))))))

        by : IsCertCause (chip_files words) (stil_word words) (cert_word words) files before after fault
            → AreReadAs (chip_files words) given (IsOwn words given fault)
        by (inl (held, read)) = own_traced (λ chip chains. OfFile files (stil_word words) MAX_STIL (HasRight chip chains (λ file. Unit {0}))) fault
            (λ chip chains all there. own chip chains (λ file. Unit {0}) all
            (λ file holds. of_read files reported are (cert_word words) (given (cert_word words)) same MAX_CERT (IsBadCert chip)
            before after fault is read) there) held
        by (inr (word, held)) = own_traced (λ chip chains. OfFile files (stil_word words) MAX_STIL
            (HasRight chip chains (λ file. OfFile files (cert_word words) MAX_CERT (IsBadCert chip fault)))) fault
            (λ chip chains all there. own chip chains (λ file. OfFile files (cert_word words) MAX_CERT (IsBadCert chip fault)) all
            (λ file holds. of_bytes MAX_CERT (cert_word words) (IsBadCert chip) (given (cert_word words)) (IsBadCert chip fault)
            fault (λ bytes bad. bad)
            (of_file files reported are (cert_word words) (given (cert_word words)) same MAX_CERT (IsBadCert chip fault) holds)) there) held

    of_own : (fault : Fault) → IsInputFault fault → IsOwnCause words files before after fault
        → AreReadAs (chip_files words) given (IsOwn words given fault)
    of_own fault is (inl (flatten, (word, held))) =
        own_of _ fault (λ chip cause. inl (flatten, of_defect (instance_word words) (chip_defect_word words) chip fault cause)) held
    of_own fault is (inr (inl (simulate, (word, held)))) =
        own_of (IsSimulationCause (instance_word words) (chip_defect_word words) (chip_first_word words) (chip_last_word words) fault) fault
        (λ chip cause. inr (inl (
          simulate,
          of_simulation (instance_word words) (chip_defect_word words) (chip_first_word words) (chip_last_word words)
              chip fault cause,
        ))) held
    of_own fault is (inr (inr (inl (atpg, cause)))) = absurd (pairs_input fault is cause.many.0)
    of_own fault is (inr (inr (inr (inr (inl (grade, cause)))))) =
        of_patterns (agree (stil_word words) (inr (inr (inr (inl (grade, refl)))))) fault (λ chip at. inr (inr (inr (inl (grade, at))))) is cause
    of_own fault is (inr (inr (inr (inr (inr (inl (diagnose, inl cause))))))) =
        of_patterns (agree (stil_word words) (inr (inr (inr (inr (inl (diagnose, inl refl))))))) fault
        (λ chip at. inr (inr (inr (inr (inl (diagnose, inl at)))))) is cause
    of_own fault is (inr (inr (inr (inr (inr (inl (diagnose, inr cause))))))) = of_log diagnose fault is cause
    of_own fault is (inr (inr (inr (inr (inr (inr (inl (certify, cause)))))))) = absurd (pairs_input fault is cause.many.0)
    of_own fault is (inr (inr (inr (inr (inr (inr (inr (inl (verify, inl cause))))))))) =
        of_patterns (agree (stil_word words) (inr (inr (inr (inr (inr (verify, inl refl))))))) fault
        (λ chip at. inr (inr (inr (inr (inr (inl (verify, inl at))))))) is cause
    of_own fault is (inr (inr (inr (inr (inr (inr (inr (inl (verify, inr cause))))))))) = of_cert verify fault is cause
    of_own fault is (inr (inr (inr (inr (inr (inr (inr (inr (bridges, (word, held)))))))))) =
        own_of (λ chip. IsInstanceCause chip (instance_word words) fault) fault
        (λ chip cause. inr (inr (inr (inr (inr (inr (bridges, of_instance (instance_word words) chip fault cause))))))) held
    of_own fault is (inr (inr (inr (inl (replay, inl (word, held)))))) =
        own_of (IsSimulationCause (instance_word words) (chip_defect_word words) (chip_first_word words) (chip_last_word words) fault) fault
        (λ chip cause. inr (inr (inl (
          replay,
          inl (of_simulation (instance_word words) (chip_defect_word words) (chip_first_word words) (chip_last_word words)
              chip fault cause),
        )))) held
    of_own fault is (inr (inr (inr (inl (replay, inr order))))) = of_order replay fault is order

    -- what the store has is reported of the given files
    pub of_work : (fault : Fault) → IsInputFault fault
        → IsLoadCause (chip_files words) files before after fault ⊎ IsOwnCause words files before after fault → AtChipWords words given fault
    of_work fault is (inl load) = inl (of_load files reported are (chip_files words) given of_names before after fault is load)
    of_work fault is (inr own) = inr (of_own fault is own)
