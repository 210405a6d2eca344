use Rattle.std.proofs.Common.{◌≡◌, ◌≢◌, inl, ℕ, List, subst, sym}
use Rattle.ca_load.specs.Texts.{names_of}
use Rattle.ca_load.proofs.LinkLemmas.{handed_on}
use Rattle.ca_fault.specs.declared.fault.Fault.TheVariants.{NoMemory, SinkFailed}
use Rattle.ca_words.specs.Command.{IsSpelled, IsSpelledDefects, IsSpelledSimulate}
use Rattle.ca_words.specs.Command.{IsSpelledAtpg, IsSpelledMake}
use Rattle.ca_flow.specs.declared.finished.Done.TheVariants.{Atpg}
use Rattle.ca_flow.specs.declared.work.Work.{Work}
use Rattle.ca_flow.specs.Ends.{IsAsked}
use Rattle.ca_flow.specs.Fault.{IsWorkCause}
use Rattle.ca_flow.proofs.CauseLemmas.{defects_asked, simulate_cause, no_check_sink}
use Rattle.ca_flow.proofs.CauseLemmas.{no_ends_sink, ok_then, err_then}
use Rattle.ca_flow.proofs.CauseLemmas.{atpg_asked, atpg_cause, no_tests_sink, make_asked, make_cause, no_make_sink}
use Rattle.ca_flow.proofs.top.work_of.Goals as goal

pub returns-in_ok-find_names-in-Defects-clause-asked : goal.returns-in_ok-find_names-in-Defects-clause-asked
returns-in_ok-find_names-in-Defects-clause-asked g c = λ words spelled.
    let said : IsSpelledDefects words c.in-Defects.request = subst (IsSpelled words) c.in-Defects.is spelled in
    rw c.printed-in-Defects.ensures.done
    (defects_asked words c.in-Defects.request (g.S.Store.files c.args.store.now) c.in_ok-find_names-in-Defects.field-0 said
    (c.in_ok-find_names-in-Defects.ensures).names)

pub returns-in_err-chip-in-Simulate-clause-cause : goal.returns-in_err-chip-in-Simulate-clause-cause
returns-in_err-chip-in-Simulate-clause-cause g c =
    let files = g.S.Store.files c.args.store.now in
    let before = g.S.Store.faults c.args.store.now in
    let after = g.S.Store.faults c.find_simulation.new.store in
    let request = c.in-Simulate.request in
    let fault = c.in_err-chip-in-Simulate.field-0.0 in
    handed_on c.from_residual-in_err-chip-in-Simulate.result fault
    (λ fault. (words : List (List ℕ)) → IsSpelled words c.args.command.now → IsWorkCause words files before after fault)
    c.from_residual-in_err-chip-in-Simulate.ensures.1
    (λ words spelled.
    let said : IsSpelledSimulate words request = subst (IsSpelled words) c.in-Simulate.is spelled in
    simulate_cause words request files before after fault said (c.in_err-chip-in-Simulate.ensures).cause)

pub returns-in_err-chip-in-Simulate-clause-no_sink : goal.returns-in_err-chip-in-Simulate-clause-no_sink
returns-in_err-chip-in-Simulate-clause-no_sink g c =
    let request = c.in-Simulate.request in
    let fault = c.in_err-chip-in-Simulate.field-0.0 in
    handed_on c.from_residual-in_err-chip-in-Simulate.result fault (λ fault. fault ≢ SinkFailed)
    c.from_residual-in_err-chip-in-Simulate.ensures.1
    (no_ends_sink (names_of request.of.files) request.of.instance.now request.of.defect.now request.first.now
    request.last.now (g.S.Store.files c.args.store.now) (g.S.Store.faults c.args.store.now)
    (g.S.Store.faults c.find_simulation.new.store) fault (c.in_err-chip-in-Simulate.ensures).cause)

pub returns-in_err-chip-in-Check-clause-no_sink : goal.returns-in_err-chip-in-Check-clause-no_sink
returns-in_err-chip-in-Check-clause-no_sink g c =
    let fault = c.in_err-chip-in-Check.field-0.0 in
    handed_on c.from_residual-in_err-chip-in-Check.result fault (λ fault. fault ≢ SinkFailed)
    c.from_residual-in_err-chip-in-Check.ensures.1
    (no_check_sink (names_of c.in-Check.names) (g.S.Store.files c.args.store.now) (g.S.Store.faults c.args.store.now)
    (g.S.Store.faults c.load.new.store) fault (c.in_err-chip-in-Check.ensures).cause)

pub returns-in_err-find_tests-in-Atpg-clause-cause : goal.returns-in_err-find_tests-in-Atpg-clause-cause
returns-in_err-find_tests-in-Atpg-clause-cause g c =
    let files = g.S.Store.files c.args.store.now in
    let before = g.S.Store.faults c.args.store.now in
    let after = g.S.Store.faults c.find_tests.new.store in
    let request = c.in-Atpg.request in
    let fault = c.in_err-find_tests-in-Atpg.field-0.0 in
    handed_on c.from_residual-in_err-find_tests-in-Atpg.result fault
    (λ fault. (words : List (List ℕ)) → IsSpelled words c.args.command.now → IsWorkCause words files before after fault)
    c.from_residual-in_err-find_tests-in-Atpg.ensures.1
    (λ words spelled.
    let said : IsSpelledAtpg words request = subst (IsSpelled words) c.in-Atpg.is spelled in
    atpg_cause words request files before after fault said (c.in_err-find_tests-in-Atpg.ensures).cause)

pub returns-in_err-find_tests-in-Atpg-clause-no_sink : goal.returns-in_err-find_tests-in-Atpg-clause-no_sink
returns-in_err-find_tests-in-Atpg-clause-no_sink g c =
    let request = c.in-Atpg.request in
    let fault = c.in_err-find_tests-in-Atpg.field-0.0 in
    handed_on c.from_residual-in_err-find_tests-in-Atpg.result fault (λ fault. fault ≢ SinkFailed)
    c.from_residual-in_err-find_tests-in-Atpg.ensures.1
    (no_tests_sink (names_of request.files) request.budget (g.S.Store.files c.args.store.now)
    (g.S.Store.faults c.args.store.now) (g.S.Store.faults c.find_tests.new.store) fault
    (c.in_err-find_tests-in-Atpg.ensures).cause)

pub returns-in_ok-find_tests-in-Atpg-clause-asked : goal.returns-in_ok-find_tests-in-Atpg-clause-asked
returns-in_ok-find_tests-in-Atpg-clause-asked g c =
    let files = g.S.Store.files c.args.store.now in
    let found = c.in_ok-find_tests-in-Atpg.field-0 in
    let made = found.made in
    let request = c.in-Atpg.request in
    ok_then c.tests_work.result
    (λ (work : Work). work.done ≡ Atpg found.chip found.chains made.pairs made.aims made.verdicts)
    (λ (work : Work). (words : List (List ℕ)) → IsSpelled words c.args.command.now → IsAsked words files work.done)
    (λ work is words spelled.
    let said : IsSpelledAtpg words request = subst (IsSpelled words) c.in-Atpg.is spelled in
    subst (IsAsked words files) (sym is) (atpg_asked words request files found.chip found.chains made.pairs made.aims made.verdicts said
    (c.in_ok-find_tests-in-Atpg.ensures).chains (c.in_ok-find_tests-in-Atpg.ensures).chip (c.in_ok-find_tests-in-Atpg.ensures).good))
    c.tests_work.ensures.done

pub returns-in_ok-find_tests-in-Atpg-clause-cause : goal.returns-in_ok-find_tests-in-Atpg-clause-cause
returns-in_ok-find_tests-in-Atpg-clause-cause g c =
    let files = g.S.Store.files c.args.store.now in
    let before = g.S.Store.faults c.args.store.now in
    let after = g.S.Store.faults c.find_tests.new.store in
    let request = c.in-Atpg.request in
    err_then c.tests_work.result (λ fault. fault ≡ NoMemory)
    (λ fault. (words : List (List ℕ)) → IsSpelled words c.args.command.now → IsWorkCause words files before after fault)
    (λ fault is words spelled.
    let said : IsSpelledAtpg words request = subst (IsSpelled words) c.in-Atpg.is spelled in
    atpg_cause words request files before after fault said (inl (inl (inl (inl is)))))
    c.tests_work.ensures.cause

pub returns-in-Replay-clause-cause : goal.returns-in-Replay-clause-cause
returns-in-Replay-clause-cause g c = rw c.in-Replay.is c.replay_work.ensures.cause

pub returns-in_ok-chip-in-Make-clause-asked : goal.returns-in_ok-chip-in-Make-clause-asked
returns-in_ok-chip-in-Make-clause-asked g c = λ words spelled.
    let said : IsSpelledMake words c.in-Make.number = subst (IsSpelled words) c.in-Make.is spelled in
    let found = c.in_ok-chip-in-Make.field-0 in
    rw c.printed-in-Make.ensures.done
    (make_asked words c.in-Make.number (g.S.Store.files c.args.store.now) found.chip found.pairs found.aims found.verdicts said
    (c.in_ok-chip-in-Make.ensures).chip (c.in_ok-chip-in-Make.ensures).good)

pub returns-in_err-chip-in-Make-clause-cause : goal.returns-in_err-chip-in-Make-clause-cause
returns-in_err-chip-in-Make-clause-cause g c =
    let files = g.S.Store.files c.args.store.now in
    let before = g.S.Store.faults c.args.store.now in
    let fault = c.in_err-chip-in-Make.field-0.0 in
    handed_on c.from_residual-in_err-chip-in-Make.result fault
    (λ fault. (words : List (List ℕ)) → IsSpelled words c.args.command.now → IsWorkCause words files before before fault)
    c.from_residual-in_err-chip-in-Make.ensures.1
    (λ words spelled.
    let said : IsSpelledMake words c.in-Make.number = subst (IsSpelled words) c.in-Make.is spelled in
    make_cause words c.in-Make.number files before before fault said (c.in_err-chip-in-Make.ensures).cause)

pub returns-in_err-chip-in-Make-clause-no_sink : goal.returns-in_err-chip-in-Make-clause-no_sink
returns-in_err-chip-in-Make-clause-no_sink g c =
    let fault = c.in_err-chip-in-Make.field-0.0 in
    handed_on c.from_residual-in_err-chip-in-Make.result fault (λ fault. fault ≢ SinkFailed)
    c.from_residual-in_err-chip-in-Make.ensures.1
    (no_make_sink c.in-Make.number fault (c.in_err-chip-in-Make.ensures).cause)

pub returns-in-Diagnose-clause-cause : goal.returns-in-Diagnose-clause-cause
returns-in-Diagnose-clause-cause g c = rw c.in-Diagnose.is c.candidates_work.ensures.cause

pub returns-in-Grade-clause-cause : goal.returns-in-Grade-clause-cause
returns-in-Grade-clause-cause g c = rw c.in-Grade.is c.grades_work.ensures.cause

pub returns-in-Certify-clause-cause : goal.returns-in-Certify-clause-cause
returns-in-Certify-clause-cause g c = rw c.in-Certify.is c.certificate_work.ensures.cause

pub returns-in-Verify-clause-cause : goal.returns-in-Verify-clause-cause
returns-in-Verify-clause-cause g c = rw c.in-Verify.is c.answer_work.ensures.cause

pub returns-in-Bridges-clause-cause : goal.returns-in-Bridges-clause-cause
returns-in-Bridges-clause-cause g c = rw c.in-Bridges.is c.bridges_work.ensures.cause
