use Rattle.std.proofs.Common.{subst}
use Rattle.std.specs.Prelude.{ℕ, List, ◌<◌, ◌^◌, length, Result, Ok, Err, IfOk}
use Rattle.ca_net.specs.declared.trit.Trit.{Trit}
use Rattle.ca_log.specs.declared.record.LogRecord.{LogRecord}
use Rattle.ca_log.specs.declared.fault.LogFault.{LogFault}
use Rattle.ca_log.specs.LogText.{log_of, Reads, IsLog}
use Rattle.ca_csv.specs.Records.{text_records}
use Rattle.ca_log.proofs.KeptLemmas.{read_is_log}
use Rattle.ca_log.proofs.read.read_log.Goals as goal

-- where a log is answered, it is one
answered : (names : List (List ℕ)) (expected : List (List Trit)) (text : List ℕ) (answer : Result (List LogRecord) LogFault)
    → Reads answer (log_of names expected text) → IfOk answer (λ log. length log < 2 ^ 32) → IfOk answer (IsLog names expected)
answered names expected text (Ok log) reads few = read_is_log names expected (text_records text) log reads few
answered names expected text (Err fault) reads few = tt

pub returns-clause-log : goal.returns-clause-log
returns-clause-log c =
    answered c.args.names.now c.args.expected.now c.args.bytes.now c.log_after-log.result
    (subst (λ (names : List (List ℕ)). Reads c.log_after-log.result (log_of names c.args.expected.now c.args.bytes.now)) c.in_ok-lookup.ensures
    (c.log_after-log.ensures.reads (text_records c.args.bytes.now) c.reader_of-reader.ensures))
    c.log_after-log.ensures.few
