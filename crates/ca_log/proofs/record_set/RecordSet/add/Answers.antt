use Rattle.std.proofs.Common.{◌∙◌, ◌++◌, ◌∷◌, [], List, Bool, ap}
use Rattle.std.specs.Prelude.{if◌then◌else◌}
use Rattle.ca_log.specs.declared.record.LogRecord.{LogRecord}
use Rattle.ca_log.specs.LogText.{has_record}
use Rattle.ca_log.proofs.record_set.RecordSet.add.Goals as goal

pub returns : goal.returns
returns c =
    let keys = c.self.inside.records.keys in
    let missing = ap (has_record c.args.here) c.self.view_is ∙ c.requires in
    record {
      added = (c.in_ok-insert.ensures {u = tt}).keys
          ∙ ap (λ (test : Bool). if test then keys else keys ++ c.args.here ∷ []) missing
          ∙ ap (λ (log : List LogRecord). log ++ c.args.here ∷ []) c.self.view_is;
    }
