use Rattle.ca_csv.proofs.FieldLemmas.{written_is_text}
use Rattle.ca_csv.proofs.number.decimal_number.Goals as goal

pub returns-in_default : goal.returns-in_default
returns-in_default c = λ number few is. c.in_default.ensures.cases.0
    (written_is_text c.args.word.now number few is)
