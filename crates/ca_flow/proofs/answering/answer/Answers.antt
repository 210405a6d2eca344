use Rattle.std.proofs.Common.{refl}
use Rattle.ca_flow.proofs.answering.answer.Goals as goal

pub returns-clause-answers : goal.returns-clause-answers
returns-clause-answers g c = record {
  end = c.run-end.result;
  ends = c.run-end.ensures.ends;
  status_is = refl;
  reports = c.tell_end.ensures;
}
