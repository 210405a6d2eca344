use Rattle.ca_scan.proofs.AnswerLemmas.{one_answer}
use Rattle.ca_scan.proofs.laws.chips_have_one_answer.Goals as goal

pub returns : goal.returns
returns c = one_answer
