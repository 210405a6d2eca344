use Rattle.ca_lex.proofs.GrammarLemmas.{length_found, length_only}
use Rattle.ca_lex.proofs.laws.length_grammar.Goals as goal

pub returns-clause-found : goal.returns-clause-found
returns-clause-found c = length_found

pub returns-clause-only : goal.returns-clause-only
returns-clause-only c = length_only
