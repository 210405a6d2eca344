use Rattle.ca_lex.proofs.FirstFaultLemmas.{found, only}
use Rattle.ca_lex.proofs.laws.first_fault.Goals as goal

pub returns-clause-found : goal.returns-clause-found
returns-clause-found g c = λ step start items fault reported. found step start items fault reported

pub returns-clause-only : goal.returns-clause-only
returns-clause-only g c = λ step start items fault first. only step start items fault first
