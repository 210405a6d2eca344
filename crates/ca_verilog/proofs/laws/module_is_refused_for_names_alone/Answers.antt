use Rattle.ca_verilog.proofs.LawLemmas.{found}
use Rattle.ca_verilog.proofs.NameRuleLemmas.{names_alone}
use Rattle.ca_verilog.proofs.laws.module_is_refused_for_names_alone.Goals as goal

pub returns : goal.returns
returns c = λ text line kind has reported. names_alone text line kind has (found text line kind reported)
