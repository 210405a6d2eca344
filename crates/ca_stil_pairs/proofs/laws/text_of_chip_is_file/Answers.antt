use Rattle.ca_stil_pairs.proofs.FileLemmas.{file_of_text}
use Rattle.ca_stil_pairs.proofs.laws.text_of_chip_is_file.Goals as goal

pub returns : goal.returns
returns c = file_of_text
