use Rattle.ca_lex.proofs.WordLemmas.{word_at}
use Rattle.ca_lex.proofs.words.first_word.Goals as goal

pub returns-clause-words : goal.returns-clause-words
returns-clause-words c = word_at c.args.text.now _ _ c.first_word_len.result c.requires c.first_word_len.ensures.len c.split_at.ensures.front c.split_at.ensures.back
