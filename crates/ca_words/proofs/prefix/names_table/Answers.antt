use Rattle.std.proofs.Common.{rules, sym, ◌∙◌}
use Rattle.std.specs.String.{string_bytes}
use Rattle.ca_words.proofs.PrefixLemmas.{first_typed, named_typed}
use Rattle.ca_words.proofs.prefix.names_table.Goals as goal

pub returns-then-words-ge2 : goal.returns-then-words-ge2
returns-then-words-ge2 c =
    let first = first_typed string_bytes c.args.words.now c.index-words-0.result c.index-words-0.is c.if-words-ge2.true in (
      (λ is. named_typed string_bytes c.args.words.now c.index-words-0.result c.index-words-0.is c.if-words-ge2.true (search rules)),
      (λ named. let is = sym first ∙ named.first in search rules),
    )
