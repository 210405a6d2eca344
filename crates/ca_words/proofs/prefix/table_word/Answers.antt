use Rattle.std.proofs.Common.{rules, sym, ap, ◌∙◌, map, Some}
use Rattle.std.specs.String.{string_bytes}
use Rattle.ca_words.specs.code.Prefix.{NamesTable}
use Rattle.ca_words.proofs.PrefixLemmas.{typed_table, two_typed, no_table}
use Rattle.ca_words.proofs.prefix.table_word.Goals as goal

pub returns-then-names_table : goal.returns-then-names_table
returns-then-names_table c =
    let named : NamesTable (map string_bytes c.args.words.now) = search rules in
    ap Some c.as_str.ensures.value
    ∙ sym (typed_table string_bytes c.args.words.now c.index-words-1.result named c.index-words-1.is (two_typed string_bytes c.args.words.now named))

pub returns-else-names_table : goal.returns-else-names_table
returns-else-names_table c =
    let none : ¬ (NamesTable (map string_bytes c.args.words.now)) = search rules in
    sym (no_table (map string_bytes c.args.words.now) none)
