use Rattle.std.proofs.Common.{rules, sym, ap, ◌∙◌, map}
use Rattle.std.specs.String.{string_bytes}
use Rattle.std.proofs.lemmas.List.{take_rest}
use Rattle.ca_words.specs.code.Prefix.{NamesTable}
use Rattle.ca_words.proofs.PrefixLemmas.{typed_words, all_words}
use Rattle.ca_words.proofs.prefix.command_words.Goals as goal

pub returns-then-names_table : goal.returns-then-names_table
returns-then-names_table c =
    let named : NamesTable (map string_bytes c.args.words.now) = search rules in
    ap (map string_bytes) (take_rest c.args.words.now 2) ∙ typed_words string_bytes c.args.words.now named

pub returns-else-names_table : goal.returns-else-names_table
returns-else-names_table c =
    let none : ¬ (NamesTable (map string_bytes c.args.words.now)) = search rules in
    sym (all_words (map string_bytes c.args.words.now) none)
