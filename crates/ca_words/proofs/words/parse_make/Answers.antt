use Rattle.std.proofs.Common.{rules, arith, ◌≡◌, length, subst, map}
use Rattle.std.specs.String.{string_bytes}
use Rattle.ca_words.specs.Budget.{IsChipNumber}
use Rattle.ca_words.proofs.WordLemmas.{word_of, count_is}
use Rattle.ca_words.proofs.words.parse_make.Goals as goal

pub returns-then-eq-clause-found : goal.returns-then-eq-clause-found
returns-then-eq-clause-found c =
    let two : length c.command_words.result.now ≡ 2 = omega (arith, c.in-len2.len_at_least, c.in-len2.len_below) in
    let command = word_of string_bytes (map string_bytes c.args.words.now) c.command_words.result.now c.command_words.ensures 0 c.command-item.result (omega (arith, two)) c.command-item.is in
    let word = word_of string_bytes (map string_bytes c.args.words.now) c.command_words.result.now c.command_words.ensures 1 c.word-item.result (omega (arith, two)) c.word-item.is in
    record {
      is = record {
        no_table = search rules;
        two = count_is string_bytes (map string_bytes c.args.words.now) c.command_words.result.now c.command_words.ensures _ two;
        command = rw command (search rules);
        number = rw word (c.in-Some.number, search rules);
      };
      number_is = rw word (search rules);
    }

pub returns-in_default-chip_number_of-clause-none : goal.returns-in_default-chip_number_of-clause-none
returns-in_default-chip_number_of-clause-none c = λ _ is.
    let two : length c.command_words.result.now ≡ 2 = omega (arith, c.in-len2.len_at_least, c.in-len2.len_below) in
    let word_is = word_of string_bytes (map string_bytes c.args.words.now) c.command_words.result.now c.command_words.ensures 1 c.word-item.result (omega (arith, two)) c.word-item.is in
    let number = subst IsChipNumber word_is is.number in
    search rules
