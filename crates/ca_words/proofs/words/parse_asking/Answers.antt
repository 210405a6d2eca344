use Rattle.std.proofs.Common.{rules, arith, ◌≡◌, length, map}
use Rattle.std.specs.String.{string_bytes}
use Rattle.ca_words.proofs.WordLemmas.{word_of, count_is}
use Rattle.ca_words.proofs.words.parse_asking.Goals as goal

pub returns-then-eq-clause-found : goal.returns-then-eq-clause-found
returns-then-eq-clause-found c =
    let one : length c.command_words.result.now ≡ 1 = omega (arith, c.in-len1.len_at_least, c.in-len1.len_below) in
    let word = word_of string_bytes (map string_bytes c.args.words.now) c.command_words.result.now c.command_words.ensures 0 c.word-item.result (omega (arith, one)) c.word-item.is in
    record { no_table = search rules; one = count_is string_bytes (map string_bytes c.args.words.now) c.command_words.result.now c.command_words.ensures _ one; command = rw word (search rules) }

pub returns-then-eq-2-clause-found : goal.returns-then-eq-2-clause-found
returns-then-eq-2-clause-found c =
    let one : length c.command_words.result.now ≡ 1 = omega (arith, c.in-len1.len_at_least, c.in-len1.len_below) in
    let word = word_of string_bytes (map string_bytes c.args.words.now) c.command_words.result.now c.command_words.ensures 0 c.word-item.result (omega (arith, one)) c.word-item.is in
    record { no_table = search rules; one = count_is string_bytes (map string_bytes c.args.words.now) c.command_words.result.now c.command_words.ensures _ one; command = rw word (search rules) }
