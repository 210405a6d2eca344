use Rattle.std.proofs.Common.{rules, arith, ◌≡◌, length, map, sym}
use Rattle.std.specs.String.{string_bytes}
use Rattle.ca_words.proofs.WordLemmas.{word_of, count_is}
use Rattle.ca_words.proofs.words.parse_defects.Goals as goal

pub returns-then-are_cell_files-clause-found : goal.returns-then-are_cell_files-clause-found
returns-then-are_cell_files-clause-found c =
    let three : length c.command_words.result.now ≡ 3 = omega (arith, c.in-len3.len_at_least, c.in-len3.len_below) in
    let table = sym c.table_word-table.ensures in
    let command = word_of string_bytes (map string_bytes c.args.words.now) c.command_words.result.now c.command_words.ensures 0 c.command-item.result (omega (arith, three)) c.command-item.is in
    let cells = word_of string_bytes (map string_bytes c.args.words.now) c.command_words.result.now c.command_words.ensures 1 c.cells-item.result (omega (arith, three)) c.cells-item.is in
    let cell = word_of string_bytes (map string_bytes c.args.words.now) c.command_words.result.now c.command_words.ensures 2 c.cell-item.result (omega (arith, three)) c.cell-item.is in
    record {
      is = record {
        three = count_is string_bytes (map string_bytes c.args.words.now) c.command_words.result.now c.command_words.ensures _ three;
        command = rw command (search rules);
        files = rw (table, cells) (search rules);
      };
      of = record { files = rw (table, cells) (search rules); cell = rw cell (search rules) };
    }
