use Rattle.std.proofs.Common.{rules, arith, ◌≡◌, length, map, sym}
use Rattle.std.specs.String.{string_bytes}
use Rattle.ca_words.proofs.WordLemmas.{word_of, count_is}
use Rattle.ca_words.proofs.chip_words.parse_check.Goals as goal

pub returns-then-are_chip_files-clause-found : goal.returns-then-are_chip_files-clause-found
returns-then-are_chip_files-clause-found c =
    let four : length c.command_words.result.now ≡ 4 = omega (arith, c.in-len4.len_at_least, c.in-len4.len_below) in
    let table = sym c.table_word-table.ensures in
    let command = word_of string_bytes (map string_bytes c.args.words.now) c.command_words.result.now c.command_words.ensures 0 c.command-item.result (omega (arith, four)) c.command-item.is in
    let cells = word_of string_bytes (map string_bytes c.args.words.now) c.command_words.result.now c.command_words.ensures 1 c.cells-item.result (omega (arith, four)) c.cells-item.is in
    let netlist = word_of string_bytes (map string_bytes c.args.words.now) c.command_words.result.now c.command_words.ensures 2 c.netlist-item.result (omega (arith, four)) c.netlist-item.is in
    let scan = word_of string_bytes (map string_bytes c.args.words.now) c.command_words.result.now c.command_words.ensures 3 c.scan-item.result (omega (arith, four)) c.scan-item.is in
    record {
      is = record {
        four = count_is string_bytes (map string_bytes c.args.words.now) c.command_words.result.now c.command_words.ensures _ four;
        command = rw command (search rules);
        files = rw (table, cells, netlist, scan) (search rules);
      };
      files = rw (table, cells, netlist, scan) (search rules);
    }
