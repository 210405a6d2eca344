use Rattle.std.proofs.Common.{rules, arith, ◌≡◌, length, map, sym}
use Rattle.std.specs.String.{string_bytes}
use Rattle.ca_words.proofs.WordLemmas.{word_of, count_is}
use Rattle.ca_words.proofs.chip_words.parse_flatten.Goals as goal

pub returns-then-is_other_file-clause-found : goal.returns-then-is_other_file-clause-found
returns-then-is_other_file-clause-found c =
    let seven : length c.command_words.result.now ≡ 7 = omega (arith, c.in-len7.len_at_least, c.in-len7.len_below) in
    let table = sym c.table_word-table.ensures in
    let command = word_of string_bytes (map string_bytes c.args.words.now) c.command_words.result.now c.command_words.ensures 0 c.command-item.result (omega (arith, seven)) c.command-item.is in
    let cells = word_of string_bytes (map string_bytes c.args.words.now) c.command_words.result.now c.command_words.ensures 1 c.cells-item.result (omega (arith, seven)) c.cells-item.is in
    let netlist = word_of string_bytes (map string_bytes c.args.words.now) c.command_words.result.now c.command_words.ensures 2 c.netlist-item.result (omega (arith, seven)) c.netlist-item.is in
    let scan = word_of string_bytes (map string_bytes c.args.words.now) c.command_words.result.now c.command_words.ensures 3 c.scan-item.result (omega (arith, seven)) c.scan-item.is in
    let instance = word_of string_bytes (map string_bytes c.args.words.now) c.command_words.result.now c.command_words.ensures 4 c.instance-item.result (omega (arith, seven)) c.instance-item.is in
    let defect = word_of string_bytes (map string_bytes c.args.words.now) c.command_words.result.now c.command_words.ensures 5 c.defect-item.result (omega (arith, seven)) c.defect-item.is in
    let out = word_of string_bytes (map string_bytes c.args.words.now) c.command_words.result.now c.command_words.ensures 6 c.out-item.result (omega (arith, seven)) c.out-item.is in
    record {
      is = record {
        seven = count_is string_bytes (map string_bytes c.args.words.now) c.command_words.result.now c.command_words.ensures _ seven;
        command = rw command (search rules);
        files = rw (table, cells, netlist, scan) (search rules);
        defect = rw (instance, defect) (search rules);
        out = rw (table, out, cells, netlist, scan) (search rules);
      };
      of = record {
        files = rw (table, cells, netlist, scan) (search rules);
        instance = rw instance (search rules);
        defect = rw defect (search rules);
      };
      out = rw out (search rules);
    }
