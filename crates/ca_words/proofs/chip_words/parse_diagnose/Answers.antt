use Rattle.std.proofs.Common.{rules, arith, ◌≡◌, ◌≢◌, length, map, sym, ◌∙◌, subst}
use Rattle.std.specs.Option.{option_copied}
use Rattle.std.specs.String.{string_bytes}
use Rattle.ca_words.specs.Words.{AreChipFiles, IsOtherFile, log_word, candidates_word}
use Rattle.ca_words.proofs.WordLemmas.{word_of, count_is}
use Rattle.ca_words.proofs.chip_words.parse_diagnose.Goals as goal
use Rattle.ca_words.proofs.chip_words.parse_diagnose.Goals.{else-eq-via-then-eq+then-are_chip_files+then-is_other_file+then-is_other_file-2+then-is_other_file-3+else-are_different}
use Rattle.ca_words.proofs.chip_words.parse_diagnose.Goals.{else-eq-via-then-eq+then-are_chip_files+then-is_other_file+then-is_other_file-2+else-is_other_file-3}
use Rattle.ca_words.proofs.chip_words.parse_diagnose.Goals.{else-eq-via-then-eq+then-are_chip_files+then-is_other_file+else-is_other_file-2}
use Rattle.ca_words.proofs.chip_words.parse_diagnose.Goals.{else-eq-via-then-eq+then-are_chip_files+else-is_other_file}
use Rattle.ca_words.proofs.chip_words.parse_diagnose.Goals.{else-eq-via-then-eq+else-are_chip_files}
use Rattle.ca_words.proofs.chip_words.parse_diagnose.Goals.{else-eq-via-else-eq}

pub returns-then-are_different-clause-found : goal.returns-then-are_different-clause-found
returns-then-are_different-clause-found c =
    let seven : length c.command_words.result.now ≡ 7 = omega (arith, c.in-len7.len_at_least, c.in-len7.len_below) in
    let table = sym c.table_word-table.ensures in
    let command = word_of string_bytes (map string_bytes c.args.words.now) c.command_words.result.now c.command_words.ensures 0 c.command-item.result (omega (arith, seven)) c.command-item.is in
    let cells = word_of string_bytes (map string_bytes c.args.words.now) c.command_words.result.now c.command_words.ensures 1 c.cells-item.result (omega (arith, seven)) c.cells-item.is in
    let netlist = word_of string_bytes (map string_bytes c.args.words.now) c.command_words.result.now c.command_words.ensures 2 c.netlist-item.result (omega (arith, seven)) c.netlist-item.is in
    let scan = word_of string_bytes (map string_bytes c.args.words.now) c.command_words.result.now c.command_words.ensures 3 c.scan-item.result (omega (arith, seven)) c.scan-item.is in
    let stil = word_of string_bytes (map string_bytes c.args.words.now) c.command_words.result.now c.command_words.ensures 4 c.stil-item.result (omega (arith, seven)) c.stil-item.is in
    let log = word_of string_bytes (map string_bytes c.args.words.now) c.command_words.result.now c.command_words.ensures 5 c.log-item.result (omega (arith, seven)) c.log-item.is in
    let out = word_of string_bytes (map string_bytes c.args.words.now) c.command_words.result.now c.command_words.ensures 6 c.out-item.result (omega (arith, seven)) c.out-item.is in
    record {
      is = record {
        seven = count_is string_bytes (map string_bytes c.args.words.now) c.command_words.result.now c.command_words.ensures _ seven;
        command = rw command (search rules);
        files = rw (table, cells, netlist, scan) (search rules);
        stil = rw (table, stil, cells, netlist, scan) (search rules);
        log = rw (table, log, cells, netlist, scan) (search rules);
        out = rw (table, out, cells, netlist, scan) (search rules);
        others = rw (log, stil) (search rules);
        not_stil = rw (out, stil) (search rules);
        not_log = rw (out, log) (search rules);
      };
      files = rw (table, cells, netlist, scan) (search rules);
      stil = rw stil (search rules);
      log = rw log (search rules);
      out = rw out (search rules);
    }

pub returns-else-eq-clause-none : goal.returns-else-eq-clause-none
returns-else-eq-clause-none c = λ _ is.
    let seven : length c.command_words.result.now ≡ 7 = omega (arith, c.in-len7.len_at_least, c.in-len7.len_below) in
    let table_is = sym c.table_word-table.ensures in
    let command_is = word_of string_bytes (map string_bytes c.args.words.now) c.command_words.result.now c.command_words.ensures 0 c.command-item.result (omega (arith, seven)) c.command-item.is in
    let cells_is = word_of string_bytes (map string_bytes c.args.words.now) c.command_words.result.now c.command_words.ensures 1 c.cells-item.result (omega (arith, seven)) c.cells-item.is in
    let netlist_is = word_of string_bytes (map string_bytes c.args.words.now) c.command_words.result.now c.command_words.ensures 2 c.netlist-item.result (omega (arith, seven)) c.netlist-item.is in
    let scan_is = word_of string_bytes (map string_bytes c.args.words.now) c.command_words.result.now c.command_words.ensures 3 c.scan-item.result (omega (arith, seven)) c.scan-item.is in
    let stil_is = word_of string_bytes (map string_bytes c.args.words.now) c.command_words.result.now c.command_words.ensures 4 c.stil-item.result (omega (arith, seven)) c.stil-item.is in
    let log_is = word_of string_bytes (map string_bytes c.args.words.now) c.command_words.result.now c.command_words.ensures 5 c.log-item.result (omega (arith, seven)) c.log-item.is in
    let out_is = word_of string_bytes (map string_bytes c.args.words.now) c.command_words.result.now c.command_words.ensures 6 c.out-item.result (omega (arith, seven)) c.out-item.is in
    let command = sym command_is ∙ is.command in
    let files : AreChipFiles (option_copied c.table_word-table.result) (string_bytes c.cells-item.result) (string_bytes c.netlist-item.result) (string_bytes c.scan-item.result) =
    rw (table_is, cells_is, netlist_is, scan_is) at is.files in
    let stil : IsOtherFile (option_copied c.table_word-table.result) (string_bytes c.stil-item.result) (string_bytes c.cells-item.result) (string_bytes c.netlist-item.result) (string_bytes c.scan-item.result) =
    rw (table_is, stil_is, cells_is, netlist_is, scan_is) at is.stil in
    let log : IsOtherFile (option_copied c.table_word-table.result) (string_bytes c.log-item.result) (string_bytes c.cells-item.result) (string_bytes c.netlist-item.result) (string_bytes c.scan-item.result) =
    rw (table_is, log_is, cells_is, netlist_is, scan_is) at is.log in
    let out : IsOtherFile (option_copied c.table_word-table.result) (string_bytes c.out-item.result) (string_bytes c.cells-item.result) (string_bytes c.netlist-item.result) (string_bytes c.scan-item.result) =
    rw (table_is, out_is, cells_is, netlist_is, scan_is) at is.out in
    let others = subst (λ word. word ≢ string_bytes c.stil-item.result) log_is
    (subst (λ word. log_word (map string_bytes c.args.words.now) ≢ word) stil_is is.others) in
    let not_stil = subst (λ word. word ≢ string_bytes c.stil-item.result) out_is
    (subst (λ word. candidates_word (map string_bytes c.args.words.now) ≢ word) stil_is is.not_stil) in
    let not_log = subst (λ word. word ≢ string_bytes c.log-item.result) out_is
    (subst (λ word. candidates_word (map string_bytes c.args.words.now) ≢ word) log_is is.not_log) in
    elim c.else-eq.branch [
      | else-eq-via-then-eq+then-are_chip_files+then-is_other_file+then-is_other_file-2+then-is_other_file-3+else-are_different w ↦ search rules
      | else-eq-via-then-eq+then-are_chip_files+then-is_other_file+then-is_other_file-2+else-is_other_file-3 w ↦ search rules
      | else-eq-via-then-eq+then-are_chip_files+then-is_other_file+else-is_other_file-2 w ↦ search rules
      | else-eq-via-then-eq+then-are_chip_files+else-is_other_file w ↦ search rules
      | else-eq-via-then-eq+else-are_chip_files w ↦ search rules
      | else-eq-via-else-eq w ↦ search rules
    ]
