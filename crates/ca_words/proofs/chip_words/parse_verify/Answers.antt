use Rattle.std.proofs.Common.{rules, arith, ◌≡◌, ◌≢◌, length, map, sym, ◌∙◌, subst}
use Rattle.std.specs.Option.{option_copied}
use Rattle.std.specs.String.{string_bytes}
use Rattle.ca_words.specs.Words.{AreChipFiles, IsOtherFile, cert_word}
use Rattle.ca_words.proofs.WordLemmas.{word_of, count_is}
use Rattle.ca_words.proofs.chip_words.parse_verify.Goals as goal
use Rattle.ca_words.proofs.chip_words.parse_verify.Goals.{else-eq-via-then-eq+then-are_chip_files+then-is_other_file+then-is_other_file-2+else-ne}
use Rattle.ca_words.proofs.chip_words.parse_verify.Goals.{else-eq-via-then-eq+then-are_chip_files+then-is_other_file+else-is_other_file-2}
use Rattle.ca_words.proofs.chip_words.parse_verify.Goals.{else-eq-via-then-eq+then-are_chip_files+else-is_other_file}
use Rattle.ca_words.proofs.chip_words.parse_verify.Goals.{else-eq-via-then-eq+else-are_chip_files}
use Rattle.ca_words.proofs.chip_words.parse_verify.Goals.{else-eq-via-else-eq}

pub returns-then-ne-clause-found : goal.returns-then-ne-clause-found
returns-then-ne-clause-found c =
    let six : length c.command_words.result.now ≡ 6 = omega (arith, c.in-len6.len_at_least, c.in-len6.len_below) in
    let table = sym c.table_word-table.ensures in
    let command = word_of string_bytes (map string_bytes c.args.words.now) c.command_words.result.now c.command_words.ensures 0 c.command-item.result (omega (arith, six)) c.command-item.is in
    let cells = word_of string_bytes (map string_bytes c.args.words.now) c.command_words.result.now c.command_words.ensures 1 c.cells-item.result (omega (arith, six)) c.cells-item.is in
    let netlist = word_of string_bytes (map string_bytes c.args.words.now) c.command_words.result.now c.command_words.ensures 2 c.netlist-item.result (omega (arith, six)) c.netlist-item.is in
    let scan = word_of string_bytes (map string_bytes c.args.words.now) c.command_words.result.now c.command_words.ensures 3 c.scan-item.result (omega (arith, six)) c.scan-item.is in
    let stil = word_of string_bytes (map string_bytes c.args.words.now) c.command_words.result.now c.command_words.ensures 4 c.stil-item.result (omega (arith, six)) c.stil-item.is in
    let cert = word_of string_bytes (map string_bytes c.args.words.now) c.command_words.result.now c.command_words.ensures 5 c.cert-item.result (omega (arith, six)) c.cert-item.is in
    record {
      is = record {
        six = count_is string_bytes (map string_bytes c.args.words.now) c.command_words.result.now c.command_words.ensures _ six;
        command = rw command (search rules);
        files = rw (table, cells, netlist, scan) (search rules);
        stil = rw (table, stil, cells, netlist, scan) (search rules);
        cert = rw (table, cert, cells, netlist, scan) (search rules);
        others = rw (cert, stil) (search rules);
      };
      files = rw (table, cells, netlist, scan) (search rules);
      stil = rw stil (search rules);
      cert = rw cert (search rules);
    }

pub returns-else-eq-clause-none : goal.returns-else-eq-clause-none
returns-else-eq-clause-none c = λ _ is.
    let six : length c.command_words.result.now ≡ 6 = omega (arith, c.in-len6.len_at_least, c.in-len6.len_below) in
    let table_is = sym c.table_word-table.ensures in
    let command_is = word_of string_bytes (map string_bytes c.args.words.now) c.command_words.result.now c.command_words.ensures 0 c.command-item.result (omega (arith, six)) c.command-item.is in
    let cells_is = word_of string_bytes (map string_bytes c.args.words.now) c.command_words.result.now c.command_words.ensures 1 c.cells-item.result (omega (arith, six)) c.cells-item.is in
    let netlist_is = word_of string_bytes (map string_bytes c.args.words.now) c.command_words.result.now c.command_words.ensures 2 c.netlist-item.result (omega (arith, six)) c.netlist-item.is in
    let scan_is = word_of string_bytes (map string_bytes c.args.words.now) c.command_words.result.now c.command_words.ensures 3 c.scan-item.result (omega (arith, six)) c.scan-item.is in
    let stil_is = word_of string_bytes (map string_bytes c.args.words.now) c.command_words.result.now c.command_words.ensures 4 c.stil-item.result (omega (arith, six)) c.stil-item.is in
    let cert_is = word_of string_bytes (map string_bytes c.args.words.now) c.command_words.result.now c.command_words.ensures 5 c.cert-item.result (omega (arith, six)) c.cert-item.is in
    let command = sym command_is ∙ is.command in
    let files : AreChipFiles (option_copied c.table_word-table.result) (string_bytes c.cells-item.result) (string_bytes c.netlist-item.result) (string_bytes c.scan-item.result) =
    rw (table_is, cells_is, netlist_is, scan_is) at is.files in
    let stil : IsOtherFile (option_copied c.table_word-table.result) (string_bytes c.stil-item.result) (string_bytes c.cells-item.result) (string_bytes c.netlist-item.result) (string_bytes c.scan-item.result) =
    rw (table_is, stil_is, cells_is, netlist_is, scan_is) at is.stil in
    let cert : IsOtherFile (option_copied c.table_word-table.result) (string_bytes c.cert-item.result) (string_bytes c.cells-item.result) (string_bytes c.netlist-item.result) (string_bytes c.scan-item.result) =
    rw (table_is, cert_is, cells_is, netlist_is, scan_is) at is.cert in
    let others = subst (λ word. word ≢ string_bytes c.stil-item.result) cert_is
    (subst (λ word. cert_word (map string_bytes c.args.words.now) ≢ word) stil_is is.others) in
    elim c.else-eq.branch [
      | else-eq-via-then-eq+then-are_chip_files+then-is_other_file+then-is_other_file-2+else-ne w ↦ search rules
      | else-eq-via-then-eq+then-are_chip_files+then-is_other_file+else-is_other_file-2 w ↦ search rules
      | else-eq-via-then-eq+then-are_chip_files+else-is_other_file w ↦ search rules
      | else-eq-via-then-eq+else-are_chip_files w ↦ search rules
      | else-eq-via-else-eq w ↦ search rules
    ]
