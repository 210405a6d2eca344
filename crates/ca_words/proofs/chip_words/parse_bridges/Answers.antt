use Rattle.std.proofs.Common.{rules, arith, ◌≡◌, ◌≢◌, length, map, sym, ◌∙◌, subst}
use Rattle.std.specs.Option.{option_copied}
use Rattle.std.specs.String.{string_bytes}
use Rattle.ca_words.specs.Budget.{IsBudget}
use Rattle.ca_words.specs.Words.{AreChipFiles, IsOtherFile, bridges_report_word, dash}
use Rattle.ca_words.proofs.WordLemmas.{word_of, count_is}
use Rattle.ca_words.proofs.chip_words.parse_bridges.Goals as goal
use Rattle.ca_words.proofs.chip_words.parse_bridges.Goals.{else-eq-via-then-eq+then-are_chip_files+then-ne+then-is_other_file+then-is_other_file-2+else-ne-2}
use Rattle.ca_words.proofs.chip_words.parse_bridges.Goals.{else-eq-via-then-eq+then-are_chip_files+then-ne+then-is_other_file+else-is_other_file-2}
use Rattle.ca_words.proofs.chip_words.parse_bridges.Goals.{else-eq-via-then-eq+then-are_chip_files+then-ne+else-is_other_file}
use Rattle.ca_words.proofs.chip_words.parse_bridges.Goals.{else-eq-via-then-eq+then-are_chip_files+else-ne}
use Rattle.ca_words.proofs.chip_words.parse_bridges.Goals.{else-eq-via-then-eq+else-are_chip_files}
use Rattle.ca_words.proofs.chip_words.parse_bridges.Goals.{else-eq-via-else-eq}

pub returns-then-ne-2-clause-found : goal.returns-then-ne-2-clause-found
returns-then-ne-2-clause-found c =
    let eight : length c.command_words.result.now ≡ 8 = omega (arith, c.in-len8.len_at_least, c.in-len8.len_below) in
    let table = sym c.table_word-table.ensures in
    let command = word_of string_bytes (map string_bytes c.args.words.now) c.command_words.result.now c.command_words.ensures 0 c.command-item.result (omega (arith, eight)) c.command-item.is in
    let cells = word_of string_bytes (map string_bytes c.args.words.now) c.command_words.result.now c.command_words.ensures 1 c.cells-item.result (omega (arith, eight)) c.cells-item.is in
    let netlist = word_of string_bytes (map string_bytes c.args.words.now) c.command_words.result.now c.command_words.ensures 2 c.netlist-item.result (omega (arith, eight)) c.netlist-item.is in
    let scan = word_of string_bytes (map string_bytes c.args.words.now) c.command_words.result.now c.command_words.ensures 3 c.scan-item.result (omega (arith, eight)) c.scan-item.is in
    let instance = word_of string_bytes (map string_bytes c.args.words.now) c.command_words.result.now c.command_words.ensures 4 c.instance-item.result (omega (arith, eight)) c.instance-item.is in
    let stil = word_of string_bytes (map string_bytes c.args.words.now) c.command_words.result.now c.command_words.ensures 5 c.stil-item.result (omega (arith, eight)) c.stil-item.is in
    let report = word_of string_bytes (map string_bytes c.args.words.now) c.command_words.result.now c.command_words.ensures 6 c.report-item.result (omega (arith, eight)) c.report-item.is in
    let budget = word_of string_bytes (map string_bytes c.args.words.now) c.command_words.result.now c.command_words.ensures 7 c.budget-item.result (omega (arith, eight)) c.budget-item.is in
    record {
      is = record {
        eight = count_is string_bytes (map string_bytes c.args.words.now) c.command_words.result.now c.command_words.ensures _ eight;
        command = rw command (search rules);
        files = rw (table, cells, netlist, scan) (search rules);
        some = rw instance (search rules);
        stil = rw (table, stil, cells, netlist, scan) (search rules);
        report = rw (table, report, cells, netlist, scan) (search rules);
        others = rw (report, stil) (search rules);
        budget = rw budget (c.in-Some.budget, search rules);
      };
      files = rw (table, cells, netlist, scan) (search rules);
      instance = rw instance (search rules);
      stil = rw stil (search rules);
      report = rw report (search rules);
      budget = rw budget (search rules);
    }

pub returns-in_default-budget_of-clause-none : goal.returns-in_default-budget_of-clause-none
returns-in_default-budget_of-clause-none c = λ _ is.
    let eight : length c.command_words.result.now ≡ 8 = omega (arith, c.in-len8.len_at_least, c.in-len8.len_below) in
    let budget_is = word_of string_bytes (map string_bytes c.args.words.now) c.command_words.result.now c.command_words.ensures 7 c.budget-item.result (omega (arith, eight)) c.budget-item.is in
    let budget = subst IsBudget budget_is is.budget in
    search rules

pub returns-else-eq-clause-none : goal.returns-else-eq-clause-none
returns-else-eq-clause-none c = λ _ is.
    let eight : length c.command_words.result.now ≡ 8 = omega (arith, c.in-len8.len_at_least, c.in-len8.len_below) in
    let table_is = sym c.table_word-table.ensures in
    let command_is = word_of string_bytes (map string_bytes c.args.words.now) c.command_words.result.now c.command_words.ensures 0 c.command-item.result (omega (arith, eight)) c.command-item.is in
    let cells_is = word_of string_bytes (map string_bytes c.args.words.now) c.command_words.result.now c.command_words.ensures 1 c.cells-item.result (omega (arith, eight)) c.cells-item.is in
    let netlist_is = word_of string_bytes (map string_bytes c.args.words.now) c.command_words.result.now c.command_words.ensures 2 c.netlist-item.result (omega (arith, eight)) c.netlist-item.is in
    let scan_is = word_of string_bytes (map string_bytes c.args.words.now) c.command_words.result.now c.command_words.ensures 3 c.scan-item.result (omega (arith, eight)) c.scan-item.is in
    let instance_is = word_of string_bytes (map string_bytes c.args.words.now) c.command_words.result.now c.command_words.ensures 4 c.instance-item.result (omega (arith, eight)) c.instance-item.is in
    let stil_is = word_of string_bytes (map string_bytes c.args.words.now) c.command_words.result.now c.command_words.ensures 5 c.stil-item.result (omega (arith, eight)) c.stil-item.is in
    let report_is = word_of string_bytes (map string_bytes c.args.words.now) c.command_words.result.now c.command_words.ensures 6 c.report-item.result (omega (arith, eight)) c.report-item.is in
    let command = sym command_is ∙ is.command in
    let files : AreChipFiles (option_copied c.table_word-table.result) (string_bytes c.cells-item.result) (string_bytes c.netlist-item.result) (string_bytes c.scan-item.result) =
    rw (table_is, cells_is, netlist_is, scan_is) at is.files in
    let some = subst (λ word. word ≢ dash) instance_is is.some in
    let stil : IsOtherFile (option_copied c.table_word-table.result) (string_bytes c.stil-item.result) (string_bytes c.cells-item.result) (string_bytes c.netlist-item.result) (string_bytes c.scan-item.result) =
    rw (table_is, stil_is, cells_is, netlist_is, scan_is) at is.stil in
    let report : IsOtherFile (option_copied c.table_word-table.result) (string_bytes c.report-item.result) (string_bytes c.cells-item.result) (string_bytes c.netlist-item.result) (string_bytes c.scan-item.result) =
    rw (table_is, report_is, cells_is, netlist_is, scan_is) at is.report in
    let others = subst (λ word. word ≢ string_bytes c.stil-item.result) report_is
    (subst (λ word. bridges_report_word (map string_bytes c.args.words.now) ≢ word) stil_is is.others) in
    elim c.else-eq.branch [
      | else-eq-via-then-eq+then-are_chip_files+then-ne+then-is_other_file+then-is_other_file-2+else-ne-2 w ↦ search rules
      | else-eq-via-then-eq+then-are_chip_files+then-ne+then-is_other_file+else-is_other_file-2 w ↦ search rules
      | else-eq-via-then-eq+then-are_chip_files+then-ne+else-is_other_file w ↦ search rules
      | else-eq-via-then-eq+then-are_chip_files+else-ne w ↦ search rules
      | else-eq-via-then-eq+else-are_chip_files w ↦ search rules
      | else-eq-via-else-eq w ↦ search rules
    ]
