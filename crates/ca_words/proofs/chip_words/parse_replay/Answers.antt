use Rattle.std.proofs.Common.{rules, arith, ◌≡◌, length, sym, ◌∙◌, subst, map}
use Rattle.std.specs.Option.{option_copied}
use Rattle.std.specs.String.{string_bytes}
use Rattle.ca_request.specs.Asked.{AreBothOrNeither}
use Rattle.ca_words.specs.Words.{AreChipFiles, IsOtherFile, IsVector}
use Rattle.ca_words.proofs.WordLemmas.{word_of, count_is}
use Rattle.ca_words.proofs.chip_words.parse_replay.Goals as goal
use Rattle.ca_words.proofs.chip_words.parse_replay.Goals.{else-eq-via-then-eq+then-are_chip_files+then-are_both_or_neither+then-is_vector+then-is_vector-2+else-is_other_file}
use Rattle.ca_words.proofs.chip_words.parse_replay.Goals.{else-eq-via-then-eq+then-are_chip_files+then-are_both_or_neither+then-is_vector+else-is_vector-2}
use Rattle.ca_words.proofs.chip_words.parse_replay.Goals.{else-eq-via-then-eq+then-are_chip_files+then-are_both_or_neither+else-is_vector}
use Rattle.ca_words.proofs.chip_words.parse_replay.Goals.{else-eq-via-then-eq+then-are_chip_files+else-are_both_or_neither}
use Rattle.ca_words.proofs.chip_words.parse_replay.Goals.{else-eq-via-then-eq+else-are_chip_files}
use Rattle.ca_words.proofs.chip_words.parse_replay.Goals.{else-eq-via-else-eq}

pub returns-then-is_other_file-clause-found : goal.returns-then-is_other_file-clause-found
returns-then-is_other_file-clause-found c =
    let nine : length c.command_words.result.now ≡ 9 = omega (arith, c.in-len9.len_at_least, c.in-len9.len_below) in
    let table = sym c.table_word-table.ensures in
    let command = word_of string_bytes (map string_bytes c.args.words.now) c.command_words.result.now c.command_words.ensures 0 c.command-item.result (omega (arith, nine)) c.command-item.is in
    let cells = word_of string_bytes (map string_bytes c.args.words.now) c.command_words.result.now c.command_words.ensures 1 c.cells-item.result (omega (arith, nine)) c.cells-item.is in
    let netlist = word_of string_bytes (map string_bytes c.args.words.now) c.command_words.result.now c.command_words.ensures 2 c.netlist-item.result (omega (arith, nine)) c.netlist-item.is in
    let scan = word_of string_bytes (map string_bytes c.args.words.now) c.command_words.result.now c.command_words.ensures 3 c.scan-item.result (omega (arith, nine)) c.scan-item.is in
    let instance = word_of string_bytes (map string_bytes c.args.words.now) c.command_words.result.now c.command_words.ensures 4 c.instance-item.result (omega (arith, nine)) c.instance-item.is in
    let defect = word_of string_bytes (map string_bytes c.args.words.now) c.command_words.result.now c.command_words.ensures 5 c.defect-item.result (omega (arith, nine)) c.defect-item.is in
    let first = word_of string_bytes (map string_bytes c.args.words.now) c.command_words.result.now c.command_words.ensures 6 c.first-item.result (omega (arith, nine)) c.first-item.is in
    let last = word_of string_bytes (map string_bytes c.args.words.now) c.command_words.result.now c.command_words.ensures 7 c.last-item.result (omega (arith, nine)) c.last-item.is in
    let order = word_of string_bytes (map string_bytes c.args.words.now) c.command_words.result.now c.command_words.ensures 8 c.order-item.result (omega (arith, nine)) c.order-item.is in
    record {
      is = record {
        nine = count_is string_bytes (map string_bytes c.args.words.now) c.command_words.result.now c.command_words.ensures _ nine;
        command = rw command (search rules);
        files = rw (table, cells, netlist, scan) (search rules);
        defect = rw (instance, defect) (search rules);
        first = rw first (search rules);
        last = rw last (search rules);
        order = rw (table, order, cells, netlist, scan) (search rules);
      };
      of = record {
        files = rw (table, cells, netlist, scan) (search rules);
        instance = rw instance (search rules);
        defect = rw defect (search rules);
      };
      first = rw first (search rules);
      last = rw last (search rules);
      order = rw order (search rules);
    }

pub returns-else-eq-clause-none : goal.returns-else-eq-clause-none
returns-else-eq-clause-none c = λ _ is.
    let nine : length c.command_words.result.now ≡ 9 = omega (arith, c.in-len9.len_at_least, c.in-len9.len_below) in
    let table_is = sym c.table_word-table.ensures in
    let command_is = word_of string_bytes (map string_bytes c.args.words.now) c.command_words.result.now c.command_words.ensures 0 c.command-item.result (omega (arith, nine)) c.command-item.is in
    let cells_is = word_of string_bytes (map string_bytes c.args.words.now) c.command_words.result.now c.command_words.ensures 1 c.cells-item.result (omega (arith, nine)) c.cells-item.is in
    let netlist_is = word_of string_bytes (map string_bytes c.args.words.now) c.command_words.result.now c.command_words.ensures 2 c.netlist-item.result (omega (arith, nine)) c.netlist-item.is in
    let scan_is = word_of string_bytes (map string_bytes c.args.words.now) c.command_words.result.now c.command_words.ensures 3 c.scan-item.result (omega (arith, nine)) c.scan-item.is in
    let instance_is = word_of string_bytes (map string_bytes c.args.words.now) c.command_words.result.now c.command_words.ensures 4 c.instance-item.result (omega (arith, nine)) c.instance-item.is in
    let defect_is = word_of string_bytes (map string_bytes c.args.words.now) c.command_words.result.now c.command_words.ensures 5 c.defect-item.result (omega (arith, nine)) c.defect-item.is in
    let first_is = word_of string_bytes (map string_bytes c.args.words.now) c.command_words.result.now c.command_words.ensures 6 c.first-item.result (omega (arith, nine)) c.first-item.is in
    let last_is = word_of string_bytes (map string_bytes c.args.words.now) c.command_words.result.now c.command_words.ensures 7 c.last-item.result (omega (arith, nine)) c.last-item.is in
    let order_is = word_of string_bytes (map string_bytes c.args.words.now) c.command_words.result.now c.command_words.ensures 8 c.order-item.result (omega (arith, nine)) c.order-item.is in
    let command = sym command_is ∙ is.command in
    let files : AreChipFiles (option_copied c.table_word-table.result) (string_bytes c.cells-item.result) (string_bytes c.netlist-item.result) (string_bytes c.scan-item.result) =
    rw (table_is, cells_is, netlist_is, scan_is) at is.files in
    let both : AreBothOrNeither (string_bytes c.instance-item.result) (string_bytes c.defect-item.result) =
    rw (instance_is, defect_is) at is.defect in
    let first = subst IsVector first_is is.first in
    let last = subst IsVector last_is is.last in
    let order : IsOtherFile (option_copied c.table_word-table.result) (string_bytes c.order-item.result) (string_bytes c.cells-item.result) (string_bytes c.netlist-item.result)
    (string_bytes c.scan-item.result) =
    rw (table_is, order_is, cells_is, netlist_is, scan_is) at is.order in
    elim c.else-eq.branch [
      | else-eq-via-then-eq+then-are_chip_files+then-are_both_or_neither+then-is_vector+then-is_vector-2+else-is_other_file w ↦ search rules
      | else-eq-via-then-eq+then-are_chip_files+then-are_both_or_neither+then-is_vector+else-is_vector-2 w ↦ search rules
      | else-eq-via-then-eq+then-are_chip_files+then-are_both_or_neither+else-is_vector w ↦ search rules
      | else-eq-via-then-eq+then-are_chip_files+else-are_both_or_neither w ↦ search rules
      | else-eq-via-then-eq+else-are_chip_files w ↦ search rules
      | else-eq-via-else-eq w ↦ search rules
    ]
