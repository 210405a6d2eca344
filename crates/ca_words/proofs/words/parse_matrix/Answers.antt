use Rattle.std.proofs.Common.{Some, rules, arith, ◌≡◌, ◌≢◌, length, map, sym, ◌∙◌, subst}
use Rattle.std.specs.Option.{option_copied}
use Rattle.std.specs.String.{string_bytes}
use Rattle.ca_words.specs.Words.{IsFileName, AreCellFiles, out_word}
use Rattle.ca_words.proofs.WordLemmas.{word_of, count_is}
use Rattle.ca_words.proofs.words.parse_matrix.Goals as goal
use Rattle.ca_words.proofs.words.parse_matrix.Goals.{else-eq-via-then-eq+then-are_cell_files+then-is_file_name+then-ne+else-not-is_called}
use Rattle.ca_words.proofs.words.parse_matrix.Goals.{else-eq-via-then-eq+then-are_cell_files+then-is_file_name+else-ne}
use Rattle.ca_words.proofs.words.parse_matrix.Goals.{else-eq-via-then-eq+then-are_cell_files+else-is_file_name}
use Rattle.ca_words.proofs.words.parse_matrix.Goals.{else-eq-via-then-eq+else-are_cell_files}
use Rattle.ca_words.proofs.words.parse_matrix.Goals.{else-eq-via-else-eq}

pub returns-then-not-is_called-clause-found : goal.returns-then-not-is_called-clause-found
returns-then-not-is_called-clause-found c =
    let four : length c.command_words.result.now ≡ 4 = omega (arith, c.in-len4.len_at_least, c.in-len4.len_below) in
    let table = sym c.table_word-table.ensures in
    let command = word_of string_bytes (map string_bytes c.args.words.now) c.command_words.result.now c.command_words.ensures 0 c.command-item.result (omega (arith, four)) c.command-item.is in
    let cells = word_of string_bytes (map string_bytes c.args.words.now) c.command_words.result.now c.command_words.ensures 1 c.cells-item.result (omega (arith, four)) c.cells-item.is in
    let cell = word_of string_bytes (map string_bytes c.args.words.now) c.command_words.result.now c.command_words.ensures 2 c.cell-item.result (omega (arith, four)) c.cell-item.is in
    let out = word_of string_bytes (map string_bytes c.args.words.now) c.command_words.result.now c.command_words.ensures 3 c.out-item.result (omega (arith, four)) c.out-item.is in
    record {
      is = record {
        four = count_is string_bytes (map string_bytes c.args.words.now) c.command_words.result.now c.command_words.ensures _ four;
        command = rw command (search rules);
        files = rw (table, cells) (search rules);
        out = rw out (search rules);
        others = rw (out, cells) (search rules);
        not_table = rw (table, out) (search rules);
      };
      of = record { files = rw (table, cells) (search rules); cell = rw cell (search rules) };
      out = rw out (search rules);
    }

pub returns-else-eq-clause-none : goal.returns-else-eq-clause-none
returns-else-eq-clause-none c = λ _ is.
    let four : length c.command_words.result.now ≡ 4 = omega (arith, c.in-len4.len_at_least, c.in-len4.len_below) in
    let cells_is = word_of string_bytes (map string_bytes c.args.words.now) c.command_words.result.now c.command_words.ensures 1 c.cells-item.result (omega (arith, four)) c.cells-item.is in
    let table_is = sym c.table_word-table.ensures in
    let out_is = word_of string_bytes (map string_bytes c.args.words.now) c.command_words.result.now c.command_words.ensures 3 c.out-item.result (omega (arith, four)) c.out-item.is in
    let command = sym (word_of string_bytes (map string_bytes c.args.words.now) c.command_words.result.now c.command_words.ensures 0 c.command-item.result (omega (arith, four)) c.command-item.is) ∙ is.command in
    let files : AreCellFiles (option_copied c.table_word-table.result) (string_bytes c.cells-item.result) = rw (table_is, cells_is) at is.files in
    let not_table : option_copied c.table_word-table.result ≢ Some (string_bytes c.out-item.result) = rw (table_is, out_is) at is.not_table in
    let out = subst IsFileName out_is is.out in
    let others = subst (λ word. word ≢ string_bytes c.cells-item.result) out_is
    (subst (λ word. out_word (map string_bytes c.args.words.now) ≢ word) cells_is is.others) in
    elim c.else-eq.branch [
      | else-eq-via-then-eq+then-are_cell_files+then-is_file_name+then-ne+else-not-is_called w ↦ search rules
      | else-eq-via-then-eq+then-are_cell_files+then-is_file_name+else-ne w ↦ search rules
      | else-eq-via-then-eq+then-are_cell_files+else-is_file_name w ↦ search rules
      | else-eq-via-then-eq+else-are_cell_files w ↦ search rules
      | else-eq-via-else-eq w ↦ search rules
    ]
