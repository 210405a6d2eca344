use Rattle.std.proofs.Common.{rules, arith, ◌≡◌, length, sym, ◌∙◌, subst, map}
use Rattle.std.specs.Option.{option_copied}
use Rattle.std.specs.String.{string_bytes}
use Rattle.ca_words.specs.Words.{AreCellFiles, IsVector}
use Rattle.ca_words.proofs.WordLemmas.{word_of, count_is}
use Rattle.ca_words.proofs.words.parse_respond.Goals as goal
use Rattle.ca_words.proofs.words.parse_respond.Goals.{else-eq-via-then-eq+then-are_cell_files+else-is_vector}
use Rattle.ca_words.proofs.words.parse_respond.Goals.{else-eq-via-then-eq+else-are_cell_files}
use Rattle.ca_words.proofs.words.parse_respond.Goals.{else-eq-via-else-eq}

pub returns-then-is_vector-clause-found : goal.returns-then-is_vector-clause-found
returns-then-is_vector-clause-found c =
    let four : length c.command_words.result.now ≡ 4 = omega (arith, c.in-len4.len_at_least, c.in-len4.len_below) in
    let table = sym c.table_word-table.ensures in
    let command = word_of string_bytes (map string_bytes c.args.words.now) c.command_words.result.now c.command_words.ensures 0 c.command-item.result (omega (arith, four)) c.command-item.is in
    let cells = word_of string_bytes (map string_bytes c.args.words.now) c.command_words.result.now c.command_words.ensures 1 c.cells-item.result (omega (arith, four)) c.cells-item.is in
    let cell = word_of string_bytes (map string_bytes c.args.words.now) c.command_words.result.now c.command_words.ensures 2 c.cell-item.result (omega (arith, four)) c.cell-item.is in
    let vector = word_of string_bytes (map string_bytes c.args.words.now) c.command_words.result.now c.command_words.ensures 3 c.vector-item.result (omega (arith, four)) c.vector-item.is in
    record {
      is = record {
        four = count_is string_bytes (map string_bytes c.args.words.now) c.command_words.result.now c.command_words.ensures _ four;
        command = rw command (search rules);
        files = rw (table, cells) (search rules);
        vector = rw vector (search rules);
      };
      of = record { files = rw (table, cells) (search rules); cell = rw cell (search rules) };
      first = rw vector (search rules);
      last = rw vector (search rules);
      defect = search rules;
    }

pub returns-else-eq-clause-none : goal.returns-else-eq-clause-none
returns-else-eq-clause-none c = λ _ is.
    let four : length c.command_words.result.now ≡ 4 = omega (arith, c.in-len4.len_at_least, c.in-len4.len_below) in
    let first = sym (word_of string_bytes (map string_bytes c.args.words.now) c.command_words.result.now c.command_words.ensures 0 c.command-item.result (omega (arith, four)) c.command-item.is) ∙ is.command in
    let table_is = sym c.table_word-table.ensures in
    let cells_is = word_of string_bytes (map string_bytes c.args.words.now) c.command_words.result.now c.command_words.ensures 1 c.cells-item.result (omega (arith, four)) c.cells-item.is in
    let files : AreCellFiles (option_copied c.table_word-table.result) (string_bytes c.cells-item.result) = rw (table_is, cells_is) at is.files in
    let vector = subst IsVector (word_of string_bytes (map string_bytes c.args.words.now) c.command_words.result.now c.command_words.ensures 3 c.vector-item.result (omega (arith, four)) c.vector-item.is) is.vector in
    elim c.else-eq.branch [
      | else-eq-via-then-eq+then-are_cell_files+else-is_vector w ↦ search rules
      | else-eq-via-then-eq+else-are_cell_files w ↦ search rules
      | else-eq-via-else-eq w ↦ search rules
    ]
