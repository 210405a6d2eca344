-- Rows in blocks of 64.
use Rattle.std.proofs.Common.{ℕ, ◌+◌, ◌*◌, ◌/◌, ◌%◌, ◌^◌, ◌<◌, ◌≤◌, ◌≡◌, min, arith, ap, ◌∙◌}
use Rattle.std.proofs.lemmas.Nat.{div-add-mod', pow_pos, div_below}
use Rattle.std.proofs.Common.{mod-lt}
use Rattle.ca_cell.specs.declared.raw.RawCell.{RawCell}
use Rattle.ca_cell.specs.Raw.{is_input, role_count}
use Rattle.ca_matrix.specs.code.Filled.{row_at, row_count, block_end}
use Rattle.ca_matrix.specs.code.Single.{row_number}

-- the number of rows, as the code finds it
pub rows_are : (raw : RawCell) (vectors inputs : ℕ) → vectors ≡ 2 ^ inputs → inputs ≡ role_count is_input raw.pins → vectors * vectors ≡ row_count raw
rows_are raw vectors inputs is same = ap (λ n. n * n) (is ∙ ap (λ n. 2 ^ n) same)

-- a further block begins within the rows
pub block_begins : (raw : RawCell) (rows blocks block : ℕ) → rows ≡ row_count raw → blocks ≡ rows / 64 + min 1 (rows % 64) → block < blocks
    → block_end raw block ≡ block * 64
block_begins raw rows blocks block is_rows is lt = omega (arith, is_rows, is, lt)

-- after all blocks come no more rows
pub blocks_end : (raw : RawCell) (rows blocks block : ℕ) → rows ≡ row_count raw → blocks ≡ rows / 64 + min 1 (rows % 64) → blocks ≤ block
    → row_count raw ≤ block_end raw block
blocks_end raw rows blocks block is_rows is le = omega (arith, is_rows, is, le)

-- the row of a number has that number
pub number_of_row : (raw : RawCell) (number : ℕ) → row_number raw (row_at (2 ^ role_count is_input raw.pins) number) ≡ number
number_of_row raw number = div-add-mod' number (2 ^ role_count is_input raw.pins)

pub last_within : (raw : RawCell) (number : ℕ) → number % 2 ^ role_count is_input raw.pins < 2 ^ role_count is_input raw.pins
last_within raw number = mod-lt number (pow_pos (role_count is_input raw.pins))

pub first_within : (raw : RawCell) (number : ℕ) → number < row_count raw → number / 2 ^ role_count is_input raw.pins < 2 ^ role_count is_input raw.pins
first_within raw number lt = div_below number (2 ^ role_count is_input raw.pins) (2 ^ role_count is_input raw.pins) (pow_pos (role_count is_input raw.pins)) lt
