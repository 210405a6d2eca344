-- The line of a text's first faulty token.
use Rattle.std.specs.Prelude.{ℕ, zero, suc, ◌+◌, ◌-◌, ◌==◌, List, [], ◌∷◌, length, take, drop}
use Rattle.std.specs.List.{count_by}
use Rattle.ca_stil_form.specs.Tokens.{tokens_of, trimmed, first_len}

-- the text after its first token
abbrev pub after_token : List ℕ → List ℕ
after_token text = drop (first_len (trimmed text)) (trimmed text)

-- the text after `count` of its tokens
unfoldable pub after_tokens : ℕ → List ℕ → List ℕ
after_tokens zero text = text
after_tokens (suc count) text = after_tokens count (after_token text)

-- how many lines end in a text
abbrev pub line_feeds : List ℕ → ℕ
line_feeds text = count_by (λ byte. byte == 10) text

-- the line of the byte at which this rest of the text begins; at the text's end that of its last byte, since
-- a line feed belongs to the line that it ends
abbrev pub line_at : List ℕ → List ℕ → ℕ
line_at text [] = 1 + line_feeds (take (length text - 1) text)
line_at text (byte ∷ rest) = 1 + line_feeds (take (length text - length (byte ∷ rest)) text)

-- the line of the token from which on `left` are left, or the last line where none is
abbrev pub fault_line : List ℕ → ℕ → ℕ
fault_line text left = line_at text (trimmed (after_tokens (length (tokens_of text) - left) text))
