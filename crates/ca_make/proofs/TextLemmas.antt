-- Texts that are written piece by piece.
use Rattle.std.proofs.Common.{◌≡◌, ℕ, List, [], ◌++◌, length, ◌∙◌, ap, append_assoc}
use Rattle.std.specs.Prelude.{codes}
use Rattle.ca_make.specs.declared.gate.Gate.{Gate}
use Rattle.ca_make.specs.NetlistText.{header_text, names_text, listed_from, instance_line, assign_line}
use Rattle.ca_make.specs.NetlistText.{chip_text}

-- three pieces after a text
pub three_pieces : (start one two three a b c : List ℕ) → one ≡ start ++ a → two ≡ one ++ b → three ≡ two ++ c
    → three ≡ start ++ (a ++ (b ++ c))
three_pieces start one two three a b c is_one is_two is_three =
    is_three ∙ ap (λ t. t ++ c) (is_two ∙ ap (λ t. t ++ b) is_one)
    ∙ append_assoc (start ++ a) b c ∙ append_assoc start a (b ++ c)

-- what follows the declarations
abbrev rest_text : List Gate → List ℕ → List ℕ
rest_text gates outputs =
    listed_from instance_line 0 gates ++ (listed_from assign_line 0 outputs ++ codes "endmodule\n")

-- the text of a chip, piece by piece
pub chip_pieces : (gates : List Gate) (outputs : List ℕ) (count n : ℕ) (none header names lines joins text : List ℕ)
    → count ≡ length outputs → n ≡ length gates
    → none ≡ [] → header ≡ none ++ header_text count → names ≡ header ++ names_text count n
    → lines ≡ names ++ listed_from instance_line 0 gates → joins ≡ lines ++ listed_from assign_line 0 outputs
    → text ≡ joins ++ codes "endmodule\n" → text ≡ chip_text gates outputs
unfolding chip_text
chip_pieces gates outputs count n none header names lines joins text is_count is_n
    is_none is_header is_names is_lines is_joins is_text =
    three_pieces names lines joins text (listed_from instance_line 0 gates) (listed_from assign_line 0 outputs)
    (codes "endmodule\n") is_lines is_joins is_text
    ∙ ap (λ t. t ++ rest_text gates outputs)
    (is_names ∙ ap (λ t. t ++ names_text count n) (is_header ∙ ap (λ t. t ++ header_text count) is_none))
    ∙ append_assoc (header_text count) (names_text count n) (rest_text gates outputs)
    ∙ ap (λ m. header_text m ++ (names_text m n ++ rest_text gates outputs)) is_count
    ∙ ap (λ m. header_text (length outputs) ++ (names_text (length outputs) m ++ rest_text gates outputs)) is_n
