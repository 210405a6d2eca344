-- A text that was made piece by piece.
use Rattle.std.proofs.Common.{ℕ, ◌≡◌, List, [], ◌++◌, append_assoc}
use Rattle.std.specs.Prelude.{codes, decimal}
use Rattle.ca_on_cell.specs.Lines.{summary_text}

summary_joined : (a b c d e f g : List ℕ)
    → (((((a ++ b) ++ c) ++ d) ++ e) ++ f) ++ g ≡ a ++ (b ++ (c ++ (d ++ (e ++ (f ++ g)))))
summary_joined a b c d e f g =
    rw (
      append_assoc ((((a ++ b) ++ c) ++ d) ++ e) f g,
      append_assoc (((a ++ b) ++ c) ++ d) e (f ++ g),
      append_assoc ((a ++ b) ++ c) d (e ++ (f ++ g)),
      append_assoc (a ++ b) c (d ++ (e ++ (f ++ g))),
    ) (append_assoc a b (c ++ (d ++ (e ++ (f ++ g)))))

-- the line of a matrix, piece by piece
pub summary_made : (empty one two three four five six whole : List ℕ) (defects exposable records : ℕ)
    → empty ≡ [] → one ≡ empty ++ codes "defects " → two ≡ one ++ decimal defects → three ≡ two ++ codes ", exposable "
    → four ≡ three ++ decimal exposable → five ≡ four ++ codes ", rows " → six ≡ five ++ decimal records → whole ≡ six ++ codes "\n"
    → whole ≡ summary_text defects exposable records
summary_made empty one two three four five six whole defects exposable records e0 e1 e2 e3 e4 e5 e6 e7 =
    rw (e7, e6, e5, e4, e3, e2, e1, e0)
    (summary_joined (codes "defects ") (decimal defects) (codes ", exposable ") (decimal exposable) (codes ", rows ") (decimal records) (codes "\n"))
