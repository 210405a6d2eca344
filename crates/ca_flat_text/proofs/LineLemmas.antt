-- The lines of the first nodes or devices, with the next.
use Rattle.std.proofs.Common.{◌≡◌, ℕ, zero, suc, ◌+◌, List, [], ◌∷◌, ◌++◌, take, sym, ◌∙◌, ap, arith}
use Rattle.std.proofs.Common.{append_assoc}
use Rattle.std.specs.Prelude.{Some, slice_get}
use Rattle.std.proofs.lemmas.List.{append-nil}
use Rattle.std.proofs.lemmas.Option.{slice_get_within}
use Rattle.ca_flat_text.specs.FlatText.{lines_from}

module _ {X : Type 0} (line : ℕ → X → List ℕ) where
  -- the lines of the first, and that of the next
  pub lines_more : (from k : ℕ) (xs : List X) (x : X) → slice_get xs k ≡ Some x
      → lines_from line from (take (k + 1) xs) ≡ lines_from line from (take k xs) ++ line (from + k) x
  lines_more from k [] x at = absurd (let lt = slice_get_within [] k x at in omega (arith, lt))
  lines_more from zero (first ∷ xs) x at =
      let same : first ≡ x = cc in
      append-nil (line from first) ∙ ap (line from) same ∙ ap (λ n. line n x) (let e : from ≡ from + 0 = omega arith in e)
  lines_more from (suc k) (first ∷ xs) x at =
      ap (λ n. lines_from line from (take n (first ∷ xs))) (let s : suc k + 1 ≡ suc (k + 1) = omega arith in s)
      ∙ ap (λ list. line from first ++ list) (lines_more (from + 1) k xs x at)
      ∙ sym (append_assoc (line from first) (lines_from line (from + 1) (take k xs)) (line (from + 1 + k) x))
      ∙ ap (λ n. (line from first ++ lines_from line (from + 1) (take k xs)) ++ line n x) (let e : from + 1 + k ≡ from + suc k = omega arith in e)

  -- so a text that has the first has the next as well
  pub text_more : (k : ℕ) (xs : List X) (x : X) (start text next : List ℕ) → slice_get xs k ≡ Some x
      → text ≡ start ++ lines_from line 0 (take k xs) → next ≡ text ++ line k x → next ≡ start ++ lines_from line 0 (take (k + 1) xs)
  text_more k xs x start text next at is more =
      more ∙ ap (λ t. t ++ line k x) is ∙ append_assoc start (lines_from line 0 (take k xs)) (line k x)
      ∙ ap (λ n. start ++ (lines_from line 0 (take k xs) ++ line n x)) (let e : k ≡ 0 + k = omega arith in e)
      ∙ ap (λ list. start ++ list) (sym (lines_more 0 k xs x at))

-- four pieces, one after another
pub four_pieces : (one two three four a b c d : List ℕ) → one ≡ a → two ≡ one ++ b → three ≡ two ++ c → four ≡ three ++ d → four ≡ a ++ (b ++ (c ++ d))
four_pieces one two three four a b c d is_one is_two is_three is_four =
    is_four ∙ ap (λ t. t ++ d) (is_three ∙ ap (λ t. t ++ c) (is_two ∙ ap (λ t. t ++ b) is_one))
    ∙ append_assoc (a ++ b) c d ∙ append_assoc a b (c ++ d)
