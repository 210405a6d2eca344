-- What the first numbers or entries give, with the next.
use Rattle.std.proofs.Common.{◌≡◌, ℕ, zero, suc, ◌+◌, List, [], ◌∷◌, ◌++◌, take, sym, ◌∙◌, ap, arith}
use Rattle.std.proofs.Common.{append_assoc}
use Rattle.std.specs.Prelude.{Some, slice_get, flat_map}
use Rattle.std.specs.List.{range_with_len}
use Rattle.std.proofs.lemmas.List.{append-nil}
use Rattle.std.proofs.lemmas.Option.{slice_get_within}
use Rattle.ca_make.specs.NetlistText.{counted, listed_from}

module _ (part : ℕ → List ℕ) where
  -- those of the first numbers from one on, and that of the next
  range_more : (from count : ℕ) → flat_map part (range_with_len from (suc count))
      ≡ flat_map part (range_with_len from count) ++ part (from + count)
  range_more from zero =
      append-nil (part from) ∙ ap part (let e : from ≡ from + 0 = omega arith in e)
  range_more from (suc count) =
      ap (λ list. part from ++ list) (range_more (from + 1) count)
      ∙ sym (append_assoc (part from) (flat_map part (range_with_len (from + 1) count)) (part (from + 1 + count)))
      ∙ ap (λ n. (part from ++ flat_map part (range_with_len (from + 1) count)) ++ part n)
      (let e : from + 1 + count ≡ from + suc count = omega arith in e)

  -- so a text that has the first has the next as well
  pub counted_more : (count : ℕ) (start text next : List ℕ)
      → text ≡ start ++ counted part count → next ≡ text ++ part count → next ≡ start ++ counted part (count + 1)
  counted_more count start text next is more =
      more ∙ ap (λ t. t ++ part count) is ∙ append_assoc start (counted part count) (part count)
      ∙ ap (λ list. start ++ list)
      (sym (ap (counted part) (let e : count + 1 ≡ suc count = omega arith in e) ∙ range_more 0 count
      ∙ ap (λ n. counted part count ++ part n) (let e : 0 + count ≡ count = omega arith in e)))

module _ {X : Type 0} (part : ℕ → X → List ℕ) where
  -- those of the first entries, and that of the next
  listed_more : (from k : ℕ) (xs : List X) (x : X) → slice_get xs k ≡ Some x
      → listed_from part from (take (k + 1) xs) ≡ listed_from part from (take k xs) ++ part (from + k) x
  listed_more from k [] x at = absurd (let lt = slice_get_within [] k x at in omega (arith, lt))
  listed_more from zero (first ∷ xs) x at =
      let same : first ≡ x = cc in
      append-nil (part from first) ∙ ap (part from) same
      ∙ ap (λ n. part n x) (let e : from ≡ from + 0 = omega arith in e)
  listed_more from (suc k) (first ∷ xs) x at =
      ap (λ n. listed_from part from (take n (first ∷ xs))) (let s : suc k + 1 ≡ suc (k + 1) = omega arith in s)
      ∙ ap (λ list. part from first ++ list) (listed_more (from + 1) k xs x at)
      ∙ sym (append_assoc (part from first) (listed_from part (from + 1) (take k xs)) (part (from + 1 + k) x))
      ∙ ap (λ n. (part from first ++ listed_from part (from + 1) (take k xs)) ++ part n x)
      (let e : from + 1 + k ≡ from + suc k = omega arith in e)

  -- so a text that has the first has the next as well
  pub text_more : (k : ℕ) (xs : List X) (x : X) (start text next : List ℕ) → slice_get xs k ≡ Some x
      → text ≡ start ++ listed_from part 0 (take k xs) → next ≡ text ++ part k x
      → next ≡ start ++ listed_from part 0 (take (k + 1) xs)
  text_more k xs x start text next at is more =
      more ∙ ap (λ t. t ++ part k x) is ∙ append_assoc start (listed_from part 0 (take k xs)) (part k x)
      ∙ ap (λ n. start ++ (listed_from part 0 (take k xs) ++ part n x)) (let e : k ≡ 0 + k = omega arith in e)
      ∙ ap (λ list. start ++ list) (sym (listed_more 0 k xs x at))
