-- Parts of a list of bytes, and names that differ.
use Rattle.std.proofs.Common.{◌≡◌, ◌≢◌, ℕ, ◌-◌, ◌≤◌, Bool, true, false, List, [], ◌++◌, length, take, drop}
use Rattle.std.proofs.Common.{refl, ap, sym, ◌∙◌, arith, length-drop}
use Rattle.std.specs.Str.{bytes_eq}
use Rattle.std.proofs.lemmas.List.{take-append-le, drop-append-le, take_rest}
use Rattle.std.proofs.lemmas.Slice.Eq.{bytes_eq-Decides}
use Rattle.std.proofs.Math.Seq.{drop-append_seam}
use Rattle.ca_store.specs.code.Arena.{part}

-- lists of bytes that differ are told apart
pub unequal : (xs ys : List ℕ) → xs ≢ ys → bytes_eq xs ys ≡ false
unequal xs ys other = at (bytes_eq xs ys) refl
  where
    at : (b : Bool) → bytes_eq xs ys ≡ b → bytes_eq xs ys ≡ false
    at false unlike = unlike
    at true like = absurd (other ((bytes_eq-Decides xs ys).0 like))

-- a list of bytes is found to be itself
pub equal : (xs : List ℕ) → bytes_eq xs xs ≡ true
equal xs = (bytes_eq-Decides xs xs).1 refl

-- a part that was there before more was added
pub part_before : (xs more : List ℕ) (start end : ℕ) → start ≤ end → end ≤ length xs
    → part (xs ++ more) start end ≡ part xs start end
part_before xs more start end ordered within =
    ap (take (end - start)) (drop-append-le start xs more (omega arith))
    ∙ take-append-le (end - start) (drop start xs) more (omega (arith, length-drop start xs))

-- a part up to the end, after more was added
pub part_grown : (xs more : List ℕ) (start : ℕ) → start ≤ length xs
    → part (xs ++ more) start (length (xs ++ more)) ≡ part xs start (length xs) ++ more
part_grown xs more start within =
    take_rest (xs ++ more) start ∙ drop-append-le start xs more within
    ∙ ap (λ (zs : List ℕ). zs ++ more) (sym (take_rest xs start))

-- what was added
pub part_added : (xs more : List ℕ) → part (xs ++ more) (length xs) (length (xs ++ more)) ≡ more
part_added xs more = take_rest (xs ++ more) (length xs) ∙ drop-append_seam xs more

-- a part of no bytes
pub part_empty : (xs : List ℕ) (start : ℕ) → part xs start start ≡ []
part_empty xs start =
    let none : start - start ≡ 0 = omega arith in
    ap (λ (n : ℕ). take n (drop start xs)) none
