-- Lists that are cut, and put together again.
use Rattle.std.proofs.Common.{◌≡◌, ℕ, zero, suc, ◌+◌, ◌≤◌, List, [], ◌∷◌, ◌++◌, length, map, take, drop}
use Rattle.std.proofs.Common.{ap, sym, ◌∙◌, arith, append_assoc, refl, length-append, length-drop}
use Rattle.std.specs.List.{All, AllByRecursion}
use Rattle.std.proofs.lemmas.List.{take-append-drop, length-take-le, take_all}
use Rattle.std.proofs.Math.Seq.{drop-append_seam, take-append_seam, drop-nil}
use Rattle.ca_stil.specs.Chip.{part}
use Rattle.ca_stil_read.specs.Plan.{flat}

-- what holds by recursion holds of each
pub all_of : {Item : Type 0} (P : Item → Type 0) (items : List Item) → AllByRecursion P items → All P items
all_of P [] all k other below = absurd (omega (arith, below))
all_of P (item ∷ items) all zero other below = all.0
all_of P (item ∷ items) all (suc k) other below = all_of P items all.1 k other (omega (arith, below))

-- a part of a list that is put together
pub part_seam : {Value : Type 0} (from count : ℕ) (xs ys zs whole : List Value) → from ≡ length xs → count ≡ length ys
    → whole ≡ xs ++ (ys ++ zs) → part from count whole ≡ ys
part_seam from count xs ys zs whole from_is count_is is =
    (λ j. take (count_is j) (drop (from_is j) (is j)))
    ∙ ap (take (length ys)) (drop-append_seam xs (ys ++ zs))
    ∙ take-append_seam ys zs

-- a part is as long as it is asked for
pub long_part : {Value : Type 0} (from count : ℕ) (values : List Value) → from + count ≤ length values
    → length (part from count values) ≡ count
long_part from count values long = length-take-le count (drop from values) (omega (arith, length-drop from values))

drop_twice : {Value : Type 0} (one two : ℕ) (values : List Value) → drop two (drop one values) ≡ drop (one + two) values
drop_twice zero two values = let is : two ≡ 0 + two = omega arith in ap (λ (count : ℕ). drop count values) is
drop_twice (suc one) two [] = drop-nil two ∙ sym (drop-nil (suc one + two))
drop_twice (suc one) two (value ∷ values) =
    let is : suc (one + two) ≡ suc one + two = omega arith in
    drop_twice one two values ∙ ap (λ (count : ℕ). drop count (value ∷ values)) is

-- what is from a place on, cut once more
cut_once : {Value : Type 0} (from count : ℕ) (values : List Value)
    → drop from values ≡ part from count values ++ drop (from + count) values
cut_once from count values =
    sym (take-append-drop count (drop from values))
    ∙ ap (λ (rest : List _). part from count values ++ rest) (drop_twice from count values)

cut_last : {Value : Type 0} (from count : ℕ) (values : List Value) → length values ≡ from + count
    → drop from values ≡ part from count values
cut_last from count values long = sym (take_all count (drop from values) (omega (arith, long, length-drop from values)))

-- a list in two parts, and in four
pub cut_two : {Value : Type 0} (one two : ℕ) (values : List Value) → length values ≡ one + two
    → values ≡ part 0 one values ++ part one two values
cut_two one two values long =
    sym (take-append-drop one values) ∙ ap (λ (rest : List _). part 0 one values ++ rest) (cut_last one two values long)

pub cut_four : {Value : Type 0} (one two three four : ℕ) (values : List Value) → length values ≡ one + two + three + four
    → values ≡ part 0 one values ++ (part one two values ++ (part (one + two) three values
    ++ part (one + two + three) four values))
cut_four one two three four values long =
    sym (take-append-drop one values)
    ∙ ap (λ (rest : List _). part 0 one values ++ rest) (cut_once one two values
    ∙ ap (λ (rest : List _). part one two values ++ rest) (cut_once (one + two) three values
    ∙ ap (λ (rest : List _). part (one + two) three values ++ rest) (cut_last (one + two + three) four values long)))

-- lists put together alike have the same parts
pub record AreParts {Value : Type 0} (one two more rest : List Value) : Type 0 where
  pub front : one ≡ two
  pub back : more ≡ rest

pub parts_of : {Value : Type 0} (one two more rest : List Value) → length one ≡ length two → one ++ more ≡ two ++ rest
    → AreParts one two more rest
parts_of [] [] more rest long same = record { front = refl; back = same }
parts_of [] (other ∷ two) more rest long same = absurd (omega (arith, long))
parts_of (value ∷ one) [] more rest long same = absurd (omega (arith, long))
parts_of (value ∷ one) (other ∷ two) more rest long same =
    let first : value ≡ other = cc in
    let later = parts_of one two more rest (omega (arith, long)) cc in
    record { front = (λ j. first j ∷ later.front j); back = later.back }

-- lists of lists of the same lengths, one after another
pub record AreLists {Value : Type 0} (one two : List (List Value)) (more rest : List Value) : Type 0 where
  pub front : one ≡ two
  pub back : more ≡ rest

pub lists_of : {Value : Type 0} (one two : List (List Value)) (more rest : List Value) → map length one ≡ map length two
    → flat one ++ more ≡ flat two ++ rest → AreLists one two more rest
lists_of [] [] more rest long same = record { front = refl; back = same }
lists_of [] (other ∷ two) more rest long same = absurd cc
lists_of (list ∷ one) [] more rest long same = absurd cc
lists_of (list ∷ one) (other ∷ two) more rest long same =
    let here : length list ≡ length other = cc in
    let there : map length one ≡ map length two = cc in
    let head = parts_of list other (flat one ++ more) (flat two ++ rest) here
    (sym (append_assoc list (flat one) more) ∙ same ∙ append_assoc other (flat two) rest) in
    let later = lists_of one two more rest there head.back in
    record { front = (λ j. head.front j ∷ later.front j); back = later.back }

-- the lengths of lists say how long they are together
pub flat_long : {Value : Type 0} (one two : List (List Value)) → map length one ≡ map length two
    → length (flat one) ≡ length (flat two)
flat_long [] [] long = refl
flat_long [] (other ∷ two) long = absurd cc
flat_long (list ∷ one) [] long = absurd cc
flat_long (list ∷ one) (other ∷ two) long =
    let here : length list ≡ length other = cc in
    let there : map length one ≡ map length two = cc in
    let later = flat_long one two there in
    omega (arith, here, later, length-append list (flat one), length-append other (flat two))
