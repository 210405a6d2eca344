-- The words in front of a command.
use Rattle.std.proofs.Common.{ℕ, zero, suc, ◌≡◌, ◌≤◌, ◌<◌, ◌∙◌, refl, sym, ap, arith, true, false, Bool, List, [], ◌∷◌, length, map, drop, get_or}
use Rattle.std.specs.Prelude.{Some, None, codes, if◌then◌else◌}
use Rattle.std.specs.Str.{bytes_eq}
use Rattle.std.proofs.lemmas.List.{get_or-map, length-map}
use Rattle.std.proofs.lemmas.Slice.Eq.{bytes_eq-Decides}
use Rattle.ca_words.specs.Words.{table_word, command_words}
use Rattle.ca_words.specs.code.Prefix.{NamesTable}

-- the test of the first word, where there are two
yes_test : (first table : List ℕ) (words : List (List ℕ)) → NamesTable (first ∷ table ∷ words) → bytes_eq first (codes "strengths") ≡ true
yes_test first table words named = (bytes_eq-Decides first (codes "strengths")).1 named.first

no_test : (first table : List ℕ) (words : List (List ℕ)) → ¬ (NamesTable (first ∷ table ∷ words))
    → bytes_eq first (codes "strengths") ≡ false
no_test first table words none = by (bytes_eq first (codes "strengths")) refl
  where
    by : (test : Bool) → bytes_eq first (codes "strengths") ≡ test → test ≡ false
    by true is = absurd (none (record { two = omega arith; first = (bytes_eq-Decides first (codes "strengths")).0 is }))
    by false is = refl

table_named : (words : List (List ℕ)) → NamesTable words → table_word words ≡ Some (get_or words 1 [])
unfolding table_word
table_named [] named = absurd (let two = named.two in omega (arith, two))
table_named (first ∷ []) named = absurd (let two = named.two in omega (arith, two))
table_named (first ∷ table ∷ words) named = (λ j. if yes_test first table words named j then Some table else None)

pub no_table : (words : List (List ℕ)) → ¬ (NamesTable words) → table_word words ≡ None
unfolding table_word
no_table [] none = refl
no_table (first ∷ []) none = refl
no_table (first ∷ table ∷ words) none = (λ j. if no_test first table words none j then Some table else None)

command_named : (words : List (List ℕ)) → NamesTable words → command_words words ≡ drop 2 words
unfolding command_words
command_named [] named = absurd (let two = named.two in omega (arith, two))
command_named (first ∷ []) named = absurd (let two = named.two in omega (arith, two))
command_named (first ∷ table ∷ words) named = (λ j. if yes_test first table words named j then words else first ∷ table ∷ words)

pub all_words : (words : List (List ℕ)) → ¬ (NamesTable words) → command_words words ≡ words
unfolding command_words
all_words [] none = refl
all_words (first ∷ []) none = refl
all_words (first ∷ table ∷ words) none = (λ j. if no_test first table words none j then words else first ∷ table ∷ words)

-- of words that are typed
pub typed_table : {A : Type 0} (f : A → List ℕ) (items : List A) (item : A) → NamesTable (map f items) → item ≡ get_or items 1 item
    → 1 < length items → table_word (map f items) ≡ Some (f item)
typed_table f items item named is below = table_named (map f items) named ∙ ap Some (get_or-map f items 1 item [] below ∙ ap f (sym is))

map_drop : {A : Type 0} (f : A → List ℕ) (n : ℕ) (items : List A) → map f (drop n items) ≡ drop n (map f items)
map_drop f zero items = refl
map_drop f (suc n) [] = refl
map_drop f (suc n) (x ∷ xs) = map_drop f n xs

pub typed_words : {A : Type 0} (f : A → List ℕ) (items : List A) → NamesTable (map f items)
    → map f (drop 2 items) ≡ command_words (map f items)
typed_words f items named = map_drop f 2 items ∙ sym (command_named (map f items) named)

-- the first word that is typed
pub first_typed : {A : Type 0} (f : A → List ℕ) (items : List A) (item : A) → item ≡ get_or items 0 item → 2 ≤ length items
    → get_or (map f items) 0 [] ≡ f item
first_typed f items item is two = get_or-map f items 0 item [] (omega (arith, two)) ∙ ap f (sym is)

-- there are as many words as are typed
pub two_typed : {A : Type 0} (f : A → List ℕ) (items : List A) → NamesTable (map f items) → 2 ≤ length items
two_typed f items named = let two = named.two in let same = length-map items f in omega (arith, two, same)

pub named_typed : {A : Type 0} (f : A → List ℕ) (items : List A) (item : A) → item ≡ get_or items 0 item → 2 ≤ length items
    → f item ≡ codes "strengths" → NamesTable (map f items)
named_typed f items item is two first = record {
  two = let same = length-map items f in omega (arith, two, same);
  first = first_typed f items item is two ∙ first;
}
