-- The words of a command, and which words are of which.
use Rattle.std.proofs.Common.{ℕ, ◌<◌, ◌≡◌, ◌⊎◌, ◌∙◌, inl, inr, sym, ap, arith, List, [], length, get_or, map}
use Rattle.std.proofs.lemmas.List.{get_or-map, length-map}
use Rattle.ca_words.specs.Words.{command_words, word_at, count_of, IsCheck, AsksNoFile, IsOnCell, IsOnChip}

-- the word of the command at a place is the text of the item there
pub word_of : {A : Type 0} (f : A → List ℕ) (typed : List (List ℕ)) (items : List A) → map f items ≡ command_words typed
    → (place : ℕ) (item : A) → place < length items → item ≡ get_or items place item → word_at typed place ≡ f item
word_of f typed items are place item below is =
    ap (λ (words : List (List ℕ)). get_or words place []) (sym are) ∙ (get_or-map f items place item [] below ∙ ap f (sym is))

-- the command has as many words as there are items
pub count_is : {A : Type 0} (f : A → List ℕ) (typed : List (List ℕ)) (items : List A) → map f items ≡ command_words typed
    → (count : ℕ) → length items ≡ count → count_of typed ≡ count
count_is f typed items are count is = ap length (sym are) ∙ (length-map items f ∙ is)

-- six words, of which the first has more than four letters
abbrev HasSix : List (List ℕ) → Type 0
HasSix words = (count_of words ≡ 6) × (4 < length (word_at words 0))

-- `check` has four words, `grade` and `verify` six, and the other commands on a chip have more
chip_words : (words : List (List ℕ)) → IsOnChip words → IsCheck words ⊎ (HasSix words ⊎ (6 < count_of words))
chip_words words (inl check) = inl check
chip_words words (inr (inl flatten)) = inr (inr (let seven = flatten.seven in omega (arith, seven)))
chip_words words (inr (inr (inl simulate))) = inr (inr (let eight = simulate.eight in omega (arith, eight)))
chip_words words (inr (inr (inr (inl atpg)))) = inr (inr (let seven = atpg.seven in omega (arith, seven)))
chip_words words (inr (inr (inr (inr (inl replay))))) = inr (inr (let nine = replay.nine in omega (arith, nine)))
chip_words words (inr (inr (inr (inr (inr (inl grade)))))) = inr (inl (grade.six, omega (arith, ap length grade.command)))
chip_words words (inr (inr (inr (inr (inr (inr (inl diagnose))))))) = inr (inr (let seven = diagnose.seven in omega (arith, seven)))
chip_words words (inr (inr (inr (inr (inr (inr (inr (inl certify)))))))) = inr (inr (let seven = certify.seven in omega (arith, seven)))
chip_words words (inr (inr (inr (inr (inr (inr (inr (inr (inl verify))))))))) = inr (inl (verify.six, omega (arith, ap length verify.command)))
chip_words words (inr (inr (inr (inr (inr (inr (inr (inr (inr bridges))))))))) = inr (inr (let eight = bridges.eight in omega (arith, eight)))

-- no command on one cell is one on a chip
pub no_chip : (words : List (List ℕ)) → IsOnCell words → IsOnChip words → ⊥
no_chip words on chip = by on (chip_words words chip)
  where
    by : IsOnCell words → IsCheck words ⊎ (HasSix words ⊎ (6 < count_of words)) → ⊥
    by (inl one) (inl other) = omega (arith, ap length (sym one.command ∙ other.command))
    by (inl one) (inr (inl (six, long))) = let four = one.four in omega (arith, four, six)
    by (inl one) (inr (inr more)) = let four = one.four in omega (arith, four, more)
    by (inr (inl one)) (inl other) = let six = one.six in let four = other.four in omega (arith, six, four)
    by (inr (inl one)) (inr (inl (six, long))) = omega (arith, long, ap length one.command)
    by (inr (inl one)) (inr (inr more)) = let six = one.six in omega (arith, six, more)
    by (inr (inr (inl one))) (inl other) = let three = one.three in let four = other.four in omega (arith, three, four)
    by (inr (inr (inl one))) (inr (inl (six, long))) = let three = one.three in omega (arith, three, six)
    by (inr (inr (inl one))) (inr (inr more)) = let three = one.three in omega (arith, three, more)
    by (inr (inr (inr one))) (inl other) = omega (arith, ap length (sym one.command ∙ other.command))
    by (inr (inr (inr one))) (inr (inl (six, long))) = let four = one.four in omega (arith, four, six)
    by (inr (inr (inr one))) (inr (inr more)) = let four = one.four in omega (arith, four, more)

-- one or two words ask for no file
pub few_words : (words : List (List ℕ)) → AsksNoFile words → count_of words < 3
few_words words (inl help) = let one = help.one in omega (arith, one)
few_words words (inr (inl version)) = let one = version.one in omega (arith, one)
few_words words (inr (inr make)) = let two = make.two in omega (arith, two)

-- words that ask for no file are of no command on a chip
pub no_asking_chip : (words : List (List ℕ)) → AsksNoFile words → IsOnChip words → ⊥
no_asking_chip words asks chip = by (chip_words words chip)
  where
    by : IsCheck words ⊎ (HasSix words ⊎ (6 < count_of words)) → ⊥
    by (inl other) = let few = few_words words asks in let four = other.four in omega (arith, few, four)
    by (inr (inl (six, long))) = let few = few_words words asks in omega (arith, few, six)
    by (inr (inr more)) = let few = few_words words asks in omega (arith, few, more)

-- nor of one on a cell
pub no_asking_cell : (words : List (List ℕ)) → AsksNoFile words → IsOnCell words → ⊥
no_asking_cell words asks (inl one) = let few = few_words words asks in let four = one.four in omega (arith, few, four)
no_asking_cell words asks (inr (inl one)) = let few = few_words words asks in let six = one.six in omega (arith, few, six)
no_asking_cell words asks (inr (inr (inl one))) = let few = few_words words asks in let three = one.three in omega (arith, few, three)
no_asking_cell words asks (inr (inr (inr one))) = let few = few_words words asks in let four = one.four in omega (arith, few, four)
