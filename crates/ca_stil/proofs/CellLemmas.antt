-- The values in a chain's cells, the last cell first.
use Rattle.std.proofs.Common.{◌≡◌, ℕ, ◌+◌, ◌-◌, ◌<◌, ◌≤◌, Bool, false, List, [], ◌∷◌, ◌++◌, ◌∙◌, length, map}
use Rattle.std.proofs.Common.{reverse, take, drop, get_or, ap, arith, append_assoc, append-nil, length-drop}
use Rattle.std.proofs.Common.{sym, refl, zero, suc}
use Rattle.std.specs.List.{All}
use Rattle.std.proofs.lemmas.List.Elements.{All-get_or}
use Rattle.std.proofs.lemmas.List.{take_more, map-append, reverse-append, get_or-drop, get_or-take}
use Rattle.std.proofs.lemmas.List.{get_or_default}
use Rattle.std.proofs.Math.Seq.{take-length}
use Rattle.ca_net.specs.declared.trit.Trit.{Trit}
use Rattle.ca_net.specs.declared.trit.Trit.TheVariants.{X}
use Rattle.ca_stil.specs.Chip.{part}
use Rattle.ca_stil.specs.Words.{digit_of, level_of, cell_bits, cell_levels}

last_first : {Value : Type 0} (letter_of : Value → ℕ) (value_at : ℕ → Value) (places : List ℕ) (left other : ℕ) → left < length places
    → map letter_of (reverse (map value_at (take (left + 1) places)))
    ≡ letter_of (value_at (get_or places left other)) ∷ map letter_of (reverse (map value_at (take left places)))
last_first {Value = Value} letter_of value_at places left other below =
    ap (λ (given : List ℕ). map letter_of (reverse (map value_at given))) (take_more places left other below)
    ∙ ap (λ (given : List Value). map letter_of (reverse given)) (map-append value_at (take left places) (get_or places left other ∷ []))
    ∙ ap (map letter_of) (reverse-append (map value_at (take left places)) (value_at (get_or places left other) ∷ []))

in_part : {Value : Type 0} (from count : ℕ) (values : List Value) (place : ℕ) (other : Value) → place < count
    → get_or (part from count values) place other ≡ get_or values (from + place) other
in_part from count values place other below = get_or-take count (drop from values) place other below ∙ get_or-drop from values place other

pub take_all : (places : List ℕ) → take (length places) places ≡ places
take_all places = take-length places

pub cell_bits_less : (from count : ℕ) (values : List Bool) (places : List ℕ) (left : ℕ) → 0 < left → left ≤ length places → All (λ place. place < count) places
    → cell_bits (part from count values) (take left places)
    ≡ digit_of (get_or values (from + get_or places (left - 1) 0) false) ∷ cell_bits (part from count values) (take (left - 1) places)
unfolding cell_bits
cell_bits_less from count values places left some within below =
    let same : left ≡ left - 1 + 1 = omega arith in
    let here : get_or places (left - 1) 0 < count = All-get_or (λ place. place < count) places (left - 1) 0 (omega arith) below in
    ap (λ (n : ℕ). map digit_of (reverse (map (λ (place : ℕ). get_or (part from count values) place false) (take n places)))) same
    ∙ (last_first digit_of (λ (place : ℕ). get_or (part from count values) place false) places (left - 1) 0 (omega arith)
    ∙ ap (λ (first : Bool). digit_of first ∷ map digit_of (reverse (map (λ (place : ℕ). get_or (part from count values) place false) (take (left - 1) places))))
    (in_part from count values (get_or places (left - 1) 0) false here))

pub cell_bits_none : (values : List Bool) (places : List ℕ) (left : ℕ) → left ≤ 0 → cell_bits values (take left places) ≡ []
unfolding cell_bits
cell_bits_none values places zero none = refl
cell_bits_none values places (suc left) none = absurd (omega (arith, none))

pub cell_levels_less : (from count : ℕ) (values : List Trit) (places : List ℕ) (left : ℕ) (other : Trit) → 0 < left → left ≤ length places
    → All (λ place. place < count) places → from + count ≤ length values
    → cell_levels (part from count values) (take left places)
    ≡ level_of (get_or values (from + get_or places (left - 1) 0) other) ∷ cell_levels (part from count values) (take (left - 1) places)
unfolding cell_levels
cell_levels_less from count values places left other some within below long =
    let same : left ≡ left - 1 + 1 = omega arith in
    let here : get_or places (left - 1) 0 < count = All-get_or (λ place. place < count) places (left - 1) 0 (omega arith) below in
    let read : get_or values (from + get_or places (left - 1) 0) X ≡ get_or values (from + get_or places (left - 1) 0) other =
    get_or_default values (from + get_or places (left - 1) 0) X other (omega (arith, here)) in
    ap (λ (n : ℕ). map level_of (reverse (map (λ (place : ℕ). get_or (part from count values) place X) (take n places)))) same
    ∙ (last_first level_of (λ (place : ℕ). get_or (part from count values) place X) places (left - 1) 0 (omega arith)
    ∙ ap (λ (first : Trit). level_of first ∷ map level_of (reverse (map (λ (place : ℕ). get_or (part from count values) place X) (take (left - 1) places))))
    (in_part from count values (get_or places (left - 1) 0) X here ∙ read))

pub cell_levels_none : (values : List Trit) (places : List ℕ) (left : ℕ) → left ≤ 0 → cell_levels values (take left places) ≡ []
unfolding cell_levels
cell_levels_none values places zero none = refl
cell_levels_none values places (suc left) none = absurd (omega (arith, none))

-- the next letter is written
pub stepped : (old text new cells less all : List ℕ) (letter value : ℕ) → text ++ cells ≡ old ++ all → new ≡ text ++ letter ∷ [] → letter ≡ value
    → cells ≡ value ∷ less → new ++ less ≡ old ++ all
stepped old text new cells less all letter value before pushed is more =
    ap (λ (given : List ℕ). given ++ less) pushed ∙ (append_assoc text (letter ∷ []) less
    ∙ (ap (λ (first : ℕ). text ++ first ∷ less) is ∙ (ap (λ (given : List ℕ). text ++ given) (sym more) ∙ before)))

-- no letter is left
pub ended : (old text cells all : List ℕ) → text ++ cells ≡ old ++ all → cells ≡ [] → text ≡ old ++ all
ended old text cells all before none = sym (ap (λ (given : List ℕ). text ++ given) none ∙ append-nil text) ∙ before

-- one more of the values from a place on
part_more : {Value : Type 0} (from count k : ℕ) (values : List Value) (other : Value) → k < count → from + count ≤ length values
    → part from (k + 1) values ≡ part from k values ++ get_or values (from + k) other ∷ []
part_more {Value = Value} from count k values other below long =
    take_more (drop from values) k other (omega (arith, length-drop from values))
    ∙ ap (λ (value : Value). take k (drop from values) ++ value ∷ []) (get_or-drop from values k other)

pub digits_more : (from count k : ℕ) (values : List Bool) (other : Bool) → k < count → from + count ≤ length values
    → map digit_of (part from (k + 1) values) ≡ map digit_of (part from k values) ++ digit_of (get_or values (from + k) other) ∷ []
digits_more from count k values other below long =
    ap (map digit_of) (part_more from count k values other below long) ∙ map-append digit_of (part from k values) (get_or values (from + k) other ∷ [])

pub digits_none : (from : ℕ) (values : List Bool) → map digit_of (part from 0 values) ≡ []
digits_none from values = refl

pub letters_more : (count k : ℕ) (values : List Trit) (other : Trit) → k < count → count ≤ length values
    → map level_of (part 0 (k + 1) values) ≡ map level_of (part 0 k values) ++ level_of (get_or values k other) ∷ []
letters_more count k values other below long =
    let place : 0 + k ≡ k = omega arith in
    let done = map level_of (part 0 k values) in
    ap (map level_of) (part_more 0 count k values other below (omega (arith, long)))
    ∙ (map-append level_of (part 0 k values) (get_or values (0 + k) other ∷ [])
    ∙ ap (λ (n : ℕ). done ++ level_of (get_or values n other) ∷ []) place)

pub letters_none : (from : ℕ) (values : List Trit) → map level_of (part from 0 values) ≡ []
letters_none from values = refl

-- one letter more is written
pub one_more : (old text new done all : List ℕ) (letter value : ℕ) → text ≡ old ++ done → new ≡ text ++ letter ∷ []
    → letter ≡ value → all ≡ done ++ value ∷ [] → new ≡ old ++ all
one_more old text new done all letter value before pushed is more =
    pushed ∙ ap (λ (given : List ℕ). given ++ letter ∷ []) before
    ∙ (append_assoc old done (letter ∷ [])
    ∙ (ap (λ (last : ℕ). old ++ (done ++ last ∷ [])) is ∙ ap (λ (given : List ℕ). old ++ given) (sym more)))
