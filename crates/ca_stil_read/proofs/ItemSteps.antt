-- Items, step by step: what a loop over them needs.
use Rattle.std.proofs.Common.{◌≡◌, ℕ, zero, suc, ◌+◌, ◌<◌, Bool, true, false, List, [], ◌∷◌, ◌++◌, length}
use Rattle.std.proofs.Common.{refl, ap, ◌∙◌, arith, length-append}
use Rattle.std.specs.Str.{bytes_eq}
use Rattle.ca_stil_form.specs.Form.{Token, Outcome, Got, Stuck, with_first, read_after, mapped, read_until}
use Rattle.ca_stil_form.specs.Form.{read_items}
use Rattle.ca_stil_form.specs.code.Form.{BeginsOther}
use Rattle.ca_stil_form.specs.Grammar.{Form}
use Rattle.ca_stil_form.specs.code.Grammar.{IsExactForm}
use Rattle.ca_stil_form.proofs.ItemsLemmas.{some_tokens, next_items, until_step, until_close}

-- an item takes some tokens
pub item_shorter : {Item : Type 0} (close : Token) (item : Form Item) → IsExactForm item
    → ((value : Item) → item.allowed value ≡ true → BeginsOther close (item.written value))
    → (tokens rest : List Token) (value : Item) → item.read tokens ≡ Got value rest → length rest < length tokens
item_shorter close item exact opens tokens rest value is =
    let facts = exact.exact.found tokens value rest is in
    let some = some_tokens close (item.written value) (opens value facts.0) in
    let counts : length tokens ≡ length (item.written value ++ rest) = ap length facts.1 in
    omega (arith, some, counts, length-append (item.written value) rest)

until_same : {Item : Type 0} (close : Token) (item : ℕ → Form Item) → ((number : ℕ) → IsExactForm (item number))
    → ((number : ℕ) (value : Item) → (item number).allowed value ≡ true → BeginsOther close ((item number).written value))
    → (clock other number : ℕ) (tokens : List Token) → length tokens < clock → length tokens < other
    → read_until close (λ number. (item number).read) clock number tokens ≡ read_until close (λ number. (item number).read) other number tokens
unfolding read_until
until_same close item exact opens zero other number tokens below also = absurd (omega (arith, below))
until_same close item exact opens (suc clock) zero number tokens below also = absurd (omega (arith, also))
until_same close item exact opens (suc clock) (suc other) number [] below also = refl
until_same {Item} close item exact opens (suc clock) (suc other) number (token ∷ tokens) below also =
    by_token (bytes_eq close token) (λ rest. until_same close item exact opens clock other (number + 1) rest)
  where
    by_item : (given : Outcome Item) → (item number).read (token ∷ tokens) ≡ given
        → ((rest : List Token) → length rest < clock → length rest < other
        → read_until close (λ number. (item number).read) clock (number + 1) rest ≡ read_until close (λ number. (item number).read) other (number + 1) rest)
        → mapped (λ (both : Item × List Item). both.0 ∷ both.1) (read_after given (λ one. read_until close (λ number. (item number).read) clock (number + 1)))
        ≡ mapped (λ (both : Item × List Item). both.0 ∷ both.1) (read_after given (λ one. read_until close (λ number. (item number).read) other (number + 1)))
    by_item (Got one rest) is later =
        let less = item_shorter close (item number) (exact number) (opens number) (token ∷ tokens) rest one is in
        ap (λ (given : Outcome (List Item)). mapped (λ (both : Item × List Item). both.0 ∷ both.1) (with_first one given)) (later rest (omega (arith, less, below)) (omega (arith, less, also)))
    by_item (Stuck rest) is later = refl

    by_token : (same : Bool)
        → ((rest : List Token) → length rest < clock → length rest < other
        → read_until close (λ number. (item number).read) clock (number + 1) rest ≡ read_until close (λ number. (item number).read) other (number + 1) rest)
        → elim same as (λ _. Outcome (List Item)) [ true ↦ Got [] tokens | false ↦ next_items close (λ number. (item number).read) clock number (token ∷ tokens) ]
        ≡ elim same as (λ _. Outcome (List Item)) [ true ↦ Got [] tokens | false ↦ next_items close (λ number. (item number).read) other number (token ∷ tokens) ]
    by_token true later = refl
    by_token false later = by_item ((item number).read (token ∷ tokens)) refl later

-- an item is read, and the others follow
pub items_step : {Item : Type 0} (close : Token) (item : ℕ → Form Item) → ((number : ℕ) → IsExactForm (item number))
    → ((number : ℕ) (value : Item) → (item number).allowed value ≡ true → BeginsOther close ((item number).written value))
    → (number : ℕ) (tokens rest : List Token) (one : Item) → BeginsOther close tokens → (item number).read tokens ≡ Got one rest
    → read_items close (λ number. (item number).read) number tokens
    ≡ mapped (λ (both : Item × List Item). both.0 ∷ both.1) (with_first one (read_items close (λ number. (item number).read) (number + 1) rest))
items_step {Item} close item exact opens number tokens rest one begins is =
    let less = item_shorter close (item number) (exact number) (opens number) tokens rest one is in
    until_step close (λ number. (item number).read) (length tokens) number tokens begins
    ∙ ap (λ (given : Outcome Item). mapped (λ (both : Item × List Item). both.0 ∷ both.1) (read_after given (λ one. read_until close (λ number. (item number).read) (length tokens) (number + 1)))) is
    ∙ ap (λ (given : Outcome (List Item)). mapped (λ (both : Item × List Item). both.0 ∷ both.1) (with_first one given))
    (until_same close item exact opens (length tokens) (suc (length rest)) (number + 1) rest less (omega arith))

-- an item is stuck, and so are the items
pub items_stop : {Item : Type 0} (close : Token) (item : ℕ → Form Item) (number : ℕ) (tokens rest : List Token) → BeginsOther close tokens → (item number).read tokens ≡ Stuck rest
    → read_items close (λ number. (item number).read) number tokens ≡ Stuck rest
items_stop {Item} close item number tokens rest begins is =
    until_step close (λ number. (item number).read) (length tokens) number tokens begins
    ∙ ap (λ (given : Outcome Item). mapped (λ (both : Item × List Item). both.0 ∷ both.1) (read_after given (λ one. read_until close (λ number. (item number).read) (length tokens) (number + 1)))) is

-- the closing token ends the items
pub items_close : {Item : Type 0} (close : Token) (item : ℕ → Form Item) (number : ℕ) (tokens : List Token) (token : Token) (rest : List Token)
    → tokens ≡ token ∷ rest → bytes_eq close token ≡ true → read_items close (λ number. (item number).read) number tokens ≡ Got [] rest
items_close {Item} close item number tokens token rest is closes =
    ap (read_items close (λ number. (item number).read) number) is ∙ until_close close (λ number. (item number).read) (length (token ∷ rest)) number token rest closes
