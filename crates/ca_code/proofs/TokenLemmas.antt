-- Tokens as numbers.
use Rattle.std.proofs.Common.{◌≡◌, ℕ, List, [], ◌∷◌, ◌++◌, length, ◌∙◌, ap}
use Rattle.std.proofs.lemmas.List.{length-map, map-append}
use Rattle.ca_flat.specs.declared.token.Token.{Token}
use Rattle.ca_code.specs.Tokens.{token_of, tokens_of}

-- one more number is one more token
pub tokens_push : (numbers longer : List ℕ) (number : ℕ) (token : Token) → longer ≡ numbers ++ number ∷ []
    → token_of number ≡ token → tokens_of longer ≡ tokens_of numbers ++ token ∷ []
tokens_push numbers longer number token pushed is =
    ap tokens_of pushed ∙ map-append token_of numbers (number ∷ [])
    ∙ ap (λ t. tokens_of numbers ++ t ∷ []) is

-- as many tokens as numbers
pub tokens_counted : (numbers : List ℕ) → length (tokens_of numbers) ≡ length numbers
tokens_counted numbers = length-map numbers token_of
