-- What is left after the last triple of words.
use Rattle.std.proofs.Common.{◌≡◌, ℕ, ◌<◌, ◌≤◌, ◌^◌, List, [], ◌∷◌, length, Option, None, Some, arith, refl, sym}
use Rattle.std.specs.Prelude.{◌==◌, option_map, IfSome}
use Rattle.ca_lex.specs.declared.length.Length.{Length}
use Rattle.ca_lex.specs.Length.{length_of}
use Rattle.ca_lex.proofs.GrammarLemmas.{length_found}
use denote.Bor.{Bor}
use Rattle.ca_spice.specs.code.Names.{texts}
use Rattle.ca_spice.specs.Mos.{are_params, count_of, value_of}

-- fewer than three words have no parameter
pub none_counted : (key : List ℕ) (rest : List (Bor (List ℕ))) → length rest < 3 → count_of key (texts rest) ≡ 0
unfolding count_of
none_counted key [] short = refl
none_counted key (name ∷ []) short = refl
none_counted key (name ∷ sign ∷ []) short = refl
none_counted key (name ∷ sign ∷ value ∷ rest) short = absurd (omega arith)

-- nor a value
pub none_valued : (key : List ℕ) (rest : List (Bor (List ℕ))) → length rest < 3 → value_of key (texts rest) ≡ None
unfolding value_of
none_valued key [] short = refl
none_valued key (name ∷ []) short = refl
none_valued key (name ∷ sign ∷ []) short = refl
none_valued key (name ∷ sign ∷ value ∷ rest) short = absurd (omega arith)

-- fewer than three words are parameters if there are none
pub params_left : (rest : List (Bor (List ℕ))) → length rest < 3 → (length rest == 0) ≡ are_params (texts rest)
unfolding are_params
params_left [] short = refl
params_left (name ∷ []) short = refl
params_left (name ∷ sign ∷ []) short = refl
params_left (name ∷ sign ∷ value ∷ rest) short = absurd (omega arith)

-- a length that was read is no longer than a million metres
pub length_most : (found : Option Length) (word : List ℕ) → option_map (λ (f : Length). f.0) found ≡ length_of word → IfSome found (λ f. f.0 ≤ 10 ^ 24)
length_most None word is = tt
length_most (Some f) word is = (length_found word f.0 (sym is)).most
