-- Texts that are the same in upper case are the same in lower case, and pieces of such texts.
use Rattle.std.proofs.Common.{◌≡◌, ℕ, ◌≤◌, List, [], ◌∷◌, ◌++◌, map, length, take, drop, refl, sym, ◌∙◌, ap}
use Rattle.std.proofs.Common.{arith, length-append, take-append-drop}
use Rattle.std.specs.Char.{to_ascii_uppercase, to_ascii_lowercase}
use Rattle.std.proofs.Math.Decide.{dec_le}
use Rattle.std.proofs.lemmas.List.{length-map, map-append, take-map, append_cancel_left}
use Rattle.std.proofs.lemmas.Str.Ascii.{uppercase_is, lowercase_is, lowercase-uppercase}
use Rattle.ca_lex.specs.Words.{upper_case}

-- a byte in lower case gives, in upper case, the byte in upper case
uppercase-lowercase : (byte : ℕ) → to_ascii_uppercase (to_ascii_lowercase byte) ≡ to_ascii_uppercase byte
uppercase-lowercase byte =
    let lower = lowercase_is byte in
    let upper = uppercase_is byte in
    let again = uppercase_is (to_ascii_lowercase byte) in
    elim (dec_le 65 byte) [
      | yes from ↦ elim (dec_le byte 90) [
        | yes to ↦
            let changed = lower.0 (from, to) in
            let back = again.0 (omega arith, omega arith) in
            let kept = upper.1 (omega arith) in
            omega arith
        | no above ↦ ap to_ascii_uppercase (lower.2 (omega arith))
      ]
      | no below ↦ ap to_ascii_uppercase (lower.1 (omega arith))
    ]

upper_case-lower_case : (text : List ℕ) → upper_case (map to_ascii_lowercase text) ≡ upper_case text
upper_case-lower_case [] = refl
upper_case-lower_case (byte ∷ more) =
    ap (λ first. first ∷ upper_case (map to_ascii_lowercase more)) (uppercase-lowercase byte)
    ∙ ap (λ rest. to_ascii_uppercase byte ∷ rest) (upper_case-lower_case more)

lower_case-upper_case : (text : List ℕ) → map to_ascii_lowercase (upper_case text) ≡ map to_ascii_lowercase text
lower_case-upper_case [] = refl
lower_case-upper_case (byte ∷ more) =
    ap (λ first. first ∷ map to_ascii_lowercase (upper_case more)) (lowercase-uppercase byte)
    ∙ ap (λ rest. to_ascii_lowercase byte ∷ rest) (lower_case-upper_case more)

-- the same in lower case is the same in upper case
pub alike_from_lower : (text other : List ℕ) → map to_ascii_lowercase text ≡ map to_ascii_lowercase other → upper_case text ≡ upper_case other
alike_from_lower text other same = sym (upper_case-lower_case text) ∙ ap upper_case same ∙ upper_case-lower_case other

pub lower_from_alike : (text other : List ℕ) → upper_case text ≡ upper_case other → map to_ascii_lowercase text ≡ map to_ascii_lowercase other
lower_from_alike text other same = sym (lower_case-upper_case text) ∙ ap (map to_ascii_lowercase) same ∙ lower_case-upper_case other

-- a text whose front is a piece in upper case is, in upper case, the piece and what follows it
pub front_and_rest : (text : List ℕ) (size : ℕ) (piece : List ℕ) → upper_case (take size text) ≡ upper_case piece
    → upper_case text ≡ upper_case piece ++ upper_case (drop size text)
front_and_rest text size piece same =
    ap upper_case (sym (take-append-drop size text)) ∙ map-append to_ascii_uppercase (take size text) (drop size text)
    ∙ ap (λ front. front ++ upper_case (drop size text)) same

-- the front of a list
take-front : (xs ys : List ℕ) → take (length xs) (xs ++ ys) ≡ xs
take-front [] ys = refl
take-front (x ∷ xs) ys = ap (λ rest. x ∷ rest) (take-front xs ys)

-- a text that begins with a piece in upper case is as long, and its front is the piece in upper case
pub front_is : (text piece rest : List ℕ) → upper_case text ≡ upper_case piece ++ rest
    → (length piece ≤ length text) × (upper_case (take (length piece) text) ≡ upper_case piece)
front_is text piece rest same =
    let long : length (upper_case text) ≡ length text = length-map text to_ascii_uppercase in
    let size : length (upper_case piece) ≡ length piece = length-map piece to_ascii_uppercase in
    let both = length-append (upper_case piece) rest in
    let lengths : length (upper_case text) ≡ length (upper_case piece ++ rest) = ap length same in (
      omega arith,
      sym (take-map to_ascii_uppercase (length piece) text) ∙ ap (take (length piece)) same
          ∙ ap (λ n. take n (upper_case piece ++ rest)) (sym size) ∙ take-front (upper_case piece) rest,
    )

-- what follows the first piece of a name are the others
pub others_after : (text first mark second following name : List ℕ) → first ++ (mark ++ second) ≡ name → text ≡ first ++ following → name ≡ text
    → following ≡ mark ++ second
others_after text first mark second following name whole front same = append_cancel_left first following (mark ++ second) (sym front ∙ sym same ∙ sym whole)

-- a text that begins with two pieces is, with a third after them, a name exactly where the third is what
-- follows the two
pub three_pieces : (text first mark second after_first after_mark name : List ℕ) → first ++ (mark ++ second) ≡ name → text ≡ first ++ after_first
    → after_first ≡ mark ++ after_mark → (after_mark ≡ second → name ≡ text) × (name ≡ text → after_mark ≡ second)
three_pieces text first mark second after_first after_mark name whole front middle = (
  λ same. sym whole ∙ ap (λ rest. first ++ rest) (ap (λ rest. mark ++ rest) (sym same) ∙ sym middle) ∙ sym front,
  λ same. append_cancel_left mark after_mark second
      (sym middle ∙ others_after text first mark second after_first name whole front same),
)
