use Rattle.std.proofs.Common.{ℕ, ◌+◌, ◌<◌, ◌≡◌, ◌∙◌, sym, ap, subst, List, [], ◌∷◌, ◌++◌, length, get_or}
use Rattle.std.proofs.Common.{take, drop, map, add-one, append_assoc, Option, Result, Ok, Err, OnOk}
use Rattle.std.proofs.lemmas.List.{map-append, append-nil, take-append-drop}
use Rattle.std.proofs.lemmas.List.Folds.{concat-append}
use Rattle.std.proofs.Math.Seq.{take-suc}
use Rattle.std.specs.List.{concat}
use Rattle.ca_store.specs.Store.{appended, AppendsPart}
use Rattle.ca_store.proofs.Appends.{part_of_first, part_of_second, appended_twice}

module _ {A : Type 0} (text_in : A → List ℕ) (pieces : List A) (place : ℕ) (other : A) (below : place < length pieces) where
  -- the pieces before the next place are those before this one, and the one here
  pub pieces_next : concat (map text_in (take (place + 1) pieces))
      ≡ concat (map text_in (take place pieces)) ++ text_in (get_or pieces place other)
  pieces_next =
      let taken : take (place + 1) pieces ≡ take place pieces ++ (get_or pieces place other ∷ []) =
      rw (add-one place) (take-suc pieces place other below) in
      ap (λ some. concat (map text_in some)) taken
      ∙ ap concat (map-append text_in (take place pieces) (get_or pieces place other ∷ []))
      ∙ concat-append (map text_in (take place pieces)) (text_in (get_or pieces place other) ∷ [])
      ∙ ap (λ piece. concat (map text_in (take place pieces)) ++ piece) (append-nil (text_in (get_or pieces place other)))

  -- all pieces are those before this place, the one here, and those after it
  pub pieces_parted : (concat (map text_in (take place pieces)) ++ text_in (get_or pieces place other))
      ++ concat (map text_in (drop (place + 1) pieces)) ≡ concat (map text_in pieces)
  pieces_parted =
      ap (λ front. front ++ concat (map text_in (drop (place + 1) pieces))) (sym pieces_next)
      ∙ sym (concat-append (map text_in (take (place + 1) pieces)) (map text_in (drop (place + 1) pieces)))
      ∙ ap concat (sym (map-append text_in (take (place + 1) pieces) (drop (place + 1) pieces)))
      ∙ ap (λ all. concat (map text_in all)) (take-append-drop (place + 1) pieces)

  module _ (old mid new : Option (List ℕ)) (before : mid ≡ appended (concat (map text_in (take place pieces))) old) where
    -- a write of the piece here goes on from the earlier ones
    pub pieces_written : new ≡ appended (text_in (get_or pieces place other)) mid
        → new ≡ appended (concat (map text_in (take (place + 1) pieces))) old
    pieces_written wrote =
        wrote ∙ ap (appended (text_in (get_or pieces place other))) before
        ∙ appended_twice old (concat (map text_in (take place pieces))) (text_in (get_or pieces place other))
        ∙ ap (λ more. appended more old) (sym pieces_next)

    -- a part of the piece here is a part of all of them
    pub part_of_pieces : AppendsPart (text_in (get_or pieces place other)) mid new → AppendsPart (concat (map text_in pieces)) old new
    part_of_pieces wrote =
        subst (λ bytes. AppendsPart bytes old new) pieces_parted
        (part_of_first (concat (map text_in (take place pieces)) ++ text_in (get_or pieces place other)) (concat (map text_in (drop (place + 1) pieces))) old new
        (part_of_second (concat (map text_in (take place pieces))) (text_in (get_or pieces place other)) old mid new before wrote))

-- a line of six pieces, of which the inner four are its text
pub line_joined : (head start word end last tail first text final : List ℕ)
    → head ≡ first → start ++ (word ++ (end ++ last)) ≡ text → tail ≡ final
    → concat (head ∷ start ∷ word ∷ end ∷ last ∷ tail ∷ []) ≡ first ++ (text ++ final)
line_joined head start word end last tail first text final is_head is_text is_tail =
    ap (λ more. head ++ (start ++ (word ++ (end ++ (last ++ more))))) (append-nil tail)
    ∙ ap (λ more. head ++ (start ++ (word ++ more))) (sym (append_assoc end last tail))
    ∙ ap (λ more. head ++ (start ++ more)) (sym (append_assoc word (end ++ last) tail))
    ∙ ap (λ more. head ++ more) (sym (append_assoc start (word ++ (end ++ last)) tail))
    ∙ ap (λ inner. head ++ (inner ++ tail)) is_text
    ∙ ap (λ front. front ++ (text ++ tail)) is_head
    ∙ ap (λ back. first ++ (text ++ back)) is_tail

-- what is said of an answer of Ok follows from what is said of it elsewhere
pub on_ok_from : {T E : Type 0} (r : Result T E) (P Q : Type 0) → (P → Q) → OnOk r P → OnOk r Q
on_ok_from (Ok value) P Q next said = next said
on_ok_from (Err error) P Q next said = tt
