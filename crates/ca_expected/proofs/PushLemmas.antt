-- One output more, and one pair more.
use Rattle.std.proofs.Common.{◌≡◌, ℕ, ◌+◌, Bool, List, [], ◌∷◌, ◌++◌, length, length-append, None, inl, inr}
use Rattle.std.proofs.Common.{refl, sym, ◌∙◌, ap, subst, arith, get_or}
use Rattle.std.specs.Prelude.{slice_index}
use Rattle.std.proofs.lemmas.Bool.{cases_lt}
use Rattle.std.proofs.lemmas.List.{get_or_append_left, get_or-append-add}
use Rattle.ca_net.specs.declared.trit.Trit.{Trit}
use Rattle.ca_net.specs.declared.trit.Trit.TheVariants.{X}
use Rattle.ca_net.specs.State.{value_at}
use Rattle.ca_flat.specs.Chip.{Chip}
use Rattle.ca_code.specs.Filled.{trits_of}
use Rattle.ca_credit.specs.Detection.{IsNetEnd}
use Rattle.ca_expected.specs.Expected.{AreGoodEnds, AreExpected}
use Rattle.ca_expected.specs.code.Kept.{AreFirstEnds, AreFirstRows}

pub no_ends : (chip : Chip) (pair : List Trit) → AreFirstEnds chip pair 0 []
no_ends chip pair = record { room = refl; each = λ o lt. absurd (omega (arith, lt)) }

pub end_more : (chip : Chip) (pair : List Trit) (count : ℕ) (value : Trit) (old new : List Trit) → AreFirstEnds chip pair count old
    → IsNetEnd chip None pair (slice_index chip.outputs count) value → new ≡ old ++ value ∷ [] → AreFirstEnds chip pair (count + 1) new
end_more chip pair count value old new are is e = record {
  room = ap length e ∙ (let l = length-append old (value ∷ []) in let r = are.room in omega arith);
  each = λ o lt. subst (λ l. IsNetEnd chip None pair (slice_index chip.outputs o) (value_at l o)) (sym e) (elim (cases_lt o count) [
    | inl early ↦ subst (IsNetEnd chip None pair (slice_index chip.outputs o))
        (sym (get_or_append_left old (value ∷ []) X o (let r = are.room in omega arith))) (are.each o early)
    | inr late ↦
        let here : o ≡ length old + 0 = let r = are.room in omega arith in
        let same : count ≡ o = omega arith in
        subst (IsNetEnd chip None pair (slice_index chip.outputs o))
        (sym (ap (λ k. get_or (old ++ value ∷ []) k X) here ∙ get_or-append-add old (value ∷ []) 0 X))
        (subst (λ k. IsNetEnd chip None pair (slice_index chip.outputs k) value) same is)
  ]);
}

pub ends_all : (chip : Chip) (pair : List Trit) (count : ℕ) (values : List Trit) → AreFirstEnds chip pair count values → count ≡ length chip.outputs
    → AreGoodEnds chip pair values
ends_all chip pair count values are all = record {
  count = are.room ∙ all;
  each = λ o lt. are.each o (omega arith);
}

pub no_rows : (chip : Chip) (pairs : List (List Bool)) → AreFirstRows chip pairs 0 []
no_rows chip pairs = record { room = refl; each = λ place lt. absurd (omega (arith, lt)) }

pub row_more : (chip : Chip) (pairs : List (List Bool)) (count : ℕ) (row : List Trit) (old new : List (List Trit)) → AreFirstRows chip pairs count old
    → AreGoodEnds chip (trits_of (get_or pairs count [])) row → new ≡ old ++ row ∷ [] → AreFirstRows chip pairs (count + 1) new
row_more chip pairs count row old new are is e = record {
  room = ap length e ∙ (let l = length-append old (row ∷ []) in let r = are.room in omega arith);
  each = λ place lt.
      subst (λ (l : List (List Trit)). AreGoodEnds chip (trits_of (get_or pairs place [])) (get_or l place [])) (sym e) (elim (cases_lt place count) [
        | inl early ↦ subst (AreGoodEnds chip (trits_of (get_or pairs place [])))
            (sym (get_or_append_left old (row ∷ []) [] place (let r = are.room in omega arith))) (are.each place early)
        | inr late ↦
            let here : place ≡ length old + 0 = let r = are.room in omega arith in
            let same : count ≡ place = omega arith in
            subst (AreGoodEnds chip (trits_of (get_or pairs place [])))
            (sym (ap (λ k. get_or (old ++ row ∷ []) k []) here ∙ get_or-append-add old (row ∷ []) 0 []))
            (subst (λ k. AreGoodEnds chip (trits_of (get_or pairs k [])) row) same is)
      ]);
}

pub rows_all : (chip : Chip) (pairs : List (List Bool)) (count : ℕ) (rows : List (List Trit)) → AreFirstRows chip pairs count rows → count ≡ length pairs
    → AreExpected chip pairs rows
rows_all chip pairs count rows are all = record {
  count = are.room ∙ all;
  each = λ place lt. are.each place (omega arith);
}
