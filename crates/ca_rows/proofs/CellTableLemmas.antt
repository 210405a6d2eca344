-- The rows of the defects of a cell.
use Rattle.std.proofs.Common.{◌≡◌, ℕ, ◌+◌, ◌^◌, ◌<◌, ◌≤◌, List, [], ◌∷◌, ◌++◌, Bool, true, false, length}
use Rattle.std.proofs.Common.{length-append, inl, inr, refl, sym, ◌∙◌, ap, subst, arith, get_or}
use Rattle.std.specs.Prelude.{◌↔◌, IsTrue, not, slice_get, Some}
use Rattle.std.specs.List.{Contains}
use Rattle.std.proofs.lemmas.List.{length-map, get_or_append_left, get_or-append-add}
use Rattle.std.proofs.lemmas.Option.{slice_get-get_or, slice_get_within}
use Rattle.std.proofs.lemmas.Bool.{cases_lt}
use Rattle.ca_net.specs.declared.trit.Trit.{Trit}
use Rattle.ca_cell.specs.declared.raw.RawCell.{RawCell}
use Rattle.ca_cell.specs.Raw.{is_input, role_count}
use Rattle.ca_cell.specs.declared.defect.Defect.{Defect}
use Rattle.ca_cell.specs.declared.row.Row.{Row}
use Rattle.ca_cell.specs.List.{defects_of, IsDefectOf, ListsDefects}
use Rattle.ca_cell.specs.Name.{name_of, names_of}
use Rattle.ca_cell.specs.Row.{vector_of}
use Rattle.ca_cell.specs.Exposes.{IsDefiniteVector, Exposes, IsExposable}
use Rattle.ca_cell.proofs.NumberLemmas.{number_of, number_within, vector_again}
use Rattle.ca_matrix.specs.Matrix.{Entries, width_of}
use Rattle.ca_matrix.specs.Built.{IsMatrixOf}
use Rattle.ca_matrix.specs.Showing.{ListsExposing}
use Rattle.ca_rows.specs.CellTable.{ListsRows}
use Rattle.ca_rows.specs.code.CellTable.{IsCellTable, AreShown}

-- one defect more
pub none_shown : (matrix : Entries) → AreShown matrix 0 []
none_shown matrix = record { room = refl; each = λ place lt. absurd (omega (arith, lt)) }

pub shown_more : (matrix : Entries) (count : ℕ) (rows new : List (List Row)) (row : List Row) → AreShown matrix count rows → ListsExposing matrix count row
    → new ≡ rows ++ row ∷ [] → AreShown matrix (count + 1) new
shown_more matrix count rows new row are lists e = subst (AreShown matrix (count + 1)) (sym e) (record {
  room = (let l = length-append rows (row ∷ []) in let r = are.room in omega arith);
  each = λ place lt. elim (cases_lt place count) [
    | inl early ↦
        subst (ListsExposing matrix place) (sym (get_or_append_left rows (row ∷ []) [] place (let r = are.room in omega arith))) (are.each place early)
    | inr late ↦
        let here : place ≡ length rows + 0 = let r = are.room in omega arith in
        let same : count ≡ place = omega arith in
        subst (ListsExposing matrix place) (sym (ap (λ k. get_or (rows ++ row ∷ []) k []) here ∙ get_or-append-add rows (row ∷ []) 0 []))
        (subst (λ k. ListsExposing matrix k row) same lists)
  ];
})

-- the matrix has as many defects as the cell
defect_total : (raw : RawCell) (matrix : Entries) → IsMatrixOf raw matrix → length matrix.defects ≡ length (defects_of raw)
defect_total raw matrix is =
    let wide : 1 + length matrix.defects ≡ 1 + length (names_of raw) = ap width_of is.shape in
    let named = length-map (defects_of raw) (name_of raw) in
    omega arith

-- the rows of the matrix are those of the cell
pub shown_are : (raw : RawCell) (matrix : Entries) (defects : List Defect) (rows : List (List Row)) → IsMatrixOf raw matrix
    → AreShown matrix (length matrix.defects) rows → defects ≡ defects_of raw → IsCellTable (record { cell = raw; defects = defects; rows = rows })
shown_are raw matrix defects rows is are same = record {
  defects_are = same;
  counted = are.room ∙ defect_total raw matrix is ∙ sym (ap length same);
  lists = λ place defect at.
      let there : slice_get (defects_of raw) place ≡ Some defect = ap (λ (l : List Defect). slice_get l place) (sym same) ∙ at in
      (are.each place (let within = slice_get_within defects place defect at in let total = defect_total raw matrix is in let l = ap length same in omega arith)).lists raw defect
      is there;
}

-- a defect of the cell stands at some place
pub some_place : (raw : RawCell) (defects : List Defect) (defect : Defect) (end : ℕ) → ListsDefects raw → defects ≡ defects_of raw → IsDefectOf raw defect
    → ((k : ℕ) → k < end → slice_get defects k ≡ Some defect → ⊥) → length defects ≤ end → ⊥
some_place raw defects defect end law same is none all =
    let has = subst (λ (l : List Defect). Contains l defect) (sym same) ((law.listed defect).1 is) in
    none has.0 (let lt = has.1 in omega arith) (slice_get-get_or defects has.0 defect has.1 ∙ ap Some has.2)

-- a defect is exposable exactly if there are rows that expose it
pub exposable_is : (raw : RawCell) (defect : Defect) (rows : List Row) (empty : Bool) → ListsRows raw defect rows → IsTrue empty ↔ (rows ≡ [])
    → IsTrue (not empty) ↔ IsExposable raw defect
exposable_is raw defect rows empty lists is = (forth, back)
  where
    some_row : (xs : List Row) → rows ≡ xs → (rows ≡ [] → ⊥) → IsExposable raw defect
    some_row [] e none = absurd (none e)
    some_row (row ∷ more) e none =
        let exposing = (lists row).0 (subst (λ (l : List Row). Contains l row) (sym e) (0, omega arith, refl)) in
        (vector_of (role_count is_input raw.pins) row.first, vector_of (role_count is_input raw.pins) row.last, exposing.exposes)

    again : (a : List Trit) → IsDefiniteVector raw a → vector_of (role_count is_input raw.pins) (number_of a) ≡ a
    again a definite = ap (λ n. vector_of n (number_of a)) (sym definite.count) ∙ vector_again a definite.definite

    within : (a : List Trit) → IsDefiniteVector raw a → number_of a < 2 ^ role_count is_input raw.pins
    within a definite = subst (λ n. number_of a < 2 ^ n) definite.count (number_within a)

    listed : (a b : List Trit) → Exposes raw defect a b → Contains rows (record { first = number_of a; last = number_of b })
    listed a b exposes = (lists (record { first = number_of a; last = number_of b })).1 (record {
      first_within = within a exposes.first_definite;
      last_within = within b exposes.last_definite;
      exposes = subst (λ x. Exposes raw defect x (vector_of (role_count is_input raw.pins) (number_of b))) (sym (again a exposes.first_definite))
          (subst (λ x. Exposes raw defect a x) (sym (again b exposes.last_definite)) exposes);
    })

    not_empty : IsExposable raw defect → rows ≡ [] → ⊥
    not_empty exposable e =
        let has = subst (λ (l : List Row). Contains l (record { first = number_of exposable.0; last = number_of exposable.1 })) e
        (listed exposable.0 exposable.1 exposable.2) in
        let lt = has.1 in
        omega arith

    forth : IsTrue (not empty) → IsExposable raw defect
    forth h = by empty refl h
      where
        by : (b : Bool) → empty ≡ b → IsTrue (not b) → IsExposable raw defect
        by true e clash = absurd (let no : false ≡ true = clash in cc)
        by false e holds = some_row rows refl (λ none. let t : empty ≡ true = is.1 none in cc)

    back : IsExposable raw defect → IsTrue (not empty)
    back exposable = by empty refl
      where
        by : (b : Bool) → empty ≡ b → IsTrue (not b)
        by true e = absurd (not_empty exposable (is.0 e))
        by false e = refl
