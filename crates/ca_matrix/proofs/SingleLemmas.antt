-- The rows that expose one defect, found one after another.
use Rattle.std.proofs.Common.{ℕ, ◌+◌, ◌-◌, ◌*◌, ◌^◌, ◌<◌, ◌≤◌, ◌≡◌, ◌≢◌, ◌↔◌, inl, inr, refl, sym, ap, ◌∙◌, subst, List, [], ◌∷◌}
use Rattle.std.proofs.Common.{◌++◌, length, get_or, arith, Bool, true, false}
use Rattle.std.specs.Prelude.{Some, None, slice_get, IsTrue, if◌then◌else◌}
use Rattle.std.specs.List.{All, Contains}
use Rattle.std.proofs.Math.Nat.{eq-or-lt_of_le}
use Rattle.std.proofs.lemmas.Nat.{mul-add-lt}
use Rattle.std.proofs.lemmas.Bool.{false≢true}
use Rattle.std.proofs.lemmas.Option.{slice_get_within, slice_get-get_or, same_Some}
use Rattle.std.proofs.lemmas.List.{append-nil}
use Rattle.std.proofs.lemmas.List.Elements.{All-contains_itself, Contains-append_cases, Contains-append_left}
use Rattle.std.proofs.lemmas.List.Elements.{Contains-append_right}
use Rattle.ca_net.specs.declared.trit.Trit.TheVariants.{X}
use Rattle.ca_net.specs.declared.wave.Wave.{Wave}
use Rattle.ca_cell.specs.declared.raw.RawCell.{RawCell}
use Rattle.ca_cell.specs.Raw.{is_input, is_output, role_count, circuit_of}
use Rattle.ca_cell.specs.declared.defect.Defect.{Defect}
use Rattle.ca_cell.specs.declared.row.Row.{Row}
use Rattle.ca_cell.specs.List.{faulty_of}
use Rattle.ca_cell.specs.Row.{IsBefore, vector_of}
use Rattle.ca_cell.specs.Exposes.{opposite_of, IsDefiniteVector, CellEndsAt, IsExposingRow}
use Rattle.ca_cell.proofs.NumberLemmas.{vector_definite}
use Rattle.ca_response.specs.Outputs.{output_node}
use Rattle.ca_matrix.specs.code.Filled.{row_at}
use Rattle.ca_matrix.specs.Single.{AreExposingRows}
use Rattle.ca_matrix.specs.code.Single.{AreFound, AreRowEnds, DifferAt, DifferSomewhere, row_number}
use Rattle.ca_matrix.proofs.VectorLemmas.{length-vector_of}
use Rattle.ca_matrix.proofs.BuiltLemmas.{row_again}
use Rattle.ca_matrix.proofs.ExposeLemmas.{before_by_number, only_one}
use Rattle.ca_matrix.proofs.ShownLemmas.{opposite_definite}

-- where two waves differ, and nowhere else, the row exposes the defect
module _ (raw : RawCell) (defect : Defect) (first last : ℕ) (good faulty : List Wave)
    (good_ends : AreRowEnds raw (circuit_of raw) first last good) (faulty_ends : AreRowEnds raw (faulty_of raw defect) first last faulty)
    (good_count : length good ≡ role_count is_output raw.pins) (faulty_count : length faulty ≡ role_count is_output raw.pins) where
  abbrev row : Row
  row = record { first = first; last = last }

  vector_is : (number : ℕ) → IsDefiniteVector raw (vector_of (role_count is_input raw.pins) number)
  vector_is number = record { count = length-vector_of (role_count is_input raw.pins) number; definite = vector_definite (role_count is_input raw.pins) number }

  pub differing_exposes : first < 2 ^ role_count is_input raw.pins → last < 2 ^ role_count is_input raw.pins → DifferSomewhere good faulty
      → IsExposingRow raw defect row
  differing_exposes first_lt last_lt found =
      let at = found.1 in
      let within : found.0 < length good = slice_get_within good found.0 at.wave at.at in
      record {
        first_within = first_lt;
        last_within = last_lt;
        exposes = record {
          first_definite = vector_is first;
          last_definite = vector_is last;
          output = output_node raw found.0;
          is_output = (omega arith, omega arith);
          value = at.wave.last;
          good = (good_ends found.0 at.wave at.wave.last at.at).0 (at.definite, refl);
          faulty = (faulty_ends found.0 at.other (opposite_of at.wave.last) at.at_other).0 (opposite_definite at.wave.last at.definite, at.opposite);
        };
      }

  pub exposing_differs : IsExposingRow raw defect row → DifferSomewhere good faulty
  exposing_differs is =
      let exposes = is.exposes in
      let low = exposes.is_output.0 in
      let high = exposes.is_output.1 in
      let output : ℕ = exposes.output - (2 + role_count is_input raw.pins) in
      let node : exposes.output ≡ output_node raw (exposes.output - (2 + role_count is_input raw.pins)) = omega arith in
      let none : Wave = record { first = X; mid = X; last = X } in
      let at = slice_get-get_or good (exposes.output - (2 + role_count is_input raw.pins)) none (omega arith) in
      let at_other = slice_get-get_or faulty (exposes.output - (2 + role_count is_input raw.pins)) none (omega arith) in
      let good_is = (good_ends (exposes.output - (2 + role_count is_input raw.pins)) (get_or good (exposes.output - (2 + role_count is_input raw.pins)) none) exposes.value at).1
      (subst (λ n. CellEndsAt (circuit_of raw) (vector_of (role_count is_input raw.pins) first) (vector_of (role_count is_input raw.pins) last) n exposes.value) node exposes.good) in
      let faulty_is = (faulty_ends (exposes.output - (2 + role_count is_input raw.pins)) (get_or faulty (exposes.output - (2 + role_count is_input raw.pins)) none) (opposite_of exposes.value) at_other).1
      (subst (λ n. CellEndsAt (faulty_of raw defect) (vector_of (role_count is_input raw.pins) first) (vector_of (role_count is_input raw.pins) last) n (opposite_of exposes.value)) node exposes.faulty) in (
        exposes.output - (2 + role_count is_input raw.pins),
        record {
          wave = get_or good (exposes.output - (2 + role_count is_input raw.pins)) none;
          other = get_or faulty (exposes.output - (2 + role_count is_input raw.pins)) none;
          at = at;
          at_other = at_other;
          definite = λ unknown. good_is.0 (sym good_is.1 ∙ unknown);
          opposite = faulty_is.1 ∙ ap opposite_of (sym good_is.1);
        },
      )

-- past the last output there is no difference
pub nowhere_past : (good faulty : List Wave) (count : ℕ) → length good ≤ count → ((k : ℕ) → k < count → DifferAt good faulty k → ⊥)
    → DifferSomewhere good faulty → ⊥
nowhere_past good faulty count all none found =
    let within : found.0 < length good = slice_get_within good found.0 found.1.wave found.1.at in
    none found.0 (omega arith) found.1

-- where one of the waves isn't there, nothing differs
pub no_good : (good faulty : List Wave) (output : ℕ) → slice_get good output ≡ None → DifferAt good faulty output → ⊥
no_good good faulty output none at = let a = at.at in cc

pub no_faulty : (good faulty : List Wave) (output : ℕ) → slice_get faulty output ≡ None → DifferAt good faulty output → ⊥
no_faulty good faulty output none at = let a = at.at_other in cc

-- they differ where their lasts are opposite
pub lasts_differ : (good faulty : List Wave) (output : ℕ) (wave other : Wave) → slice_get good output ≡ Some wave → slice_get faulty output ≡ Some other
    → ((wave.last ≢ X) × (other.last ≡ opposite_of wave.last)) ↔ DifferAt good faulty output
lasts_differ good faulty output wave other at at_other = (
  λ h. record { wave = wave; other = other; at = at; at_other = at_other; definite = h.0; opposite = h.1 },
  λ d.
      let same : d.wave ≡ wave = same_Some d.wave wave (sym d.at ∙ at) in
      let same_other : d.other ≡ other = same_Some d.other other (sym d.at_other ∙ at_other) in (
        λ unknown. d.definite (ap (λ (w : Wave). w.last) same ∙ unknown),
        sym (ap (λ (w : Wave). w.last) same_other) ∙ d.opposite ∙ ap (λ (w : Wave). opposite_of w.last) same,
      ),
)

module _ (raw : RawCell) (defect : Defect) where
  abbrev vectors : ℕ
  vectors = 2 ^ role_count is_input raw.pins

  pub none_found : (count : ℕ) → count ≡ 0 → AreFound raw defect count []
  none_found count none = record {
    contained = λ row has. absurd (let no : ⊥ = omega (arith, has.1) in no);
    contains = λ row exposes less. absurd (let no : ⊥ = omega arith in no);
  }

  -- a further row follows those of lower numbers
  pub found_before : (count : ℕ) (rows : List Row) (row : Row) → AreFound raw defect count rows → row_number raw row ≡ count → row.last < vectors
      → All (λ earlier. IsBefore earlier row) rows
  found_before count rows row are is within k d below =
      let shown = are.contained (get_or rows k d) (All-contains_itself rows k d below) in
      let less = shown.1 in
      before_by_number vectors (get_or rows k d) row shown.0.last_within within (omega arith)

  same_row : (one other : Row) → one.last < vectors → other.last < vectors → row_number raw one ≡ row_number raw other → one ≡ other
  same_row one other a b same = sym (row_again vectors one a) ∙ ap (row_at vectors) same ∙ row_again vectors other b

  -- with the next row, if it exposes the defect
  pub found_more : (count : ℕ) (old new : List Row) (row : Row) (passed : Bool) → AreFound raw defect count old → row_number raw row ≡ count → row.last < vectors
      → IsTrue passed ↔ IsExposingRow raw defect row → new ≡ old ++ (if passed then row ∷ [] else []) → AreFound raw defect (count + 1) new
  found_more count old new row true are is within reports grown = record {
    contained = λ other has. elim (Contains-append_cases old (row ∷ []) other (subst (λ list. Contains list other) grown has)) [
      | inl before ↦ let shown = are.contained other before in let less = shown.1 in (shown.0, omega arith)
      | inr here ↦
          let same = only_one row other here in
          (subst (IsExposingRow raw defect) same (reports.0 refl), (let n = ap (row_number raw) same in omega arith))
    ];
    contains = λ other exposes less. subst (λ list. Contains list other) (sym grown)
        (elim (eq-or-lt_of_le (let e : row_number raw other ≤ count = omega arith in e)) [
          | inl same ↦ Contains-append_right old (row ∷ []) other (0, omega arith, same_row row other within exposes.last_within (is ∙ sym same))
          | inr lower ↦ Contains-append_left old (row ∷ []) other (are.contains other exposes lower)
        ]);
  }
  found_more count old new row false are is within reports grown = record {
    contained = λ other has.
        let shown = are.contained other (subst (λ list. Contains list other) (grown ∙ append-nil old) has) in
        let less = shown.1 in
        (shown.0, omega arith);
    contains = λ other exposes less. subst (λ list. Contains list other) (sym (grown ∙ append-nil old))
        (elim (eq-or-lt_of_le (let e : row_number raw other ≤ count = omega arith in e)) [
          | inl same ↦ absurd (false≢true (reports.1 (subst (IsExposingRow raw defect) (same_row other row exposes.last_within within (same ∙ sym is)) exposes)))
          | inr lower ↦ are.contains other exposes lower
        ]);
  }

  -- in the end these are all that expose it
  pub all_found : (count : ℕ) (rows : List Row) → AreFound raw defect count rows → vectors * vectors ≤ count → AreExposingRows raw defect rows
  all_found count rows are all row = (
    λ has. (are.contained row has).0,
    λ exposes.
        let within = mul-add-lt row.first vectors row.last vectors exposes.first_within exposes.last_within in
        are.contains row exposes (omega arith),
  )
