-- Files one after another in one list of bytes.
use Rattle.std.proofs.Common.{◌≡◌, ℕ, zero, suc, ◌+◌, ◌<◌, ◌≤◌, List, [], ◌∷◌, ◌++◌, length, drop}
use Rattle.std.proofs.Common.{Some, refl, ap, sym, ◌∙◌, arith, length-append, get_or}
use Rattle.std.specs.List.{slice_get}
use Rattle.std.proofs.lemmas.Option.{slice_get-get_or}
use Rattle.ca_store.specs.declared.file_map.File.{File}
use Rattle.ca_store.specs.declared.shelf.Span.{Span}
use Rattle.ca_store.specs.Memory.{name_at, name_in}
use Rattle.ca_store.specs.code.Memory.{bytes_at, bytes_in}
use Rattle.ca_store.specs.code.Arena.{part, first_start, files_in, IsLaid, with_more}
use Rattle.ca_store.proofs.Parts.{part_before, part_grown, part_added, part_empty}

-- as many files as spans
length_files : (bytes : List ℕ) (spans : List Span) → length (files_in bytes spans) ≡ length spans
length_files bytes [] = refl
length_files bytes (span ∷ spans) = ap suc (length_files bytes spans)

-- where the files that were there end, after a span was added at the end
first_start_added : (end : ℕ) (spans : List Span) (span : Span) (more : ℕ) → span.start ≡ end
    → first_start more (spans ++ span ∷ []) ≡ first_start end spans
first_start_added end [] span more here = here
first_start_added end (s ∷ spans) span more here = refl

-- a file of no bytes, at the end
pub files_added : (bytes name : List ℕ) (spans : List Span) (span : Span)
    → IsLaid (length bytes) spans → span.start ≡ length bytes → span.middle ≡ length (bytes ++ name)
    → files_in (bytes ++ name) (spans ++ span ∷ []) ≡ files_in bytes spans ++ record { name = name; bytes = [] } ∷ []
files_added bytes name [] span laid starts middles =
    let named : part (bytes ++ name) span.start span.middle ≡ name = rw (starts, middles) (part_added bytes name) in
    let empty : part (bytes ++ name) span.middle (length (bytes ++ name)) ≡ [] =
    rw middles (part_empty (bytes ++ name) (length (bytes ++ name))) in
    rw (named, empty) refl
files_added bytes name (s ∷ spans) span laid starts middles =
    let named : part (bytes ++ name) s.start s.middle ≡ part bytes s.start s.middle =
    part_before bytes name s.start s.middle laid.0 (omega arith) in
    let next : first_start (length (bytes ++ name)) (spans ++ span ∷ []) ≡ first_start (length bytes) spans =
    first_start_added (length bytes) spans span (length (bytes ++ name)) starts in
    let same : part (bytes ++ name) s.middle (first_start (length bytes) spans)
    ≡ part bytes s.middle (first_start (length bytes) spans) =
    part_before bytes name s.middle (first_start (length bytes) spans) laid.1 laid.2 in
    rw (named, next, same, files_added bytes name spans span laid.3 starts middles) refl

-- spans follow one another under one more
pub laid_added : (end more : ℕ) (spans : List Span) (span : Span)
    → IsLaid end spans → end ≤ more → span.start ≡ end → span.start ≤ span.middle → span.middle ≤ more
    → IsLaid more (spans ++ span ∷ [])
laid_added end more [] span laid grows starts ordered within = (ordered, within, omega arith, tt)
laid_added end more (s ∷ spans) span laid grows starts ordered within =
    let next : first_start more (spans ++ span ∷ []) ≡ first_start end spans =
    first_start_added end spans span more starts in
    rw next (laid.0, laid.1, omega (arith, laid.2), laid_added end more spans span laid.3 grows starts ordered within)

-- more bytes go to the last file
pub files_grown : (bytes more : List ℕ) (spans : List Span) → IsLaid (length bytes) spans
    → files_in (bytes ++ more) spans ≡ with_more (files_in bytes spans) more
files_grown bytes more [] laid = refl
files_grown bytes more (s ∷ []) laid =
    let named : part (bytes ++ more) s.start s.middle ≡ part bytes s.start s.middle =
    part_before bytes more s.start s.middle laid.0 laid.1 in
    rw (named, part_grown bytes more s.middle laid.1) refl
files_grown bytes more (s ∷ t ∷ spans) laid =
    let named : part (bytes ++ more) s.start s.middle ≡ part bytes s.start s.middle =
    part_before bytes more s.start s.middle laid.0 (omega (arith, laid.1, laid.2)) in
    let same : part (bytes ++ more) s.middle t.start ≡ part bytes s.middle t.start =
    part_before bytes more s.middle t.start laid.1 laid.2 in
    rw (named, same, files_grown bytes more (t ∷ spans) laid.3) refl

-- spans follow one another up to a later end
pub laid_grown : (end more : ℕ) (spans : List Span) → IsLaid end spans → end ≤ more → IsLaid more spans
laid_grown end more [] laid grows = tt
laid_grown end more (s ∷ []) laid grows = (laid.0, omega (arith, laid.1), omega arith, tt)
laid_grown end more (s ∷ t ∷ spans) laid grows =
    (laid.0, laid.1, omega (arith, laid.2), laid_grown end more (t ∷ spans) laid.3 grows)

-- a span of a shelf, and the file at its place
pub record StandsAt (bytes : List ℕ) (spans : List Span) (files : List File) (place next : ℕ) (span : Span)
    : Type 0 where
  pub below : place < length spans
  pub ordered : span.start ≤ span.middle
  pub until : span.middle ≤ first_start (length bytes) (drop next spans)
  pub within : first_start (length bytes) (drop next spans) ≤ length bytes
  pub named : name_at files place ≡ part bytes span.start span.middle
  pub holds : bytes_at files place ≡ part bytes span.middle (first_start (length bytes) (drop next spans))

-- the span at a place
pub stands_at : (bytes : List ℕ) (spans : List Span) (files : List File) (place next : ℕ) (span : Span)
    → files_in bytes spans ≡ files → IsLaid (length bytes) spans → next ≡ place + 1 → place < length files
    → span ≡ get_or spans place span → StandsAt bytes spans files place next span
stands_at bytes spans files place next span same laid after below is =
    let in_spans : place < length spans = omega (arith, ap length same, length_files bytes spans) in
    let at : slice_get spans place ≡ Some span = slice_get-get_or spans place span in_spans ∙ ap Some (sym is) in
    let facts = laid_at (length bytes) place next spans span laid at after in
    let file = file_at bytes place next spans span at after in
    record {
      below = in_spans;
      ordered = facts.0;
      until = facts.1;
      within = facts.2;
      named = ap (λ (f : List File). name_at f place) (sym same) ∙ ap name_in file;
      holds = ap (λ (f : List File). bytes_at f place) (sym same) ∙ ap bytes_in file;
    }
  where
    laid_at : (end k m : ℕ) (spans : List Span) (span : Span) → IsLaid end spans → slice_get spans k ≡ Some span
        → m ≡ k + 1 → (span.start ≤ span.middle) × (span.middle ≤ first_start end (drop m spans))
        × (first_start end (drop m spans) ≤ end)
    laid_at end k m [] span laid at after = cc
    laid_at end zero m (s ∷ spans) span laid at after =
        let is : s ≡ span = cc in
        let one : m ≡ suc zero = omega arith in
        rw (one, ← is) (laid.0, laid.1, laid.2)
    laid_at end (suc k) m (s ∷ spans) span laid at after =
        let more : m ≡ suc (k + 1) = omega arith in
        rw more (laid_at end k (k + 1) spans span laid.3 at refl)

    file_at : (bytes : List ℕ) (k m : ℕ) (spans : List Span) (span : Span) → slice_get spans k ≡ Some span
        → m ≡ k + 1 → slice_get (files_in bytes spans) k ≡ Some (record {
          name = part bytes span.start span.middle;
          bytes = part bytes span.middle (first_start (length bytes) (drop m spans));
        })
    file_at bytes k m [] span at after = cc
    file_at bytes zero m (s ∷ spans) span at after =
        let is : s ≡ span = cc in
        let one : m ≡ suc zero = omega arith in
        rw (one, ← is) refl
    file_at bytes (suc k) m (s ∷ spans) span at after =
        let more : m ≡ suc (k + 1) = omega arith in
        rw more (file_at bytes k (k + 1) spans span at refl)

-- as many spans as files
pub length_spans : (bytes : List ℕ) (spans : List Span) (files : List File) → files_in bytes spans ≡ files
    → length spans ≡ length files
length_spans bytes spans files same = sym (length_files bytes spans) ∙ ap length same

-- a file with its bytes, at the end
pub files_both : (bytes name more : List ℕ) (spans : List Span) (span : Span)
    → IsLaid (length bytes) spans → span.start ≡ length bytes → span.middle ≡ length (bytes ++ name)
    → (files_in ((bytes ++ name) ++ more) (spans ++ span ∷ [])
    ≡ files_in bytes spans ++ record { name = name; bytes = more } ∷ [])
    × IsLaid (length ((bytes ++ name) ++ more)) (spans ++ span ∷ [])
files_both bytes name more spans span laid starts middles =
    let grown = length-append bytes name in
    let named : IsLaid (length (bytes ++ name)) (spans ++ span ∷ []) =
    laid_added (length bytes) (length (bytes ++ name)) spans span laid (omega (arith, grown)) starts
    (omega (arith, starts, middles, grown)) (omega (arith, middles)) in (
      files_grown (bytes ++ name) more (spans ++ span ∷ []) named
          ∙ ap (λ (files : List File). with_more files more) (files_added bytes name spans span laid starts middles)
          ∙ more_in_new (files_in bytes spans) name more,
      laid_grown (length (bytes ++ name)) (length ((bytes ++ name) ++ more)) (spans ++ span ∷ []) named
          (omega (arith, length-append (bytes ++ name) more)),
    )
  where
    more_in_new : (files : List File) (name more : List ℕ)
        → with_more (files ++ record { name = name; bytes = [] } ∷ []) more
        ≡ files ++ record { name = name; bytes = more } ∷ []
    more_in_new [] name more = refl
    more_in_new (f ∷ []) name more = refl
    more_in_new (f ∷ g ∷ files) name more = rw (more_in_new (g ∷ files) name more) refl
