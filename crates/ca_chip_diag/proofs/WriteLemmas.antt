-- The records of candidates, one after another.
use Rattle.std.proofs.Common.{◌≡◌, ℕ, suc, ◌+◌, ◌≤◌, List, ◌∷◌, ◌++◌, ◌∙◌, length, map, drop, drop-cons, ap}
use Rattle.std.proofs.Common.{arith, sym, append_assoc, append-nil, get_or}
use Rattle.std.specs.Prelude.{Some, slice_get}
use Rattle.std.proofs.lemmas.List.{drop_all}
use Rattle.std.proofs.lemmas.Option.{get_or_from_slice_get, slice_get_within}
use Rattle.csv.specs.Writing.{default_writer, row_text}
use Rattle.ca_csv.specs.Records.{written}
use Rattle.ca_flat.specs.declared.chip_defect.ChipDefect.{ChipDefect}
use Rattle.ca_linked.specs.Linked.{LinkedChip}
use Rattle.ca_diag.specs.declared.candidate.Candidate.{Candidate}
use Rattle.ca_chip_diag.specs.Texts.{header, record_at, candidates_text}

module _ (chip : LinkedChip) (defects : List ChipDefect) where
  -- one record more was written
  pub one_more : (k : ℕ) (candidates : List Candidate) (text all : List ℕ) (one : Candidate) (fields : List (List ℕ))
      → slice_get candidates k ≡ Some one → fields ≡ record_at chip defects one
      → text ++ written (map (record_at chip defects) (drop k candidates)) ≡ all
      → (text ++ row_text default_writer fields) ++ written (map (record_at chip defects) (drop (k + 1) candidates)) ≡ all
  one_more k candidates text all one fields at filled before =
      let below = slice_get_within candidates k one at in
      let is : get_or candidates k one ≡ one = get_or_from_slice_get candidates k one one at in
      let next : suc k ≡ k + 1 = omega arith in
      let step : drop k candidates ≡ one ∷ drop (k + 1) candidates =
      drop-cons candidates k one below ∙ (λ j. is j ∷ drop (next j) candidates) in
      let more = written (map (record_at chip defects) (drop (k + 1) candidates)) in
      ap (λ (given : List (List ℕ)). (text ++ row_text default_writer given) ++ more) filled
      ∙ (append_assoc text (row_text default_writer (record_at chip defects one)) more
      ∙ (ap (λ (left : List Candidate). text ++ written (map (record_at chip defects) left)) (sym step) ∙ before))

  -- the header was written
  pub header_first : (candidates : List Candidate) (fields : List (List ℕ)) → fields ≡ header
      → row_text default_writer fields ++ written (map (record_at chip defects) candidates) ≡ candidates_text chip defects candidates
  unfolding candidates_text
  header_first candidates fields filled =
      ap (λ (one : List (List ℕ)). row_text default_writer one ++ written (map (record_at chip defects) candidates)) filled

  -- all was written
  pub no_more : (k : ℕ) (candidates : List Candidate) (text all : List ℕ) → length candidates ≤ k
      → text ++ written (map (record_at chip defects) (drop k candidates)) ≡ all → text ≡ all
  no_more k candidates text all past before =
      sym (ap (λ (left : List Candidate). text ++ written (map (record_at chip defects) left)) (drop_all k candidates past)
      ∙ append-nil text) ∙ before
