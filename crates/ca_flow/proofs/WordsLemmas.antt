-- No work is refused for the words of the command line, which were judged before.
use Rattle.std.proofs.Common.{ℕ, ◌≡◌, inl, inr, subst, List, Option, Some, None}
use Rattle.ca_store.specs.Store.{Files}
use Rattle.ca_fault.specs.declared.fault.Fault.{Fault}
use Rattle.ca_fault.specs.declared.fault.Fault.TheVariants.{BadWords, NoMemory}
use Rattle.ca_load.specs.Texts.{CellFiles, InputFiles}
use Rattle.ca_load.specs.Causes.{IsStrengthsCause, IsLibraryCause, IsScanCause, IsLoadCause}
use Rattle.ca_patterns.specs.Patterns.{IsPatternsCause}
use Rattle.ca_words.specs.Words.{cell_files, cell_word, vector_word, first_word, last_word, defect_word, dash, chip_files, stil_word}
use Rattle.ca_words.specs.Words.{number_word}
use Rattle.ca_on_cell.specs.Causes.{IsCellCause, IsValueCause}
use Rattle.ca_generating.specs.Making.{IsMakeCause}
use Rattle.ca_flow.specs.Fault.{IsOwnCause, IsWorkCause}

no_scan_words : (scan : Option (List ℕ)) (files : Option Files) (before after : ℕ) → IsScanCause scan files before after BadWords → ⊥
no_scan_words None files before after cause = cause
no_scan_words (Some name) files before after (inl read) = read
no_scan_words (Some name) files before after (inr text) = text

no_strengths_words : (table : Option (List ℕ)) (files : Option Files) (before after : ℕ)
    → IsStrengthsCause table files before after BadWords → ⊥
no_strengths_words None files before after cause = cause
no_strengths_words (Some name) files before after (inl read) = read
no_strengths_words (Some name) files before after (inr text) = text

no_library_words : (names : CellFiles) (files : Option Files) (before after : ℕ) → IsLibraryCause names files before after BadWords → ⊥
no_library_words names files before after (inl memory) = let both : BadWords ≡ NoMemory = memory in cc
no_library_words names files before after (inr (inl table)) = no_strengths_words names.table files before after table
no_library_words names files before after (inr (inr (inl (has, read)))) = read
no_library_words names files before after (inr (inr (inr text))) = text

no_cell_words : (names : CellFiles) (word : List ℕ) (files : Option Files) (before after : ℕ)
    → IsCellCause names word files before after BadWords → ⊥
no_cell_words names word files before after (inl library) = no_library_words names files before after library
no_cell_words names word files before after (inr named) = named

no_value_words : (names : CellFiles) (word first last defect : List ℕ) (files : Option Files) (before after : ℕ)
    → IsValueCause names word first last defect files before after BadWords → ⊥
no_value_words names word first last defect files before after (inl cell) = no_cell_words names word files before after cell
no_value_words names word first last defect files before after (inr own) = own

no_load_words : (names : InputFiles) (files : Option Files) (before after : ℕ) → IsLoadCause names files before after BadWords → ⊥
no_load_words names files before after (inl (inl library)) = no_library_words names.cells files before after library
no_load_words names files before after (inl (inr (inl (has, inl read)))) = read
no_load_words names files before after (inl (inr (inl (has, inr text)))) = text
no_load_words names files before after (inl (inr (inr (has, (too, cause))))) = no_scan_words names.scan files before after cause
no_load_words names files before after (inr (is, held)) = is

no_patterns_words : (names : InputFiles) (stil : List ℕ) (files : Option Files) (before after : ℕ)
    → IsPatternsCause names stil files before after BadWords → ⊥
no_patterns_words names stil files before after (inl (held, read)) = read
no_patterns_words names stil files before after (inr (word, held)) = word

no_own_words : (words : List (List ℕ)) (files : Option Files) (before after : ℕ) → IsOwnCause words files before after BadWords → ⊥
no_own_words words files before after (inl (is, (word, held))) = word
no_own_words words files before after (inr (inl (is, (inl word, held)))) = word
no_own_words words files before after (inr (inl (is, (inr word, held)))) = word
no_own_words words files before after (inr (inr (inl (is, cause)))) = cause.many.0
no_own_words words files before after (inr (inr (inr (inl (is, inl (inl word, held)))))) = word
no_own_words words files before after (inr (inr (inr (inl (is, inl (inr word, held)))))) = word
no_own_words words files before after (inr (inr (inr (inl (is, inr (held, read)))))) = read
no_own_words words files before after (inr (inr (inr (inr (inl (is, cause)))))) = no_patterns_words (chip_files words) (stil_word words) files before after cause
no_own_words words files before after (inr (inr (inr (inr (inr (inl (is, inl cause))))))) = no_patterns_words (chip_files words) (stil_word words) files before after cause
no_own_words words files before after (inr (inr (inr (inr (inr (inl (is, inr (inl (held, read))))))))) = read
no_own_words words files before after (inr (inr (inr (inr (inr (inl (is, inr (inr (word, held))))))))) = word
no_own_words words files before after (inr (inr (inr (inr (inr (inr (inl (is, cause)))))))) = cause.many.0
no_own_words words files before after (inr (inr (inr (inr (inr (inr (inr (inl (is, inl cause))))))))) = no_patterns_words (chip_files words) (stil_word words) files before after cause
no_own_words words files before after (inr (inr (inr (inr (inr (inr (inr (inl (is, inr (inl (held, read))))))))))) = read
no_own_words words files before after (inr (inr (inr (inr (inr (inr (inr (inl (is, inr (inr (word, held))))))))))) = word
no_own_words words files before after (inr (inr (inr (inr (inr (inr (inr (inr (is, (word, held)))))))))) = word

no_make_words : (word : List ℕ) → IsMakeCause word BadWords → ⊥
no_make_words word cause = elim cause.stage [
  | inl memory ↦ let both : BadWords ≡ NoMemory = memory in cc
  | inr many ↦ many.pairs
]

-- a command that is one did its work, or there was another cause
pub no_words_work : (words : List (List ℕ)) (files : Option Files) (before after : ℕ) (fault : Fault)
    → IsWorkCause words files before after fault → fault ≡ BadWords → ⊥
no_words_work words files before after fault work same = by (subst (IsWorkCause words files before after) same work)
  where
    by : IsWorkCause words files before after BadWords → ⊥
    by (inl (is, cause)) =
        no_value_words (cell_files words) (cell_word words) (vector_word words) (vector_word words) dash files before after cause
    by (inr (inl (is, cause))) =
        no_value_words (cell_files words) (cell_word words) (first_word words) (last_word words) (defect_word words) files before after cause
    by (inr (inr (inl (is, cause)))) = no_cell_words (cell_files words) (cell_word words) files before after cause
    by (inr (inr (inr (inl (is, cause))))) = no_cell_words (cell_files words) (cell_word words) files before after cause
    by (inr (inr (inr (inr (inl (is, inl load)))))) = no_load_words (chip_files words) files before after load
    by (inr (inr (inr (inr (inl (is, inr own)))))) = no_own_words words files before after own
    by (inr (inr (inr (inr (inr (is, cause)))))) = no_make_words (number_word words) cause
