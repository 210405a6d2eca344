-- Words of the code beside those of `specs/Arena.antt`. Private functions and proofs cite them.
use Rattle.std.specs.Prelude.{◌≡◌, ◌<◌, ◌≤◌, ℕ, ◌-◌, List, [], ◌∷◌, ◌++◌, length, take, drop, Option, Some}
use Rattle.std.specs.Prelude.{None, ⊤}
use Rattle.ca_store.specs.Memory.{files_of, name_at}
use Rattle.ca_store.specs.code.Memory.{bytes_at}
use Rattle.ca_store.specs.declared.file_map.File.{File}
use Rattle.ca_store.specs.declared.shelf.Span.{Span}
use Rattle.ca_store.specs.Arena.{Shelved}

-- the bytes from one place on, up to another
abbrev pub part : List ℕ → ℕ → ℕ → List ℕ
part bytes start end = take (end - start) (drop start bytes)

-- where the first of these spans starts, or the end
abbrev pub first_start : ℕ → List Span → ℕ
first_start end [] = end
first_start end (span ∷ spans) = span.start

-- the files of these spans
abbrev pub files_in : List ℕ → List Span → List File
files_in bytes [] = []
files_in bytes (span ∷ spans) =
    record {
      name = part bytes span.start span.middle;
      bytes = part bytes span.middle (first_start (length bytes) spans);
    }
    ∷ files_in bytes spans

-- the spans follow one another, up to this end
abbrev pub IsLaid : ℕ → List Span → Type 0
IsLaid end [] = ⊤
IsLaid end (span ∷ spans) =
    (span.start ≤ span.middle) × (span.middle ≤ first_start end spans) × (first_start end spans ≤ end)
    × IsLaid end spans

-- this is the place of the file that a name stands for, or None where it stands for none
abbrev pub IsPlaceOf : List File → List ℕ → Option ℕ → Type 0
IsPlaceOf files name None = files_of files name ≡ None
IsPlaceOf files name (Some place) =
    (place < length files) × (name_at files place ≡ name)
    × (files_of files name ≡ Some (bytes_at files place))

-- the files, with more bytes in the last
abbrev pub with_more : List File → List ℕ → List File
with_more [] more = []
with_more (file ∷ []) more = record { name = file.name; bytes = file.bytes ++ more } ∷ []
with_more (file ∷ next ∷ files) more = file ∷ with_more (next ∷ files) more

-- a shelf after a file of no bytes was added
abbrev pub with_file : Shelved → List ℕ → Shelved
with_file shelf name = record {
  files = shelf.files ++ record { name = name; bytes = [] } ∷ [];
  room = shelf.room - length name;
  creates = shelf.creates - 1;
}

-- a shelf after bytes were added to its last file
abbrev pub with_bytes : Shelved → List ℕ → Shelved
with_bytes shelf more = record {
  files = with_more shelf.files more;
  room = shelf.room - length more;
  creates = shelf.creates;
}
