-- Files in memory, and the calls that a store or a sink in memory lets fail.
use Rattle.std.specs.Prelude.{◌≡◌, ◌-◌, ℕ, ◌+◌, ◌^◌, min, Bool, true, false}
use Rattle.std.specs.Prelude.{List, [], ◌∷◌, slice_get, Option, Some, None}
use Rattle.std.specs.List.{position}
use Rattle.std.specs.Str.{bytes_eq}
use Rattle.ca_store.specs.Store.{Files, Opened, Nothing, Reading, Writing}
use Rattle.ca_store.specs.declared.fail_list.StoreCall.{StoreCall}
use Rattle.ca_store.specs.declared.file_map.File.{File}
use Rattle.ca_store.specs.declared.mem_store.Mode.{Mode}
use Rattle.ca_store.specs.declared.mem_store.Mode.TheVariants.{Closed, InReading, InWriting}

-- calls by their kind and number
abbrev pub CallList : Type 0
CallList = List (StoreCall × ℕ)

-- the number of the call after this many: one more, up to the greatest count
abbrev pub next_number : ℕ → ℕ
next_number count = min (count + 1) (2 ^ 64 - 1)

-- the place of the first file of a name
abbrev pub place_named : List File → List ℕ → Option ℕ
place_named files name = position (λ file. bytes_eq file.name name) files

-- each file is the first of its name, so that no two have the same name
abbrev pub HasDistinctNames : List File → Type 0
HasDistinctNames files = (place : ℕ) (file : File) → slice_get files place ≡ Some file
    → place_named files file.name ≡ Some place

-- the bytes of a later file, or else those of this one, if it is the one that is meant
abbrev pub later_or : Option (List ℕ) → Bool → List ℕ → Option (List ℕ)
later_or (Some later) is_meant bytes = Some later
later_or None true bytes = Some bytes
later_or None false bytes = None

-- what names stand for in a list of files: of two files of one name the later one counts
abbrev pub files_of : List File → Files
files_of [] name = None
files_of (file ∷ files) name = later_or (files_of files name) (bytes_eq file.name name) file.bytes

-- the name of a file, or no bytes where there is no file
abbrev pub name_in : Option File → List ℕ
name_in None = []
name_in (Some file) = file.name

-- the name of the file at a place
abbrev pub name_at : List File → ℕ → List ℕ
name_at files place = name_in (slice_get files place)

-- the name of the last file
abbrev pub last_name : List File → List ℕ
last_name [] = []
last_name (file ∷ []) = file.name
last_name (file ∷ next ∷ files) = last_name (next ∷ files)

-- what is open, where a file in reading is given by its place in the list, and one in writing is the last
abbrev pub opened_of : List File → Mode → Opened
opened_of files Closed = Nothing
opened_of files (InReading spot) = Reading (name_at files spot.file) spot.place
opened_of files InWriting = Writing (last_name files)
