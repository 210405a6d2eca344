-- Words of the code beside those of `specs/Memory.antt`. Private functions and proofs cite them.
use Rattle.std.specs.Prelude.{◌≡◌, ◌<◌, ◌≤◌, ◌-◌, ℕ}
use Rattle.std.specs.Prelude.{List, [], length, slice_get, Option, Some, None}
use Rattle.ca_store.specs.declared.file_map.File.{File}
use Rattle.ca_store.specs.declared.mem_store.OpenFile.{OpenFile}
use Rattle.ca_store.specs.declared.mem_store.Mode.{Mode}
use Rattle.ca_store.specs.declared.mem_store.Mode.TheVariants.{InReading, InWriting}
use Rattle.ca_store.specs.Memory.{files_of, name_at}

-- the bytes of a file, or no bytes where there is no file
abbrev pub bytes_in : Option File → List ℕ
bytes_in None = []
bytes_in (Some file) = file.bytes

-- the bytes of the file at a place
abbrev pub bytes_at : List File → ℕ → List ℕ
bytes_at files place = bytes_in (slice_get files place)

-- a file in reading is in the list, is what its name stands for, and has at least as many bytes as were read
pub record IsOpenWithin (files : List File) (spot : OpenFile) : Type 0 where
  pub there : spot.file < length files
  pub meant : files_of files (name_at files spot.file) ≡ Some (bytes_at files spot.file)
  pub within : spot.place ≤ length (bytes_at files spot.file)

-- what is open in this mode is in the list
pub record HasOpenFile (files : List File) (mode : Mode) : Type 0 where
  pub reading : (spot : OpenFile) → mode ≡ InReading spot → IsOpenWithin files spot
  pub writing : mode ≡ InWriting → 0 < length files
