-- Files one after another in one list of bytes: a name, then the bytes of the file, up to the next name.
use Rattle.std.specs.Prelude.{ℕ, ◌-◌, List}
use Rattle.ca_store.specs.declared.file_map.File.{File}

-- files, and what may still be added: bytes, for names and contents together, and files
pub record Shelved : Type 0 where
  pub files : List File
  pub room : ℕ
  pub creates : ℕ
