-- The files of the system, of which nothing is known but whether one is open.
use Rattle.std.specs.Prelude.{[]}
use Rattle.ca_store.specs.Store.{Opened, Nothing, Reading, Writing}
use Rattle.ca_store.specs.declared.file_store.OpenFile.{OpenFile}
use Rattle.ca_store.specs.declared.file_store.OpenFile.TheVariants.{Closed, InReading, InWriting}

-- what is open, where no name and no place is known
abbrev pub unreported : {F : Type 0} → OpenFile F → Opened
unreported Closed = Nothing
unreported (InReading file) = Reading [] 0
unreported (InWriting file) = Writing []
