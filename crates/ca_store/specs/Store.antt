-- What a store of files and a sink of bytes mean to those who call them.
use Rattle.std.specs.Prelude.{◌≡◌, ◌<◌, ◌≤◌, ℕ, ◌+◌, ◌-◌, ◌^◌, List, ◌++◌, length, take, drop}
use Rattle.std.specs.Prelude.{Option, Some, None, IsSome, IsNone, IsSomeAnd, Result, IsErr, OnOk, OnErr}
use Rattle.std.specs.Option.{ForSome}

-- what names stand for: the bytes of the file, or None where there is no file of the name
abbrev pub Files : Type 0
Files = List ℕ → Option (List ℕ)

-- what is open: nothing, a file in reading by its name with the number of bytes read so far, or a file in
-- writing
pub data Opened : Type 0 where
  Nothing : Opened
  Reading : List ℕ → ℕ → Opened
  Writing : List ℕ → Opened

-- a file in reading is open
abbrev pub IsReading : Opened → Type 0
IsReading Nothing = ⊥
IsReading (Reading name place) = Unit {0}
IsReading (Writing name) = ⊥

-- a file in writing is open
abbrev pub IsWriting : Opened → Type 0
IsWriting Nothing = ⊥
IsWriting (Reading name place) = ⊥
IsWriting (Writing name) = Unit {0}

-- a file is open
abbrev pub IsOpen : Opened → Type 0
IsOpen Nothing = ⊥
IsOpen (Reading name place) = Unit {0}
IsOpen (Writing name) = Unit {0}

-- a count of faults rose in a call: it is greater than before, or is at its greatest value
abbrev pub Rose : ℕ → ℕ → Type 0
Rose before after = after < 2 ^ 64 - 1 → before < after

-- a call that answers Ok leaves the count of faults as it was, and no call makes it fall
pub record KeepsCount {T E : Type 0} (result : Result T E) (before after : ℕ) : Type 0 where
  pub quiet : OnOk result (after ≡ before)
  pub later : before ≤ after

-- where the files are known, one has this name
abbrev pub MayHave : Option Files → List ℕ → Type 0
MayHave files name = ForSome files (λ reported. IsSome (reported name))

-- the files are known, and none has this name
abbrev pub Lacks : Option Files → List ℕ → Type 0
Lacks files name = IsSomeAnd files (λ reported. IsNone (reported name))

-- an open fails and counts no fault at a name that the known files lack, and else it fails only where the
-- count rises
pub record FailsAtMissing {T E : Type 0} (result : Result T E) (files : Option Files) (name : List ℕ)
    (before after : ℕ) : Type 0 where
  pub missing : Lacks files name → IsErr result × (after ≡ before)
  pub cause : MayHave files name → OnErr result (Rose before after)

-- after the file of this name was opened: it may be there, and where the files are known it is open at its
-- start
pub record OpensFile (files : Option Files) (name : List ℕ) (opened : Opened) : Type 0 where
  pub in_reading : IsReading opened
  pub start : ForSome files (λ _. opened ≡ Reading name 0)
  pub there : MayHave files name

-- a read that put n bytes into a buffer gave the file's next bytes from its place, and moved the place by as
-- many
pub record GivesNext (n : ℕ) (into name : List ℕ) (place : ℕ) (bytes : List ℕ)
    (opened : Opened) : Type 0 where
  pub moved : opened ≡ Reading name (place + n)
  pub within : place + n ≤ length bytes
  pub got : take n into ≡ take n (drop place bytes)
  pub at_end : n ≡ 0 → 0 < length into → length bytes ≤ place

-- a read that put n bytes into a buffer leaves a file open, which is the same one where the files are known
pub record ReadsOn (n : ℕ) (into : List ℕ) (files : Option Files) (old new : Opened) : Type 0 where
  pub fits : n ≤ length into
  pub in_reading : IsReading new
  pub next : (name : List ℕ) (place : ℕ) → old ≡ Reading name place
      → ForSome files (λ reported. ForSome (reported name) (λ bytes. GivesNext n into name place bytes new))

-- bytes that are known, or not, after more were appended
abbrev pub appended : List ℕ → Option (List ℕ) → Option (List ℕ)
appended more None = None
appended more (Some held) = Some (held ++ more)

-- some of the first bytes were appended
pub record AppendsPart (bytes : List ℕ) (old new : Option (List ℕ)) : Type 0 where
  pub part : List ℕ
  pub rest : List ℕ
  pub whole : part ++ rest ≡ bytes
  pub held : new ≡ appended part old

-- a write that took n bytes of a piece appended them, and took some of a piece that is not empty
pub record TakesFirst (n : ℕ) (from : List ℕ) (old new : Option (List ℕ)) : Type 0 where
  pub fits : n ≤ length from
  pub some : 0 < length from → 0 < n
  pub appends : new ≡ appended (take n from) old
