-- What the calls that write leave of the files of a store.
use Rattle.std.specs.Prelude.{◌≡◌, ◌≢◌, ◌⊎◌, ◌<◌, ◌≤◌, ℕ, List, [], ◌++◌, length, take, Option, Some, None}
use Rattle.std.specs.Option.{ForSome}
use Rattle.ca_store.specs.Store.{Files, Opened, Writing, IsWriting, appended}

-- the new files are known, this name stands for this, and every other name for what it stood for before
pub record SetsOne (before : Files) (new : Option Files) (name : List ℕ)
    (content : Option (List ℕ)) : Type 0 where
  pub after : Files
  pub reported : new ≡ Some after
  pub set : after name ≡ content
  pub others : (other : List ℕ) → other ≢ name → after other ≡ before other

-- where the files are known, this name now stands for this and nothing else changed; files that aren't known
-- stay so
pub record ChangesOnly (old new : Option Files) (name : List ℕ) (content : Option (List ℕ)) : Type 0 where
  pub reported : ForSome old (λ before. SetsOne before new name content)
  pub unreported : old ≡ None → new ≡ None

-- after the file of this name was created: it is empty, and open for writing
pub record CreatesFile (old new : Option Files) (name : List ℕ) (opened : Opened) : Type 0 where
  pub in_writing : IsWriting opened
  pub named : ForSome old (λ _. opened ≡ Writing name)
  pub emptied : ChangesOnly old new name (Some [])

-- nothing changed, or the file of this name is empty now
abbrev pub MayEmpty : Option Files → Option Files → List ℕ → Type 0
MayEmpty old new name = (new ≡ old) ⊎ ChangesOnly old new name (Some [])

-- bytes were appended to the file of this name, which is still open for writing, and nothing else changed
pub record AppendsTo (before : Files) (new : Option Files) (name more : List ℕ)
    (opened : Opened) : Type 0 where
  pub still : opened ≡ Writing name
  pub appends : SetsOne before new name (appended more (before name))

-- a write that took n bytes of a piece appended them to the open file, took some of a piece that is not
-- empty, and leaves a file open, which is the same one where the files are known
pub record WritesOn (n : ℕ) (from : List ℕ) (old new : Option Files) (was now : Opened) : Type 0 where
  pub fits : n ≤ length from
  pub some : 0 < length from → 0 < n
  pub in_writing : IsWriting now
  pub appends : (name : List ℕ) → was ≡ Writing name
      → ForSome old (λ before. AppendsTo before new name (take n from) now)
  pub unreported : old ≡ None → new ≡ None

-- the file of this name holds some of the first bytes now, and nothing else changed
pub record HoldsPart (old new : Option Files) (name bytes : List ℕ) : Type 0 where
  pub part : List ℕ
  pub rest : List ℕ
  pub whole : part ++ rest ≡ bytes
  pub written : ChangesOnly old new name (Some part)

-- nothing changed, or the file of this name holds some of the first bytes now
abbrev pub MayWrite : Option Files → Option Files → List ℕ → List ℕ → Type 0
MayWrite old new name bytes = (new ≡ old) ⊎ HoldsPart old new name bytes
