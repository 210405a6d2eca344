-- When the reading of a whole file is refused.
use Rattle.std.specs.Prelude.{◌≡◌, ◌<◌, ◌≤◌, ℕ, ◌+◌, List, length, Option, Some, IsSomeAnd}
use Rattle.std.specs.Option.{ForSome}
use Rattle.ca_store.specs.Store.{Files, MayHave, Rose}
use Rattle.ca_store.specs.declared.reading.ReadFault.{ReadFault}
use Rattle.ca_store.specs.declared.reading.ReadFault.TheVariants.{StoreFailed, TooLong, NoMemory}

-- the file of this name, where it is known, has more bytes than the limit
abbrev pub IsPastLimit : Option Files → List ℕ → ℕ → Type 0
IsPastLimit files name limit =
    ForSome files (λ reported. IsSomeAnd (reported name) (λ bytes. limit < length bytes))

-- one byte more than the limit was taken of a file that has more, and no call failed
pub record IsTooLong (files : Option Files) (name : List ℕ) (limit taken before after : ℕ) : Type 0 where
  pub past : IsPastLimit files name limit
  pub one_more : taken ≡ limit + 1
  pub quiet : after ≡ before

-- why a reading up to a limit was refused, with the count of faults before and after it; out of memory is
-- reported only where no call failed
abbrev pub IsCause : Option Files → List ℕ → ℕ → ℕ → ℕ → ReadFault → Type 0
IsCause files name limit before after StoreFailed = MayHave files name → Rose before after
IsCause files name limit before after (TooLong taken) = IsTooLong files name limit taken before after
IsCause files name limit before after NoMemory = after ≡ before

-- these are the file's bytes, where they are known, and no more than the limit
pub record IsWhole (files : Option Files) (name : List ℕ) (limit : ℕ) (bytes : List ℕ) : Type 0 where
  pub within : length bytes ≤ limit
  pub all : ForSome files (λ reported. reported name ≡ Some bytes)
