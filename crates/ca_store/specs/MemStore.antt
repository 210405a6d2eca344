-- A store in memory: what it was made with, which files it has, what it has room for, and exactly when its
-- calls fail.
use Rattle.std.specs.Prelude.{◌≡◌, ◌<◌, ℕ, ◌-◌, ◌↔◌, ◌⊎◌, min, List, length, Contains, IsNone}
use Rattle.std.specs.Prelude.{Result, IsErr, IfOk, OnOk, OnErr}
use Rattle.std.specs.Option.{ForSome}
use Rattle.ca_store.specs.Store.{Files, Opened, Reading}
use Rattle.ca_store.specs.Memory.{CallList, next_number, files_of, opened_of}
use Rattle.ca_store.specs.declared.fail_list.StoreCall.TheVariants.{Open, Read, Create, Write, Close}
use Rattle.ca_store.specs.declared.mem_store.MemStore.{MemStore}

-- what no call changes
pub record Settings : Type 0 where
  pub piece : ℕ
  pub fail : CallList

-- what is left: the bytes that created names and written bytes may still fill together, and the creates that
-- may still succeed
pub record Room : Type 0 where
  pub bytes : ℕ
  pub creates : ℕ

-- how many calls of each kind a store has had
pub record Calls : Type 0 where
  pub opens : ℕ
  pub reads : ℕ
  pub creates : ℕ
  pub writes : ℕ
  pub closes : ℕ

-- the most bytes that a call gives or takes, and the calls that fail
abbrev pub settings_of : MemStore → Settings
settings_of store = record { piece = store.piece; fail = store.fail }

-- the room that is left
abbrev pub room_of : MemStore → Room
room_of store = record { bytes = store.shelf.room; creates = store.shelf.creates }

-- the calls that a store has had
abbrev pub calls_of : MemStore → Calls
calls_of store = record {
  opens = store.opens;
  reads = store.reads;
  creates = store.creates;
  writes = store.writes;
  closes = store.closes;
}

-- what the names stand for
abbrev pub reported_by : MemStore → Files
reported_by store = files_of store.shelf.files

-- what is open
abbrev pub opened_by : MemStore → Opened
opened_by store = opened_of store.shelf.files store.mode

-- how many calls failed, those aside that open a missing name
abbrev pub faults_of : MemStore → ℕ
faults_of store = store.faults

-- an open fails exactly where it is listed or its name is missing
pub record OpensExactly {T E : Type 0} (name : List ℕ) (result : Result T E)
    (old new : MemStore) : Type 0 where
  pub fails : IsErr result ↔
      (Contains (settings_of old).fail (Open, (calls_of new).opens) ⊎ IsNone (reported_by old name))
  pub counted : calls_of new ≡ record (calls_of old) { opens = next_number (calls_of old).opens }
  pub settings : settings_of new ≡ settings_of old
  pub room : room_of new ≡ room_of old

-- a read fails exactly where it is listed, and gives as much as is left and fits, up to a piece
pub record ReadsExactly {E : Type 0} (into : List ℕ) (result : Result ℕ E) (old new : MemStore) : Type 0 where
  pub fails : IsErr result ↔ Contains (settings_of old).fail (Read, (calls_of new).reads)
  pub gives : IfOk result (λ n. (name : List ℕ) (place : ℕ) → opened_by old ≡ Reading name place
      → ForSome (reported_by old name) (λ bytes.
      n ≡ min (min (length bytes - place) (length into)) (settings_of old).piece))
  pub counted : calls_of new ≡ record (calls_of old) { reads = next_number (calls_of old).reads }
  pub settings : settings_of new ≡ settings_of old
  pub room : room_of new ≡ room_of old

-- a name doesn't fit the room that is left, or no create is left
abbrev pub FindsNoPlace : List ℕ → Room → Type 0
FindsNoPlace name room = (room.bytes < length name) ⊎ (room.creates ≡ 0)

-- a create fails exactly where it is listed or its name finds no place, and then changes no file; else it
-- takes the room of the name, whether the file was there or not, and one of the creates
pub record CreatesExactly {T E : Type 0} (name : List ℕ) (result : Result T E)
    (old new : MemStore) : Type 0 where
  pub fails : IsErr result ↔
      (Contains (settings_of old).fail (Create, (calls_of new).creates) ⊎ FindsNoPlace name (room_of old))
  pub takes : OnOk result (room_of new ≡
      record { bytes = (room_of old).bytes - length name; creates = (room_of old).creates - 1 })
  pub stays : OnErr result (room_of new ≡ room_of old)
  pub kept : OnErr result (reported_by new ≡ reported_by old)
  pub counted : calls_of new ≡ record (calls_of old) { creates = next_number (calls_of old).creates }
  pub settings : settings_of new ≡ settings_of old

-- no room is left for a piece that is not empty
pub record FindsNoRoom (from : List ℕ) (room : Room) : Type 0 where
  pub some : 0 < length from
  pub full : room.bytes ≡ 0

-- a write fails exactly where it is listed or finds no room; else it takes as much as fits, up to a piece,
-- and the room of that many bytes
pub record WritesExactly {E : Type 0} (from : List ℕ) (result : Result ℕ E)
    (old new : MemStore) : Type 0 where
  pub fails : IsErr result ↔
      (Contains (settings_of old).fail (Write, (calls_of new).writes) ⊎ FindsNoRoom from (room_of old))
  pub takes : IfOk result (λ n. n ≡ min (min (length from) (settings_of old).piece) (room_of old).bytes)
  pub room : IfOk result (λ n. room_of new ≡ record (room_of old) { bytes = (room_of old).bytes - n })
  pub stays : OnErr result (room_of new ≡ room_of old)
  pub counted : calls_of new ≡ record (calls_of old) { writes = next_number (calls_of old).writes }
  pub settings : settings_of new ≡ settings_of old

-- a close fails exactly where it is listed
pub record ClosesExactly {T E : Type 0} (result : Result T E) (old new : MemStore) : Type 0 where
  pub fails : IsErr result ↔ Contains (settings_of old).fail (Close, (calls_of new).closes)
  pub counted : calls_of new ≡ record (calls_of old) { closes = next_number (calls_of old).closes }
  pub settings : settings_of new ≡ settings_of old
  pub room : room_of new ≡ room_of old
