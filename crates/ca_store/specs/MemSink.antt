-- A sink in memory: what it was made with, what it holds, and exactly when its writes fail.
use Rattle.std.specs.Prelude.{◌≡◌, ◌<◌, ℕ, ◌-◌, ◌↔◌, ◌⊎◌, min, List, length, Contains, Result, IsErr, IfOk}
use Rattle.ca_store.specs.Memory.{CallList, next_number}
use Rattle.ca_store.specs.declared.fail_list.StoreCall.TheVariants.{Write}
use Rattle.ca_store.specs.declared.mem_sink.MemSink.{MemSink}

-- the bytes that a sink holds
abbrev pub held_by : MemSink → List ℕ
held_by sink = sink.bytes.items

-- the number of bytes that a sink has room for in all
abbrev pub room_of : MemSink → ℕ
room_of sink = sink.room

-- the calls that a sink lets fail
abbrev pub fail_of : MemSink → CallList
fail_of sink = sink.fail

-- how many writes a sink has had
abbrev pub writes_of : MemSink → ℕ
writes_of sink = sink.writes

-- how many of them failed
abbrev pub faults_of : MemSink → ℕ
faults_of sink = sink.faults

-- no room is left for a piece that is not empty
pub record FindsNoRoom (from : List ℕ) (sink : MemSink) : Type 0 where
  pub some : 0 < length from
  pub full : length (held_by sink) ≡ room_of sink

-- a write fails exactly where it is listed or finds no room, and takes as much as fits
pub record WritesExactly {E : Type 0} (from : List ℕ) (result : Result ℕ E) (old new : MemSink) : Type 0 where
  pub fails : IsErr result ↔ (Contains (fail_of old) (Write, writes_of new) ⊎ FindsNoRoom from old)
  pub takes : IfOk result (λ n. n ≡ min (length from) (room_of old - length (held_by old)))
  pub counted : writes_of new ≡ next_number (writes_of old)
  pub room : room_of new ≡ room_of old
  pub fail : fail_of new ≡ fail_of old
