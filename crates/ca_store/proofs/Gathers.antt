-- What is read of a file, piece by piece.
use Rattle.std.proofs.Common.{◌≡◌, ℕ, ◌+◌, ◌<◌, ◌≤◌, List, ◌++◌, length, take, Bool, Option, Some, None}
use Rattle.std.proofs.Common.{IsSome, refl, ap, sym, ◌∙◌, length-append, arith}
use Rattle.std.proofs.lemmas.List.{length-take, take_all}
use Rattle.std.proofs.Math.Seq.{take-add}
use Rattle.ca_store.specs.Store.{Files, Opened, Nothing, Reading, Writing, IsReading, IsOpen}
use Rattle.ca_store.specs.Store.{GivesNext, OpensFile}
use Rattle.ca_store.specs.code.Reading.{IsSoFar, IsEnd, IsReadUpTo}

-- a read goes on from what earlier reads gathered
pub read_on : (name bytes : List ℕ) (mid new : Opened) (text more grown into : List ℕ) (n : ℕ)
    → IsSoFar name bytes mid text
    → GivesNext n into name (length text) bytes new
    → more ≡ take n into
    → n ≤ length into
    → grown ≡ text ++ more
    → IsSoFar name bytes new grown
read_on name bytes mid new text more grown into n so_far next is_more fits is_grown =
    let grown_length : length grown ≡ length text + n =
    omega (arith, ap length is_grown, length-append text more, ap length is_more, length-take n into) in
    record {
      place = next.moved ∙ ap (Reading name) (sym grown_length);
      first = is_grown ∙ ap (λ t. t ++ more) so_far.first ∙ ap (λ m. take (length text) bytes ++ m) (is_more ∙ next.got)
          ∙ sym (take-add (length text) n bytes) ∙ ap (λ k. take k bytes) (sym grown_length);
    }

-- where a read found the end, the text is the whole file
pub is_whole : (name bytes : List ℕ) (mid : Opened) (text : List ℕ) → IsSoFar name bytes mid text
    → length bytes ≤ length text → text ≡ bytes
is_whole name bytes mid text so_far past = so_far.first ∙ take_all (length text) bytes past

-- a text past the limit is a part of a file past the limit
pub past_limit : (name bytes : List ℕ) (mid : Opened) (text : List ℕ) (limit : ℕ) → IsSoFar name bytes mid text
    → limit < length text → limit < length bytes
past_limit name bytes mid text limit so_far over =
    omega (arith, ap length so_far.first, length-take (length text) bytes)

-- a text that grew by a part of a buffer
pub grown_by : (text grown into : List ℕ) (n m : ℕ) → grown ≡ text ++ take n into → length text + n ≤ m
    → length grown ≤ m
grown_by text grown into n m is_grown room =
    omega (arith, ap length is_grown, length-append text (take n into), length-take n into)

-- what was read of a file that was opened, where it is known
pub read_of : (files mid_files : Option Files) (name text : List ℕ) (limit : ℕ) (opened : Opened) (is_whole : Bool)
    → OpensFile files name opened → mid_files ≡ files → IsReadUpTo is_whole limit text mid_files opened
    → (reported : Files) → files ≡ Some reported → (bytes : List ℕ) × (reported name ≡ Some bytes) × IsEnd is_whole limit text bytes
read_of files mid_files name text limit opened is_whole opens same read reported is_reported =
    let held = some_of (reported name) (opens.there reported is_reported) in
    (held.0, held.1, read name (opens.start reported is_reported) reported (same ∙ is_reported) held.0 held.1)
  where
    some_of : (o : Option (List ℕ)) → IsSome o → (bytes : List ℕ) × (o ≡ Some bytes)
    some_of None there = cc
    some_of (Some bytes) there = (bytes, refl)

-- a file in reading is an open file
pub is_open_in_reading : (opened : Opened) → IsReading opened → IsOpen opened
is_open_in_reading Nothing in_reading = in_reading
is_open_in_reading (Reading name place) in_reading = tt
is_open_in_reading (Writing name) in_reading = absurd in_reading
