-- Lists of files in which the later of two files of one name counts.
use Rattle.std.proofs.Common.{◌≡◌, ◌≢◌, ℕ, zero, suc, ◌+◌, ◌<◌, List, [], ◌∷◌, ◌++◌, length, take, drop}
use Rattle.std.proofs.Common.{◌≤◌, true, false, Option, Some, None, IsSome, refl, ap, sym, ◌∙◌, arith}
use Rattle.std.proofs.lemmas.Option.{same_Some}
use Rattle.std.specs.Str.{bytes_eq}
use Rattle.std.proofs.lemmas.Slice.Eq.{bytes_eq-Decides}
use Rattle.ca_store.specs.declared.file_map.File.{File}
use Rattle.ca_store.specs.declared.mem_store.Mode.{Mode}
use Rattle.ca_store.specs.declared.mem_store.Mode.TheVariants.{Closed, InReading, InWriting}
use Rattle.ca_store.specs.Store.{Files, Writing, IsWriting, appended}
use Rattle.ca_store.specs.Writing.{CreatesFile, WritesOn}
use Rattle.ca_store.specs.Memory.{files_of, name_at, last_name, opened_of}
use Rattle.ca_store.specs.code.Memory.{bytes_at, HasOpenFile}
use Rattle.ca_store.specs.code.Arena.{with_more}
use Rattle.ca_store.proofs.Parts.{equal, unequal}

-- the file at a place isn't looked for where it has another name
pub not_here : (files : List File) (name : List ℕ) (place next : ℕ)
    → next ≡ place + 1 → place < length files → files_of (drop next files) name ≡ None
    → name_at files place ≢ name → files_of (drop place files) name ≡ None
not_here [] name place next after within none other = absurd (omega arith)
not_here (f ∷ files) name zero next after within none other =
    let one : next ≡ suc zero = omega arith in
    let none_after : files_of files name ≡ None = rw one at none in
    let unlike : bytes_eq f.name name ≡ false = unequal f.name name other in
    rw (none_after, unlike) refl
not_here (f ∷ files) name (suc place) next after within none other =
    let more : next ≡ suc (place + 1) = omega arith in
    let none_after : files_of (drop (place + 1) files) name ≡ None = rw more at none in
    not_here files name place (place + 1) refl (omega arith) none_after other

-- the file at a place is what its name stands for where no later file has this name
pub is_here : (files : List File) (name : List ℕ) (place next : ℕ)
    → next ≡ place + 1 → place < length files → files_of (drop next files) name ≡ None
    → name_at files place ≡ name → files_of files name ≡ Some (bytes_at files place)
is_here [] name place next after within none same = absurd (omega arith)
is_here (f ∷ files) name zero next after within none same =
    let one : next ≡ suc zero = omega arith in
    let none_after : files_of files name ≡ None = rw one at none in
    let like : bytes_eq f.name name ≡ true = (bytes_eq-Decides f.name name).1 same in
    rw (none_after, like) refl
is_here (f ∷ files) name (suc place) next after within none same =
    let more : next ≡ suc (place + 1) = omega arith in
    let none_after : files_of (drop (place + 1) files) name ≡ None = rw more at none in
    rw (is_here files name place (place + 1) refl (omega arith) none_after same) refl

-- no file is past the end
pub none_past : (files : List File) (name : List ℕ) (place : ℕ) → place ≡ length files
    → files_of (drop place files) name ≡ None
none_past files name place past =
    ap (λ (n : ℕ). files_of (drop n files) name) past ∙ ap (λ (rest : List File). files_of rest name) (drop_all files)
  where
    drop_all : (xs : List File) → drop (length xs) xs ≡ []
    drop_all [] = refl
    drop_all (x ∷ xs) = drop_all xs

-- a file at the end is what its name stands for
new_reported : (files : List File) (file : File) → files_of (files ++ file ∷ []) file.name ≡ Some file.bytes
new_reported [] file = rw (equal file.name) refl
new_reported (f ∷ files) file = rw (new_reported files file) refl

-- and other names stand for what they stood for
others_reported : (files : List File) (file : File) (other : List ℕ) → file.name ≢ other
    → files_of (files ++ file ∷ []) other ≡ files_of files other
others_reported [] file other unlike = rw (unequal file.name other unlike) refl
others_reported (f ∷ files) file other unlike = rw (others_reported files file other unlike) refl

-- the name of a file at the end
last_of_new : (files : List File) (file : File) → last_name (files ++ file ∷ []) ≡ file.name
last_of_new [] file = refl
last_of_new (f ∷ []) file = refl
last_of_new (f ∷ g ∷ files) file = last_of_new (g ∷ files) file

-- the last file has the same name after it grew
last_of_more : (files : List File) (more : List ℕ) → last_name (with_more files more) ≡ last_name files
last_of_more [] more = refl
last_of_more (f ∷ []) more = refl
last_of_more (f ∷ g ∷ []) more = refl
last_of_more (f ∷ g ∷ h ∷ files) more = last_of_more (g ∷ h ∷ files) more

-- there are as many files after the last one grew
length_more : (files : List File) (more : List ℕ) → length (with_more files more) ≡ length files
length_more [] more = refl
length_more (f ∷ []) more = refl
length_more (f ∷ g ∷ files) more = ap suc (length_more (g ∷ files) more)

-- the bytes of the last file
last_bytes : List File → List ℕ
last_bytes [] = []
last_bytes (f ∷ []) = f.bytes
last_bytes (f ∷ g ∷ files) = last_bytes (g ∷ files)

-- the last file is what its name stands for
last_reported : (files : List File) → 0 < length files → files_of files (last_name files) ≡ Some (last_bytes files)
unfolding last_bytes
last_reported [] some = absurd (omega arith)
last_reported (f ∷ []) some = rw (equal f.name) refl
last_reported (f ∷ g ∷ files) some = rw (last_reported (g ∷ files) (omega arith)) refl

-- what the last file's name stands for after it grew
more_reported : (files : List File) (more : List ℕ) → 0 < length files
    → files_of (with_more files more) (last_name files) ≡ appended more (files_of files (last_name files))
more_reported [] more some = absurd (omega arith)
more_reported (f ∷ []) more some = rw (equal f.name) refl
more_reported (f ∷ g ∷ files) more some =
    rw (more_reported (g ∷ files) more (omega arith), last_reported (g ∷ files) (omega arith)) refl

-- other names stand for what they stood for
others_kept : (files : List File) (more other : List ℕ) → other ≢ last_name files
    → files_of (with_more files more) other ≡ files_of files other
others_kept [] more other unlike = refl
others_kept (f ∷ []) more other unlike = rw (unequal f.name other (λ same. unlike (sym same))) refl
others_kept (f ∷ g ∷ files) more other unlike = rw (others_kept (g ∷ files) more other unlike) refl

-- what is None isn't there
pub none_is_not_some : (held : Option (List ℕ)) → held ≡ None → IsSome held → ⊥
none_is_not_some held none some = cc

-- what a create of a file leaves
pub creates_file : (files new : List File) (name : List ℕ) → new ≡ files ++ record { name = name; bytes = [] } ∷ []
    → CreatesFile (Some (files_of files)) (Some (files_of new)) name (opened_of new InWriting)
creates_file files new name is_new =
    let file : File = record { name = name; bytes = [] } in
    record {
      in_writing = tt;
      named = λ reported is_reported. ap (λ (f : List File). Writing (last_name f)) is_new ∙ ap Writing (last_of_new files file);
      emptied = record {
        reported = λ before is_reported. record {
          after = files_of new;
          reported = refl;
          set = ap (λ (f : List File). files_of f name) is_new ∙ new_reported files file;
          others = λ other not_name. ap (λ (f : List File). files_of f other) is_new
              ∙ others_reported files file other (λ same. not_name (sym same))
              ∙ ap (λ (reported : Files). reported other) (same_Some (files_of files) before is_reported);
        };
        unreported = λ none. cc;
      };
    }

-- a file in writing is open in this mode alone
pub is_writing : (files : List File) (mode : Mode) → IsWriting (opened_of files mode) → mode ≡ InWriting
is_writing files Closed in_writing = absurd in_writing
is_writing files (InReading spot) in_writing = absurd in_writing
is_writing files InWriting in_writing = refl

-- the last file is open in writing after it grew
pub still_open : (files new : List File) (mode : Mode) (more : List ℕ)
    → mode ≡ InWriting → 0 < length files → new ≡ with_more files more → HasOpenFile new mode
still_open files new mode more in_writing there is_new = record {
  reading = λ spot in_reading. cc;
  writing = λ _. omega (arith, length_more files more, ap length is_new);
}

-- what a write to the last file leaves
pub writes_on : (files new : List File) (from : List ℕ) (n : ℕ)
    → 0 < length files → new ≡ with_more files (take n from) → n ≤ length from → (0 < length from → 0 < n)
    → WritesOn n from (Some (files_of files)) (Some (files_of new)) (opened_of files InWriting) (opened_of new InWriting)
writes_on files new from n there is_new fits some = record {
  fits = fits;
  some = some;
  in_writing = tt;
  appends = λ name was before is_reported.
      let same : last_name files ≡ name = same_name (last_name files) name was in
      let reported : files_of files ≡ before = same_Some (files_of files) before is_reported in
      record {
        still = ap (λ (f : List File). Writing (last_name f)) is_new
            ∙ ap Writing (last_of_more files (take n from) ∙ same);
        appends = record {
          after = files_of new;
          reported = refl;
          set = ap (files_of new) (sym same) ∙ ap (λ (f : List File). files_of f (last_name files)) is_new
              ∙ more_reported files (take n from) there
              ∙ ap (λ (t : Files). appended (take n from) (t (last_name files))) reported
              ∙ ap (λ (m : List ℕ). appended (take n from) (before m)) same;
          others = λ other not_name. ap (λ (f : List File). files_of f other) is_new
              ∙ others_kept files (take n from) other (λ like. not_name (like ∙ same))
              ∙ ap (λ (t : Files). t other) reported;
        };
      };
  unreported = λ none. cc;
}
  where
    same_name : (a b : List ℕ) → Writing a ≡ Writing b → a ≡ b
    same_name a b same = cc
