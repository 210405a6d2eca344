-- The words of a command.
use Rattle.std.specs.Prelude.{◌≡◌, ◌≢◌, ◌⊎◌, ℕ, List, [], ◌∷◌, length, codes, slice_index_or, Option, Some}
use Rattle.std.specs.Prelude.{None}
use Rattle.std.specs.Prelude.{if◌then◌else◌, ⊤}
use Rattle.std.specs.List.{All}
use Rattle.std.specs.Str.{bytes_eq}
use Rattle.ca_load.specs.Texts.{CellFiles, InputFiles}
use Rattle.ca_request.specs.Asked.{AreBothOrNeither}
use Rattle.ca_words.specs.Budget.{IsBudget, IsChipNumber}
pub use Rattle.ca_request.specs.Vectors.{dash}

-- the name of the file of the strength table: the second word, where the first is `strengths`
unfoldable pub table_word : List (List ℕ) → Option (List ℕ)
table_word [] = None
table_word (first ∷ []) = None
table_word (first ∷ table ∷ words) = if bytes_eq first (codes "strengths") then Some table else None

-- the words of the command itself: those after these two, where a table is named, and else all
unfoldable pub command_words : List (List ℕ) → List (List ℕ)
command_words [] = []
command_words (first ∷ []) = first ∷ []
command_words (first ∷ table ∷ words) =
    if bytes_eq first (codes "strengths") then words else first ∷ table ∷ words

-- the word of the command at a place, counted from 0
abbrev pub word_at : List (List ℕ) → ℕ → List ℕ
word_at words place = slice_index_or (command_words words) place []

-- how many words the command has
abbrev pub count_of : List (List ℕ) → ℕ
count_of words = length (command_words words)

-- the name of the cell netlist's file
abbrev pub cells_word : List (List ℕ) → List ℕ
cells_word words = word_at words 1

-- the files of a command on one cell
abbrev pub cell_files : List (List ℕ) → CellFiles
cell_files words = record { table = table_word words; name = cells_word words }

-- the name of the cell
abbrev pub cell_word : List (List ℕ) → List ℕ
cell_word words = word_at words 2

-- the vector of `respond`
abbrev pub vector_word : List (List ℕ) → List ℕ
vector_word words = word_at words 3

-- the first vector of `pair`
abbrev pub first_word : List (List ℕ) → List ℕ
first_word words = word_at words 3

-- the last vector of `pair`
abbrev pub last_word : List (List ℕ) → List ℕ
last_word words = word_at words 4

-- the defect of `pair`, or a dash
abbrev pub defect_word : List (List ℕ) → List ℕ
defect_word words = word_at words 5

-- the file that `matrix` writes
abbrev pub out_word : List (List ℕ) → List ℕ
out_word words = word_at words 3

-- the name of the gate netlist's file
abbrev pub netlist_word : List (List ℕ) → List ℕ
netlist_word words = word_at words 2

-- the name of the file of the table of scan cells, or a dash
abbrev pub scan_word : List (List ℕ) → List ℕ
scan_word words = word_at words 3

-- the name of the library instance that has the defect or, of `bridges`, the bridges, or a dash
abbrev pub instance_word : List (List ℕ) → List ℕ
instance_word words = word_at words 4

-- the defect of its cell, or a dash
abbrev pub chip_defect_word : List (List ℕ) → List ℕ
chip_defect_word words = word_at words 5

-- the file that `flatten` writes
abbrev pub flat_out_word : List (List ℕ) → List ℕ
flat_out_word words = word_at words 6

-- the first vector of `simulate` and `replay`
abbrev pub chip_first_word : List (List ℕ) → List ℕ
chip_first_word words = word_at words 6

-- the last vector of `simulate` and `replay`
abbrev pub chip_last_word : List (List ℕ) → List ℕ
chip_last_word words = word_at words 7

-- the file of events of `replay`
abbrev pub order_word : List (List ℕ) → List ℕ
order_word words = word_at words 8

-- the file of patterns that `bridges` writes
abbrev pub bridges_stil_word : List (List ℕ) → List ℕ
bridges_stil_word words = word_at words 5

-- the report that it writes
abbrev pub bridges_report_word : List (List ℕ) → List ℕ
bridges_report_word words = word_at words 6

-- its budget
abbrev pub bridges_budget_word : List (List ℕ) → List ℕ
bridges_budget_word words = word_at words 7

-- the file of patterns that `atpg` and `certify` write, and `grade`, `diagnose` and `verify` read
abbrev pub stil_word : List (List ℕ) → List ℕ
stil_word words = word_at words 4

-- the report that `atpg` and `grade` write
abbrev pub report_word : List (List ℕ) → List ℕ
report_word words = word_at words 5

-- the certificate that `certify` writes, and `verify` reads
abbrev pub cert_word : List (List ℕ) → List ℕ
cert_word words = word_at words 5

-- the log of failing outputs that `diagnose` reads
abbrev pub log_word : List (List ℕ) → List ℕ
log_word words = word_at words 5

-- the candidates that `diagnose` writes
abbrev pub candidates_word : List (List ℕ) → List ℕ
candidates_word words = word_at words 6

-- the budget of `atpg` and `certify`
abbrev pub budget_word : List (List ℕ) → List ℕ
budget_word words = word_at words 6

-- the number of `make`
abbrev pub number_word : List (List ℕ) → List ℕ
number_word words = word_at words 1

-- a file name is not empty and not a dash
pub record IsFileName (word : List ℕ) : Type 0 where
  pub some : word ≢ []
  pub no_dash : word ≢ dash

-- the file that a word names, where a dash names none
abbrev pub file_called : List ℕ → Option (List ℕ)
file_called word = if bytes_eq word dash then None else Some word

-- the files of a command on a chip
abbrev pub chip_files : List (List ℕ) → InputFiles
chip_files words = record {
  cells = cell_files words;
  netlist = netlist_word words;
  scan = file_called (scan_word words);
}

-- no file of a strength table is named, or by a file's name
abbrev pub IsTable : Option (List ℕ) → Type 0
IsTable None = ⊤
IsTable (Some name) = IsFileName name

-- the names of the files of a command on one cell differ
pub record AreCellFiles (table : Option (List ℕ)) (cells : List ℕ) : Type 0 where
  pub table_is : IsTable table
  pub cells_is : IsFileName cells
  pub others : table ≢ Some cells

-- the words have the files of a command on one cell
abbrev pub HasCellFiles : List (List ℕ) → Type 0
HasCellFiles words = AreCellFiles (table_word words) (cells_word words)

-- a letter of a vector: 0, 1 or X
abbrev pub IsLetter : ℕ → Type 0
IsLetter byte = (byte ≡ 48) ⊎ ((byte ≡ 49) ⊎ (byte ≡ 88))

-- a vector is a dash, which stands for the empty one, or letters
abbrev pub IsVector : List ℕ → Type 0
IsVector word = (word ≡ dash) ⊎ ((word ≢ []) × All IsLetter word)

-- the words are `respond CELLS CELL VECTOR`
pub record IsRespond (words : List (List ℕ)) : Type 0 where
  pub four : count_of words ≡ 4
  pub command : word_at words 0 ≡ codes "respond"
  pub files : HasCellFiles words
  pub vector : IsVector (vector_word words)

-- the words are `pair CELLS CELL FIRST LAST DEFECT`
pub record IsPair (words : List (List ℕ)) : Type 0 where
  pub six : count_of words ≡ 6
  pub command : word_at words 0 ≡ codes "pair"
  pub files : HasCellFiles words
  pub first : IsVector (first_word words)
  pub last : IsVector (last_word words)

-- the words are `defects CELLS CELL`
pub record IsDefects (words : List (List ℕ)) : Type 0 where
  pub three : count_of words ≡ 3
  pub command : word_at words 0 ≡ codes "defects"
  pub files : HasCellFiles words

-- the words are `matrix CELLS CELL OUT`, and the files have different names
pub record IsMatrix (words : List (List ℕ)) : Type 0 where
  pub four : count_of words ≡ 4
  pub command : word_at words 0 ≡ codes "matrix"
  pub files : HasCellFiles words
  pub out : IsFileName (out_word words)
  pub others : out_word words ≢ cells_word words
  pub not_table : table_word words ≢ Some (out_word words)

-- the names of the files of a command on a chip differ, and that of the table of scan cells may be a dash
pub record AreChipFiles (table : Option (List ℕ)) (cells netlist scan : List ℕ) : Type 0 where
  pub library : AreCellFiles table cells
  pub netlist_is : IsFileName netlist
  pub scan_is : scan ≢ []
  pub others : netlist ≢ cells
  pub not_cells : scan ≢ cells
  pub not_netlist : scan ≢ netlist
  pub table_not_netlist : table ≢ Some netlist
  pub table_not_scan : table ≢ Some scan

-- the words have the files of a command on a chip
abbrev pub HasChipFiles : List (List ℕ) → Type 0
HasChipFiles words =
    AreChipFiles (table_word words) (cells_word words) (netlist_word words) (scan_word words)

-- a further file has a name that none of the files of a command on a chip has
pub record IsOtherFile (table : Option (List ℕ)) (file cells netlist scan : List ℕ) : Type 0 where
  pub name : IsFileName file
  pub not_table : table ≢ Some file
  pub not_cells : file ≢ cells
  pub not_netlist : file ≢ netlist
  pub not_scan : file ≢ scan

-- the same of the files that the words name
abbrev pub IsOther : List (List ℕ) → List ℕ → Type 0
IsOther words file =
    IsOtherFile (table_word words) file (cells_word words) (netlist_word words) (scan_word words)

-- the words are `check CELLS NETLIST SCAN`
pub record IsCheck (words : List (List ℕ)) : Type 0 where
  pub four : count_of words ≡ 4
  pub command : word_at words 0 ≡ codes "check"
  pub files : HasChipFiles words

-- the words are `flatten CELLS NETLIST SCAN INSTANCE DEFECT OUT`
pub record IsFlatten (words : List (List ℕ)) : Type 0 where
  pub seven : count_of words ≡ 7
  pub command : word_at words 0 ≡ codes "flatten"
  pub files : HasChipFiles words
  pub defect : AreBothOrNeither (instance_word words) (chip_defect_word words)
  pub out : IsOther words (flat_out_word words)

-- the words are `simulate CELLS NETLIST SCAN INSTANCE DEFECT FIRST LAST`
pub record IsSimulate (words : List (List ℕ)) : Type 0 where
  pub eight : count_of words ≡ 8
  pub command : word_at words 0 ≡ codes "simulate"
  pub files : HasChipFiles words
  pub defect : AreBothOrNeither (instance_word words) (chip_defect_word words)
  pub first : IsVector (chip_first_word words)
  pub last : IsVector (chip_last_word words)

-- the words are `atpg CELLS NETLIST SCAN STIL REPORT BUDGET`
pub record IsAtpg (words : List (List ℕ)) : Type 0 where
  pub seven : count_of words ≡ 7
  pub command : word_at words 0 ≡ codes "atpg"
  pub files : HasChipFiles words
  pub stil : IsOther words (stil_word words)
  pub report : IsOther words (report_word words)
  pub others : report_word words ≢ stil_word words
  pub budget : IsBudget (budget_word words)

-- the words are `replay CELLS NETLIST SCAN INSTANCE DEFECT FIRST LAST ORDER`
pub record IsReplay (words : List (List ℕ)) : Type 0 where
  pub nine : count_of words ≡ 9
  pub command : word_at words 0 ≡ codes "replay"
  pub files : HasChipFiles words
  pub defect : AreBothOrNeither (instance_word words) (chip_defect_word words)
  pub first : IsVector (chip_first_word words)
  pub last : IsVector (chip_last_word words)
  pub order : IsOther words (order_word words)

-- the words are `grade CELLS NETLIST SCAN STIL REPORT`
pub record IsGrade (words : List (List ℕ)) : Type 0 where
  pub six : count_of words ≡ 6
  pub command : word_at words 0 ≡ codes "grade"
  pub files : HasChipFiles words
  pub stil : IsOther words (stil_word words)
  pub report : IsOther words (report_word words)
  pub others : report_word words ≢ stil_word words

-- the words are `diagnose CELLS NETLIST SCAN STIL LOG OUT`
pub record IsDiagnose (words : List (List ℕ)) : Type 0 where
  pub seven : count_of words ≡ 7
  pub command : word_at words 0 ≡ codes "diagnose"
  pub files : HasChipFiles words
  pub stil : IsOther words (stil_word words)
  pub log : IsOther words (log_word words)
  pub out : IsOther words (candidates_word words)
  pub others : log_word words ≢ stil_word words
  pub not_stil : candidates_word words ≢ stil_word words
  pub not_log : candidates_word words ≢ log_word words

-- the words are `certify CELLS NETLIST SCAN STIL CERT BUDGET`
pub record IsCertify (words : List (List ℕ)) : Type 0 where
  pub seven : count_of words ≡ 7
  pub command : word_at words 0 ≡ codes "certify"
  pub files : HasChipFiles words
  pub stil : IsOther words (stil_word words)
  pub cert : IsOther words (cert_word words)
  pub others : cert_word words ≢ stil_word words
  pub budget : IsBudget (budget_word words)

-- the words are `verify CELLS NETLIST SCAN STIL CERT`
pub record IsVerify (words : List (List ℕ)) : Type 0 where
  pub six : count_of words ≡ 6
  pub command : word_at words 0 ≡ codes "verify"
  pub files : HasChipFiles words
  pub stil : IsOther words (stil_word words)
  pub cert : IsOther words (cert_word words)
  pub others : cert_word words ≢ stil_word words

-- the words are `bridges CELLS NETLIST SCAN INSTANCE STIL REPORT BUDGET`, and the instance is no dash
pub record IsBridges (words : List (List ℕ)) : Type 0 where
  pub eight : count_of words ≡ 8
  pub command : word_at words 0 ≡ codes "bridges"
  pub files : HasChipFiles words
  pub some : instance_word words ≢ dash
  pub stil : IsOther words (bridges_stil_word words)
  pub report : IsOther words (bridges_report_word words)
  pub others : bridges_report_word words ≢ bridges_stil_word words
  pub budget : IsBudget (bridges_budget_word words)

-- the one word is `--help`, and no table is named
pub record IsHelp (words : List (List ℕ)) : Type 0 where
  pub no_table : table_word words ≡ None
  pub one : count_of words ≡ 1
  pub command : word_at words 0 ≡ codes "--help"

-- the one word is `--version`, and no table is named
pub record IsVersion (words : List (List ℕ)) : Type 0 where
  pub no_table : table_word words ≡ None
  pub one : count_of words ≡ 1
  pub command : word_at words 0 ≡ codes "--version"

-- the words are `make N`, and no table is named
pub record IsMake (words : List (List ℕ)) : Type 0 where
  pub no_table : table_word words ≡ None
  pub two : count_of words ≡ 2
  pub command : word_at words 0 ≡ codes "make"
  pub number : IsChipNumber (number_word words)

-- the words ask for a text that the program has, or for a generated chip, and for no file
abbrev pub AsksNoFile : List (List ℕ) → Type 0
AsksNoFile words = IsHelp words ⊎ (IsVersion words ⊎ IsMake words)

-- the command generates tests
abbrev pub GeneratesTests : List (List ℕ) → Type 0
GeneratesTests words = IsAtpg words ⊎ (IsCertify words ⊎ IsMake words)

-- the words are those of a command on one cell
abbrev pub IsOnCell : List (List ℕ) → Type 0
IsOnCell words = IsRespond words ⊎ (IsPair words ⊎ (IsDefects words ⊎ IsMatrix words))

-- the words are those of a command on a chip
abbrev pub IsOnChip : List (List ℕ) → Type 0
IsOnChip words = IsCheck words
    ⊎ (IsFlatten words ⊎ (IsSimulate words ⊎ (IsAtpg words
    ⊎ (IsReplay words ⊎ (IsGrade words ⊎ (IsDiagnose words
    ⊎ (IsCertify words ⊎ (IsVerify words ⊎ IsBridges words))))))))

-- the words are those of a command
abbrev pub IsCommand : List (List ℕ) → Type 0
IsCommand words = IsOnCell words ⊎ (IsOnChip words ⊎ AsksNoFile words)

-- the command writes the file of this name
abbrev pub HasOut : List (List ℕ) → List ℕ → Type 0
HasOut words name =
    (IsMatrix words × (name ≡ out_word words))
    ⊎ ((IsFlatten words × (name ≡ flat_out_word words))
    ⊎ ((IsAtpg words × ((name ≡ stil_word words) ⊎ (name ≡ report_word words)))
    ⊎ ((IsGrade words × (name ≡ report_word words))
    ⊎ ((IsDiagnose words × (name ≡ candidates_word words))
    ⊎ ((IsCertify words × ((name ≡ stil_word words) ⊎ (name ≡ cert_word words)))
    ⊎ (IsBridges words × ((name ≡ bridges_stil_word words) ⊎ (name ≡ bridges_report_word words))))))))
