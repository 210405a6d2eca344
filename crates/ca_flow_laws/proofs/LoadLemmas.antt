-- What is reported of the files of a command on a chip is one fault.
use Rattle.std.proofs.Common.{ℕ, ◌≡◌, ◌≤◌, ◌⊎◌, ◌∙◌, inl, inr, refl, sym, subst, List, length, Option, Some, None}
use Rattle.std.proofs.Common.{Result, Ok, Err, true≢false}
use Rattle.std.specs.Prelude.{IsOk, IsSomeAnd}
use Rattle.std.proofs.lemmas.Option.{same_Some}
use Rattle.ca_store.specs.Store.{Files}
use Rattle.ca_cell.specs.declared.strength.StrengthTable.{StrengthTable}
use Rattle.ca_spice.specs.declared.fault.SpiceFault.{SpiceFault}
use Rattle.ca_spice.specs.declared.fault.SpiceFault.TheVariants as spice
use Rattle.ca_spice.specs.Reading.{library_of}
use Rattle.ca_verilog.specs.declared.fault.VerilogFault.{VerilogFault}
use Rattle.ca_verilog.specs.declared.fault.VerilogFault.TheVariants as verilog
use Rattle.ca_verilog.specs.Text.{netlist_of}
use Rattle.ca_linked.specs.Linked.{LinkedChip}
use Rattle.ca_scan.specs.Table.{table_of}
use Rattle.ca_fault.specs.declared.fault.LimitKind.TheVariants as limit
use Rattle.ca_fault.specs.declared.fault.Fault.{Fault}
use Rattle.ca_fault.specs.declared.fault.Fault.TheVariants.{Cells, Netlist, Scan, Limit}
use Rattle.ca_load.specs.declared.netlists.TheConstants.{MAX_NETLIST}
use Rattle.ca_load.specs.declared.tables.TheConstants.{MAX_SCAN}
use Rattle.ca_load.specs.Files.{IsFileWith}
use Rattle.ca_load.specs.Texts.{IsCellFile, AreCellsWith}
use Rattle.ca_load.specs.Texts.{IsLibraryOf, IsNetlistOf, IsTableOf, IsTableAt, InputFiles, Inputs, ReadAs}
use Rattle.ca_load.specs.Chips.{IsChipOf, IsChipCause, IsTraced}
use Rattle.ca_load.specs.Causes.{HasLibrary, IsTextCause, IsCellsCause, IsLibraryCause, IsModuleCause, IsTokensCause, IsNetlistCause, IsRecordCause}
use Rattle.ca_load.specs.Causes.{IsRowsCause, IsScanCause, IsInputCause, IsLoadCause}
use Rattle.ca_load.proofs.SameLemmas.{one_reading}
use Rattle.ca_flow_laws.specs.Same.{IsInputFault, IsSame}
use Rattle.ca_flow_laws.specs.Reported.{IsChipFile}
use Rattle.ca_flow_laws.proofs.FileLemmas.{one_of, AtFile, one_at_file, none_of_read, of_bytes, of_file, of_read}
use Rattle.ca_flow_laws.proofs.StrengthsLemmas.{AtCells, one_at_cells, none_of_cells, cells_given, of_cells, of_cells_text, of_cells_read}
use Rattle.ca_flow_laws.proofs.StrengthsLemmas.{of_table as of_strengths}
use Rattle.ca_flow_laws.proofs.LinkLemmas.{AtLink, of_link, one_link, AtTrace, of_trace, trace_alike, one_at_trace, none_of_traced}
use Rattle.ca_flow_laws.proofs.LinkLemmas.{traced_also}
use Rattle.ca_flow_laws.proofs.OneLemmas.{one_chip}

-- what is reported of a reading of a cell netlist
abbrev pub AtReading : {S : Type 0} → Result S SpiceFault → Fault → Type 0
AtReading (Ok cells) fault = ⊥
AtReading (Err (spice.At line kind)) fault = fault ≡ Cells line kind
AtReading (Err (spice.TooManyCells count)) fault = fault ≡ Limit limit.Cells count
AtReading (Err spice.NoMemory) fault = ⊥

-- of a gate netlist
abbrev pub AtTokens : {S : Type 0} → Result S VerilogFault → Fault → Type 0
AtTokens (Ok netlist) fault = ⊥
AtTokens (Err (verilog.At line kind)) fault = fault ≡ Netlist line kind
AtTokens (Err (verilog.TooManyNets count)) fault = fault ≡ Limit limit.Nets count
AtTokens (Err verilog.NoMemory) fault = ⊥

-- and of a table of scan cells
abbrev pub AtRows : {S : Type 0} → Result S ℕ → Fault → Type 0
AtRows (Ok rows) fault = ⊥
AtRows (Err row) fault = fault ≡ Scan row

one_cells : {S : Type 0} (read : Result S SpiceFault) (fault other : Fault) → AtReading read fault → AtReading read other → fault ≡ other
one_cells (Ok cells) fault other here there = absurd here
one_cells (Err (spice.At line kind)) fault other here there = here ∙ sym there
one_cells (Err (spice.TooManyCells count)) fault other here there = here ∙ sym there
one_cells (Err spice.NoMemory) fault other here there = absurd here

one_tokens : {S : Type 0} (read : Result S VerilogFault) (fault other : Fault) → AtTokens read fault → AtTokens read other → fault ≡ other
one_tokens (Ok netlist) fault other here there = absurd here
one_tokens (Err (verilog.At line kind)) fault other here there = here ∙ sym there
one_tokens (Err (verilog.TooManyNets count)) fault other here there = here ∙ sym there
one_tokens (Err verilog.NoMemory) fault other here there = absurd here

one_rows : {S : Type 0} (read : Result S ℕ) (fault other : Fault) → AtRows read fault → AtRows read other → fault ≡ other
one_rows (Ok rows) fault other here there = absurd here
one_rows (Err row) fault other here there = here ∙ sym there

-- a reading has no fault
read_cells : {S : Type 0} (read : Result S SpiceFault) (fault : Fault) → AtReading read fault → IsOk read → ⊥
read_cells (Ok cells) fault here ok = here
read_cells (Err broken) fault here ok = true≢false (sym ok)

read_tokens : {S : Type 0} (read : Result S VerilogFault) (fault : Fault) → AtTokens read fault → IsOk read → ⊥
read_tokens (Ok netlist) fault here ok = here
read_tokens (Err broken) fault here ok = true≢false (sym ok)

read_rows : {S : Type 0} (read : Result S ℕ) (rows : S) (fault : Fault) → AtRows read fault → read ≡ Ok rows → ⊥
read_rows (Ok rows) also fault here ok = here
read_rows (Err row) also fault here ok = absurd cc

-- the fault of a text
of_text : (table : StrengthTable) (fault : Fault) (bytes : List ℕ) → IsTextCause fault table bytes → AtReading (library_of table bytes) fault
of_text table (Cells line kind) bytes is = rw is refl
of_text table (Limit limit.Cells count) bytes is = rw is refl
of_text table fault bytes is = absurd is

of_module : (fault : Fault) (bytes : List ℕ) → IsModuleCause fault bytes → AtTokens (netlist_of bytes) fault
of_module (Netlist line kind) bytes is = rw is refl
of_module (Limit limit.Nets count) bytes is = rw is refl
of_module fault bytes is = absurd is

of_record : (fault : Fault) (bytes : List ℕ) → IsRecordCause fault bytes → AtRows (table_of bytes) fault
of_record (Scan row) bytes is = rw is refl
of_record fault bytes is = absurd is

abbrev pub ReportsCells : StrengthTable → Fault → List ℕ → Type 0
ReportsCells table fault bytes = AtReading (library_of table bytes) fault

abbrev pub ReportsTokens : Fault → List ℕ → Type 0
ReportsTokens fault bytes = AtTokens (netlist_of bytes) fault

abbrev pub ReportsRows : Fault → List ℕ → Type 0
ReportsRows fault bytes = AtRows (table_of bytes) fault

-- what is reported of the table of scan cells, where a chip has one
abbrev pub AtTable : Option (List ℕ) → Files → Fault → Type 0
AtTable None given fault = ⊥
AtTable (Some name) given fault = AtFile MAX_SCAN name ReportsRows (given name) fault

-- the first two files have a reading
abbrev pub HasCells : InputFiles → Files → Type 0
HasCells names given = AreCellsWith given names.cells (λ table bytes. IsOk (library_of table bytes))

abbrev pub HasTokens : InputFiles → Files → Type 0
HasTokens names given = IsFileWith given names.netlist MAX_NETLIST (λ bytes. IsOk (netlist_of bytes))

-- what is reported of the second file, and of the third
abbrev pub AtLater : InputFiles → Files → Fault → Type 0
AtLater names given fault =
    AtFile MAX_NETLIST names.netlist ReportsTokens (given names.netlist) fault ⊎ (HasTokens names given × AtTable names.scan given fault)

-- what is reported of the files, one after another
abbrev pub AtInput : InputFiles → Files → Fault → Type 0
AtInput names given fault = AtCells names.cells given ReportsCells fault ⊎ (HasCells names given × AtLater names given fault)

-- the chip of the inputs has no chains
pub record LacksChains (inputs : Inputs) (fault : Fault) : Type 0 where
  pub chip : LinkedChip
  pub is : IsChipOf inputs chip
  pub at : AtTrace chip fault

-- what is reported of what the files read as
abbrev pub AtChip : Inputs → Fault → Type 0
AtChip inputs fault = AtLink inputs fault ⊎ LacksChains inputs fault

-- the files read as inputs of which this holds
abbrev pub AreReadAs : InputFiles → Files → (Inputs → Type 0) → Type 0
AreReadAs names given Holds = (inputs : Inputs) × (ReadAs names inputs given × Holds inputs)

-- what is reported of the files and of what they read as
abbrev pub AtLoad : InputFiles → Files → Fault → Type 0
AtLoad names given fault = AtInput names given fault ⊎ AreReadAs names given (λ inputs. AtChip inputs fault)

module _ (names : InputFiles) (given : Files) where
  one_table : (scan : Option (List ℕ)) (fault other : Fault) → AtTable scan given fault → AtTable scan given other → fault ≡ other
  one_table None fault other here there = absurd here
  one_table (Some name) fault other here there =
      one_at_file MAX_SCAN name ReportsRows (λ bytes. one_rows (table_of bytes)) (given name) fault other here there

  one_later : (fault other : Fault) → AtLater names given fault → AtLater names given other → fault ≡ other
  one_later = one_of ◌≡◌ (AtFile MAX_NETLIST names.netlist ReportsTokens (given names.netlist)) (λ fault. HasTokens names given × AtTable names.scan given fault)
      (one_at_file MAX_NETLIST names.netlist ReportsTokens (λ bytes. one_tokens (netlist_of bytes)) (given names.netlist))
      (λ fault other here there. one_table names.scan fault other here.1 there.1)
      (λ fault other here there. none_of_read MAX_NETLIST names.netlist ReportsTokens (λ bytes. IsOk (netlist_of bytes)) (given names.netlist) fault
      (λ bytes. read_tokens (netlist_of bytes) fault) here there.0)

  one_input : (fault other : Fault) → AtInput names given fault → AtInput names given other → fault ≡ other
  one_input = one_of ◌≡◌ (AtCells names.cells given ReportsCells) (λ fault. HasCells names given × AtLater names given fault)
      (one_at_cells names.cells given ReportsCells (λ table bytes. one_cells (library_of table bytes)))
      (λ fault other here there. one_later fault other here.1 there.1)
      (λ fault other here there. none_of_cells names.cells given ReportsCells (λ table bytes. IsOk (library_of table bytes)) fault
      (λ table bytes. read_cells (library_of table bytes) fault) here there.0)

  -- files with a reading have no fault
  module _ (inputs : Inputs) (read : ReadAs names inputs given) where
    no_table : (scan : Option (List ℕ)) → IsTableAt (Some given) scan inputs.rows → (fault : Fault) → AtTable scan given fault → ⊥
    no_table None reads fault here = here
    no_table (Some name) reads fault here =
        none_of_read MAX_SCAN name ReportsRows (IsTableOf inputs.rows) (given name) fault
        (λ bytes. read_rows (table_of bytes) inputs.rows fault) here (reads given refl)

    no_library : (fault : Fault) (table : StrengthTable) (bytes : List ℕ) → ReportsCells table fault bytes → IsLibraryOf inputs.library table bytes → ⊥
    no_library fault table bytes here reads = read_cells (library_of table bytes) fault here (rw reads.reads refl)

    no_netlist : (fault : Fault) (bytes : List ℕ) → ReportsTokens fault bytes → IsNetlistOf inputs.netlist bytes → ⊥
    no_netlist fault bytes here reads = read_tokens (netlist_of bytes) fault here (rw reads refl)

    pub no_input : (fault : Fault) → AtInput names given fault → ⊥
    no_input fault (inl here) =
        none_of_cells names.cells given ReportsCells (IsLibraryOf inputs.library) fault (no_library fault) here read.library
    no_input fault (inr (has, inl here)) =
        none_of_read MAX_NETLIST names.netlist ReportsTokens (IsNetlistOf inputs.netlist) (given names.netlist) fault (no_netlist fault) here read.netlist
    no_input fault (inr (has, inr (too, here))) = no_table names.scan read.rows fault here

  -- what is reported of the inputs is one fault
  one_lack : (inputs : Inputs) (fault other : Fault) → LacksChains inputs fault → LacksChains inputs other → fault ≡ other
  one_lack inputs fault other here there =
      let one = one_chip inputs there.chip here.chip there.is here.is in
      one_at_trace here.chip fault other here.at (trace_alike there.chip here.chip one.alike other there.at)

  one_of_inputs : (inputs : Inputs) (fault other : Fault) → AtChip inputs fault → AtChip inputs other → IsSame fault other
  one_of_inputs inputs = one_of IsSame (AtLink inputs) (LacksChains inputs) (one_link inputs)
      (λ fault other here there. inl (one_lack inputs fault other here there))
      (λ fault other here there. there.is.kept here.first.at here.broken here.first.breaks)

  -- what files read as is one
  pub one_read : (P : Inputs → Type 0) (inputs : Inputs) → ReadAs names inputs given → AreReadAs names given P → P inputs
  one_read P inputs read (also, (read_also, held)) = subst P (one_reading names given also inputs read_also read) held

  one_linked : (fault other : Fault) → AreReadAs names given (λ inputs. AtChip inputs fault) → AreReadAs names given (λ inputs. AtChip inputs other)
      → IsSame fault other
  one_linked fault other here there =
      one_of_inputs here.0 fault other here.1.1 (one_read (λ inputs. AtChip inputs other) here.0 here.1.0 there)

  -- what is reported of loading is one fault
  pub one_load : (fault other : Fault) → AtLoad names given fault → AtLoad names given other → IsSame fault other
  one_load = one_of IsSame (AtInput names given) (λ fault. AreReadAs names given (λ inputs. AtChip inputs fault))
      (λ fault other here there. inl (one_input fault other here there)) one_linked
      (λ fault other here there. no_input there.0 there.1.0 fault here)

  -- files that give a chip with chains have none
  pub no_load : (inputs : Inputs) → ReadAs names inputs given → (chip : LinkedChip) → IsChipOf inputs chip → IsTraced chip → (fault : Fault)
      → AtLoad names given fault → ⊥
  no_load inputs read chip is traced fault (inl here) = no_input inputs read fault here
  no_load inputs read chip is traced fault (inr there) = by (one_read (λ inputs. AtChip inputs fault) inputs read there)
    where
      by : AtChip inputs fault → ⊥
      by (inl link) = is.kept link.first.at link.broken link.first.breaks
      by (inr lacks) =
          let one = one_chip inputs chip lacks.chip is lacks.is in
          none_of_traced lacks.chip fault lacks.at (traced_also chip lacks.chip one.alike traced)

-- what is known of the store, where it has the given files
module _ (files : Option Files) (reported : Files) (are : files ≡ Some reported) (names : InputFiles) (given : Files)
    (agree : (name : List ℕ) → IsChipFile names name → reported name ≡ given name) where
  agree_cells : (name : List ℕ) → IsCellFile names.cells name → reported name ≡ given name
  agree_cells name is = agree name (inl is)

  agree_netlist : reported names.netlist ≡ given names.netlist
  agree_netlist = agree names.netlist (inr (inl refl))

  -- the files read as what the given ones do
  pub read_given : (inputs : Inputs) → ReadAs names inputs reported → ReadAs names inputs given
  read_given inputs read = record {
    library = cells_given files reported are names.cells given agree_cells (IsLibraryOf inputs.library) read.library;
    netlist = subst (λ there. IsSomeAnd there (λ bytes. (length bytes ≤ MAX_NETLIST) × IsNetlistOf inputs.netlist bytes)) agree_netlist read.netlist;
    rows = by names.scan (λ name is. agree name (inr (inr is))) read.rows;
  }
    where
      by : (scan : Option (List ℕ)) → ((name : List ℕ) → scan ≡ Some name → reported name ≡ given name) → IsTableAt (Some reported) scan inputs.rows
          → IsTableAt (Some given) scan inputs.rows
      by None same reads = reads
      by (Some name) same reads = λ other is.
          let one : given ≡ other = same_Some given other is in
          subst (λ (it : Files). IsFileWith it name MAX_SCAN (IsTableOf inputs.rows)) one
          (subst (λ there. IsSomeAnd there (λ bytes. (length bytes ≤ MAX_SCAN) × IsTableOf inputs.rows bytes)) (same name refl) (reads reported refl))

  module _ (before after : ℕ) (fault : Fault) (input : IsInputFault fault) where
    of_lines : (fault : Fault) → IsCellsCause names.cells files fault → AtCells names.cells given ReportsCells fault
    of_lines (Cells line kind) cause =
        of_cells_text files reported are names.cells given agree_cells ReportsCells (Cells line kind) (IsTextCause (Cells line kind))
        (λ table. of_text table (Cells line kind)) cause
    of_lines (Limit limit.Cells count) cause =
        of_cells_text files reported are names.cells given agree_cells ReportsCells (Limit limit.Cells count) (IsTextCause (Limit limit.Cells count))
        (λ table. of_text table (Limit limit.Cells count)) cause
    of_lines fault cause = absurd cause

    of_library : IsLibraryCause names.cells files before after fault → AtCells names.cells given ReportsCells fault
    of_library (inl memory) = absurd (subst IsInputFault memory input)
    of_library (inr (inl table)) = of_strengths files reported are names.cells given agree_cells ReportsCells fault before after input table
    of_library (inr (inr (inl (has, read)))) =
        of_cells_read files reported are names.cells given agree_cells ReportsCells fault before after input has read
    of_library (inr (inr (inr text))) = of_lines fault text

    has_cells : HasLibrary files names.cells → HasCells names given
    has_cells = of_cells files reported are names.cells given agree_cells (λ table bytes. IsOk (library_of table bytes))

    of_tokens : (fault : Fault) → IsTokensCause names.netlist files fault
        → IsSomeAnd (given names.netlist) (λ bytes. (length bytes ≤ MAX_NETLIST) × IsModuleCause fault bytes)
    of_tokens (Netlist line kind) cause =
        of_file files reported are names.netlist (given names.netlist) agree_netlist MAX_NETLIST (IsModuleCause (Netlist line kind)) cause
    of_tokens (Limit limit.Nets count) cause =
        of_file files reported are names.netlist (given names.netlist) agree_netlist MAX_NETLIST (IsModuleCause (Limit limit.Nets count)) cause
    of_tokens fault cause = absurd cause

    of_netlist : IsNetlistCause names.netlist files before after fault → AtFile MAX_NETLIST names.netlist ReportsTokens (given names.netlist) fault
    of_netlist (inl read) = of_read files reported are names.netlist (given names.netlist) agree_netlist MAX_NETLIST ReportsTokens before after fault input read
    of_netlist (inr text) =
        of_bytes MAX_NETLIST names.netlist ReportsTokens (given names.netlist) (IsModuleCause fault) fault (of_module fault) (of_tokens fault text)

    of_rows : (name : List ℕ) → reported name ≡ given name → (fault : Fault) → IsRowsCause name files fault
        → IsSomeAnd (given name) (λ bytes. (length bytes ≤ MAX_SCAN) × IsRecordCause fault bytes)
    of_rows name same (Scan row) cause = of_file files reported are name (given name) same MAX_SCAN (IsRecordCause (Scan row)) cause
    of_rows name same fault cause = absurd cause

    of_table : (scan : Option (List ℕ)) → ((name : List ℕ) → scan ≡ Some name → reported name ≡ given name) → IsScanCause scan files before after fault
        → AtTable scan given fault
    of_table None same cause = absurd cause
    of_table (Some name) same (inl read) = of_read files reported are name (given name) (same name refl) MAX_SCAN ReportsRows before after fault input read
    of_table (Some name) same (inr text) =
        of_bytes MAX_SCAN name ReportsRows (given name) (IsRecordCause fault) fault (of_record fault) (of_rows name (same name refl) fault text)

    of_input : IsInputCause names files before after fault → AtInput names given fault
    of_input (inl library) = inl (of_library library)
    of_input (inr (inl (has, netlist))) =
        inr (has_cells has, inl (of_netlist netlist))
    of_input (inr (inr (has, (too, scan)))) = inr (
      has_cells has,
      inr (
        of_file files reported are names.netlist (given names.netlist) agree_netlist MAX_NETLIST (λ bytes. IsOk (netlist_of bytes)) too,
        of_table names.scan (λ name is. agree name (inr (inr is))) scan,
      ),
    )

    of_chip : (inputs : Inputs) → IsChipCause fault inputs → AtChip inputs fault
    of_chip inputs (inl link) = inl (of_link inputs fault link)
    of_chip inputs (inr lack) = inr (record { chip = lack.chip; is = lack.is; at = of_trace lack.chip fault lack.cause })

    -- what the store has is reported of the given files
    pub of_load : IsLoadCause names files before after fault → AtLoad names given fault
    of_load (inl cause) = inl (of_input cause)
    of_load (inr (is, held)) =
        let found = held reported are in
        inr (found.0, (read_given found.0 found.1.0, of_chip found.0 found.1.1))
