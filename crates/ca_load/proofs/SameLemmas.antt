-- Files read as one library, one netlist and one table alone.
use Rattle.std.proofs.Common.{ℕ, ◌≡◌, ◌≤◌, ◌∙◌, refl, sym, ap, subst, List, [], ◌∷◌, length, map, Option}
use Rattle.std.proofs.Common.{Some, None, Ok}
use Rattle.std.specs.Prelude.{IsSomeAnd}
use Rattle.std.specs.List.{All}
use Rattle.std.proofs.lemmas.List.Elements.{All-head, All-tail}
use Rattle.std.proofs.lemmas.Option.{same_Some}
use Rattle.ca_store.specs.Store.{Files}
use Rattle.ca_cell.specs.declared.raw.RawCell.{RawCell}
use Rattle.ca_cell.specs.declared.strength.StrengthTable.{StrengthTable}
use Rattle.ca_cell.specs.declared.library.Entry.{Entry}
use Rattle.ca_cell.specs.declared.library.Entry.TheVariants.{Sound, Refused}
use Rattle.ca_cell.specs.Library.{Named, raw_of, IsEntry}
use Rattle.ca_cell.specs.Rules.{KeepsRules, IsFirstBroken}
use Rattle.ca_spice.specs.Reading.{library_of}
use Rattle.ca_spice.specs.Views.{subcircuit_seen}
use Rattle.ca_verilog.specs.declared.raw.RawNetlist.{RawNetlist}
use Rattle.ca_verilog.specs.Text.{netlist_of}
use Rattle.ca_wiring.specs.declared.scan_row.ScanRow.{ScanRow}
use Rattle.ca_scan.specs.Table.{table_of}
use Rattle.ca_load.specs.Files.{IsFileWith}
use Rattle.ca_load.specs.declared.cells.TheConstants.{MAX_CELLS}
use Rattle.ca_load.specs.Texts.{CellFiles, strengths_in, AreCellsWith}
use Rattle.ca_load.specs.Texts.{IsLibraryOf, IsNetlistOf, IsTableOf, IsTableAt, InputFiles, Inputs, ReadAs}
use Rattle.ca_load.proofs.RuleLemmas.{one_broken}

-- a subcircuit has one entry
same_entry : (x y : Entry) → raw_of x ≡ raw_of y → IsEntry x → IsEntry y → x ≡ y
same_entry (Sound a) (Sound b) same one other = ap Sound same
same_entry (Sound a) (Refused b rule) same one other =
    absurd (subst KeepsRules same one.1 rule other.1.broken)
same_entry (Refused a rule) (Sound b) same one other =
    absurd (subst KeepsRules (sym same) other.1 rule one.1.broken)
same_entry (Refused a rule) (Refused b broken) same one other =
    let first : IsFirstBroken b rule = subst (λ raw. IsFirstBroken raw rule) same one.1 in
    let rules : rule ≡ broken = one_broken b rule broken first other.1 in
    λ j. Refused (same j) (rules j)

same_head : {A : Type 0} {x y : A} {xs ys : List A} → x ∷ xs ≡ y ∷ ys → x ≡ y
same_head same = cc

same_tail : {A : Type 0} {x y : A} {xs ys : List A} → x ∷ xs ≡ y ∷ ys → xs ≡ ys
same_tail same = cc

-- subcircuits have one library
same_library : (a b : List Named) → map subcircuit_seen a ≡ map subcircuit_seen b
    → All (λ named. IsEntry named.entry) a → All (λ named. IsEntry named.entry) b → a ≡ b
same_library [] [] same one other = refl
same_library [] (y ∷ ys) same one other = absurd cc
same_library (x ∷ xs) [] same one other = absurd cc
same_library (x ∷ xs) (y ∷ ys) same one other =
    let seen : subcircuit_seen x ≡ subcircuit_seen y = same_head same in
    let names : x.name ≡ y.name = λ j. (seen j).name in
    let entries : x.entry ≡ y.entry =
    same_entry x.entry y.entry (λ j. (seen j).raw)
    (All-head (λ (named : Named). IsEntry named.entry) x xs one)
    (All-head (λ (named : Named). IsEntry named.entry) y ys other) in
    let heads : x ≡ y = λ j. record { name = names j; entry = entries j } in
    let tails : xs ≡ ys = same_library xs ys (same_tail same)
    (All-tail (λ (named : Named). IsEntry named.entry) x xs one)
    (All-tail (λ (named : Named). IsEntry named.entry) y ys other) in
    λ j. heads j ∷ tails j

-- a text reads as one library under a table
one_library : (table : StrengthTable) (bytes : List ℕ) (a b : List Named) → IsLibraryOf a table bytes → IsLibraryOf b table bytes
    → a ≡ b
one_library table bytes a b one other =
    let seen : map subcircuit_seen a ≡ map subcircuit_seen b =
    (let both = sym one.reads ∙ other.reads in cc) in
    same_library a b seen one.entries other.entries

-- as one netlist
one_netlist : (bytes : List ℕ) (a b : RawNetlist) → IsNetlistOf a bytes → IsNetlistOf b bytes → a ≡ b
one_netlist bytes a b one other = let both : Ok a ≡ Ok b = sym one ∙ other in cc

-- and as one table
one_table : (bytes : List ℕ) (a b : List ScanRow) → IsTableOf a bytes → IsTableOf b bytes → a ≡ b
one_table bytes a b one other = let both : Ok a ≡ Ok b = sym one ∙ other in cc

-- what holds of the bytes of a file, both of them
module _ {A : Type 0} (reported : Files) (name : List ℕ) (limit : ℕ) (Reads : A → List ℕ → Type 0)
    (one_of : (bytes : List ℕ) (a b : A) → Reads a bytes → Reads b bytes → a ≡ b) (a b : A) where
  one_in_file : IsFileWith reported name limit (Reads a) → IsFileWith reported name limit (Reads b) → a ≡ b
  one_in_file one other = by (reported name) one other
    where
      by : (there : Option (List ℕ)) → IsSomeAnd there (λ bytes. (length bytes ≤ limit) × Reads a bytes)
          → IsSomeAnd there (λ bytes. (length bytes ≤ limit) × Reads b bytes) → a ≡ b
      by None one other = absurd one
      by (Some bytes) one other = one_of bytes a b one.1 other.1

-- what holds of the bytes of a cell netlist's file under its table, both of them
one_in_cells : (reported : Files) (names : CellFiles) (a b : List Named) → AreCellsWith reported names (IsLibraryOf a)
    → AreCellsWith reported names (IsLibraryOf b) → a ≡ b
one_in_cells reported names a b one other = by (strengths_in names.table reported) one other
  where
    by : (under : Option StrengthTable) → IsSomeAnd under (λ table. IsFileWith reported names.name MAX_CELLS (IsLibraryOf a table))
        → IsSomeAnd under (λ table. IsFileWith reported names.name MAX_CELLS (IsLibraryOf b table)) → a ≡ b
    by None one other = absurd one
    by (Some table) one other =
        one_in_file reported names.name MAX_CELLS (λ library. IsLibraryOf library table) (one_library table) a b one other

one_at_table : (reported : Files) (scan : Option (List ℕ)) (a b : List ScanRow) → IsTableAt (Some reported) scan a
    → IsTableAt (Some reported) scan b → a ≡ b
one_at_table reported None a b one other = one ∙ sym other
one_at_table reported (Some name) a b one other =
    one_in_file reported name _ IsTableOf one_table a b (one reported refl) (other reported refl)

-- files read as one
pub one_reading : (names : InputFiles) (reported : Files) (a b : Inputs) → ReadAs names a reported → ReadAs names b reported
    → a ≡ b
one_reading names reported a b one other =
    let library : a.library ≡ b.library =
    one_in_cells reported names.cells a.library b.library one.library other.library in
    let netlist : a.netlist ≡ b.netlist =
    one_in_file reported names.netlist _ IsNetlistOf one_netlist a.netlist b.netlist one.netlist other.netlist in
    let rows : a.rows ≡ b.rows = one_at_table reported names.scan a.rows b.rows one.rows other.rows in
    λ j. record { library = library j; netlist = netlist j; rows = rows j }
