-- The rows of the scan table for the instances of a wiring.
use Rattle.std.proofs.Common.{◌≡◌, ℕ, zero, suc, ◌+◌, List, [], ◌∷◌, sym, ◌∙◌, ap, arith}
use Rattle.std.specs.Prelude.{Option, Some, None, slice_get}
use Rattle.std.proofs.lemmas.Option.{slice_get_within}
use Rattle.ca_lex.specs.Words.{upper_case}
use Rattle.ca_cell.specs.declared.library.Entry.{Entry}
use Rattle.ca_cell.specs.declared.library.Entry.TheVariants.{Sound, Refused}
use Rattle.ca_cell.specs.Library.{Named, entry_of}
use Rattle.ca_verilog.specs.declared.raw.RawInstance.{RawInstance}
use Rattle.ca_verilog.specs.declared.raw.RawNetlist.{RawNetlist}
use Rattle.ca_verilog.specs.IsNetlist.{bit_count}
use Rattle.ca_wiring.specs.declared.scan_row.ScanRow.{ScanRow}
use Rattle.ca_wiring.specs.Wiring.{Broken, Library, ScanCell, Unknown, row_of, entry_meaning, meaning_with}
use Rattle.ca_wiring.specs.Wiring.{meaning_of, output_names, open_count, WiredPart, wired_part, wired_parts}
use Rattle.ca_wiring.specs.Wiring.{wiring_of}
use Rattle.ca_linked.proofs.DriverLemmas.{some_inj}

module _ (library : List Named) (scan : List ScanRow) (bits : ℕ) where
  -- an instance of a wiring means what the name of its cell does
  parts_mean : (own : ℕ) (instances : List RawInstance) (u : ℕ) (wired : WiredPart)
      → slice_get (wired_parts library scan bits own instances) u ≡ Some wired
      → wired.meaning ≡ meaning_of library scan wired.cell
  parts_mean own [] u wired at = absurd (let lt = slice_get_within [] u wired at in omega (arith, lt))
  parts_mean own (instance ∷ more) zero wired at =
      let same = some_inj (wired_part bits own (meaning_of library scan instance.cell) instance) wired at in
      ap (λ (w : WiredPart). w.meaning) (sym same) ∙ ap (λ (w : WiredPart). meaning_of library scan w.cell) same
  parts_mean own (instance ∷ more) (suc u) wired at =
      parts_mean (own + open_count instance.pins (output_names (meaning_of library scan instance.cell))) more u wired at

-- what comes from the library is no scan cell
entry_means : (entry : Option Entry) (row : ScanRow) → entry_meaning entry ≡ ScanCell row → ⊥
entry_means None row e = let clash : Unknown ≡ ScanCell row = e in cc
entry_means (Some (Sound raw)) row e = let clash : Library raw ≡ ScanCell row = e in cc
entry_means (Some (Refused raw rule)) row e = let clash : Broken rule ≡ ScanCell row = e in cc

with_row : (own : Option ScanRow) (entry : Option Entry) (row : ScanRow) → meaning_with own entry ≡ ScanCell row → own ≡ Some row
with_row None entry row e = absurd (entry_means entry row e)
with_row (Some own) entry row e = ap Some (let same : ScanCell own ≡ ScanCell row = e in let rows : own ≡ row = cc in rows)

module _ (raw : RawNetlist) (library : List Named) (scan : List ScanRow) (u : ℕ) (wired : WiredPart)
    (at : slice_get (wiring_of raw library scan).parts u ≡ Some wired) (row : ScanRow) where
  means : wired.meaning ≡ meaning_with (row_of scan wired.cell) (entry_of library (upper_case wired.cell))
  means = parts_mean library scan (bit_count raw.buses) (bit_count raw.buses + 2) raw.instances u wired at

  -- an instance with a row is of a scan cell, with that row
  pub row_means : row_of scan wired.cell ≡ Some row → wired.meaning ≡ ScanCell row
  row_means is = means ∙ ap (λ own. meaning_with own (entry_of library (upper_case wired.cell))) is

  -- and one of a scan cell has its row
  pub means_row : wired.meaning ≡ ScanCell row → row_of scan wired.cell ≡ Some row
  means_row is = with_row (row_of scan wired.cell) (entry_of library (upper_case wired.cell)) row (sym means ∙ is)
