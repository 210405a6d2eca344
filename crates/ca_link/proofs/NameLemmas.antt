-- The names of a link's pins are those of its wiring, and so is what is reported about what drives a net.
use Rattle.std.proofs.Common.{◌≡◌, ℕ, zero, suc, ◌+◌, List, [], ◌∷◌, length, refl, sym, ◌∙◌, ap, subst, arith}
use Rattle.std.specs.Prelude.{Option, Some, None, IsSomeAnd, slice_get}
use Rattle.std.proofs.lemmas.Option.{slice_get_within, get_or_from_slice_get}
use Rattle.ca_cell.specs.declared.library.Entry.{Entry}
use Rattle.ca_cell.specs.declared.library.Entry.TheVariants.{Sound, Refused}
use Rattle.ca_cell.specs.declared.raw.RawCell.{RawCell}
use Rattle.ca_cell.specs.Raw.{is_output}
use Rattle.ca_cell.specs.Library.{Named, entry_of}
use Rattle.ca_lex.specs.Words.{upper_case}
use Rattle.ca_verilog.specs.declared.raw.RawBit.{RawBit}
use Rattle.ca_verilog.specs.declared.raw.RawUse.{RawUse}
use Rattle.ca_verilog.specs.declared.raw.RawInstance.{RawInstance}
use Rattle.ca_verilog.specs.declared.raw.RawNetlist.{RawNetlist}
use Rattle.ca_wiring.specs.declared.scan_row.ScanRow.{ScanRow}
use Rattle.ca_wiring.specs.declared.fault.Driver.{Driver}
use Rattle.ca_wiring.specs.Wiring.{ScanCell, WiredPart, meaning_with, meaning_of, row_of, names_with}
use Rattle.ca_wiring.specs.Wiring.{output_names, output_wires, open_count, bit_on, wire_of, wired_part}
use Rattle.ca_wiring.specs.Wiring.{wired_parts, wiring_of}
use Rattle.ca_wiring.specs.Linking.{HasMeaning, IsLinkOf}
use Rattle.ca_wiring.specs.Rules.{IsDriver, control_names}
use Rattle.ca_wiring.specs.Same.{driving_of}
use Rattle.ca_verilog.specs.IsNetlist.{bit_count}
use Rattle.ca_linked.specs.declared.parts.Body.{Body}
use Rattle.ca_linked.specs.declared.parts.Body.TheVariants.{Gate, Scan}
use Rattle.ca_linked.specs.declared.parts.Part.{Part}
use Rattle.ca_linked.specs.declared.parts.Source.{Source}
use Rattle.ca_linked.specs.declared.parts.Source.TheVariants.{FromPort, FromConstant, FromPin}
use Rattle.ca_linked.specs.Linked.{LinkedChip, output_nets, no_cell}
use Rattle.ca_linked.specs.Instances.{IsScan}
use Rattle.ca_linked.proofs.DriverLemmas.{some_inj, of_some}
use Rattle.ca_link.specs.code.Names.{body_outputs, part_outputs, HaveNames, ReportsSource}
use Rattle.ca_link.specs.code.Reported.{IsControlName}
use Rattle.ca_link.proofs.NetsLemmas.{nets_length, also_there}

-- a wire for each output pin
length-output_wires : (bits : ℕ) (uses : List RawUse) (own : ℕ) (names : List (List ℕ)) → length (output_wires bits uses own names) ≡ length names
length-output_wires bits uses own [] = refl
length-output_wires bits uses own (name ∷ names) =
    by (bit_on uses name) (length-output_wires bits uses (own + 1) names) (length-output_wires bits uses own names)
  where
    by : (bit : Option RawBit) → length (output_wires bits uses (own + 1) names) ≡ length names → length (output_wires bits uses own names) ≡ length names
        → length {A = ℕ} (elim bit [
          | None ↦ own ∷ output_wires bits uses (own + 1) names
          | Some b ↦ wire_of bits b ∷ output_wires bits uses own names
        ]) ≡ suc (length names)
    by None next same = ap suc next
    by (Some b) next same = ap suc same

-- what is wired of an instance: what its cell means, and a wire for each output pin
pub record IsWiredBy (library : List Named) (scan : List ScanRow) (wired : WiredPart) : Type 0 where
  pub meaning : wired.meaning ≡ meaning_of library scan wired.cell
  pub outputs : length wired.outputs ≡ length (output_names wired.meaning)

module _ (library : List Named) (scan : List ScanRow) (bits : ℕ) where
  wired_by : (own : ℕ) (instances : List RawInstance) (u : ℕ) (wired : WiredPart) → slice_get (wired_parts library scan bits own instances) u ≡ Some wired
      → IsWiredBy library scan wired
  wired_by own [] u wired at = absurd (let lt = slice_get_within [] u wired at in omega (arith, lt))
  wired_by own (instance ∷ more) zero wired at =
      subst (IsWiredBy library scan) (some_inj (wired_part bits own (meaning_of library scan instance.cell) instance) wired at) (record {
        meaning = refl;
        outputs = length-output_wires bits instance.pins own (output_names (meaning_of library scan instance.cell));
      })
  wired_by own (instance ∷ more) (suc u) wired at =
      wired_by (own + open_count instance.pins (output_names (meaning_of library scan instance.cell))) more u wired at

-- the names of a body's output pins are those that its cell means
names_same : (cells : List RawCell) (row : Option ScanRow) (entry : Option Entry) (body : Body) → HasMeaning cells (meaning_with row entry) body
    → output_names (meaning_with row entry) ≡ body_outputs cells row body
names_same cells (Some row) entry (Gate cell inputs outputs) means = absurd means
names_same cells (Some row) entry (Scan nets) means = refl
names_same cells None None body means = absurd means
names_same cells None (Some (Refused raw rule)) body means = absurd means
names_same cells None (Some (Sound raw)) (Gate cell inputs outputs) means =
    ap (λ (r : RawCell). names_with is_output r.pins) (sym (get_or_from_slice_get cells cell raw no_cell means))
names_same cells None (Some (Sound raw)) (Scan nets) means = absurd means

module _ (raw : RawNetlist) (library : List Named) (scan : List ScanRow) (chip : LinkedChip) (link : IsLinkOf (wiring_of raw library scan) chip) where
  -- what is wired at the place of an instance of the link
  pub record IsWiredAt (u : ℕ) (part : Part) : Type 0 where
    pub wired : WiredPart
    pub at : slice_get (wiring_of raw library scan).parts u ≡ Some wired
    pub meaning : wired.meaning ≡ meaning_of library scan part.cell
    pub names : output_names wired.meaning ≡ part_outputs chip scan part
    pub outputs : length (output_names wired.meaning) ≡ length (output_nets part.body)

  pub wired_at : (u : ℕ) (part : Part) → slice_get chip.parts u ≡ Some part → IsWiredAt u part
  wired_at u part at =
      let found = also_there (wiring_of raw library scan).parts chip.parts u part link.same_parts at in
      let is = link.parts u found.0 part found.1 at in
      let by = wired_by library scan (bit_count raw.buses) (bit_count raw.buses + 2) raw.instances u found.0 found.1 in
      let meaning : found.0.meaning ≡ meaning_of library scan part.cell = by.meaning ∙ ap (meaning_of library scan) (sym is.cell) in
      record {
        wired = found.0;
        at = found.1;
        meaning = meaning;
        names = ap output_names meaning
            ∙ names_same chip.cells (row_of scan part.cell) (entry_of library (upper_case part.cell)) part.body
            (subst (λ m. HasMeaning chip.cells m part.body) meaning is.meaning);
        outputs = sym by.outputs ∙ sym (nets_length (wiring_of raw library scan) link.nets found.0.outputs (output_nets part.body) is.outputs);
      }

  -- each output pin of the link has a name
  pub have_names : HaveNames chip scan
  have_names u part at = let is = wired_at u part at in ap (λ (names : List (List ℕ)). length names) (sym is.names) ∙ is.outputs

  -- what is reported about a source is reported about what drives in the wiring
  pub reported_driver : (net : ℕ) (source : Source) (reported : Driver) → ReportsSource chip scan net source reported
      → IsDriver (wiring_of raw library scan) net (driving_of source) reported
  reported_driver net (FromPort p) reported reports = reports
  reported_driver net (FromConstant value) reported reports = reports
  reported_driver net (FromPin u pin) reported (name, is_name, reports) =
      let is = wired_at u is_name.part is_name.at in
      (is.wired, name, is.at, subst (λ (names : List (List ℕ)). slice_get names pin ≡ Some name) (sym is.names) is_name.named, reports)

  -- the name of a control pin is that in the wiring
  pub record IsControlOf (u k : ℕ) (name : List ℕ) : Type 0 where
    pub wired : WiredPart
    pub at : slice_get (wiring_of raw library scan).parts u ≡ Some wired
    pub named : slice_get (control_names wired.meaning) k ≡ Some name

  pub reported_control : (u k : ℕ) (name : List ℕ) → IsControlName chip scan u k name → IsControlOf u k name
  reported_control u k name is_name =
      let is = wired_at u is_name.part is_name.at in
      let meaning : is.wired.meaning ≡ ScanCell is_name.row =
      is.meaning ∙ ap (λ row. meaning_with row (entry_of library (upper_case is_name.part.cell))) is_name.is_row in
      record {
        wired = is.wired;
        at = is.at;
        named = subst (λ m. slice_get (control_names m) k ≡ Some name) (sym meaning) is_name.named;
      }

-- where each output pin has a name, the cell of a scan instance has a row
pub no_row : (chip : LinkedChip) (scan : List ScanRow) → HaveNames chip scan → (u : ℕ) (part : Part) → slice_get chip.parts u ≡ Some part
    → IsSomeAnd (slice_get chip.parts u) (λ (p : Part). IsScan p.body) → row_of scan part.cell ≡ None → ⊥
no_row chip scan have u part at is_scan none =
    by part.body (of_some (λ (p : Part). IsScan p.body) (slice_get chip.parts u) part at is_scan)
    (subst (λ row. length (body_outputs chip.cells row part.body) ≡ length (output_nets part.body)) none (have u part at))
  where
    by : (body : Body) → IsScan body → length (body_outputs chip.cells None body) ≡ length (output_nets body) → ⊥
    by (Gate cell inputs outputs) is same = is
    by (Scan nets) is same = omega (arith, same)
