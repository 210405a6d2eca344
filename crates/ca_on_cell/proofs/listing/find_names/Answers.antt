use Rattle.ca_cell.specs.declared.library.Entry.TheVariants.{Sound}
use Rattle.ca_load.specs.Texts.{cells_of}
use Rattle.ca_load.proofs.LinkLemmas.{handed_on}
use Rattle.ca_on_cell.specs.Defects.{AreDefectNames}
use Rattle.ca_on_cell.specs.Causes.{IsCellCause}
use Rattle.ca_on_cell.proofs.FileLemmas.{of_entry}
use Rattle.ca_on_cell.proofs.StageLemmas.{of_entry_cause}
use Rattle.ca_on_cell.proofs.listing.find_names.Goals as goal

pub returns-clause-names : goal.returns-clause-names
returns-clause-names g c =
    let words = c.args.request.now in
    of_entry (g.S.Store.files c.args.store.now) (cells_of words.files) words.cell.now c.in_ok-library.library (c.in_ok-library.ensures).ok
    (Sound c.in_ok-cell.cell.now) (AreDefectNames c.in_ok-names_of.field-0) (c.in_ok-cell.ensures).found
    ((c.in_ok-cell.ensures).kept, c.in_ok-names_of.ensures)

pub returns-in_err-cell-clause-cause : goal.returns-in_err-cell-clause-cause
returns-in_err-cell-clause-cause g c =
    let words = c.args.request.now in
    let names = cells_of words.files in
    let files = g.S.Store.files c.args.store.now in
    let before = g.S.Store.faults c.args.store.now in
    let after = g.S.Store.faults c.open_library.new.store in
    let fault = c.in_err-cell.field-0.0 in
    handed_on c.from_residual-in_err-cell.result fault
    (IsCellCause names words.cell.now files before after)
    c.from_residual-in_err-cell.ensures.1
    ((of_entry_cause names words.cell.now files c.in_ok-library.library (c.in_ok-library.ensures).ok before after fault
    (c.in_err-cell.ensures).cause))
