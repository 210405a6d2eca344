use Rattle.ca_cell.specs.declared.library.Entry.TheVariants.{Sound}
use Rattle.ca_load.specs.Texts.{cells_of}
use Rattle.std.proofs.Common.{inl}
use Rattle.ca_load.proofs.LinkLemmas.{handed_on}
use Rattle.ca_on_cell.specs.Outputs.{AreValues}
use Rattle.ca_on_cell.specs.Causes.{IsValueCause}
use Rattle.ca_on_cell.proofs.FileLemmas.{of_entry_answer}
use Rattle.ca_on_cell.proofs.StageLemmas.{of_entry_cause, of_evaluated}
use Rattle.ca_on_cell.proofs.values.find_values.Goals as goal

pub returns-clause-values : goal.returns-clause-values
returns-clause-values g c =
    let words = c.args.request.now in
    of_entry_answer (g.S.Store.files c.args.store.now) (cells_of words.of.files) words.of.cell.now c.in_ok-library.library (c.in_ok-library.ensures).ok
    c.evaluate.result (Sound c.in_ok-cell.cell.now) (AreValues words.first.now words.last.now words.defect.now)
    (c.in_ok-cell.ensures).found c.evaluate.ensures.values

pub returns-in_err-cell-clause-cause : goal.returns-in_err-cell-clause-cause
returns-in_err-cell-clause-cause g c =
    let words = c.args.request.now in
    let names = cells_of words.of.files in
    let files = g.S.Store.files c.args.store.now in
    let before = g.S.Store.faults c.args.store.now in
    let after = g.S.Store.faults c.open_library.new.store in
    let fault = c.in_err-cell.field-0.0 in
    handed_on c.from_residual-in_err-cell.result fault
    (IsValueCause names words.of.cell.now words.first.now words.last.now words.defect.now files before after)
    c.from_residual-in_err-cell.ensures.1
    (inl (of_entry_cause names words.of.cell.now files c.in_ok-library.library (c.in_ok-library.ensures).ok before after fault
    (c.in_err-cell.ensures).cause))

pub returns-clause-cause : goal.returns-clause-cause
returns-clause-cause g c =
    let words = c.args.request.now in
    of_evaluated (cells_of words.of.files) words.of.cell.now (g.S.Store.files c.args.store.now) c.in_ok-library.library
    (c.in_ok-library.ensures).ok (g.S.Store.faults c.args.store.now) (g.S.Store.faults c.open_library.new.store)
    words.first.now words.last.now words.defect.now c.in_ok-cell.cell.now (c.in_ok-cell.ensures).found
    c.evaluate.result c.evaluate.ensures.cause
