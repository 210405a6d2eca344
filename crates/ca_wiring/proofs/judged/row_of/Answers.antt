use Rattle.std.proofs.Common.{◌∙◌, ap₂, sym}
use Rattle.ca_names.specs.Names.{place_of}
use Rattle.ca_wiring.proofs.PinLemmas.{row_reported, no_row}
use Rattle.ca_wiring.proofs.judged.row_of.Goals as goal

pub returns-in-Some : goal.returns-in-Some
returns-in-Some c =
    row_reported c.args.scan.now c.args.cell.now c.in-Some.place c.index-scan-place.result
    (ap₂ place_of (sym c.as_bytes.ensures) (sym c.requires) ∙ sym (c.in-Some.ensures {u = tt}))
    c.index-scan-place.is

pub returns-in-None : goal.returns-in-None
returns-in-None c =
    no_row c.args.scan.now c.args.cell.now
    (ap₂ place_of (sym c.as_bytes.ensures) (sym c.requires) ∙ sym (c.in-None.ensures {u = tt}))
