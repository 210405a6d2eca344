use Rattle.ca_fault.specs.FaultLine.{line_of, place_line}
use Rattle.ca_store.proofs.Appends.{at_err}
use Rattle.ca_flow.proofs.LineLemmas.{on_err_from, part_of_line, part_of_place}
use Rattle.ca_flow.proofs.answering.print_lines.Goals as goal

pub returns-in_err-print-clause-err : goal.returns-in_err-print-clause-err
returns-in_err-print-clause-err g c =
    at_err c.from_residual.result _
    (part_of_line (line_of c.args.fault.now) (place_line c.args.fault.now) _ _ (c.in_err-print.ensures).err)

pub returns-clause-err : goal.returns-clause-err
returns-clause-err g c =
    on_err_from c.print_place.result _ _
    (part_of_place (line_of c.args.fault.now) (place_line c.args.fault.now) _ _ _ (c.in_ok-print.ensures).ok)
    c.print_place.ensures.err
