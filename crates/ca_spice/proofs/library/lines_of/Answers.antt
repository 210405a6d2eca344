use Rattle.std.proofs.Common.{Option, sym, subst, arith}
use Rattle.ca_lex.specs.FirstFault.{located}
use Rattle.ca_lex.specs.Reading.{IsFault}
use Rattle.ca_lex.proofs.FirstFaultLemmas.{goes_on, refused, ends, located_value, located_fault}
use Rattle.ca_spice.specs.declared.fault.SpiceFault.{SpiceFault}
use Rattle.ca_spice.specs.code.SpiceFault.{kind_reported}
use Rattle.ca_spice.specs.Reading.{Reading, nothing, at_line, line_step, lines_from}
use Rattle.ca_spice.specs.code.Views.{reading_seen}
use Rattle.ca_spice.proofs.library.lines_of.Goals as goal

pub returns-in-Err : goal.returns-in-Err
returns-in-Err c =
    subst (λ (reported : Option SpiceFault). IsFault {Reading = Reading} reported (lines_from c.args.table.now nothing c.args.lines.now)) (sym c.at.ensures)
    (refused (located at_line (line_step c.args.table.now)) (reading_seen c.lines.reading) c.args.lines.now c.lines.line-index c.line-item.result _ _ c.lines-test.true c.line-item.is
    (located_fault at_line (line_step c.args.table.now) c.line-item.result (reading_seen c.lines.reading) (kind_reported c.in-Err.refusal) c.in-Err.ensures) c.lines.invariant)

pub lines-preserved : goal.lines-preserved
lines-preserved c =
    goes_on (located at_line (line_step c.args.table.now)) (reading_seen c.lines.reading) (reading_seen c.in-Ok.next) c.args.lines.now c.lines.line-index c.line-item.result _
    c.lines-test.true c.line-item.is
    (located_value at_line (line_step c.args.table.now) c.line-item.result (reading_seen c.lines.reading) (reading_seen c.in-Ok.next) c.in-Ok.ensures) c.lines.invariant

pub returns : goal.returns
returns c = ends (located at_line (line_step c.args.table.now)) (reading_seen c.lines.reading) c.args.lines.now c.lines.line-index _ (omega arith) c.lines.invariant
