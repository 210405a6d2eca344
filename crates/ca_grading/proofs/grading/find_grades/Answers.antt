use Rattle.ca_load.specs.Texts.{names_of}
use Rattle.ca_load.proofs.LinkLemmas.{handed_on}
use Rattle.ca_patterns.specs.Patterns.{IsLoadedCause}
use Rattle.ca_patterns.proofs.PatternLemmas.{at_wrong}
use Rattle.ca_grading.proofs.GradeLemmas.{are_grades}
use Rattle.ca_grading.proofs.grading.find_grades.Goals as goal

pub returns-in_err-made-clause-cause : goal.returns-in_err-made-clause-cause
returns-in_err-made-clause-cause g c =
    let request = c.args.request.now in
    let names = names_of request.files in
    let files = g.S.Store.files c.args.store.now in
    let before = g.S.Store.faults c.args.store.now in
    let after = g.S.Store.faults c.load_patterns.new.store in
    let fault = c.in_err-made.field-0.0 in
    let found = c.in_ok-chip.field-0 in
    let read = c.in_ok-chip.ensures in
    handed_on c.from_residual-in_err-made.result fault (IsLoadedCause names request.stil.now files before after)
    c.from_residual-in_err-made.ensures.1
    (at_wrong files names request.stil.now before after found.chip found.chains found.file fault
    read.chip read.chains read.patterns read.few (c.in_err-made.ensures).cause)

pub returns-clause-grades : goal.returns-clause-grades
returns-clause-grades g c =
    let found = c.in_ok-chip.field-0 in
    let read = c.in_ok-chip.ensures in
    let made = c.in_ok-made.ensures in
    are_grades (g.S.Store.files c.args.store.now) c.args.request.now.stil.now found.chip found.chains found.file c.in_ok-made.made.grades
    read.patterns read.few made.graded made.expected
