use Rattle.ca_generating.specs.declared.making.TheConstants.{MAKE_BUDGET}
use Rattle.ca_generating.proofs.MakeLemmas.{too_many}
use Rattle.ca_generating.proofs.making.find_made.Goals as goal

pub returns-in-Err-clause-cause : goal.returns-in-Err-clause-cause
returns-in-Err-clause-cause g c =
    let chip = c.in_ok-chip.chip in
    too_many c.args.number chip c.generation_fault.result (c.in_ok-chip.ensures).chip
    (c.generation_fault.ensures MAKE_BUDGET chip (c.in-Err.ensures).cause)
