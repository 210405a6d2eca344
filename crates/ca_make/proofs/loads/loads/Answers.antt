use Rattle.ca_make.proofs.LoadLemmas.{marked_next}
use Rattle.ca_make.proofs.loads.loads.Goals as goal

pub loop-gate-preserved : goal.loop-gate-preserved
loop-gate-preserved c =
    marked_next c.args.gates.now c.as_slice-gate-items.result.now c.loop-gate.gate-index _ c.args.candidates
    c.loop-gate.loads.items c.mark.new.loads.items c.as_slice-gate-items.ensures c.loop-gate-test.true c.requires
    c.mark.ensures c.loop-gate.invariant
