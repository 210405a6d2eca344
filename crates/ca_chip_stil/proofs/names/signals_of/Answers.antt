use Rattle.ca_chip_stil.specs.ChipStil.{signal_of}
use Rattle.ca_chip_stil.proofs.NameLemmas.{made_more}
use Rattle.ca_chip_stil.proofs.names.signals_of.Goals as goal

pub loop-p-preserved : goal.loop-p-preserved
loop-p-preserved c =
    made_more signal_of c.args.chip.now.ports c.loop-p.p c.loop-p.signals _ _ c.in_ok-signal_of.ensures
    c.loop-p.invariant c.in_ok-push.ensures.ok
