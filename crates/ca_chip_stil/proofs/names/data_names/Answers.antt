use Rattle.ca_chip_stil.proofs.NameLemmas.{names_more}
use Rattle.ca_chip_stil.proofs.names.data_names.Goals as goal

pub loop-p-preserved : goal.loop-p-preserved
loop-p-preserved c =
    names_more c.args.chip.now c.args.input c.loop-p.p c.loop-p.names c.push_port.new.names c.loop-p.invariant
    (c.in_ok-push_port.ensures {u = tt})
