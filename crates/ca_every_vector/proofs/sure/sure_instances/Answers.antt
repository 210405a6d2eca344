use Rattle.ca_net.specs.State.{value_at}
use Rattle.ca_sweep.proofs.ClearLemmas.{marks_by}
use Rattle.ca_sweep.specs.Seen.{IsClear}
use Rattle.ca_every_vector.specs.Inside.{IsSureAfter}
use Rattle.ca_every_vector.proofs.SureLemmas.{sure_after, sure_none}
use Rattle.ca_every_vector.proofs.sure.sure_instances.Goals as goal

pub find_sure-requires-clause-sure : goal.find_sure-requires-clause-sure
find_sure-requires-clause-sure c = sure_none c.args.chip.now.core c.in_ok-values.values c.nets.result c.in_ok-values.ensures

pub returns : goal.returns
returns c = λ formed.
    let core = c.args.chip.now.core in
    marks_by core (IsClear core (value_at c.find_sure.new.values)) (IsSureAfter core) c.in_ok-marks.marks.items c.in_ok-marks.ensures
    (λ u clear. sure_after core c.find_sure.new.values formed c.find_sure.ensures.sure u clear)
