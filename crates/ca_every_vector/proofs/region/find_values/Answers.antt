use Rattle.ca_view.specs.Linked.{IsPlaced, place_in}
use Rattle.ca_every_vector.proofs.NetLemmas.{entry_has}
use Rattle.ca_every_vector.proofs.SpreadLemmas.{entry_listed}
use Rattle.ca_every_vector.proofs.region.find_values.Goals as goal

pub evaluate-requires-clause-placed : goal.evaluate-requires-clause-placed
evaluate-requires-clause-placed c =
    entry_has (IsPlaced c.args.chip.now.core (place_in c.args.chip.now.ranks)) c.args.parts.now c.loop-place.place c.entry.result c.entry.ensures c.requires.placed

pub evaluate-requires-clause-has : goal.evaluate-requires-clause-has
evaluate-requires-clause-has c = entry_listed c.args.parts.now c.loop-place.place c.entry.result c.entry.ensures
