use Rattle.ca_view.specs.Linked.{IsPlaced, place_in}
use Rattle.ca_every_vector.proofs.NetLemmas.{entry_has}
use Rattle.ca_every_vector.proofs.wanted.begin_all.Goals as goal

pub begin-requires-clause-placed : goal.begin-requires-clause-placed
begin-requires-clause-placed c =
    entry_has (IsPlaced c.args.chip.now.core (place_in c.args.chip.now.ranks)) c.args.fresh.now c.loop-place.place c.entry.result c.entry.ensures c.requires.placed
