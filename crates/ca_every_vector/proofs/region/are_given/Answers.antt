use Rattle.std.proofs.Common.{arith}
use Rattle.ca_view.specs.Linked.{IsPlaced, place_in}
use Rattle.ca_every_vector.specs.code.Region.{IsGivenOrUnknown}
use Rattle.ca_every_vector.proofs.NetLemmas.{entry_has}
use Rattle.ca_every_vector.proofs.TableLemmas.{all_more, all_taken}
use Rattle.ca_every_vector.proofs.region.are_given.Goals as goal

pub is_fine-requires-clause-placed : goal.is_fine-requires-clause-placed
is_fine-requires-clause-placed c =
    entry_has (IsPlaced c.args.chip.now.core (place_in c.args.chip.now.ranks)) c.args.parts.now c.loop-place.place c.entry.result c.entry.ensures c.requires.placed

pub loop-place-preserved : goal.loop-place-preserved
loop-place-preserved c = all_more (IsGivenOrUnknown c.args.chip.now.core c.args.values.now) c.args.parts.now c.loop-place.place c.entry.result c.entry.ensures
    (c.is_fine.ensures c.if-not-is_fine.false) c.loop-place.invariant

pub returns : goal.returns
returns c = λ is. all_taken (IsGivenOrUnknown c.args.chip.now.core c.args.values.now) c.args.parts.now c.loop-place.place
    (let past = c.loop-place-test.false in omega arith) c.loop-place.invariant
