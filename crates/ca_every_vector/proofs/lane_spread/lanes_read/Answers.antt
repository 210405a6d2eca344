use Rattle.std.proofs.Common.{ℕ, ◌+◌, ◌<◌, ◌≡◌, Some, arith, subst, inl, inr}
use Rattle.std.specs.Prelude.{slice_get}
use Rattle.std.proofs.lemmas.Bool.{cases_eq}
use Rattle.ca_planes.specs.Trits.{state_in}
use Rattle.ca_view.specs.Linked.{Reads, place_in}
use Rattle.ca_view.specs.Readers.{row_at}
use Rattle.ca_every_vector.specs.Inside.{IsEvaluatedInside}
use Rattle.ca_every_vector.specs.code.Lanes.{values_of}
use Rattle.ca_every_vector.specs.code.Spread.{AreReadersInside}
use Rattle.ca_every_vector.proofs.SpreadLemmas.{reader_placed, same_reader, reader_found}
use Rattle.ca_every_vector.proofs.LaneSpreadLemmas.{both_lanes, no_lanes}
use Rattle.ca_every_vector.proofs.lane_spread.lanes_read.Goals as goal

pub rank-requires : goal.rank-requires
rank-requires c =
    let reads : Reads c.args.chip.now.core c.reader-w.result c.args.net =
    reader_placed c.args.chip.now.core (place_in c.args.chip.now.ranks) c.args.net (row_at c.args.chip.now.readers c.args.net) c.loop-k.k c.reader-w.result
    (c.linked.ensures.read c.args.net c.requires.known) c.reader-w.ensures in
    reads.known

pub lanes_inside-requires-clause-placed : goal.lanes_inside-requires-clause-placed
lanes_inside-requires-clause-placed c =
    let reads : Reads c.args.chip.now.core c.reader-w.result c.args.net =
    reader_placed c.args.chip.now.core (place_in c.args.chip.now.ranks) c.args.net (row_at c.args.chip.now.readers c.args.net) c.loop-k.k c.reader-w.result
    (c.linked.ensures.read c.args.net c.requires.known) c.reader-w.ensures in
    record { known = reads.known; placed = let some = c.if-rank-eq0.false in let e = c.rank.ensures in omega arith }

pub returns-then-rank-eq0-clause-inside : goal.returns-then-rank-eq0-clause-inside
returns-then-rank-eq0-clause-inside c = no_lanes (λ lane. AreReadersInside c.args.chip.now.core (state_in c.args.values.now lane) (state_in c.args.others.now lane) c.args.net)

pub loop-k-preserved : goal.loop-k-preserved
loop-k-preserved c =
    let core = c.args.chip.now.core in
    let values = c.args.values.now in
    let others = c.args.others.now in
    let readers = row_at c.args.chip.now.readers c.args.net in
    record {
      inside = both_lanes c.both-lanes.result c.loop-k.lanes c.lanes_inside.result
          (λ lane. (j w : ℕ) → j < c.loop-k.k → slice_get readers j ≡ Some w → IsEvaluatedInside core w (values_of values lane) (values_of others lane))
          (λ lane. IsEvaluatedInside core c.reader-w.result (values_of values lane) (values_of others lane))
          (λ lane. (j w : ℕ) → j < c.loop-k.k + 1 → slice_get readers j ≡ Some w → IsEvaluatedInside core w (values_of values lane) (values_of others lane))
          c.both-lanes.ensures c.loop-k.invariant.inside c.lanes_inside.ensures.inside
          (λ lane low so_far here j w less at. elim (cases_eq j c.loop-k.k) [
            | inl e ↦ subst (λ v. IsEvaluatedInside core v (values_of values lane) (values_of others lane)) (same_reader readers j c.loop-k.k w c.reader-w.result e at c.reader-w.ensures) here
            | inr other ↦ so_far j w (omega (arith, other)) at
          ]);
      room = c.lanes_inside.ensures.room;
    }

pub returns-clause-inside : goal.returns-clause-inside
returns-clause-inside c = λ lane low has w reads.
    let found = reader_found c.args.chip.now.core c.args.net (row_at c.args.chip.now.readers c.args.net) w (c.linked.ensures.read c.args.net c.requires.known) reads in
    c.loop-k.invariant.inside lane low has found.0 w (let past = c.loop-k-test.false in let e = c.reader_count-k-end.ensures in let within = found.1 in omega arith) found.2
