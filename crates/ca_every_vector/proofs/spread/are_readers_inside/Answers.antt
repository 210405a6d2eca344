use Rattle.std.proofs.Common.{arith, subst, inl, inr}
use Rattle.std.proofs.lemmas.Bool.{cases_eq}
use Rattle.ca_net.specs.State.{value_at}
use Rattle.ca_view.specs.Linked.{Reads, place_in}
use Rattle.ca_view.specs.Readers.{row_at}
use Rattle.ca_every_vector.specs.Inside.{IsEvaluatedInside}
use Rattle.ca_every_vector.proofs.SpreadLemmas.{reader_placed, same_reader, reader_found}
use Rattle.ca_every_vector.proofs.spread.are_readers_inside.Goals as goal

pub rank-requires : goal.rank-requires
rank-requires c =
    let reads : Reads c.args.chip.now.core c.reader-w.result c.args.net =
    reader_placed c.args.chip.now.core (place_in c.args.chip.now.ranks) c.args.net (row_at c.args.chip.now.readers c.args.net) c.loop-k.k c.reader-w.result
    (c.linked.ensures.read c.args.net c.requires.known) c.reader-w.ensures in
    reads.known

pub is_inside-requires-clause-placed : goal.is_inside-requires-clause-placed
is_inside-requires-clause-placed c =
    let reads : Reads c.args.chip.now.core c.reader-w.result c.args.net =
    reader_placed c.args.chip.now.core (place_in c.args.chip.now.ranks) c.args.net (row_at c.args.chip.now.readers c.args.net) c.loop-k.k c.reader-w.result
    (c.linked.ensures.read c.args.net c.requires.known) c.reader-w.ensures in
    record { known = reads.known; placed = let some = c.if-rank-eq0.false in let e = c.rank.ensures in omega arith }

pub loop-k-preserved : goal.loop-k-preserved
loop-k-preserved c = λ j w less at. elim (cases_eq j c.loop-k.k) [
  | inl e ↦ subst (λ v. IsEvaluatedInside c.args.chip.now.core v (value_at c.args.values.now) (value_at c.args.others.now))
      (same_reader (row_at c.args.chip.now.readers c.args.net) j c.loop-k.k w c.reader-w.result e at c.reader-w.ensures) (c.is_inside.ensures c.if-not-is_inside.false)
  | inr other ↦ c.loop-k.invariant j w (omega (arith, other)) at
]

pub returns : goal.returns
returns c = λ is w reads.
    let found = reader_found c.args.chip.now.core c.args.net (row_at c.args.chip.now.readers c.args.net) w (c.linked.ensures.read c.args.net c.requires.known) reads in
    c.loop-k.invariant found.0 w (let past = c.loop-k-test.false in let e = c.reader_count-k-end.ensures in let within = found.1 in omega arith) found.2
