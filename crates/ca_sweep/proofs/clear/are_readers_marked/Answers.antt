use Rattle.std.proofs.Common.{◌≡◌, ◌<◌, arith, subst, sym, true, get_or, below_more, ap, ◌∙◌}
use Rattle.std.proofs.lemmas.Option.{get_or_from_slice_get}
use Rattle.std.proofs.lemmas.List.Elements.{All-contains, All-from_get_or}
use Rattle.ca_sim.proofs.Marking.{listed_reads}
use Rattle.ca_view.specs.Readers.{row_at}
use Rattle.ca_sweep.specs.Tables.{is_marked}
use Rattle.ca_sweep.proofs.clear.are_readers_marked.Goals as goal

pub bounds-marks-reader : goal.bounds-marks-reader
bounds-marks-reader c =
    let reads = listed_reads c.args.chip.now.core c.args.net (row_at c.args.chip.now.readers c.args.net) c.loop-k.k c.reader.result
    (c.linked.ensures.read c.args.net c.requires.known) c.reader.ensures in
    subst (λ n. c.reader.result < n) (sym c.requires.room) reads.known

pub loop-k-preserved : goal.loop-k-preserved
loop-k-preserved c =
    let readers = row_at c.args.chip.now.readers c.args.net in
    below_more (λ k. is_marked c.args.marks.now (get_or readers k 0) ≡ true) c.loop-k.k c.loop-k.invariant
    (ap (is_marked c.args.marks.now) (get_or_from_slice_get readers c.loop-k.k c.reader.result 0 c.reader.ensures) ∙ c.if-not-marks-reader.false)

pub returns : goal.returns
returns c = λ is w reads.
    let readers = row_at c.args.chip.now.readers c.args.net in
    All-contains (λ x. is_marked c.args.marks.now x ≡ true) readers w
    (All-from_get_or (λ x. is_marked c.args.marks.now x ≡ true) readers 0 (λ k less. c.loop-k.invariant k (omega arith)))
    ((c.linked.ensures.read c.args.net c.requires.known).each w reads)
