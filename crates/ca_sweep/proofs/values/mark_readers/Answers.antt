use Rattle.std.proofs.Common.{◌≡◌, ◌+◌, arith, subst, ◌∙◌}
use Rattle.std.proofs.lemmas.Option.{get_or_from_slice_get}
use Rattle.ca_flat.specs.Chip.{count_of}
use Rattle.ca_view.specs.Linked.{place_in}
use Rattle.ca_sweep.specs.code.Changes.{IsDue}
use Rattle.ca_view.specs.Readers.{row_at}
use Rattle.ca_sim.proofs.Marking.{listed_reads}
use Rattle.ca_sweep.proofs.ChangeLemmas.{marked_more, marked_all}
use Rattle.ca_sweep.proofs.values.mark_readers.Goals as goal

pub rank-requires : goal.rank-requires
rank-requires c =
    (listed_reads c.args.chip.now.core c.args.net (row_at c.args.chip.now.readers c.args.net) c.loop-k.k c.reader.result
    (c.linked.ensures.read c.args.net c.requires.known) c.reader.ensures).known

pub insert-requires : goal.insert-requires
insert-requires c =
    let reads = listed_reads c.args.chip.now.core c.args.net (row_at c.args.chip.now.readers c.args.net) c.loop-k.k c.reader.result
    (c.linked.ensures.read c.args.net c.requires.known) c.reader.ensures in
    let placed = c.linked.ensures.linked.within _ reads.known in
    let room = c.loop-k.invariant.room (count_of c.args.chip.now.core + 1) c.requires.room in
    omega arith

pub loop-k-preserved : goal.loop-k-preserved
loop-k-preserved c =
    let core = c.args.chip.now.core in
    let place_of = place_in c.args.chip.now.ranks in
    let readers = row_at c.args.chip.now.readers c.args.net in
    let u = c.reader.result in
    let reads = listed_reads core c.args.net readers c.loop-k.k u (c.linked.ensures.read c.args.net c.requires.known) c.reader.ensures in
    let at : c.rank.result ≡ place_of u = c.rank.ensures in
    marked_more core place_of c.args.net readers c.loop-k.k u c.args.due.now c.loop-k.due c.insert.new.self
    c.loop-k.invariant (get_or_from_slice_get readers c.loop-k.k u 0 c.reader.ensures) reads (subst (IsDue c.insert.new.self) at c.insert.ensures.here)
    (λ other apart. c.insert.ensures.others other (λ e. apart (e ∙ at))) (λ count holds. let same = c.insert.ensures.room in omega arith)

pub returns : goal.returns
returns c =
    marked_all c.args.chip.now.core (place_in c.args.chip.now.ranks) c.args.net (row_at c.args.chip.now.readers c.args.net)
    c.loop-k.k c.args.due.now c.loop-k.due (c.linked.ensures.read c.args.net c.requires.known) (omega arith) c.loop-k.invariant
