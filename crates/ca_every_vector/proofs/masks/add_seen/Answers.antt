use Rattle.std.proofs.Common.{◌∙◌, arith}
use Rattle.ca_view.specs.Linked.{place_in}
use Rattle.ca_every_vector.proofs.MaskLemmas.{more_then, seen_added, have_seen_more, more_none}
use Rattle.ca_every_vector.proofs.masks.add_seen.Goals as goal
use Rattle.ca_every_vector.proofs.masks.add_seen.Goals.{then-rank-gt0, else-rank-gt0}

pub loop-u-preserved : goal.loop-u-preserved
loop-u-preserved c =
    let chip = c.args.chip.now.core in
    let u = c.loop-u.u in
    elim c.if-rank-gt0.branch [
      | then-rank-gt0 w ↦ rw (w.masks-is, w.sweep-is) (record {
        seen = have_seen_more c.args.chip.now.core (place_in c.args.chip.now.ranks) c.args.values.now c.loop-u.u c.loop-u.masks w.add.new.masks w.add.ensures.more c.loop-u.invariant.seen
            (λ placed. seen_added c.args.chip.now.core c.loop-u.u w.rows_seen-rows.result c.args.values.now w.add.new.masks w.add.ensures.added w.rows_seen-rows.ensures.seen);
        more = more_then c.args.masks.now c.loop-u.masks w.add.new.masks c.loop-u.invariant.more w.add.ensures.more;
        kept = w.rows_seen-rows.ensures.kept ∙ c.loop-u.invariant.kept;
      })
      | else-rank-gt0 w ↦ rw (w.masks-is, w.sweep-is) (record {
        seen = have_seen_more c.args.chip.now.core (place_in c.args.chip.now.ranks) c.args.values.now c.loop-u.u c.loop-u.masks c.loop-u.masks (more_none c.loop-u.masks) c.loop-u.invariant.seen
            (λ placed. absurd (let some = placed.placed in let rank = c.rank.ensures in let none = w.if-rank-gt0.false in omega arith));
        more = c.loop-u.invariant.more;
        kept = c.loop-u.invariant.kept;
      })
    ]
