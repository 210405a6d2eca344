use Rattle.std.proofs.Common.{◌+◌, ◌<◌, ◌∙◌, length, sym, subst, arith, get_or}
use Rattle.ca_planes.specs.Trits.{HasNodes, trit_in}
use Rattle.ca_block.proofs.StateLemmas.{is_state}
use Rattle.ca_block.proofs.TouchedLemmas.{KeepsTo, keeps_more, keeps_still, read_marked}
use Rattle.ca_block.proofs.touched.keep.Goals as goal
use Rattle.ca_block.proofs.touched.keep.Goals.{then-not-marks-labels, else-not-marks-labels}

pub loop-node-preserved : goal.loop-node-preserved
loop-node-preserved c =
    let labels = c.args.labels.now in
    let marks = c.args.marks.now in
    let n = c.loop-node.node in
    let lt : n < length labels = omega (arith, c.loop-node-test.true, c.loop-node.auto.node-end) in
    let before = c.loop-node.invariant in
    elim c.if-not-marks-labels.branch [
      | then-not-marks-labels w ↦ record {
        room = subst (HasNodes (length labels)) (sym w.out-is)
            (record { zeros = w.set.ensures.zeros ∙ before.room.zeros; ones = w.set.ensures.ones ∙ before.room.ones });
        kept = subst (λ b. KeepsTo labels marks c.args.from.now c.args.out.now b (n + 1)) (sym w.out-is)
            (keeps_more labels marks c.args.from.now c.args.out.now c.loop-node.out n before.kept w.set.new.self (trit_in w.get.result)
            (λ lane. omega (arith, lt, is_state (length labels) c.loop-node.out lane before.room)) w.set.ensures.states w.get.ensures
            w.if-not-marks-labels.true);
      }
      | else-not-marks-labels w ↦ record {
        room = subst (HasNodes (length labels)) (sym w.out-is) before.room;
        kept = subst (λ b. KeepsTo labels marks c.args.from.now c.args.out.now b (n + 1)) (sym w.out-is)
            (keeps_still labels marks c.args.from.now c.args.out.now c.loop-node.out n before.kept
            (read_marked marks (get_or labels n 0) w.if-not-marks-labels.false));
      }
    ]
