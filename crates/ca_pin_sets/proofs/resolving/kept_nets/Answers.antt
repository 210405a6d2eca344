use Rattle.std.proofs.Common.{◌<◌, length, arith}
use Rattle.ca_pin_sets.proofs.FoldLemmas.{nets_with, nets_without}
use Rattle.ca_pin_sets.proofs.resolving.kept_nets.Goals as goal
use Rattle.ca_pin_sets.proofs.resolving.kept_nets.Goals.{then-homes-place+in_ok-copy+in_ok-push}
use Rattle.ca_pin_sets.proofs.resolving.kept_nets.Goals.{else-homes-place}

pub loop-place-preserved : goal.loop-place-preserved
loop-place-preserved c =
    let within : c.loop-place.place < length c.args.homes.now = omega arith in
    elim c.if-homes-place.branch [
      | then-homes-place+in_ok-copy+in_ok-push w ↦ rw w.names-is (nets_with c.args.homes.now c.args.nets.now c.loop-place.place w.get.result.now _ _ _
          c.requires within w.if-homes-place.true w.get.ensures c.loop-place.invariant (w.in_ok-copy.ensures).ok (w.in_ok-push.ensures).ok)
      | else-homes-place w ↦ rw w.names-is (nets_without c.args.homes.now c.args.nets.now _ c.loop-place.place
          c.requires within w.if-homes-place.false c.loop-place.invariant)
    ]
