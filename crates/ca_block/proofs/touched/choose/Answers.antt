use Rattle.std.proofs.Common.{◌+◌, ◌<◌, length, sym, subst, arith, get_or, set}
use Rattle.std.proofs.lemmas.Option.{slice_get-get_or}
use Rattle.ca_levels.proofs.LeadLemmas.{no_device}
use Rattle.ca_block.specs.code.Touched.{AreChosenTo}
use Rattle.ca_block.proofs.TouchedLemmas.{chosen_more, chosen_still, chosen_all}
use Rattle.ca_block.proofs.touched.choose.Goals as goal
use Rattle.ca_block.proofs.touched.choose.Goals.{then-marks-homes, else-marks-homes}

pub loop-i-preserved : goal.loop-i-preserved
loop-i-preserved c =
    let devices = c.args.devices.now in
    let homes = c.args.homes.now in
    let marks = c.args.marks.now in
    let i = c.loop-i.i in
    let count = c.loop-i.count in
    let before = c.loop-i.invariant in
    let d = get_or devices i no_device in
    let new = set c.loop-i.chosen count d in
    let is = slice_get-get_or devices i no_device c.loop-i-test.true in
    let lt : count < length c.loop-i.chosen = let few = before.few in omega (arith, few, c.loop-i-test.true, c.loop-i.auto.chosen, c.requires.room) in
    let within : get_or homes i 0 < length marks = c.requires.within i (omega (arith, c.loop-i-test.true, c.requires.homes)) in
    elim c.if-marks-homes.branch [
      | then-marks-homes w ↦ subst (λ k. AreChosenTo devices homes marks (i + 1) k new) (sym w.count-is)
          (chosen_more devices homes marks i count d c.loop-i.chosen lt is before)
      | else-marks-homes w ↦ subst (λ k. AreChosenTo devices homes marks (i + 1) k new) (sym w.count-is)
          (chosen_still devices homes marks i count d c.loop-i.chosen lt w.if-marks-homes.false before)
    ]

pub returns-clause-chosen : goal.returns-clause-chosen
returns-clause-chosen c =
    let before = c.loop-i.invariant in
    chosen_all c.args.devices.now c.args.homes.now c.args.marks.now c.loop-i.i c.loop-i.count c.loop-i.chosen (omega (arith, c.loop-i-test.false))
    (let few = before.few in let room = c.loop-i.auto.chosen in omega (arith, few, room, c.requires.room, c.loop-i.auto.i-end))
    (let few = before.few in omega (arith, few, c.loop-i.auto.i-end)) before
