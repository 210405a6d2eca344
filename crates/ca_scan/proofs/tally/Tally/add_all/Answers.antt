use Rattle.std.proofs.Common.{◌<◌, ◌≤◌, length, arith}
use Rattle.ca_scan.proofs.TallyLemmas.{adds_more, adds_all}
use Rattle.ca_scan.proofs.tally.Tally.add_all.Goals as goal

pub loop-k-preserved : goal.loop-k-preserved
loop-k-preserved c =
    let below : c.loop-k.k < length c.args.numbers.now = omega (arith, c.loop-k-test.true) in
    adds_more c.args.numbers.now c.loop-k.k _ c.args.self.now c.loop-k.self c.add.new.self below c.loop-k.invariant c.in_ok-add.ensures

pub returns : goal.returns
returns c =
    let all : length c.args.numbers.now ≤ c.loop-k.k = omega (arith, c.loop-k-test.false) in
    adds_all c.args.numbers.now c.loop-k.k c.args.self.now c.loop-k.self all c.loop-k.invariant
