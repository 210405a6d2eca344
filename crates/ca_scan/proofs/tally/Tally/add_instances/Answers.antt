use Rattle.std.proofs.Common.{◌<◌, ◌≤◌, [], ◌∷◌, length, subst, arith}
use Rattle.ca_scan.specs.code.Kept.{Adds}
use Rattle.ca_scan.proofs.TallyLemmas.{adds_more, adds_all}
use Rattle.ca_scan.proofs.tally.Tally.add_instances.Goals as goal

pub loop-k-preserved : goal.loop-k-preserved
loop-k-preserved c =
    let below : c.loop-k.k < length c.args.instances.now = omega (arith, c.loop-k-test.true, c.len-k-end.ensures) in
    adds_more c.args.instances.now c.loop-k.k _ c.args.self.now c.loop-k.self c.add.new.self below c.loop-k.invariant
    (subst (λ u. Adds (u ∷ []) c.loop-k.self c.add.new.self) c.get.ensures c.in_ok-add.ensures)

pub returns : goal.returns
returns c =
    let all : length c.args.instances.now ≤ c.loop-k.k = omega (arith, c.loop-k-test.false, c.len-k-end.ensures) in
    adds_all c.args.instances.now c.loop-k.k c.args.self.now c.loop-k.self all c.loop-k.invariant
