use Rattle.std.proofs.Common.{◌≡◌, ◌<◌, length, arith, subst}
use Rattle.ca_net.specs.code.Walk.{AreStrongestFrom}
use Rattle.ca_net.proofs.Strongest.{own_is, restored, strongest_turn, strongest_all}
use Rattle.ca_net.proofs.search.find_strongest.Goals as goal

pub loop-root-preserved : goal.loop-root-preserved
loop-root-preserved g c =
    let lt = subst (λ n. c.loop-root.root < n) c.node_count-root-end.ensures.count c.loop-root-test.true in
    record {
      same = restored _ c.loop-root.root c.args.on_path.now c.loop-root.on_path c.spread.new.on_path lt c.requires.on_path c.loop-root.invariant.same c.spread.ensures.on_path;
      strongest = strongest_turn _ c.node_count-root-end.ensures.well_formed c.args.state.now c.args.zeros.now c.args.on_path.now c.loop-root.on_path c.root_strength-strength.result c.loop-root.root
          c.loop-root.strongest c.spread.new.reached c.requires.zeros c.requires.on_path c.loop-root.invariant.same
          (own_is (g.N.Network.circuit c.args.net.now) c.loop-root.root c.root_strength-strength.result c.kind.result c.kind.ensures c.root_strength-strength.ensures) lt c.loop-root.invariant.strongest c.spread.ensures.explores;
    }

pub returns-clause-strongest : goal.returns-clause-strongest
returns-clause-strongest g c =
    let all : c.loop-root.root ≡ length (g.N.Network.circuit c.args.net.now).nodes =
    omega (arith, c.loop-root-test.false, c.node_count-root-end.ensures.count, c.loop-root.auto.root-end) in
    strongest_all _ c.node_count-root-end.ensures.well_formed c.args.state.now c.loop-root.strongest
    (subst (λ roots. AreStrongestFrom (g.N.Network.circuit c.args.net.now) c.args.state.now roots c.loop-root.strongest) all c.loop-root.invariant.strongest)
