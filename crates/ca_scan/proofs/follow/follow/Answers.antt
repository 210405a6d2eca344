use Rattle.std.proofs.Common.{◌≡◌, ◌<◌, ◌++◌, ◌∷◌, [], length, sym, subst, arith}
use Rattle.ca_scan.specs.code.Kept.{IsFollowed}
use Rattle.ca_scan.proofs.FollowLemmas.{more_followed, out_followed, long_followed}
use Rattle.ca_scan.proofs.follow.follow.Goals as goal

pub returns-in-Out : goal.returns-in-Out
returns-in-Out c = out_followed c.args.chip.now c.args.start.0 c.steps.chain c.steps.net.0 c.steps.invariant c.in-Out.ensures

pub steps-preserved : goal.steps-preserved
steps-preserved c =
    let chip = c.args.chip.now in
    let start = c.args.start.0 in
    let next = c.scan_net-net.result.0 in
    let pushed : c.push.new.self ≡ c.steps.chain ++ c.in-Taken.u.0 ∷ [] = c.in_ok-push-in-Taken.ensures.ok in
    subst (λ done. IsFollowed chip start done next) (sym pushed)
    (more_followed chip start c.steps.chain c.steps.net.0 c.steps.invariant c.in-Taken.u.0 next c.in-Taken.ensures.0 c.in-Taken.ensures.1 c.scan_net-net.ensures)

pub returns : goal.returns
returns c =
    let chain = c.len.ensures in
    let parts = c.parts.ensures in
    let test = c.steps-test.false in
    let long : length c.args.chip.now.parts < length c.steps.chain = omega (arith, chain, parts, test) in
    long_followed c.args.chip.now c.args.start.0 c.steps.chain c.steps.net.0 c.steps.invariant long
