use Rattle.std.proofs.Common.{◌<◌, refl, ◌∙◌, subst, ap, get_or, replicate}
use Rattle.std.proofs.lemmas.Bool.{lt-ltb, ltb-true}
use Rattle.ca_net.proofs.Strongest.{own_is, restored, root_blocked, reaches_turn}
use Rattle.ca_net.proofs.search.reaches_from.Goals as goal

pub returns-then-strength-strongest-clause-reaches : goal.returns-then-strength-strongest-clause-reaches
returns-then-strength-strongest-clause-reaches g c = (
  λ e. cc,
  λ r. absurd (root_blocked (g.N.Network.circuit c.args.net.now) c.requires.well_formed c.args.state.now c.args.strongest.now c.requires.strongest c.args.root.0 c.args.node.0
      (subst (λ x. x < get_or c.args.strongest.now c.args.root.0 0) (own_is (g.N.Network.circuit c.args.net.now) c.args.root.0 c.root_strength-strength.result c.kind.result c.kind.ensures c.root_strength-strength.ensures) c.if-strength-strongest.true) r),
)

pub returns-clause-on_path : goal.returns-clause-on_path
returns-clause-on_path g c =
    restored _ c.args.root.0 c.args.on_path.now c.args.on_path.now c.spread.new.on_path c.requires.root c.requires.on_path refl c.spread.ensures.on_path

pub returns-clause-reaches : goal.returns-clause-reaches
returns-clause-reaches g c =
    let i = reaches_turn (g.N.Network.circuit c.args.net.now) c.requires.well_formed c.args.state.now c.args.strongest.now c.requires.strongest c.fill.new.self c.args.on_path.now c.root_strength-strength.result c.args.root.0 c.args.node.0 c.spread.new.reached
    (c.fill.ensures.after (λ y e. e) ∙ ap (λ n. replicate n 0) c.requires.reached)
    c.requires.on_path (own_is (g.N.Network.circuit c.args.net.now) c.args.root.0 c.root_strength-strength.result c.kind.result c.kind.ensures c.root_strength-strength.ensures) c.requires.root c.if-strength-strongest.false c.spread.ensures.explores in
    (λ e. i.0 (ltb-true 0 (get_or c.spread.new.reached c.args.node.0 0) e), λ r. lt-ltb 0 (get_or c.spread.new.reached c.args.node.0 0) (i.1 r))
