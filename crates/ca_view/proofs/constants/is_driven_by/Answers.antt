use Rattle.std.proofs.Common.{◌≡◌, Some, subst}
use Rattle.ca_linked.specs.Linked.{constant_net}
use Rattle.ca_view.proofs.ConstantLemmas.{driven_true, driven_false}
use Rattle.ca_view.proofs.constants.is_driven_by.Goals as goal

pub returns-in-Some-true : goal.returns-in-Some-true
returns-in-Some-true c =
    driven_true c.args.chip.now c.wired.ensures c.args.net.0 c.args.value
    (subst (λ v. constant_net c.args.chip.now v ≡ Some c.args.net.0) c.in-Some-true.field-0-test c.in-Some-true.ensures.some)

pub returns-in-Some-false : goal.returns-in-Some-false
returns-in-Some-false c =
    driven_false c.args.chip.now c.wired.ensures c.args.net.0 c.args.value
    (subst (λ v. constant_net c.args.chip.now v ≡ Some c.args.net.0) c.in-Some-false.field-0-test c.in-Some-false.ensures.some)
