use Rattle.std.proofs.Common.{◌≡◌, ◌<◌, sym, ap, ◌∙◌, subst}
use Rattle.std.specs.Prelude.{Some, None}
use Rattle.ca_linked.specs.declared.drivers.Sources.{Sources}
use Rattle.ca_linked.specs.Linked.{LinkedChip, net_count, Drives}
use Rattle.ca_linked.proofs.DriverLemmas.{some_inj}
use Rattle.ca_linked.proofs.chip.Chip.driver.Goals as goal

pub unreachable-requires : goal.unreachable-requires
unreachable-requires c =
    let is = c.self.invariant.single.each c.args.net.0 (subst (λ (d : LinkedChip). c.args.net.0 < net_count d) (sym c.self.view_is) c.requires) in
    let clash : Some is.source ≡ None = sym is.reported ∙ ap (λ (s : Sources). s.first) (sym c.get.ensures) ∙ c.in-None.is in
    cc

pub returns : goal.returns
returns c =
    let is = c.self.invariant.single.each c.args.net.0 (subst (λ (d : LinkedChip). c.args.net.0 < net_count d) (sym c.self.view_is) c.requires) in
    let same : Some is.source ≡ Some c.in-Some.source = sym is.reported ∙ ap (λ (s : Sources). s.first) (sym c.get.ensures) ∙ c.in-Some.is in
    let here : Drives c.args.self.now c.args.net.0 is.source = subst (λ (d : LinkedChip). Drives d c.args.net.0 is.source) c.self.view_is is.only.has in
    subst (Drives c.args.self.now c.args.net.0) (some_inj is.source c.in-Some.source same) here
