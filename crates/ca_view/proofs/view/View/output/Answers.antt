use Rattle.std.proofs.Common.{ℕ, List, sym, ◌∙◌, ap, subst, get_or}
use Rattle.ca_flat.specs.Chip.{Chip}
use Rattle.ca_view.specs.View.{Viewed}
use Rattle.ca_view.specs.code.View.{IsKept}
use Rattle.ca_view.proofs.ViewLemmas.{shows_core}
use Rattle.ca_view.proofs.view.View.output.Goals as goal

pub returns-clause-within : goal.returns-clause-within
returns-clause-within c =
    let view = c.args.self.now in
    let kept = subst (IsKept c.self.inside.pins) c.self.view_is c.self.invariant in
    let net = c.index.result.now in
    let outputs = kept.is_view.outputs_are ∙ sym (ap (λ (core : Chip). core.outputs) kept.is_view.core_is) in
    (shows_core c.self.inside.pins view kept).linked.is_chip.observed net (
      c.args.o,
      c.requires,
      sym (c.index.ensures ∙ ap (λ (v : Viewed). get_or v.outputs c.args.o net) c.self.view_is
          ∙ ap (λ (l : List ℕ). get_or l c.args.o net) outputs),
    )
