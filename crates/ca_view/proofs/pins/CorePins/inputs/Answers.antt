use Rattle.std.proofs.Common.{◌<◌, length, ap, subst, arith}
use Rattle.std.specs.List.{All}
use Rattle.ca_view.specs.Pins.{Pins}
use Rattle.ca_view.proofs.PinLemmas.{within_row}
use Rattle.ca_view.proofs.pins.CorePins.inputs.Goals as goal

pub returns-clause-within : goal.returns-clause-within
returns-clause-within c =
    let i = c.self.inside in
    let known : c.args.instance < length i.inputs.items = let count = ap (λ (p : Pins). p.count) c.self.view_is in let lt = c.requires in omega arith in
    subst (λ n. All (λ net. net < n) c.deref.result.now) (ap (λ (p : Pins). p.nets) c.self.view_is)
    (within_row i.nets i.inputs.items c.args.instance c.index.result.now c.deref.result.now c.self.invariant.1 known c.index.ensures c.deref.ensures.value)
