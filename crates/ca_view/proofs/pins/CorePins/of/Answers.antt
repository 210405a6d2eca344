use Rattle.std.proofs.Common.{sym, ◌∙◌, subst, arith, ℕ}
use Rattle.std.specs.Prelude.{Vec}
use Rattle.std.specs.Global.{Global}
use Rattle.std.proofs.lemmas.List.{length-map}
use Rattle.ca_view.specs.code.Pins.{items_of, AreBelow}
use Rattle.ca_view.proofs.PinLemmas.{inputs_below, outputs_below}
use Rattle.ca_view.proofs.pins.CorePins.of.Goals as goal

pub invariant_of-result : goal.invariant_of-result
invariant_of-result c =
    let ins = c.in_ok-inputs.inputs.items in
    let outs = c.in_ok-outputs.outputs.items in
    let total = c.count.ensures ∙ c.requires.total in (
      (let i = c.in_ok-inputs.ensures.room in
          let o = c.in_ok-outputs.ensures.room in
          let li = length-map ins (λ (v : Vec ℕ Global). v.items) in
          let lo = length-map outs (λ (v : Vec ℕ Global). v.items) in
          omega arith),
      subst (λ n. AreBelow n (items_of ins)) (sym total) (inputs_below c.args.chip.now c.wired.ensures (items_of ins) c.in_ok-inputs.ensures),
      subst (λ n. AreBelow n (items_of outs)) (sym total) (outputs_below c.args.chip.now c.wired.ensures (items_of outs) c.in_ok-outputs.ensures),
    )
