use Rattle.std.proofs.Common.{◌≡◌, ◌<◌, ◌+◌, ◌-◌, ◌∙◌, suc, length, drop, get_or, ap₂, ap, sym, subst, arith}
use Rattle.std.proofs.lemmas.List.{length-set}
use Rattle.std.proofs.lemmas.List.Elements.{All-get_or}
use Rattle.ca_lanes.specs.Choice.{choices_of, choice_at}
use Rattle.ca_lanes.specs.code.Set.{input_choice}
use Rattle.ca_lanes.proofs.SetLemmas.{input_more}
use Rattle.ca_lanes.proofs.frame.set_inputs.Goals as goal

pub loop-following-preserved : goal.loop-following-preserved
loop-following-preserved c =
    let inputs = c.args.inputs.now in
    let following = c.loop-following.following in
    let place = length inputs - 1 - following in
    let known : place < length inputs = omega (arith, c.loop-following-test.true) in
    let net_known : get_or inputs place 0 < length c.args.nets.now = All-get_or (λ n. n < length c.args.nets.now) inputs place 0 known c.requires.within in
    let here : length inputs - (following + 1) ≡ place = omega (arith, c.loop-following-test.true) in
    let later : length inputs - following ≡ suc place = omega (arith, c.loop-following-test.true) in
    let later_bit : c.args.bit + (length inputs - following) ≡ c.args.bit + place + 1 = omega (arith, later) in
    record {
      set = λ lane net.
          let old = choice_at (choices_of c.args.nets.now lane) net in
          input_more inputs c.args.pairs.now c.args.bit place lane net c.loop-following.nets old c.bit_values-values.result known
          (subst (λ n. get_or inputs place 0 < n) (sym c.loop-following.auto.nets) net_known) (c.bit_values-values.ensures lane)
          (c.loop-following.invariant.set lane net ∙ ap₂ (λ m b. input_choice (drop m inputs) c.args.pairs.now b lane net old) later later_bit)
          ∙ ap (λ m. input_choice (drop m inputs) c.args.pairs.now (c.args.bit + m) lane net old) (sym here);
      count = length-set c.loop-following.nets _ _ ∙ c.loop-following.invariant.count;
    }
