use Rattle.std.proofs.Common.{◌≡◌, ◌<◌, ◌+◌, ◌-◌, ◌∙◌, suc, length, drop, get_or, ap, sym, subst, arith}
use Rattle.std.proofs.lemmas.List.{length-set, get_or_default}
use Rattle.std.proofs.lemmas.List.Elements.{All-get_or}
use Rattle.ca_net.specs.declared.trit.Trit.TheVariants.{Zero}
use Rattle.ca_lanes.specs.declared.constants.Constant.{Constant}
use Rattle.ca_lanes.specs.Plane.{lane_of}
use Rattle.ca_lanes.specs.Choice.{choices_of, choice_at}
use Rattle.ca_lanes.specs.code.Choice.{choice_with}
use Rattle.ca_lanes.specs.code.Set.{constant_choice}
use Rattle.ca_lanes.proofs.ConstantLemmas.{constant_more}
use Rattle.ca_lanes.proofs.constants.set_constants.Goals as goal

pub loop-following-preserved : goal.loop-following-preserved
loop-following-preserved c =
    let constants = c.args.constants.now in
    let following = c.loop-following.following in
    let place = length constants - 1 - following in
    let constant : Constant = get_or constants place record { net = 0; value = Zero } in
    let known : place < length constants = omega (arith, c.loop-following-test.true) in
    let on_net : constant.net < length c.args.nets.now = All-get_or (λ k. k.net < length c.args.nets.now) constants place (record { net = 0; value = Zero }) known c.requires.within in
    let here : length constants - (following + 1) ≡ place = omega (arith, c.loop-following-test.true) in
    let later : length constants - following ≡ suc place = omega (arith, c.loop-following-test.true) in
    record {
      set = λ lane net.
          let old = choice_at (choices_of c.args.nets.now lane) net in
          constant_more constants (lane_of c.args.loaded lane) place lane net constant c.loop-following.nets old c.with.result known
          (get_or_default constants place (record { net = 0; value = Zero }) constant known) (subst (λ n. constant.net < n) (sym c.loop-following.auto.nets) on_net)
          (c.with.ensures lane ∙ ap (λ choice. choice_with choice (lane_of c.args.loaded lane) constant.value) (c.none.ensures lane))
          (c.loop-following.invariant.set lane net ∙ ap (λ m. constant_choice (drop m constants) (lane_of c.args.loaded lane) net old) later)
          ∙ ap (λ m. constant_choice (drop m constants) (lane_of c.args.loaded lane) net old) (sym here);
      count = length-set c.loop-following.nets constant.net c.with.result ∙ c.loop-following.invariant.count;
    }
