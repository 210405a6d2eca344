use Rattle.std.proofs.Common.{◌≡◌, ◌<◌, ◌≢◌, ◌↔◌, ◌∙◌, true, length, sym, ap, subst, arith, get_or, set, get_or-set_same, get_or-set_other}
use Rattle.std.proofs.lemmas.List.{get_or_read}
use native.Mathlib.Decide.{ℕ_discrete}
use Rattle.ca_net.specs.declared.trit.Trit.TheVariants.{One}
use Rattle.ca_net.specs.State.{value_at}
use Rattle.ca_planes.specs.Plane.{has_lane}
use Rattle.ca_planes.specs.Trits.{state_in, value_in}
use Rattle.ca_planes.proofs.ValueLemmas.{value_at-values_in}
use Rattle.ca_levels.proofs.response.find_not_ones.Goals as goal

pub loop-node-preserved : goal.loop-node-preserved
loop-node-preserved c n lane lt low =
    let from = c.args.from.now in
    let node = c.loop-node.node in
    let within : node < length from.zeros.items = omega (arith, c.loop-node-test.true, c.len-node-end.ensures) in
    elim (ℕ_discrete n node) [
      | yes e ↦
          let zero : c.index.result.now ≡ get_or from.zeros.items node 0 = get_or_read from.zeros.items node c.index.result.now within c.index.ensures 0 in
          let one : c.index-in-loop-node.result.now ≡ get_or from.ones.items node 0 =
          get_or_read from.ones.items node c.index-in-loop-node.result.now (omega (arith, within, c.requires.ones)) c.index-in-loop-node.ensures 0 in
          let is : value_in c.index.result.now c.index-in-loop-node.result.now lane ≡ value_at (state_in from lane) n =
          ap (λ z. value_in z c.index-in-loop-node.result.now lane) zero ∙ ap (λ o. value_in (get_or from.zeros.items node 0) o lane) one
          ∙ sym (value_at-values_in from.zeros.items from.ones.items lane node c.requires.ones within) ∙ ap (value_at (state_in from lane)) (sym e) in
          let put : get_or (set c.loop-node.not_ones node c.not_one.result) n 0 ≡ c.not_one.result =
          ap (λ k. get_or (set c.loop-node.not_ones node c.not_one.result) k 0) e
          ∙ get_or-set_same c.loop-node.not_ones node c.not_one.result 0 (omega (arith, within, c.loop-node.auto.not_ones, c.requires.room)) in
          subst (λ w. (has_lane w lane ≡ true) ↔ (value_at (state_in from lane) n ≢ One)) (sym put)
          (subst (λ v. (has_lane c.not_one.result lane ≡ true) ↔ (v ≢ One)) is (c.not_one.ensures lane (omega (arith, low))))
      | no ne ↦
          subst (λ w. (has_lane w lane ≡ true) ↔ (value_at (state_in from lane) n ≢ One))
          (sym (get_or-set_other c.loop-node.not_ones node n c.not_one.result 0 ne)) (c.loop-node.invariant n lane (omega (arith, lt, ne)) low)
    ]
