use Rattle.std.proofs.Common.{◌≡◌, ◌<◌, ◌∙◌, Bool, true, false, not, IsTrue, length, refl, sym, ap, subst, arith, get_or, set, get_or-set_same, get_or-set_other}
use native.Mathlib.Decide.{ℕ_discrete}
use Rattle.ca_net.specs.State.{value_at}
use Rattle.ca_planes.specs.Trits.{state_in}
use Rattle.ca_block.proofs.touched.find_changed.Goals as goal

not_false : (b : Bool) → not b ≡ false → IsTrue b
not_false true h = refl
not_false false h = cc

pub loop-node-preserved : goal.loop-node-preserved
loop-node-preserved c n lt un lane low =
    let node = c.loop-node.node in
    let changed = c.loop-node.changed in
    let mark = not c.is_none.result in
    let within : node < length changed = omega (arith, c.loop-node-test.true, c.loop-node.auto.changed, c.loop-node.auto.node-end) in
    elim (ℕ_discrete n node) [
      | yes e ↦
          let put : get_or (set changed node mark) n false ≡ mark =
          ap (λ k. get_or (set changed node mark) k false) e ∙ get_or-set_same changed node mark false within in
          let same = (c.differ.ensures lane).0 (c.is_none.ensures.0 (not_false c.is_none.result (sym put ∙ un)) lane (omega (arith, low))) in
          subst (λ k. value_at (state_in c.args.state.now lane) k ≡ value_at (state_in c.args.other.now lane) k) (sym e)
          (sym (c.get.ensures lane) ∙ same ∙ c.get-in-loop-node.ensures lane)
      | no ne ↦ c.loop-node.invariant n (omega (arith, lt, ne)) (sym (get_or-set_other changed node n mark false ne) ∙ un) lane low
    ]
