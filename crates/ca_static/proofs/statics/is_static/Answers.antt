use Rattle.std.proofs.Common.{◌≡◌, ◌^◌, ◌∙◌, ap, arith}
use Rattle.ca_cell.specs.Raw.{is_input, role_count}
use Rattle.ca_static.proofs.StaticLemmas.{static_of_each, each_of_static}
use Rattle.ca_static.proofs.statics.is_static.Goals as goal

pub returns-then-not-is_static_at-clause-exact : goal.returns-then-not-is_static_at-clause-exact
returns-then-not-is_static_at-clause-exact c = (
  (λ is. absurd cc),
  (λ static. let held = c.is_static_at.ensures.exact.1 (each_of_static c.args.cell.now static c.loop-number.number) in absurd cc),
)

pub returns-clause-exact : goal.returns-clause-exact
returns-clause-exact c =
    let all : c.loop-number.number ≡ 2 ^ role_count is_input c.args.cell.now.pins =
    let end : c.loop-number.number ≡ c.pow-vectors.result = omega (arith, c.loop-number.auto.number-end, c.loop-number-test.false) in
    end ∙ c.pow-vectors.ensures ∙ ap (λ n. 2 ^ n) c.inputs.ensures.count in
    ((λ is. static_of_each c.args.cell.now (λ number below. c.loop-number.invariant.each number (let k = all in omega arith))), (λ static. cc))
