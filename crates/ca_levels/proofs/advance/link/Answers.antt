use Rattle.std.proofs.Common.{◌≡◌, ◌<◌, ◌≤◌, ◌∙◌, true, false, sym, ap, subst, arith, get_or}
use Rattle.std.proofs.lemmas.List.{get_or_read}
use Rattle.ca_net.specs.Passing.{PassesAt}
use Rattle.ca_net.specs.State.{value_at}
use Rattle.ca_planes.specs.Trits.{state_in, value_in}
use Rattle.ca_planes.proofs.BitLemmas.{in_none}
use Rattle.ca_planes.proofs.ValueLemmas.{value_at-values_in}
use Rattle.ca_levels.proofs.advance.link.Goals as goal

pub returns-then-device-level : goal.returns-then-device-level
returns-then-device-level c lane lt = (
  λ has. absurd (let e : false ≡ true = sym (in_none lane) ∙ has in cc),
  λ passing. let weak : c.args.device.strength < c.args.level = c.if-device-level.true in let strong : c.args.level ≤ c.args.device.strength = passing.0 in absurd (omega arith),
)

pub returns : goal.returns
returns c lane lt =
    let from = c.args.from.now in
    let gate = c.args.device.gate.0 in
    let strong : c.args.level ≤ c.args.device.strength = omega (arith, c.if-device-level.false) in
    let zero : c.index.result.now ≡ get_or from.zeros.items gate 0 =
    get_or_read from.zeros.items gate c.index.result.now c.requires.zeros c.index.ensures 0 in
    let one : c.index-2.result.now ≡ get_or from.ones.items gate 0 =
    get_or_read from.ones.items gate c.index-2.result.now (omega (arith, c.requires.zeros, c.requires.ones)) c.index-2.ensures 0 in
    let is : value_in c.index.result.now c.index-2.result.now lane ≡ value_at (state_in from lane) gate =
    ap (λ z. value_in z c.index-2.result.now lane) zero ∙ ap (λ o. value_in (get_or from.zeros.items gate 0) o lane) one
    ∙ sym (value_at-values_in from.zeros.items from.ones.items lane gate c.requires.ones c.requires.zeros) in
    let both = c.passing.ensures lane lt in (
      λ has. (strong, subst (PassesAt c.args.kind c.args.device.kind) is (both.0 has)),
      λ passing. both.1 (subst (PassesAt c.args.kind c.args.device.kind) (sym is) passing.1),
    )
