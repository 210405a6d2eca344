use Rattle.std.proofs.Common.{◌≡◌, ◌<◌, ◌+◌, ◌∙◌, ℕ, [], ◌∷◌, length, ap, sym, subst, arith}
use Rattle.std.proofs.lemmas.List.{get_or_default}
use Rattle.std.specs.Prelude.{slice_set}
use Rattle.ca_scan.specs.code.Kept.{tally_at, Adds}
use Rattle.ca_scan.proofs.TallyLemmas.{one_added, none_added}
use Rattle.ca_scan.proofs.tally.Tally.add.Goals as goal

pub returns-then-count-lt3 : goal.returns-then-count-lt3
returns-then-count-lt3 c =
    let items = c.self.inside.counts.items in
    let old = c.args.self.now in
    let number = c.args.number in
    let kept : (n : ℕ) → tally_at items n ≡ tally_at old n = λ n. ap (λ t. tally_at t n) c.self.view_is ∙ c.in_ok-reach.ensures.kept n in
    let within : number < length items = subst (λ t. number < length t) (sym c.self.view_is) c.in_ok-reach.ensures.within in
    let value : c.index-count.result.now ≡ tally_at items number = c.index-count.ensures ∙ get_or_default items number c.index-count.result.now 0 within in
    let few : c.index-count.result.now < 3 = c.if-count-lt3.true in
    subst (λ v. Adds (number ∷ []) old (slice_set items number (v + 1))) (sym value)
    (one_added old items number kept within (subst (λ v. v < 3) value few))

pub returns-else-count-lt3 : goal.returns-else-count-lt3
returns-else-count-lt3 c =
    let items = c.self.inside.counts.items in
    let number = c.args.number in
    let within : number < length items = subst (λ t. number < length t) (sym c.self.view_is) c.in_ok-reach.ensures.within in
    let value : c.index-count.result.now ≡ tally_at items number = c.index-count.ensures ∙ get_or_default items number c.index-count.result.now 0 within in
    let same : c.index-count.result.now ≡ tally_at c.reach.new.self number = value ∙ ap (λ t. tally_at t number) c.self.view_is in
    none_added c.args.self.now c.reach.new.self number c.in_ok-reach.ensures.kept (λ few. let many = c.if-count-lt3.false in omega (arith, few, many, same))
