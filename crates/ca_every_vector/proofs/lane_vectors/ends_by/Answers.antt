use Rattle.std.proofs.Common.{◌≡◌, ◌∙◌, Bool, true, false, refl, inl, inr, sym, subst, arith}
use Rattle.std.proofs.lemmas.Bool.{cases_eq}
use Rattle.ca_planes.specs.Plane.{lane_at}
use Rattle.ca_planes.specs.Trits.{trit_in}
use Rattle.ca_static.specs.LastTable.{last_at}
use Rattle.ca_every_vector.proofs.lane_vectors.ends_by.Goals as goal

pub loop-number-preserved : goal.loop-number-preserved
loop-number-preserved c = λ number lane less low has.
    let table = c.args.table.now in
    let at = c.loop-number.number in
    elim (cases_eq number at) [
      | inl e ↦ subst (λ n. trit_in c.with_end-ends.result lane ≡ last_at table n c.args.output) (sym e)
          (c.with_end-ends.ensures.here lane low (subst (λ n. lane_at c.args.masks.now n lane ≡ true) e has) ∙ c.last.ensures)
      | inr other ↦
          (c.with_end-ends.ensures.others lane low (unset (lane_at c.args.masks.now at lane) (λ set.
          other (c.requires.apart lane number at low (omega arith) (omega arith) has set)))
          ∙ c.loop-number.invariant number lane (omega (arith, other)) low has)
    ]
  where
    unset : (b : Bool) → (b ≡ true → ⊥) → b ≡ false
    unset true none = absurd (none refl)
    unset false none = refl

pub returns : goal.returns
returns c = λ number lane less low has. c.loop-number.invariant number lane (omega arith) low has
