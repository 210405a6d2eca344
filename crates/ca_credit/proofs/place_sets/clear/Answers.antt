use Rattle.std.proofs.Common.{arith, inl, inr, subst, ◌∙◌}
use Rattle.std.proofs.lemmas.Bool.{cases_lt, cases_eq}
use Rattle.ca_places.specs.PlaceSet.{Has}
use Rattle.ca_credit.proofs.place_sets.clear.Goals as goal

pub overflow_add-from : goal.overflow_add-from
overflow_add-from c =
    let below = c.places.invariant.below c.in-Some.place c.in-Some.ensures.1 in
    let fits = c.ranges.end.fits in
    omega arith

pub places-preserved : goal.places-preserved
places-preserved c =
    let was = c.places.invariant in
    let next = c.in-Some.ensures in
    record {
      room = c.remove.ensures.room ∙ was.room;
      within = let below = was.below c.in-Some.place next.1 in omega arith;
      below = λ place has. elim (cases_eq place c.in-Some.place) [
        | inl e ↦ let at = was.below c.in-Some.place next.1 in omega arith
        | inr apart ↦ was.below place ((c.remove.ensures.others place apart).0 has)
      ];
      none = λ place low has. elim (cases_eq place c.in-Some.place) [
        | inl e ↦ c.remove.ensures.here (subst (Has c.remove.new.self) e has)
        | inr apart ↦
            let had = (c.remove.ensures.others place apart).0 has in
            elim (cases_lt place c.places.from) [
              | inl less ↦ was.none place less had
              | inr high ↦ next.2 place high (omega arith) had
            ]
      ];
    }
