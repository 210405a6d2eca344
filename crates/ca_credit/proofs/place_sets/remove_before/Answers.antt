use Rattle.std.proofs.Common.{◌≡◌, arith, inl, inr, subst, ◌∙◌}
use Rattle.std.proofs.lemmas.Bool.{cases_lt, cases_eq}
use Rattle.ca_places.specs.PlaceSet.{Has}
use Rattle.ca_credit.proofs.RoundLemmas.{rest_of}
use Rattle.ca_credit.proofs.place_sets.remove_before.Goals as goal

pub places-preserved : goal.places-preserved
places-preserved c =
    let was = c.places.invariant in
    let next = c.in-Some.ensures in
    record {
      room = c.remove.ensures.room ∙ was.room;
      within = omega arith;
      none = λ place low has. elim (cases_eq place c.in-Some.place) [
        | inl e ↦ c.remove.ensures.here (subst (Has c.remove.new.self) e has)
        | inr apart ↦
            let had = (c.remove.ensures.others place apart).0 has in
            elim (cases_lt place c.places.from) [
              | inl less ↦ was.none place less had
              | inr high ↦ next.2 place high (omega arith) had
            ]
      ];
      others = λ place from.
          let apart : place ≡ c.in-Some.place → ⊥ = λ e. absurd (omega arith) in
          let here = c.remove.ensures.others place apart in
          let before = was.others place (let low = next.0 in omega arith) in
          ((λ has. before.0 (here.0 has)), (λ has. here.1 (before.1 has)));
    }

pub returns-then-place-start-clause-rest : goal.returns-then-place-start-clause-rest
returns-then-place-start-clause-rest c =
    rest_of c.args.set.now c.places.set c.places.from c.args.start c.places.invariant.within c.places.invariant.none c.places.invariant.others
    (λ k high low has. c.in-Some.ensures.2 k high (let past = c.if-place-start.true in omega arith) has)

pub returns-clause-rest : goal.returns-clause-rest
returns-clause-rest c =
    rest_of c.args.set.now c.places.set c.places.from c.args.start c.places.invariant.within c.places.invariant.none c.places.invariant.others
    (λ k high low has. c.in_default.ensures k high has)
