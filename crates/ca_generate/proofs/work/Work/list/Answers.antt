use Rattle.std.proofs.Common.{◌≡◌, ℕ, ◌+◌, ◌<◌, sym, ap, subst, arith, length, length-append, List, [], ◌∷◌}
use Rattle.std.proofs.Common.{◌++◌, ◌∙◌, ◌*◌, Bool}
use Rattle.std.proofs.lemmas.Option.{slice_get_within}
use Rattle.ca_credit.specs.Listed.{AreAims}
use Rattle.ca_credit.specs.Table.{CreditsIn}
use Rattle.ca_credit.specs.declared.limit.TheConstants.{MOST_PAIRS}
use Rattle.ca_generate.specs.code.Progress.{StandsUpTo}
use Rattle.ca_generate.proofs.FoundLemmas.{length-found}
use Rattle.ca_generate.proofs.TurnLemmas.{aims_found, turn_found}
use Rattle.ca_generate.proofs.work.Work.list.Goals as goal

pub returns-then-number-eq-MOST_PAIRS-clause-cause :
    goal.returns-then-number-eq-MOST_PAIRS-clause-cause
returns-then-number-eq-MOST_PAIRS-clause-cause g c =
    let task = g.B.Simulator.task c.args.bench.now in
    let pairs = c.args.self.pairs in
    let listed = c.in_ok-push.ensures.ok in
    let grown = length-append pairs (c.args.pair ∷ []) in
    let more : length c.push.new.self ≡ length (pairs ++ c.args.pair ∷ []) = ap length listed in
    let found = aims_found task c.args.place c.args.self.edge c.requires.stands.done c.args.self.credits pairs c.args.self.aims c.args.pair
    c.requires.ahead c.requires.stands.stands c.requires.waiting c.requires.found in (
      omega arith,
      subst (λ (list : List (List Bool)). AreAims task list c.push-then-number-eq-MOST_PAIRS.new.self)
          (sym listed)
          (subst (AreAims task (pairs ++ c.args.pair ∷ [])) (sym c.in_ok-push-2.ensures.ok) found),
    )

pub credit_in-requires-clause-bits : goal.credit_in-requires-clause-bits
credit_in-requires-clause-bits g c =
    let task = g.B.Simulator.task c.args.bench.now in
    length-found (task.chip_of c.args.place) task.budget c.requires.found.defect c.args.pair c.requires.found.found
    ∙ ap (λ (inputs : List ℕ). 2 * length inputs) c.requires.stands_in.inputs

pub overflow_cast-place-2 : goal.overflow_cast-place-2
overflow_cast-place-2 g c =
    let within = slice_get_within (g.B.Simulator.task c.args.bench.now).defects c.args.place
    c.requires.found.defect c.requires.found.is_defect in
    let few = c.requires.few in
    omega arith

pub returns-clause-ok : goal.returns-clause-ok
returns-clause-ok g c =
    let task = g.B.Simulator.task c.args.bench.now in
    let pairs = c.args.self.pairs in
    let edge = c.args.self.edge in
    let done = c.requires.stands.done in
    let new = c.credit_in.new.self in
    let number : c.len-number.result ≡ length pairs = omega arith in
    let few : length pairs < MOST_PAIRS =
    (let le = c.requires.stands.stands.within in let other = c.if-number-eq-MOST_PAIRS.false in omega arith) in
    let bits = length-found (task.chip_of c.args.place) task.budget c.requires.found.defect c.args.pair c.requires.found.found
    ∙ ap (λ (inputs : List ℕ). 2 * length inputs) c.requires.stands_in.inputs in
    let turned = turn_found task c.args.place edge done c.args.self.credits new pairs c.args.self.aims c.args.pair
    c.requires.ahead c.requires.stands.stands c.requires.waiting c.requires.found bits few
    (subst (λ (n : ℕ). CreditsIn task c.args.pair n 0 edge c.args.self.credits new) number c.credit_in.ensures.credited) in
    record {
      done = done;
      count_is = c.requires.stands.count_is;
      stands = subst (λ (list : List (List Bool)). StandsUpTo task (c.args.place + 1) edge done new list c.push-3.new.self) (sym c.in_ok-push-3.ensures.ok)
          (subst (StandsUpTo task (c.args.place + 1) edge done new (pairs ++ c.args.pair ∷ [])) (sym c.in_ok-push-4.ensures.ok) turned);
    }
