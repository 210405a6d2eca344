use Rattle.std.proofs.Common.{rules, arith, ◌∙◌, length, refl, subst, sym, ap, inl, inr}
use Rattle.std.proofs.lemmas.Bool.{cases_lt, cases_eq}
use Rattle.ca_places.specs.declared.place_set.PlaceSet.{PlaceSet}
use Rattle.ca_places.specs.PlaceSet.{Has}
use Rattle.ca_credit.proofs.TableLemmas.{credit_count_within}
use Rattle.ca_credit.proofs.AimLemmas.{aims_begin, aims_pass, aims_more}
use Rattle.ca_credit.specs.Defects.{Task}
use Rattle.ca_credit.specs.Table.{credit_count}
use Rattle.ca_credit.specs.code.Aims.{AimsUpTo}
use Rattle.ca_credit.specs.code.Round.{IsPartOf, IsTried}
use Rattle.ca_credit.proofs.RoundLemmas.{open_left, tried_begin, tried_all, tries_same, nowhere_same}
use Rattle.ca_credit.proofs.round.Round.try_in.Goals as goal

pub places-init : goal.places-init
places-init g c =
    let task = g.S.Simulator.task c.args.sim.now in
    let pair = c.args.pair.now in
    let table = c.args.self.now.verdicts.items in
    let round = c.leave.new.self in
    let aims = g.S.Simulator.aims c.args.sim.now in
    record {
      tried = subst (λ list. IsTried task pair c.args.number c.args.start c.args.end round.left list round.verdicts.items) c.leave.ensures.verdicts
          (tried_begin task pair c.args.number c.args.start c.args.end round.open_places round.left round.verdicts.items c.leave.ensures.stands
          (ap length c.leave.ensures.verdicts ∙ c.requires.same)
          (subst (λ (set : PlaceSet). IsPartOf c.leave.new.self.left set c.args.start c.args.end) (sym c.leave.ensures.open_places) c.leave.ensures.left));
      none = λ place below has. let here = (c.leave.ensures.left place).0 has in let low = here.1 in absurd (omega arith);
      onward = omega arith;
      within = let start = c.requires.start in let end = c.requires.within in omega arith;
      stands = c.leave.ensures.stands;
      counted = let same = ap credit_count c.leave.ensures.verdicts in omega arith;
      task = refl;
      bits = c.requires.bits;
      aims = aims_pass task pair 0 c.args.start table aims aims (omega arith) (aims_begin task pair table aims aims refl);
    }

pub overflow_add-credited : goal.overflow_add-credited
overflow_add-credited g c =
    let within = credit_count_within c.take_turn-credited.new.self.verdicts.items in
    let counted = c.take_turn-credited.ensures.tries.counted in
    let many = c.take_turn-credited.ensures.tries.as_many in
    let was = c.places.invariant.counted in
    let before = c.places.invariant.tried.as_many in
    let few = c.requires.few in
    search rules

pub places-preserved : goal.places-preserved
places-preserved g c =
    let task = g.S.Simulator.task c.args.sim.now in
    let pair = c.args.pair.now in
    let table = c.args.self.now.verdicts.items in
    let left = c.places.self.left in
    let sim = c.next_to_try.new.self in
    let was = c.places.invariant in
    let turn = c.take_turn-credited.ensures in
    let next = c.in-Some.ensures.next in
    let task_is = c.next_to_try.ensures.task ∙ was.task in
    let tries = tries_same task (g.S.Simulator.task sim) pair c.args.number c.take_turn-credited.result
    c.places.self c.take_turn-credited.new.self task_is turn.tries in
    record {
      tried = tries.tried c.args.start c.args.end table was.tried;
      none = λ other below has. elim (cases_lt other c.places.from) [
        | inl low ↦ was.none other low (tries.fewer other has)
        | inr high ↦ elim (cases_eq other c.in-Some.place) [
          | inl e ↦ absurd (turn.here (subst (Has c.take_turn-credited.new.self.left) e has))
          | inr apart ↦ nowhere_same task (g.S.Simulator.task c.places.sim) pair (g.S.Simulator.bits c.places.sim) other was.task was.bits
              (next.2 other high (omega arith) (tries.fewer other has))
        ]
      ];
      onward = let low = was.onward in let high = next.0 in omega arith;
      within = let open_at = open_left c.places.self c.in-Some.place was.stands next.1 in let lt = open_at.0 in let many = was.tried.as_many in omega arith;
      stands = tries.stands was.stands;
      counted = let before = was.counted in let now = tries.counted in omega arith;
      task = turn.task ∙ task_is;
      bits = turn.bits ∙ c.next_to_try.ensures.bits ∙ was.bits;
      aims = aims_more task (g.S.Simulator.task sim) pair c.in-Some.place table c.places.self.verdicts.items
          (g.S.Simulator.aims c.args.sim.now) (g.S.Simulator.aims sim) _ task_is (was.tried.others c.in-Some.place next.1)
          (aims_pass task pair c.places.from c.in-Some.place table (g.S.Simulator.aims c.args.sim.now) (g.S.Simulator.aims sim) next.0
          (subst (AimsUpTo task pair c.places.from table (g.S.Simulator.aims c.args.sim.now)) (sym c.next_to_try.ensures.aims) was.aims)) turn.aims;
    }

pub next_to_try-requires : goal.next_to_try-requires
next_to_try-requires g c = λ place has.
    let was = c.places.invariant in
    let many = was.tried.as_many in
    let same = c.requires.same in
    let within = (open_left c.places.self place was.stands has).0 in
    let count = ap (λ (t : Task). length t.defects) was.task in
    omega arith

pub returns-clause-credited : goal.returns-clause-credited
returns-clause-credited g c =
    let task = g.S.Simulator.task c.args.sim.now in
    let pair = c.args.pair.now in
    let end = c.places.invariant in
    tried_all task pair c.args.number c.args.start c.args.end c.places.self.open_places c.places.self.left c.args.self.now.verdicts.items c.places.self.verdicts.items
    end.stands (λ place has. elim (cases_lt place c.places.from) [
      | inl low ↦ end.none place low has
      | inr high ↦ nowhere_same task (g.S.Simulator.task c.places.sim) pair (g.S.Simulator.bits c.places.sim) place end.task end.bits
          (c.in_default.ensures.next place high has)
    ]) end.tried

pub returns-clause-aims : goal.returns-clause-aims
returns-clause-aims g c =
    let task = g.S.Simulator.task c.args.sim.now in
    let end = c.places.invariant in
    aims_pass task c.args.pair.now c.places.from (length c.args.self.now.verdicts.items) c.args.self.now.verdicts.items (g.S.Simulator.aims c.args.sim.now)
    (g.S.Simulator.aims c.next_to_try.new.self) end.within
    (subst (AimsUpTo task c.args.pair.now c.places.from c.args.self.now.verdicts.items (g.S.Simulator.aims c.args.sim.now)) (sym c.next_to_try.ensures.aims) end.aims)

pub returns-clause-task : goal.returns-clause-task
returns-clause-task g c = c.next_to_try.ensures.task ∙ c.places.invariant.task

pub returns-clause-bits : goal.returns-clause-bits
returns-clause-bits g c = c.next_to_try.ensures.bits ∙ c.places.invariant.bits ∙ sym c.requires.bits
