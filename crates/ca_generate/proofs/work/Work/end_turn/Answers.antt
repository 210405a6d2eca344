use Rattle.std.proofs.Common.{◌+◌, sym, subst}
use Rattle.ca_credit.proofs.TableLemmas.{some_within}
use Rattle.ca_generate.specs.declared.search_end.SearchEnd.TheVariants as end
use Rattle.ca_generate.specs.code.Progress.{StandsUpTo, IsEndAt}
use Rattle.ca_generate.proofs.TurnLemmas.{turn_exhausted, turn_spent}
use Rattle.ca_generate.proofs.work.Work.end_turn.Goals as goal

pub list-requires-clause-found : goal.list-requires-clause-found
list-requires-clause-found g c =
    let task = g.B.Simulator.task c.args.bench.now in
    let listed = some_within task.defects c.args.place c.requires.within in
    let ended : IsEndAt task c.args.place (end.Found c.in-Found.pair) = subst (IsEndAt task c.args.place) c.in-Found.is c.requires.ended in
    record { defect = listed.0; is_defect = listed.1; found = ended listed.0 listed.1 }

pub returns-in-Exhausted-clause-ok : goal.returns-in-Exhausted-clause-ok
returns-in-Exhausted-clause-ok g c =
    let task = g.B.Simulator.task c.args.bench.now in
    let listed = some_within task.defects c.args.place c.requires.within in
    let ended : IsEndAt task c.args.place end.Exhausted = subst (IsEndAt task c.args.place) c.in-Exhausted.is c.requires.ended in
    let whole = ended listed.0 listed.1 in
    record {
      done = c.requires.stands.done;
      count_is = c.requires.stands.count_is;
      stands = subst (λ table. StandsUpTo task (c.args.place + 1) c.args.self.edge c.requires.stands.done table c.args.self.pairs c.args.self.aims)
          (sym c.settle.ensures)
          (turn_exhausted task c.args.place c.args.self.edge c.requires.stands.done c.args.self.credits c.args.self.pairs c.args.self.aims listed.0
          whole.0 c.requires.ahead c.requires.stands.stands c.requires.waiting listed.1 whole.1);
    }

pub returns-in-Spent-clause-ok : goal.returns-in-Spent-clause-ok
returns-in-Spent-clause-ok g c =
    let task = g.B.Simulator.task c.args.bench.now in
    let code = c.in-Spent.code in
    let listed = some_within task.defects c.args.place c.requires.within in
    let ended : IsEndAt task c.args.place (end.Spent code) = subst (IsEndAt task c.args.place) c.in-Spent.is c.requires.ended in
    let spent = ended listed.0 listed.1 in
    record {
      done = c.requires.stands.done;
      count_is = c.requires.stands.count_is;
      stands = subst (λ table. StandsUpTo task (c.args.place + 1) c.args.self.edge c.requires.stands.done table c.args.self.pairs c.args.self.aims)
          (sym c.settle-in-Spent.ensures)
          (turn_spent task c.args.place c.args.self.edge c.requires.stands.done c.args.self.credits c.args.self.pairs c.args.self.aims listed.0 code
          c.requires.ahead c.requires.stands.stands c.requires.waiting listed.1 spent.spent spent.checked);
    }
