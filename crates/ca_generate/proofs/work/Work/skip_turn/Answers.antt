use Rattle.std.proofs.Common.{◌≡◌, ◌+◌, sym, subst, rules, None}
use Rattle.ca_credit.specs.Table.{verdict_at}
use Rattle.ca_credit.proofs.TableLemmas.{some_within}
use Rattle.ca_generate.specs.code.Progress.{StandsUpTo}
use Rattle.ca_generate.proofs.TurnLemmas.{turn_skipped, turn_untestable}
use Rattle.ca_generate.proofs.work.Work.skip_turn.Goals as goal

pub returns-then-not-is_waiting : goal.returns-then-not-is_waiting
returns-then-not-is_waiting c = λ task within stands ahead known.
    let settled : verdict_at c.args.self.credits c.args.place ≡ None → ⊥ = search rules in
    record {
      done = stands.done;
      count_is = stands.count_is;
      stands = turn_skipped task c.args.place c.args.self.edge stands.done c.args.self.credits c.args.self.pairs c.args.self.aims ahead settled
          stands.stands;
    }

pub returns : goal.returns
returns c = λ task within stands ahead known.
    let listed = some_within task.defects c.args.place within in
    let waiting : verdict_at c.args.self.credits c.args.place ≡ None = search rules in
    record {
      done = stands.done;
      count_is = stands.count_is;
      stands = subst (λ table. StandsUpTo task (c.args.place + 1) c.args.self.edge stands.done table c.args.self.pairs c.args.self.aims)
          (sym c.settle.ensures)
          (turn_untestable task c.args.place c.args.self.edge stands.done c.args.self.credits c.args.self.pairs c.args.self.aims listed.0
          ahead stands.stands waiting listed.1 (known waiting listed.0 listed.1));
    }
