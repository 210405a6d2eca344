use Rattle.std.proofs.Common.{◌≡◌, arith, ap, length, sym, ◌∙◌}
use Rattle.ca_credit.specs.Defects.{Task}
use Rattle.ca_generate.proofs.TurnLemmas.{stands_split}
use Rattle.ca_generate.proofs.work.Work.ready.Goals as goal

pub returns-clause-stands : goal.returns-clause-stands
returns-clause-stands g c =
    let work = c.catch_up-work.result in
    let after = c.catch_up-work.ensures in
    let count : c.defect_count.result ≡ length work.credits = c.defect_count.ensures
    ∙ ap (λ (t : Task). length t.defects) after.task ∙ sym after.stands.as_many in
    record {
      done = work.pairs;
      count_is = sym after.credited;
      stands = stands_split (g.B.Simulator.task c.args.bench.now) c.args.place c.edge_after.result work.credits work.pairs work.aims after.stands
          (let past = c.edge_after.ensures.past in omega arith) (let within = c.edge_after.ensures.within in omega arith);
    }
