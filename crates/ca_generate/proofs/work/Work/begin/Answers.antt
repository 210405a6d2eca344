use Rattle.std.proofs.Common.{arith, refl, sym, subst, List, [], Bool, ℕ}
use Rattle.ca_generate.specs.code.Progress.{StandsUpTo}
use Rattle.ca_generate.proofs.TurnLemmas.{no_turn, stands_split}
use Rattle.ca_generate.proofs.work.Work.begin.Goals as goal

pub returns : goal.returns
returns g c =
    let task = g.B.Simulator.task c.args.bench.now in
    let table = c.in_ok-screen.field-0 in
    record {
      done = [];
      count_is = refl;
      stands = subst (λ (pairs : List (List Bool)). StandsUpTo task 0 0 [] table pairs c.new-2.result) (sym c.new.ensures)
          (subst (λ (aims : List ℕ). StandsUpTo task 0 0 [] table [] aims) (sym c.new-2.ensures)
          (stands_split task 0 0 table [] [] (no_turn task table c.in_ok-screen.ensures) (omega arith) (omega arith)));
    }
