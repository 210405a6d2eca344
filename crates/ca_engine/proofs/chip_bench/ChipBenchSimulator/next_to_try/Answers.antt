use Rattle.std.proofs.Common.{sym, subst}
use Rattle.ca_credit.specs.ToTry.{AreWithin}
use Rattle.ca_sweep.specs.Found.{IsNextFound}
use Rattle.ca_engine.specs.ChipBench.{Benched, task_in}
use Rattle.ca_engine.proofs.BenchLemmas.{next_is}
use Rattle.ca_engine.proofs.chip_bench.ChipBenchSimulator.next_to_try.Goals as goal

pub next_to_try-requires-clause-within : goal.next_to_try-requires-clause-within
next_to_try-requires-clause-within g c =
    subst (λ (bench : Benched). AreWithin (task_in bench) c.args.places.now) (sym c.self.view_is) c.requires

pub next_to_try-requires-clause-faulty_are : goal.next_to_try-requires-clause-faulty_are
next_to_try-requires-clause-faulty_are g c = λ place other lt.
    c.self.invariant.faulty_are _ (c.self.invariant.placed place other lt).defect_is

pub returns-clause-next : goal.returns-clause-next
returns-clause-next g c =
    next_is c.args.self.now c.args.places.now c.args.from c.next_to_try.result
    (subst (λ (bench : Benched). IsNextFound bench.chip bench.defects bench.bits c.args.places.now c.args.from c.next_to_try.result) c.self.view_is
    c.next_to_try.ensures.next)
