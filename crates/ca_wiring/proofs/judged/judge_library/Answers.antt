use Rattle.std.proofs.Common.{refl, sym, subst}
use Rattle.ca_wiring.specs.Wiring as wiring
use Rattle.ca_wiring.specs.code.Pins.{IsFirstStray, IsFirstOpen, ReportsStray, ReportsOpen}
use Rattle.ca_wiring.proofs.PinLemmas.{reports_stray, reports_open}
use Rattle.ca_wiring.proofs.judged.judge_library.Goals as goal

pub returns-in_ok-copy-in-Some-clause-cause : goal.returns-in_ok-copy-in-Some-clause-cause
returns-in_ok-copy-in-Some-clause-cause c = (
  refl,
  tt,
  subst (IsFirstStray (wiring.Library c.args.raw.now) c.args.uses.now) (sym (c.in_ok-copy-in-Some.ensures {u = tt}).ok)
      (subst (ReportsStray (wiring.Library c.args.raw.now) c.args.uses.now) (sym (c.in-Some.ensures {u = tt})) (reports_stray (wiring.Library c.args.raw.now) c.args.uses.now)),
)

pub returns-in_ok-copy-in-Some-library_open-clause-cause : goal.returns-in_ok-copy-in-Some-library_open-clause-cause
returns-in_ok-copy-in-Some-library_open-clause-cause c = (
  refl,
  tt,
  subst (ReportsStray (wiring.Library c.args.raw.now) c.args.uses.now) (sym (c.in-None.ensures {u = tt})) (reports_stray (wiring.Library c.args.raw.now) c.args.uses.now),
  subst (IsFirstOpen (wiring.Library c.args.raw.now) c.args.uses.now) (sym (c.in_ok-copy-in-Some-library_open.ensures {u = tt}).ok)
      (subst (ReportsOpen (wiring.Library c.args.raw.now) c.args.uses.now) (sym (c.in-Some-library_open.ensures {u = tt})) (reports_open c.args.uses.now (wiring.Library c.args.raw.now))),
)

pub returns-in-None-library_open-clause-ok : goal.returns-in-None-library_open-clause-ok
returns-in-None-library_open-clause-ok c = record {
  known = tt;
  no_stray = subst (ReportsStray (wiring.Library c.args.raw.now) c.args.uses.now) (sym (c.in-None.ensures {u = tt})) (reports_stray (wiring.Library c.args.raw.now) c.args.uses.now);
  no_open = subst (ReportsOpen (wiring.Library c.args.raw.now) c.args.uses.now) (sym (c.in-None-library_open.ensures {u = tt})) (reports_open c.args.uses.now (wiring.Library c.args.raw.now));
}
