use Rattle.std.proofs.Common.{refl, sym, subst}
use Rattle.ca_wiring.specs.Wiring as wiring
use Rattle.ca_wiring.specs.code.Pins.{IsFirstStray, IsFirstOpen, ReportsStray, ReportsOpen}
use Rattle.ca_wiring.proofs.PinLemmas.{reports_stray, reports_open}
use Rattle.ca_wiring.proofs.judged.judge_scan.Goals as goal

pub returns-in_ok-copy-in-Some-clause-cause : goal.returns-in_ok-copy-in-Some-clause-cause
returns-in_ok-copy-in-Some-clause-cause c = (
  refl,
  tt,
  subst (IsFirstStray (wiring.ScanCell c.args.row.now) c.args.uses.now) (sym (c.in_ok-copy-in-Some.ensures {u = tt}).ok)
      (subst (ReportsStray (wiring.ScanCell c.args.row.now) c.args.uses.now) (sym (c.in-Some.ensures {u = tt})) (reports_stray (wiring.ScanCell c.args.row.now) c.args.uses.now)),
)

pub returns-in_ok-copy-in-Some-scan_open-clause-cause : goal.returns-in_ok-copy-in-Some-scan_open-clause-cause
returns-in_ok-copy-in-Some-scan_open-clause-cause c = (
  refl,
  tt,
  subst (ReportsStray (wiring.ScanCell c.args.row.now) c.args.uses.now) (sym (c.in-None.ensures {u = tt})) (reports_stray (wiring.ScanCell c.args.row.now) c.args.uses.now),
  subst (IsFirstOpen (wiring.ScanCell c.args.row.now) c.args.uses.now) (sym (c.in_ok-copy-in-Some-scan_open.ensures {u = tt}).ok)
      (subst (ReportsOpen (wiring.ScanCell c.args.row.now) c.args.uses.now) (sym (c.in-Some-scan_open.ensures {u = tt})) (reports_open c.args.uses.now (wiring.ScanCell c.args.row.now))),
)

pub returns-in-None-scan_open-clause-ok : goal.returns-in-None-scan_open-clause-ok
returns-in-None-scan_open-clause-ok c = record {
  known = tt;
  no_stray = subst (ReportsStray (wiring.ScanCell c.args.row.now) c.args.uses.now) (sym (c.in-None.ensures {u = tt})) (reports_stray (wiring.ScanCell c.args.row.now) c.args.uses.now);
  no_open = subst (ReportsOpen (wiring.ScanCell c.args.row.now) c.args.uses.now) (sym (c.in-None-scan_open.ensures {u = tt})) (reports_open c.args.uses.now (wiring.ScanCell c.args.row.now));
}
