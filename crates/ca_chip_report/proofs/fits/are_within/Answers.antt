use Rattle.std.proofs.Common.{rules, ◌≤◌, IsTrue, true, length, arith}
use Rattle.ca_report.proofs.RowLemmas.{all_more, all_seen}
use Rattle.ca_chip_report.specs.ChipReport.{IsVerdictWithin}
use Rattle.ca_chip_report.proofs.fits.are_within.Goals as goal

pub loop-k-preserved : goal.loop-k-preserved
loop-k-preserved c =
    let held : IsTrue true = search rules in
    all_more (IsVerdictWithin c.args.outputs) c.args.verdicts.now c.loop-k.k
    (c.if-not-is_within_at.ensures.0 held) c.loop-k.invariant

pub returns : goal.returns
returns c =
    let verdicts = c.args.verdicts.now in
    let past : length verdicts ≤ c.loop-k.k = omega (arith, c.loop-k-test.false, c.len-k-end.ensures) in
    let held : IsTrue true = search rules in
    (λ yes. all_seen (IsVerdictWithin c.args.outputs) verdicts c.loop-k.k past c.loop-k.invariant, λ all. held)
