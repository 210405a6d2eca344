use Rattle.std.proofs.Common.{◌∙◌, ◌≤◌, length, sym, subst, arith}
use Rattle.ca_linked.specs.Instances.{scans_of}
use Rattle.ca_scan.specs.code.Kept.{Counts, all_of}
use Rattle.ca_scan.proofs.OffLemmas.{on_marked, off_unmarked, on_more, all_on, first_off_at}
use Rattle.ca_scan.proofs.whole.first_off.Goals as goal

pub returns-then-get-eq0 : goal.returns-then-get-eq0
returns-then-get-eq0 c =
    let chip = c.args.chip.now in
    let marks = c.in_ok-marks.marks in
    let u = c.scan-u.result.0 in
    let counts = subst (λ chains. Counts marks (all_of chains)) c.as_slice.ensures c.in_ok-marks.ensures in
    first_off_at chip c.loop-k.k u c.scan-u.ensures c.loop-k.invariant
    (off_unmarked chip c.args.chains.now c.requires marks counts u (sym c.get.ensures ∙ c.if-get-eq0.true))

pub loop-k-preserved : goal.loop-k-preserved
loop-k-preserved c =
    let chip = c.args.chip.now in
    let marks = c.in_ok-marks.marks in
    let u = c.scan-u.result.0 in
    let counts = subst (λ chains. Counts marks (all_of chains)) c.as_slice.ensures c.in_ok-marks.ensures in
    on_more chip c.loop-k.k u c.scan-u.ensures c.loop-k.invariant
    (on_marked chip c.args.chains.now c.requires marks counts u (λ none. c.if-get-eq0.false (c.get.ensures ∙ none)))

pub returns : goal.returns
returns c =
    let all : length (scans_of c.args.chip.now) ≤ c.loop-k.k = omega (arith, c.loop-k-test.false, c.scan_count-k-end.ensures) in
    all_on c.args.chip.now c.loop-k.k all c.loop-k.invariant
