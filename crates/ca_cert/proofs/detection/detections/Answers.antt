use Rattle.std.proofs.Common.{◌+◌, sym, ◌∙◌, subst, arith}
use Rattle.ca_cert.specs.code.Found.{AreFound}
use Rattle.ca_cert.specs.code.Sought.{AreSought}
use Rattle.ca_cert.proofs.SoughtLemmas.{keeps_on, tried_as, stay_on, found_all}
use Rattle.ca_cert.proofs.detection.detections.Goals as goal

pub loop-pair-preserved : goal.loop-pair-preserved
loop-pair-preserved g c =
    let first = g.T.Examiner.examined c.args.tester.now in
    let before = g.T.Examiner.examined c.loop-pair.tester in
    let was = c.loop-pair.invariant in
    record {
      kept = keeps_on first before (g.T.Examiner.examined c.try_pair.new.tester) was.kept c.try_pair.ensures.kept;
      list = c.try_pair.ensures.list ∙ was.list;
      sought = subst (λ pairs. AreSought first.chip c.args.defects.now pairs (c.loop-pair.pair + 1) c.try_pair.new.self) c.as_slice.ensures
          (tried_as before.chip first.chip (g.T.Tester.listed c.loop-pair.tester) c.args.defects.now c.as_slice.result.now (c.loop-pair.pair + 1) 0
          c.try_pair.new.self (sym was.kept.chip) (sym was.list) c.try_pair.ensures.sought);
      stay = stay_on _ c.loop-pair.sought c.try_pair.new.self was.stay c.try_pair.ensures.stay;
    }

pub returns-clause-found : goal.returns-clause-found
returns-clause-found g c =
    let first = g.T.Examiner.examined c.args.tester.now in
    let was = c.loop-pair.invariant in
    subst (λ n. AreFound first.chip c.args.defects.now c.args.claims.now c.args.pairs.now n c.loop-pair.sought.found.items)
    (omega (arith, c.loop-pair-test.false, c.loop-pair.auto.pair-end, c.len-pair-end.ensures))
    (found_all first.chip c.args.defects.now c.args.claims.now c.args.pairs.now c.loop-pair.pair _ c.loop-pair.sought c.requires.defects
    c.in_ok-asked_places.ensures.asked was.stay was.sought)
