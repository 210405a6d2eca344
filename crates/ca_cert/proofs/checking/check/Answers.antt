use Rattle.std.proofs.Common.{◌<◌, length, None, ap, subst, arith}
use Rattle.std.proofs.lemmas.Option.{slice_get-get_or}
use Rattle.std.proofs.lemmas.List.{get_or_read}
use Rattle.ca_cert.specs.code.Found.{AreFound}
use Rattle.ca_cert.proofs.SoughtLemmas.{keeps_on}
use Rattle.ca_cert.proofs.CheckLemmas.{claim_falls, claim_more, read_of}
use Rattle.ca_cert.proofs.checking.check.Goals as goal

pub returns-then-not-branch : goal.returns-then-not-branch
returns-then-not-branch g c =
    let same = ap length c.as_slice-claims.ensures in
    let within : c.loop-place.place < length c.args.certificate.now.claims = omega (arith, c.loop-place-test.true, same) in
    let here : c.loop-place.place < length c.args.defects.now = omega (arith, c.requires.defects, within) in
    let found : c.loop-place.place < length c.in_ok-found.found.items = omega (arith, c.in_ok-found.ensures.found.size, c.loop-place-test.true) in
    record {
      within = within;
      falls = claim_falls (g.T.Examiner.examined c.args.tester.now).chip c.args.defects.now c.args.pairs.now c.args.certificate.now.budget
          c.args.certificate.now.claims c.loop-place.place _ (slice_get-get_or c.args.defects.now c.loop-place.place _ here) c.index-claims-place.result
          (read_of c.as_slice-claims.result.now c.args.certificate.now.claims c.loop-place.place c.index-claims-place.result c.as_slice-claims.ensures within c.index-claims-place.is)
          c.in_ok-found.found.items (subst (λ l. AreFound (g.T.Examiner.examined c.args.tester.now).chip c.args.defects.now l c.args.pairs.now (length c.args.pairs.now) c.in_ok-found.found.items) c.as_slice-claims.ensures c.in_ok-found.ensures.found) (g.T.Examiner.examined c.loop-place.tester).chip
          c.loop-place.invariant.kept.chip c.index-detection.result.now (get_or_read c.in_ok-found.found.items c.loop-place.place _ found c.index-detection.ensures None) c.in_ok-stands.field-0 c.in_ok-stands.ensures.stands c.if-not-branch.true;
      before = c.loop-place.invariant.stand;
    }

pub loop-place-preserved : goal.loop-place-preserved
loop-place-preserved g c =
    let same = ap length c.as_slice-claims.ensures in
    let within : c.loop-place.place < length c.args.certificate.now.claims = omega (arith, c.loop-place-test.true, same) in
    let here : c.loop-place.place < length c.args.defects.now = omega (arith, c.requires.defects, within) in
    let found : c.loop-place.place < length c.in_ok-found.found.items = omega (arith, c.in_ok-found.ensures.found.size, c.loop-place-test.true) in
    record {
      kept = keeps_on (g.T.Examiner.examined c.args.tester.now) (g.T.Examiner.examined c.loop-place.tester) (g.T.Examiner.examined c.stands.new.tester) c.loop-place.invariant.kept c.stands.ensures.kept;
      stand = claim_more (g.T.Examiner.examined c.args.tester.now).chip c.args.defects.now c.args.pairs.now c.args.certificate.now.budget
          c.args.certificate.now.claims c.loop-place.place _ (slice_get-get_or c.args.defects.now c.loop-place.place _ here) c.index-claims-place.result
          (read_of c.as_slice-claims.result.now c.args.certificate.now.claims c.loop-place.place c.index-claims-place.result c.as_slice-claims.ensures within c.index-claims-place.is)
          c.in_ok-found.found.items (subst (λ l. AreFound (g.T.Examiner.examined c.args.tester.now).chip c.args.defects.now l c.args.pairs.now (length c.args.pairs.now) c.in_ok-found.found.items) c.as_slice-claims.ensures c.in_ok-found.ensures.found) (g.T.Examiner.examined c.loop-place.tester).chip
          c.loop-place.invariant.kept.chip c.index-detection.result.now (get_or_read c.in_ok-found.found.items c.loop-place.place _ found c.index-detection.ensures None) c.in_ok-stands.field-0 c.in_ok-stands.ensures.stands c.if-not-branch.false c.loop-place.invariant.stand;
    }
