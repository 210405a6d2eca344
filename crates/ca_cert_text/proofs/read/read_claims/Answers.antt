use Rattle.std.proofs.Common.{◌<◌, length, arith, ap, subst, rules, length-append, [], ◌∷◌}
use Rattle.ca_cert_text.specs.code.Reading.{IsClaimAt}
use Rattle.ca_cert_text.proofs.WordLemmas.{claims_push}
use Rattle.ca_cert_text.proofs.LineLemmas.{no_claim_end, no_claim_line, one_claim}
use Rattle.ca_cert_text.proofs.read.read_claims.Goals as goal

pub returns-in_default : goal.returns-in_default
returns-in_default c =
    let some : 0 < length c.loop-line.rest.now = search rules in
    record {
      claims = c.loop-line.claims;
      are = c.loop-line.invariant.are;
      rest = c.loop-line.rest.now;
      begins = c.loop-line.invariant.read;
      some = some;
      no_claim = no_claim_end c.loop-line.rest.now c.cut.result.0.now c.cut.result.1.now c.cut.ensures.only c.in_default.len_below;
      at = c.loop-line.invariant.counted;
    }

pub returns-in_default-2 : goal.returns-in_default-2
returns-in_default-2 c =
    let some : 0 < length c.loop-line.rest.now = search rules in
    record {
      claims = c.loop-line.claims;
      are = c.loop-line.invariant.are;
      rest = c.loop-line.rest.now;
      begins = c.loop-line.invariant.read;
      some = some;
      no_claim = no_claim_line c.loop-line.rest.now c.cut.result.0.now c.cut.result.1.now c.cut.ensures.only
          (subst (IsClaimAt c.cut.result.0.now) c.in_default-2.is c.in_ok-claim.ensures);
      at = c.loop-line.invariant.counted;
    }

pub loop-line-preserved : goal.loop-line-preserved
loop-line-preserved c =
    let pushed = c.in_ok-push.ensures.ok in
    let read = subst (IsClaimAt c.cut.result.0.now) c.in-Some.is c.in_ok-claim.ensures in
    record {
      are = claims_push c.loop-line.claims c.push.new.self c.in-Some.claim c.loop-line.invariant.are read.0 pushed;
      read = one_claim c.args.text.now c.loop-line.claims c.push.new.self c.loop-line.rest.now c.cut.result.0.now c.cut.result.1.now
          c.in-Some.claim c.loop-line.invariant.read c.cut.ensures.parts c.in-len1-up.len_at_least c.cut.ensures.begins read.1 pushed;
      counted = omega (arith, c.loop-line.invariant.counted, ap length pushed, length-append c.loop-line.claims (c.in-Some.claim ∷ []));
    }
