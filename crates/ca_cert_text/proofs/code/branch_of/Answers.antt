use Rattle.std.proofs.Common.{arith}
use Rattle.ca_cert_text.proofs.WordLemmas.{same_number}
use Rattle.ca_cert_text.proofs.code.branch_of.Goals as goal

pub returns-then-bit-gt-GREATEST_BIT : goal.returns-then-bit-gt-GREATEST_BIT
returns-then-bit-gt-GREATEST_BIT c = λ bit few is.
    let great = c.if-bit-gt-GREATEST_BIT.true in
    let read = c.in-Some.ensures in
    let same = same_number c.in-Some.bit bit c.args.digits.now read.0 (omega (arith, few)) read.1 is in
    omega (arith, same, few, great)
