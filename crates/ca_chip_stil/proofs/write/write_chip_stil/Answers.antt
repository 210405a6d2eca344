use Rattle.std.proofs.Common.{map}
use Rattle.ca_chip_stil.proofs.FitLemmas.{made_of}
use Rattle.ca_chip_stil.proofs.write.write_chip_stil.Goals as goal

pub write_stil-requires : goal.write_stil-requires
write_stil-requires g c =
    made_of c.args.chip.now c.args.chains.now c.in_ok-made.made (map g.P.PatternBits.bits c.args.pairs.now)
    (map g.E.ExpectedValues.values c.args.expected.now) c.in_ok-made.ensures.exact c.requires
