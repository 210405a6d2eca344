use Rattle.std.proofs.Common.{arith}
use Rattle.ca_flatten.proofs.SizeLemmas.{place_fits}
use Rattle.ca_flatten.proofs.spots.place.Goals as goal

pub overflow_cast-result : goal.overflow_cast-result
overflow_cast-result c =
    let fits = place_fits c.args.chip.now c.wired.ensures c.args.defect c.requires.defect c.requires.few c.args.spot.instance.0 c.args.n.0
    c.requires.known c.requires.within in
    let is = c.number.ensures in omega arith
