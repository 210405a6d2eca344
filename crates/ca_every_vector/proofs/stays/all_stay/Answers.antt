use Rattle.std.proofs.Common.{true, false}
use Rattle.ca_every_vector.specs.code.Spread.{StaysSomehow}
use Rattle.ca_every_vector.proofs.SpreadLemmas.{each_choice, stays_for}
use Rattle.ca_every_vector.proofs.stays.all_stay.Goals as goal

pub returns-clause-stay : goal.returns-clause-stay
returns-clause-stay c = λ is.
    let core = c.args.chip.now.core in
    let u = c.args.u in
    let values = c.args.values.now in
    each_choice (StaysSomehow core u values)
    (λ flips f s. stays_for core u values c.flips_of-flips.result flips true false c.flips_of-flips.ensures.first c.flips_of-flips.ensures.second f s (c.in_ok-one.ensures.stays c.if-not-one.false))
    (λ flips f s. stays_for core u values c.flips_of-flips-2.result flips false true c.flips_of-flips-2.ensures.first c.flips_of-flips-2.ensures.second f s (c.in_ok-other.ensures.stays c.if-not-other.false))
    (λ flips f s. stays_for core u values c.flips_of-flips-3.result flips true true c.flips_of-flips-3.ensures.first c.flips_of-flips-3.ensures.second f s (c.in_ok-two.ensures.stays c.if-not-two.false))
    (λ flips f s. stays_for core u values c.flips_of-flips-4.result flips false false c.flips_of-flips-4.ensures.first c.flips_of-flips-4.ensures.second f s (c.in_ok-none.ensures.stays is))
