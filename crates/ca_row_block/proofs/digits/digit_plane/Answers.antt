use Rattle.std.proofs.Common.{◌∙◌, sym, arith}
use Rattle.ca_planes.proofs.BitLemmas.{in_all, in_none}
use Rattle.ca_row_block.proofs.DigitLemmas.{low_digit, high_digit}
use Rattle.ca_row_block.proofs.digits.digit_plane.Goals as goal

pub returns-then-digit-lt-LANE_DIGITS : goal.returns-then-digit-lt-LANE_DIGITS
returns-then-digit-lt-LANE_DIGITS c lane low =
    c.requires.masks c.args.digit lane (omega (arith, c.if-digit-lt-LANE_DIGITS.true)) (omega (arith, low))
    ∙ low_digit c.args.block lane c.args.digit (omega (arith, c.if-digit-lt-LANE_DIGITS.true))

pub returns-then-has : goal.returns-then-has
returns-then-has c lane low =
    in_all lane (omega (arith, low)) ∙ sym c.if-has.true ∙ c.has.ensures
    ∙ high_digit c.args.block lane c.args.digit (omega (arith, low)) (omega (arith, c.if-digit-lt-LANE_DIGITS.false))

pub returns-else-has : goal.returns-else-has
returns-else-has c lane low =
    in_none lane ∙ sym c.if-has.false ∙ c.has.ensures
    ∙ high_digit c.args.block lane c.args.digit (omega (arith, low)) (omega (arith, c.if-digit-lt-LANE_DIGITS.false))
