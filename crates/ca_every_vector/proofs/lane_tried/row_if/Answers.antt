use Rattle.std.proofs.Common.{w64}
use Rattle.std.proofs.lemmas.Nat.Bits.{bit_at_set_same}
use Rattle.ca_every_vector.proofs.MaskLemmas.{or_left}
use Rattle.ca_every_vector.proofs.lane_tried.row_if.Goals as goal

pub returns-clause-here : goal.returns-clause-here
returns-clause-here c = λ lane low has. bit_at_set_same w64 c.args.rows c.args.number c.requires

pub returns-clause-more : goal.returns-clause-more
returns-clause-more c = λ other has. or_left c.args.rows _ other has
