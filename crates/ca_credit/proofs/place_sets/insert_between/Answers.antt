use Rattle.std.proofs.Common.{arith, refl}
use Rattle.ca_credit.proofs.place_sets.insert_between.Goals as goal

pub places-init : goal.places-init
places-init c = record {
  room = refl;
  onward = omega arith;
  within = c.requires.start;
  part = λ place. ((λ has. absurd (c.requires.none place has)), (λ in_part. let low = in_part.1 in let high = in_part.2 in absurd (omega arith)));
}
