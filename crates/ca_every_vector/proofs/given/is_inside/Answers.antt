use Rattle.ca_net.specs.State.{value_at}
use Rattle.ca_every_vector.proofs.GivenLemmas.{known_pins}
use Rattle.ca_every_vector.proofs.given.is_inside.Goals as goal

pub returns-in-Some : goal.returns-in-Some
returns-in-Some c = λ is. record {
  known = known_pins c.args.chip.now.core c.args.w (value_at c.args.values.now) _ c.in-Some.ensures;
  evaluated = (c.is_given.ensures is).evaluated;
}
