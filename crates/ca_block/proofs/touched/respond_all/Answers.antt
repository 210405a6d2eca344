use Rattle.std.proofs.Common.{◌∙◌, subst}
use Rattle.ca_net.specs.Response.{AreResponses}
use Rattle.ca_planes.specs.Trits.{state_in}
use Rattle.ca_levels.specs.Levels.{with_devices}
use Rattle.ca_block.proofs.GroupLemmas.{all_some}
use Rattle.ca_block.proofs.touched.respond_all.Goals as goal

pub respond-requires-clause-devices : goal.respond-requires-clause-devices
respond-requires-clause-devices g c =
    all_some (g.N.Network.circuit c.args.net.now) c.deref.result.now (c.deref.ensures.value ∙ c.requires.groups.devices)

pub returns-clause-responses : goal.returns-clause-responses
returns-clause-responses g c lane low =
    let net = g.N.Network.circuit c.args.net.now in
    subst (λ devices. AreResponses (with_devices net devices) (state_in c.args.from.now lane) (state_in c.respond.new.out lane))
    (c.deref.ensures.value ∙ c.requires.groups.devices) (c.respond.ensures.responses lane low)
