use Rattle.std.proofs.Common.{length}
use Rattle.ca_replay.proofs.StepLemmas.{settled_within, blurred_within, settled_step, blurred_step}
use Rattle.ca_replay.proofs.events.carry_out_one.Goals as goal

pub take_values-requires-clause-nodes : goal.take_values-requires-clause-nodes
take_values-requires-clause-nodes g c =
    settled_within (g.N.Network.circuit c.args.net.now) (length c.args.at.now) c.requires.at c.args.event.now c.in-Settle.nodes
    c.as_slice.result.now c.as_slice.ensures c.requires.event c.in-Settle.is

pub meet_with-requires-clause-nodes : goal.meet_with-requires-clause-nodes
meet_with-requires-clause-nodes g c =
    blurred_within (g.N.Network.circuit c.args.net.now) (length c.args.at.now) c.requires.at c.args.event.now c.in-Blur.nodes
    c.as_slice-in-Blur.result.now c.as_slice-in-Blur.ensures c.requires.event c.in-Blur.is

pub returns-in-Settle-clause-step : goal.returns-in-Settle-clause-step
returns-in-Settle-clause-step g c =
    settled_step (g.N.Network.circuit c.args.net.now) c.requires.well_formed c.args.at.now c.response.new.out c.requires.at
    c.response.ensures.responses c.args.event.now c.in-Settle.nodes c.as_slice.result.now c.as_slice.ensures c.requires.event
    c.take_values.new.at c.in-Settle.is c.take_values.ensures.values

pub returns-in-Blur-clause-step : goal.returns-in-Blur-clause-step
returns-in-Blur-clause-step g c =
    blurred_step (g.N.Network.circuit c.args.net.now) c.requires.well_formed c.args.at.now c.response-in-Blur.new.out c.requires.at
    c.response-in-Blur.ensures.responses c.args.event.now c.in-Blur.nodes c.as_slice-in-Blur.result.now
    c.as_slice-in-Blur.ensures c.requires.event c.meet_with.new.at c.in-Blur.is c.meet_with.ensures.values
