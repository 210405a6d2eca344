use Rattle.std.proofs.Common.{◌∙◌, ap, arith}
use Rattle.ca_lanes.specs.Plane.{lane_of}
use Rattle.ca_lanes.specs.code.Set.{input_choice, constant_choice}
use Rattle.ca_lanes.proofs.frame.set_frame.Goals as goal

pub returns-clause-set : goal.returns-clause-set
returns-clause-set c lane net known =
    c.set_constants.ensures.set lane net
    ∙ ap (constant_choice c.args.constants.now (lane_of c.args.loaded lane) net)
    (c.set_inputs.ensures.set lane net
    ∙ ap (input_choice c.args.inputs.now c.args.pairs.now c.args.bit lane net)
    (c.forget.ensures.unknown lane net (omega (arith, known, c.set_constants.ensures.count, c.set_inputs.ensures.count))))
