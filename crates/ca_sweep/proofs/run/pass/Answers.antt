use Rattle.ca_sweep.proofs.run.pass.Goals as goal

pub evaluate-requires-clause-placed : goal.evaluate-requires-clause-placed
evaluate-requires-clause-placed c = (c.requires.order.only c.args.place c.in-Some.w c.in-Some.is).0

pub returns-in-Some-clause-passed : goal.returns-in-Some-clause-passed
returns-in-Some-clause-passed c = λ is.
    let at = c.requires.order.only c.args.place c.in-Some.w c.in-Some.is in
    record { instance = c.in-Some.w; placed = at.0; at = at.1; evaluated = c.evaluate.ensures.evaluated is }
