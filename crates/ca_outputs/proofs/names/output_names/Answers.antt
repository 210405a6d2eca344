use Rattle.std.proofs.Common.{arith}
use Rattle.ca_outputs.specs.Outputs.{observed_ports, part_outputs, names_of}
use Rattle.ca_outputs.proofs.OutputLemmas.{names_more, all_counted}
use Rattle.ca_outputs.proofs.names.output_names.Goals as goal

pub loop-u-preserved : goal.loop-u-preserved
loop-u-preserved c =
    let chip = c.args.chip.now in
    names_more part_outputs chip.parts c.loop-u.u (names_of (observed_ports chip)) c.loop-u.names c.push_part.new.names
    c.loop-u.invariant (c.in_ok-push_part.ensures {u = tt})

pub returns-clause-count : goal.returns-clause-count
returns-clause-count c =
    all_counted c.args.chip.now c.loop-u.u c.loop-u.names c.loop-u.invariant
    (let ended = c.loop-u-test.false in let count = c.loop-u.auto.u-end in let parts = c.parts-u-end.ensures in omega arith)
