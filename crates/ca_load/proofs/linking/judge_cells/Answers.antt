use Rattle.ca_load.proofs.linking.judge_cells.Goals as goal

pub returns-in-Err : goal.returns-in-Err
returns-in-Err c =
    record { sound = tt; cause = c.broken_rule.ensures c.args.library.now c.args.scan.now (c.in-Err.ensures).cause }
