use Rattle.ca_load.proofs.linking.chip_of.Goals as goal

pub returns-in-Err-clause-cause : goal.returns-in-Err-clause-cause
returns-in-Err-clause-cause c = c.broken_rule.ensures c.args.library c.args.scan.now (c.in-Err.ensures).cause
