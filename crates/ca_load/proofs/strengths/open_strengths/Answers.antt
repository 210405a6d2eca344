use Rattle.std.proofs.Common.{ap}
use Rattle.std.specs.Option.{option_copied}
use Rattle.ca_load.proofs.TableLemmas.{named_ok}
use Rattle.ca_load.proofs.strengths.open_strengths.Goals as goal

pub returns-in-Some-clause-ok : goal.returns-in-Some-clause-ok
returns-in-Some-clause-ok g c =
    named_ok c.read_ratios.result (g.S.Store.files c.args.store.now) c.in-Some.name.now (option_copied c.args.name) (ap option_copied c.in-Some.is)
    c.read_ratios.ensures.ok
