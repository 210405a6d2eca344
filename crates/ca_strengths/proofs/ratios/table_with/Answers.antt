use Rattle.ca_strengths.proofs.RatioLemmas.{few_none, many_none, five}
use Rattle.ca_strengths.proofs.ratios.table_with.Goals as goal
use Rattle.std.proofs.Common.{sym}

pub returns-in_default : goal.returns-in_default
returns-in_default c = sym (few_none c.args.ratios.now c.in_default.len_below)

pub returns-in_default-2 : goal.returns-in_default-2
returns-in_default-2 c = sym (many_none c.args.ratios.now c.in_default.len_at_least)

pub returns : goal.returns
returns c = five c.args.ratios.now _ c.in-len5.len_at_least c.in-len5.len_below
