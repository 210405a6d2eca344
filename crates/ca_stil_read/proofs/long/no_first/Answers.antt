use Rattle.std.proofs.Common.{rules}
use Rattle.ca_stil_form.specs.Tokens.{tokens_of}
use Rattle.ca_stil_read.specs.Groups.{scan_in}
use Rattle.ca_stil_read.proofs.LongLemmas.{pair_stuck, pair_early, due_passed, due_stopped}
use Rattle.ca_stil_read.proofs.long.no_first.Goals as goal

pub returns-in-Ok-pass : goal.returns-in-Ok-pass
returns-in-Ok-pass c =
    pair_stuck c.args.groups.now.inputs c.args.groups.now.outputs (scan_in c.args.groups.now.scan)
    c.args.cells.now c.args.text.now c.in-Ok-pass.rest.now c.requires (Prim.search rules)
    (due_passed _ _ c.as_slice.result.now (tokens_of c.args.text.now) _ c.in-Ok.ensures c.as_slice.ensures c.in-Ok-pass.ensures)

pub returns : goal.returns
returns c =
    pair_early c.args.groups.now.inputs c.args.groups.now.outputs (scan_in c.args.groups.now.scan)
    c.args.cells.now c.args.text.now c.in-Err.why c.requires
    (due_stopped _ _ c.as_slice.result.now (tokens_of c.args.text.now) c.in-Err.why c.in-Ok.ensures c.as_slice.ensures c.in-Err.ensures)
