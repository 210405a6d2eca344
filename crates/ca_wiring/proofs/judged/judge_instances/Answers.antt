use Rattle.std.proofs.Common.{◌∙◌, ap, sym, arith, length, List}
use Rattle.std.specs.Prelude.{Some, slice_get}
use Rattle.std.proofs.lemmas.Option.{slice_get-get_or, slice_get_within}
use Rattle.ca_verilog.specs.declared.raw.RawInstance.{RawInstance}
use Rattle.ca_wiring.proofs.JudgeLemmas.{is_cause, sound_more}
use Rattle.ca_wiring.proofs.judged.judge_instances.Goals as goal

pub returns-in-Err-clause-cause : goal.returns-in-Err-clause-cause
returns-in-Err-clause-cause c =
    let lt = c.loop-u-test.true in
    is_cause c.args.raw.now c.args.library.now c.args.scan.now c.loop-u.u c.index-instances-u.result
    (ap (λ (xs : List RawInstance). slice_get xs c.loop-u.u) (sym c.as_slice-instances.ensures)
    ∙ slice_get-get_or c.as_slice-instances.result.now c.loop-u.u c.index-instances-u.result lt ∙ ap Some (sym c.index-instances-u.is))
    c.loop-u.invariant c.in-Err.fault (c.in-Err.ensures {u = tt}).cause

pub loop-u-preserved : goal.loop-u-preserved
loop-u-preserved c =
    let lt = c.loop-u-test.true in
    sound_more c.args.raw.now c.args.library.now c.args.scan.now c.loop-u.u c.index-instances-u.result
    (ap (λ (xs : List RawInstance). slice_get xs c.loop-u.u) (sym c.as_slice-instances.ensures)
    ∙ slice_get-get_or c.as_slice-instances.result.now c.loop-u.u c.index-instances-u.result lt ∙ ap Some (sym c.index-instances-u.is))
    c.loop-u.invariant (c.in_default.ensures {u = tt}).ok

pub returns-clause-ok : goal.returns-clause-ok
returns-clause-ok c = λ u instance at.
    let lt = slice_get_within c.args.raw.now.instances u instance at in
    let ge = c.loop-u-test.false in
    let same = ap length c.as_slice-instances.ensures in
    c.loop-u.invariant u instance (omega (arith, lt, ge, same)) at
