use Rattle.std.proofs.Common.{◌≡◌, ◌∙◌, sym, true, false, arith}
use Rattle.ca_examiner.specs.code.PinRows.{IsAllowed}
use Rattle.ca_examiner.proofs.RowLemmas.{all_more, all_taken}
use Rattle.ca_examiner.proofs.rows.is_some_row_allowed.Goals as goal

pub loop-place-preserved : goal.loop-place-preserved
loop-place-preserved g c =
    all_more (λ row. IsAllowed (g.V.NetWaves.seen c.args.waves.now) c.args.u row → ⊥) c.args.rows.now c.loop-place.place c.get.result c.get.ensures
    (λ allowed. let clash : true ≡ false = sym (c.is_row_allowed.ensures.1 allowed) ∙ c.if-is_row_allowed.false in cc) c.loop-place.invariant

pub returns-clause-none : goal.returns-clause-none
returns-clause-none g c is_false =
    all_taken (λ row. IsAllowed (g.V.NetWaves.seen c.args.waves.now) c.args.u row → ⊥) c.args.rows.now c.loop-place.place
    (omega (arith, c.loop-place-test.false, c.len-place-end.ensures)) c.loop-place.invariant
