use Rattle.std.proofs.Common.{rules, arith, length, length-drop, ap, ℕ}
use Rattle.std.proofs.lemmas.List.{take_rest}
use Rattle.ca_store.proofs.Appends.{appended_more, part_so_far, at_err}
use Rattle.ca_store.proofs.sink.write_all.Goals as goal

pub pieces-preserved : goal.pieces-preserved
pieces-preserved g c = record {
  within = omega (arith, c.in_ok-done.ensures.ok.fits, length-drop {A = ℕ});
  appended = appended_more _ _ _ _ _ _ _ (take_rest c.args.bytes.now c.pieces.done)
      c.pieces.invariant.appended c.in_ok-done.ensures.ok.appends;
  quiet = search rules;
  nothing = λ none. absurd (omega (arith, ap length none));
}

pub returns-in_err-done-clause-err : goal.returns-in_err-done-clause-err
returns-in_err-done-clause-err g c =
    at_err c.from_residual.result _
    (part_so_far c.args.bytes.now c.pieces.done _ _ _ c.pieces.invariant.appended c.in_err-done.ensures.err)
