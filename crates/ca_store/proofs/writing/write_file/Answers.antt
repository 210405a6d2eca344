use Rattle.std.proofs.Common.{rules, arith, length-drop, ℕ}
use Rattle.std.proofs.lemmas.List.{take_rest}
use Rattle.ca_store.proofs.Appends.{at_err}
use Rattle.ca_store.proofs.Changes.{writes_more, wrote_part}
use Rattle.ca_store.proofs.writing.write_file.Goals as goal

pub pieces-preserved : goal.pieces-preserved
pieces-preserved g c =
    let wrote = c.in_ok-done.ensures.ok in
    let more = writes_more _ _ _ _ _ c.args.name.now c.args.bytes.now _ c.pieces.done _
    (take_rest c.args.bytes.now c.pieces.done) c.pieces.invariant.written c.pieces.invariant.named wrote in
    record {
      within = omega (arith, wrote.fits, length-drop {A = ℕ});
      in_writing = search rules;
      quiet = search rules;
      named = more.0;
      written = more.1;
    }

pub returns-in_err-done-clause-err : goal.returns-in_err-done-clause-err
returns-in_err-done-clause-err g c =
    at_err c.from_residual-in_err-done.result _
    (wrote_part _ _ _ c.args.name.now c.args.bytes.now c.pieces.done c.pieces.invariant.written c.in_err-done.ensures.kept)
