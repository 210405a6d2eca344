use Rattle.std.proofs.Common.{Bool, ◌+◌, drop, length, sym, ap, ◌∙◌, arith, length-drop}
use Rattle.ca_token.specs.Scan.{scan_from}
use Rattle.ca_token.proofs.ScanLemmas.{blank_passed, skipped_passed, token_found, flaw_found, nothing_left}
use Rattle.ca_token.proofs.tokens.next_token.Goals as goal

pub pieces-preserved-in-Blank : goal.pieces-preserved-in-Blank
pieces-preserved-in-Blank c = (
  ap (λ (is_first : Bool). scan_from is_first 0 (c.pieces.at + 1) (drop (c.pieces.at + 1) c.args.text.now)) c.begins_line_after-begins_line.ensures
      ∙ blank_passed c.pieces.begins_line c.args.text.now c.pieces.at _ _ c.split_at.result.1.now c.split_at.ensures.back c.pieces-test.true c.in-Blank.ensures.piece c.pieces.invariant.0,
  omega (arith, c.pieces.invariant.1),
  omega (arith, c.pieces-test.true),
)

pub pieces-preserved : goal.pieces-preserved
pieces-preserved c = (
  skipped_passed c.pieces.begins_line c.args.text.now c.pieces.at c.in-Skipped.len _ c.split_at.result.1.now c.split_at.ensures.back c.pieces-test.true c.in-Skipped.ensures.piece c.in-Skipped.ensures.within c.pieces.invariant.0,
  omega (arith, c.pieces.invariant.1),
  omega (arith, c.pieces-test.true, c.in-Skipped.ensures.within.1, ap length c.split_at.ensures.back, length-drop c.pieces.at c.args.text.now),
)

pub returns-in-Found : goal.returns-in-Found
returns-in-Found c =
    token_found c.pieces.begins_line c.args.text.now c.args.place c.pieces.at c.in-Found.len c.in-Found.kind c.split_at.result.1.now c.split_at.ensures.back c.pieces-test.true c.pieces.invariant.1
    c.in-Found.ensures.piece c.in-Found.ensures.within c.pieces.invariant.0

pub returns-in-Broken : goal.returns-in-Broken
returns-in-Broken c =
    flaw_found c.pieces.begins_line c.args.text.now c.args.place c.pieces.at c.in-Broken.shift c.in-Broken.kind c.split_at.result.1.now c.split_at.ensures.back c.pieces-test.true c.pieces.invariant.1
    c.in-Broken.ensures.piece c.in-Broken.ensures.within c.pieces.invariant.0

pub returns : goal.returns
returns c = sym c.pieces.invariant.0 ∙ nothing_left c.pieces.begins_line c.args.text.now c.pieces.at (omega (arith, c.pieces-test.false))
