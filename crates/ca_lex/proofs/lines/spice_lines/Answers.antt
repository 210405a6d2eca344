use Rattle.std.proofs.Common.{◌≡◌, length, arith, ◌∙◌}
use Rattle.std.proofs.lemmas.Bool.Decides.{nat_tests}
use Rattle.ca_lex.proofs.LineLemmas.{is_joined, begins}
use Rattle.ca_lex.proofs.lines.spice_lines.Goals as goal

pub lines-init : goal.lines-init
lines-init c = (begins _ c.args.bytes.now c.new.ensures.items, omega arith)

pub returns : goal.returns
returns c =
    let empty : length c.lines.rest.now ≡ 0 = grind (arith, nat_tests) in
    record { ok = c.in_ok-close.ensures.lines ∙ is_joined _ _ _ _ _ empty c.lines.invariant.0 }
