use Rattle.ca_make.specs.NetlistText.{declaration_line}
use Rattle.ca_make.proofs.ListLemmas.{counted_more}
use Rattle.ca_make.proofs.writing.push_declarations.Goals as goal

pub loop-number-preserved : goal.loop-number-preserved
loop-number-preserved c =
    counted_more (declaration_line c.args.letters.now) c.loop-number.number c.args.text.now c.loop-number.text
    c.push_declaration.new.text c.loop-number.invariant (c.in_ok-push_declaration.ensures {u = tt})
