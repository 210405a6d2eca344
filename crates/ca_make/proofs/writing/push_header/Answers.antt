use Rattle.std.specs.Prelude.{codes}
use Rattle.std.proofs.lemmas.Result.{on_ok_weaker}
use Rattle.ca_make.specs.NetlistText.{header_text, counted, output_port}
use Rattle.ca_make.proofs.TextLemmas.{three_pieces}
use Rattle.ca_make.proofs.writing.push_header.Goals as goal

pub returns : goal.returns
unfolding header_text
returns c =
    on_ok_weaker c.append-2.result
    (three_pieces c.args.text.now c.append.new.self c.push_output_ports.new.text c.append-2.new.self
    (codes "module gen(i0, i1, i2, i3, i4, i5, i6, i7") (counted output_port c.args.outputs) (codes ");\n")
    (c.in_ok-append.ensures {u = tt}).ok (c.in_ok-push_output_ports.ensures {u = tt}))
    c.append-2.ensures.ok
