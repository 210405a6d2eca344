use Rattle.std.proofs.Common.{arith, refl, replicate, [], List, ℕ}
use Rattle.ca_view.specs.code.Links.{turned}
use Rattle.ca_view.proofs.LinkLemmas.{first_more, all_links}
use Rattle.ca_view.proofs.links.LinkTable.back.Goals as goal

pub loop-instance-preserved : goal.loop-instance-preserved
loop-instance-preserved c =
    first_more (turned c.args.pins.now) (replicate {A = List ℕ} c.args.pins.now.nets []) c.loop-instance.table c.add_instance.new.self c.loop-instance.instance
    c.outputs.result.now c.inputs.result.now c.outputs.ensures.same c.inputs.ensures.same c.loop-instance.invariant c.in_ok-add_instance.ensures.ok

pub returns : goal.returns
returns c =
    all_links (turned c.args.pins.now) (replicate {A = List ℕ} c.args.pins.now.nets []) c.loop-instance.table c.loop-instance.instance refl
    (omega (arith, c.loop-instance-test.false, c.loop-instance.auto.instance-end, c.count-instance-end.ensures)) c.loop-instance.invariant
