use Rattle.std.proofs.Common.{◌+◌, ◌<◌, sym, ◌∙◌, subst, take}
use Rattle.std.specs.List.{list_any}
use Rattle.ca_linked.specs.Linked.{PortBit, net_count}
use Rattle.ca_linked.specs.Paths.{AreMarks, is_port_on}
use Rattle.ca_linked.proofs.PartLemmas.{of_all}
use Rattle.ca_linked.proofs.PathLemmas.{port_marked, port_unmarked, same_bool, other_bool}
use Rattle.ca_linked.proofs.paths.ports_of.Goals as goal
use Rattle.ca_linked.proofs.paths.ports_of.Goals.{then-port-is_input, else-port-is_input}

pub loop-p-preserved : goal.loop-p-preserved
loop-p-preserved c =
    let chip = c.args.draft.now in
    let port = c.port-port.result.now in
    let within = of_all (λ (q : PortBit). q.net < net_count chip) chip.ports c.loop-p.p port c.requires.ports_on_nets c.port-port.ensures in
    elim c.if-port-is_input.branch [
      | then-port-is_input w ↦
          subst (AreMarks (net_count chip) (λ net. list_any (is_port_on c.args.is_input net) (take (c.loop-p.p + 1) chip.ports))) (sym (w.marks-is ∙ w.mark.ensures))
          (port_marked chip.ports (net_count chip) c.loop-p.p port c.args.is_input c.loop-p.marks c.port-port.ensures c.loop-p.invariant (same_bool port.is_input c.args.is_input w.if-port-is_input.true) within)
      | else-port-is_input w ↦
          subst (AreMarks (net_count chip) (λ net. list_any (is_port_on c.args.is_input net) (take (c.loop-p.p + 1) chip.ports))) (sym w.marks-is)
          (port_unmarked chip.ports (net_count chip) c.loop-p.p port c.args.is_input c.loop-p.marks c.port-port.ensures c.loop-p.invariant (other_bool port.is_input c.args.is_input w.if-port-is_input.false))
    ]
