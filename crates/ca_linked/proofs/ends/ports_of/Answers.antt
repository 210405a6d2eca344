use Rattle.std.proofs.Common.{◌∙◌, ◌++◌, [], ◌∷◌, ap₂, sym, ◌<◌, if◌then◌else◌}
use Rattle.ca_linked.specs.declared.parts.PortBit.{PortBit}
use Rattle.ca_linked.specs.Linked.{net_count}
use Rattle.ca_linked.specs.code.Ends.{end_nets}
use Rattle.ca_linked.proofs.PartLemmas.{of_all}
use Rattle.ca_linked.proofs.EndLemmas.{flat_more}
use Rattle.ca_linked.proofs.ends.ports_of.Goals as goal

pub is_end-requires-clause-within : goal.is_end-requires-clause-within
is_end-requires-clause-within c =
    of_all (λ (q : PortBit). q.net < net_count c.args.draft.now) c.args.draft.now.ports c.loop-p.p c.port-port.result.now c.requires.drafted.ports_on_nets
    c.port-port.ensures

pub loop-p-preserved : goal.loop-p-preserved
loop-p-preserved c =
    c.in_ok-push_if.ensures.ok
    ∙ ap₂ (λ nets test. nets ++ (if test then c.port-port.result.now.net ∷ [] else [])) c.loop-p.invariant c.is_end.ensures
    ∙ sym (flat_more (end_nets c.args.draft.now c.args.is_input) c.args.draft.now.ports c.loop-p.p c.port-port.result.now c.port-port.ensures)
