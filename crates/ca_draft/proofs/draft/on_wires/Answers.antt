use Rattle.std.proofs.Common.{◌∙◌, ◌+◌, ap, ap₂, sym, subst, List, ℕ, length, true, false}
use Rattle.std.specs.Prelude.{◌↔◌, IsTrue}
use Rattle.std.specs.List.{All}
use Rattle.ca_verilog.specs.declared.raw.RawBus.{RawBus}
use Rattle.ca_verilog.specs.declared.raw.RawInstance.{RawInstance}
use Rattle.ca_verilog.specs.IsNetlist.{bit_count, IsPort}
use Rattle.ca_linked.specs.declared.parts.Part.{Part}
use Rattle.ca_linked.specs.declared.parts.PortBit.{PortBit}
use Rattle.ca_wiring.specs.Wiring.{header_bits}
use Rattle.ca_draft.specs.code.OnWires.{AreOnWires, IsNamedBy, touched_of}
use Rattle.ca_draft.proofs.DraftLemmas.{netlist_is}
use Rattle.ca_draft.proofs.draft.on_wires.Goals as goal

pub ports_of-requires-clause-ports : goal.ports_of-requires-clause-ports
ports_of-requires-clause-ports c =
    subst (λ (l : List ℕ). All (IsPort c.as_slice-buses.result.now) l) (sym c.as_slice.ensures)
    (subst (λ (b : List RawBus). All (IsPort b) c.args.netlist.now.ports) (sym c.as_slice-buses.ensures) c.requires.netlist.are_ports)

pub returns : goal.returns
returns c =
    let bits = (c.in_ok-bits.ensures {u = tt}).count ∙ ap bit_count c.as_slice-buses.ensures in
    let instances = c.as_slice-2.ensures in
    let touched = c.in_ok-touched.ensures {u = tt} in
    let ports = c.deref-3.ensures.value in
    let parts = c.deref-2.ensures.value in
    netlist_is c.args.netlist.now c.args.library.now c.args.scan.now _ c.spans.result.now c.requires.netlist bits
    (sym (ap₂ header_bits c.as_slice-buses.ensures c.as_slice.ensures) ∙ (c.in_ok-ports.ensures {u = tt}).header)
    (c.in_ok-ports.ensures {u = tt}).few
    (subst (λ (l : List RawInstance). AreOnWires c.args.library.now c.args.scan.now c.in_ok-bits.bits.count l (length l) c.in_ok-made.made.wires c.in_ok-made.made.parts.items)
    instances (c.in_ok-made.ensures {u = tt}))
    c.spans.ensures
    (touched.wires ∙ ap₂ (λ (p : List Part) (q : List PortBit). touched_of p q c.in_ok-bits.bits.count c.in_ok-touched.touched.zero c.in_ok-touched.touched.one) parts ports)
    (subst (λ (p : List Part). IsTrue c.in_ok-touched.touched.zero ↔ IsNamedBy p c.spans.result.now c.in_ok-bits.bits.count false) parts touched.zero)
    (subst (λ (p : List Part). IsTrue c.in_ok-touched.touched.one ↔ IsNamedBy p c.spans.result.now (c.in_ok-bits.bits.count + 1) true) parts touched.one)
