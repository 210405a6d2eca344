use Rattle.std.proofs.Common.{◌≡◌, ℕ, ◌∙◌, List, length, sym, ap, arith}
use Rattle.ca_linked.specs.Linked.{gate_inputs, gate_outputs}
use Rattle.ca_merge.specs.Draft.{cluster_input_nets, cluster_output_nets}
use Rattle.ca_cluster.proofs.ShortLemmas.{last_known, last_body, last_no_scan, pins_few}
use Rattle.ca_cluster.proofs.short.outer_count.Goals as goal

pub part-requires : goal.part-requires
part-requires c = last_known c.args.of.now.chip.now c.args.of.now.members.now c.args.of.now.made.now c.args.of.now.last.0 c.wired.ensures c.requires

pub returns : goal.returns
returns c =
    let body = last_body c.args.of.now.chip.now c.args.of.now.members.now c.args.of.now.made.now c.args.of.now.last.0 c.wired.ensures c.requires c.part.result.now c.part.ensures in
    let ins : c.in-Gate.inputs ≡ cluster_input_nets c.args.of.now.chip.now c.args.of.now.members.now = ap gate_inputs (sym c.in-Gate.is ∙ body) in
    let outs : c.in-Gate.outputs ≡ cluster_output_nets c.args.of.now.chip.now c.args.of.now.members.now = ap gate_outputs (sym c.in-Gate.is ∙ body) in
    let a = c.len.ensures ∙ ap (λ (xs : List ℕ). length xs) ins in
    let b = c.len-in-Gate.ensures ∙ ap (λ (xs : List ℕ). length xs) outs in
    omega arith

pub unreachable-requires : goal.unreachable-requires
unreachable-requires c =
    last_no_scan c.args.of.now.chip.now c.args.of.now.members.now c.args.of.now.made.now c.args.of.now.last.0 c.wired.ensures c.requires c.part.result.now _ c.part.ensures c.in-Scan.is

pub overflow_add-result : goal.overflow_add-result
overflow_add-result c =
    let body = last_body c.args.of.now.chip.now c.args.of.now.members.now c.args.of.now.made.now c.args.of.now.last.0 c.wired.ensures c.requires c.part.result.now c.part.ensures in
    let ins : c.in-Gate.inputs ≡ cluster_input_nets c.args.of.now.chip.now c.args.of.now.members.now = ap gate_inputs (sym c.in-Gate.is ∙ body) in
    let outs : c.in-Gate.outputs ≡ cluster_output_nets c.args.of.now.chip.now c.args.of.now.members.now = ap gate_outputs (sym c.in-Gate.is ∙ body) in
    let a = c.len.ensures ∙ ap (λ (xs : List ℕ). length xs) ins in
    let few = pins_few c.args.of.now.chip.now c.args.of.now.members.now c.args.of.now.made.now c.args.of.now.last.0 c.wired.ensures c.requires in
    omega arith

pub overflow_add-result-in-Gate : goal.overflow_add-result-in-Gate
overflow_add-result-in-Gate c =
    let body = last_body c.args.of.now.chip.now c.args.of.now.members.now c.args.of.now.made.now c.args.of.now.last.0 c.wired.ensures c.requires c.part.result.now c.part.ensures in
    let ins : c.in-Gate.inputs ≡ cluster_input_nets c.args.of.now.chip.now c.args.of.now.members.now = ap gate_inputs (sym c.in-Gate.is ∙ body) in
    let outs : c.in-Gate.outputs ≡ cluster_output_nets c.args.of.now.chip.now c.args.of.now.members.now = ap gate_outputs (sym c.in-Gate.is ∙ body) in
    let a = c.len.ensures ∙ ap (λ (xs : List ℕ). length xs) ins in
    let few = pins_few c.args.of.now.chip.now c.args.of.now.members.now c.args.of.now.made.now c.args.of.now.last.0 c.wired.ensures c.requires in
    let b = c.len-in-Gate.ensures ∙ ap (λ (xs : List ℕ). length xs) outs in
    omega arith
