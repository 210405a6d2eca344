use Rattle.std.proofs.Common.{arith}
use Rattle.ca_merge.proofs.SizeLemmas.{nets_few, nodes_are}
use Rattle.ca_merge.proofs.cell.node_sum.Goals as goal

pub overflow_add-result : goal.overflow_add-result
overflow_add-result c =
    let few = nets_few c.args.of.now.chip.now c.args.of.now.members.now c.args.of.now.nets.now c.requires.tables in
    let ins = few.0 in
    let outs = few.1 in
    let nets = c.wired.ensures.few_nets in
    let a = c.len.ensures in
    omega arith

pub overflow_add-result-2 : goal.overflow_add-result-2
overflow_add-result-2 c =
    let few = nets_few c.args.of.now.chip.now c.args.of.now.members.now c.args.of.now.nets.now c.requires.tables in
    let ins = few.0 in
    let outs = few.1 in
    let nets = c.wired.ensures.few_nets in
    let a = c.len.ensures in
    let b = c.len-2.ensures in
    omega arith

pub overflow_add-result-3 : goal.overflow_add-result-3
overflow_add-result-3 c =
    let few = nets_few c.args.of.now.chip.now c.args.of.now.members.now c.args.of.now.nets.now c.requires.tables in
    let ins = few.0 in
    let outs = few.1 in
    let nets = c.wired.ensures.few_nets in
    let a = c.len.ensures in
    let b = c.len-2.ensures in
    let last = c.requires.few in
    omega arith

pub returns : goal.returns
returns c =
    let n = nodes_are c.args.of.now.chip.now c.args.of.now.members.now c.args.of.now.nets.now c.args.inner c.wired.ensures c.requires.gates c.requires.tables
    c.requires.inner in
    let a = c.len.ensures in
    let b = c.len-2.ensures in
    omega arith
