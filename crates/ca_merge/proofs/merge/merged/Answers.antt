use Rattle.std.proofs.Common.{◌≡◌, ◌+◌, ◌∙◌, length, ap, sym, subst, arith}
use Rattle.ca_linked.specs.Linked.{LinkedChip}
use Rattle.ca_linked.specs.Wired.{IsReady}
use Rattle.ca_view.specs.Core.{core_of}
use Rattle.ca_merged.specs.Merged.{cluster_place}
use Rattle.ca_merge.specs.Laws.{AreMergeable}
use Rattle.ca_merge.specs.Draft.{merged_draft}
use Rattle.ca_merge.proofs.WiringLemmas.{draft_ready}
use Rattle.ca_merge.proofs.MergeLemmas.{listed_inputs, listed_outputs, made_core, parts_counted}
use Rattle.ca_merge.proofs.merge.merged.Goals as goal

pub merged_draft-requires-clause-inputs : goal.merged_draft-requires-clause-inputs
merged_draft-requires-clause-inputs c =
    c.lists_of-inputs.ensures.inputs ∙ listed_inputs c.args.chip.now c.args.members.now c.in_ok-nets.nets (c.in_ok-nets.ensures {u = tt})

pub merged_draft-requires-clause-outputs : goal.merged_draft-requires-clause-outputs
merged_draft-requires-clause-outputs c =
    c.lists_of-inputs.ensures.outputs ∙ listed_outputs c.args.chip.now c.args.members.now c.in_ok-nets.nets (c.in_ok-nets.ensures {u = tt})

pub overflow_sub-last : goal.overflow_sub-last
overflow_sub-last c =
    let count : c.parts-last.result ≡ cluster_place (core_of c.args.chip.now) c.args.members.now + 1 =
    c.parts-last.ensures ∙ ap (λ (d : LinkedChip). length d.parts) (c.in_ok-draft.ensures {u = tt})
    ∙ parts_counted c.args.chip.now c.args.members.now c.wired.ensures c.requires.gates in
    omega arith

pub wire_draft-requires : goal.wire_draft-requires
wire_draft-requires c =
    let can : AreMergeable c.args.chip.now c.args.members.now = record {
      wired = c.wired.ensures;
      gates = c.requires.gates;
      some = c.requires.some;
      are = c.requires.are;
      keeps = (c.in_ok-cell.ensures {u = tt}).kept;
    } in
    let same = c.in_ok-draft.ensures {u = tt} in
    subst IsReady (sym same) (draft_ready c.args.chip.now c.args.members.now can)

pub returns-clause-ok : goal.returns-clause-ok
returns-clause-ok c =
    let count : c.parts-last.result ≡ cluster_place (core_of c.args.chip.now) c.args.members.now + 1 =
    c.parts-last.ensures ∙ ap (λ (d : LinkedChip). length d.parts) (c.in_ok-draft.ensures {u = tt})
    ∙ parts_counted c.args.chip.now c.args.members.now c.wired.ensures c.requires.gates in
    let same = c.in_ok-draft.ensures {u = tt} in
    let is : c.in_ok-made.made ≡ record (merged_draft c.args.chip.now c.args.members.now) { order = c.in_ok-made.made.order } =
    (c.in_ok-made.ensures {u = tt}).ok ∙ ap (λ (d : LinkedChip). record d { order = c.in_ok-made.made.order }) same in
    record {
      is = is;
      wired = (c.in_ok-made.ensures {u = tt}).wired;
      place = omega arith;
      core = made_core c.args.chip.now c.args.members.now c.in_ok-made.made c.wired.ensures c.requires.gates is;
    }
