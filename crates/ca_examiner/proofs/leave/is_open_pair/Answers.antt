use Rattle.std.proofs.Common.{◌≡◌, ◌∙◌, sym, subst, true, false}
use Rattle.ca_flat.specs.Chip.{Chip}
use Rattle.ca_view.specs.Linked.{place_in}
use Rattle.ca_examiner.proofs.LeaveLemmas.{view_of, outputs_within, shown_is, settled_is, open_by_settled, open_by_shown}
use Rattle.ca_examiner.proofs.leave.is_open_pair.Goals as goal

pub is_shown-requires : goal.is_shown-requires
is_shown-requires g c = outputs_within c.args.chip.now.core (place_in c.args.chip.now.ranks)
    (g.V.NetWaves.seen c.args.waves.now).chip c.args.outputs.now c.linked.ensures.linked.is_chip c.requires.seen.same c.requires.outputs

pub is_settled-requires : goal.is_settled-requires
is_settled-requires g c = outputs_within c.args.chip.now.core (place_in c.args.chip.now.ranks)
    (g.V.NetWaves.seen c.args.waves.now).chip c.args.outputs.now c.linked.ensures.linked.is_chip c.requires.seen.same c.requires.outputs

pub returns-then-not-is_shown : goal.returns-then-not-is_shown
returns-then-not-is_shown g c =
    let chip = c.args.chip.now.core in
    let rank = place_in c.args.chip.now.ranks in
    let seen = g.V.NetWaves.seen c.args.waves.now in
    let view = view_of chip rank seen c.args.defect c.linked.ensures.linked.is_chip c.requires.seen c.exact.ensures in
    let outputs_are = c.requires.outputs ∙ sym (Rattle.std.proofs.Common.ap (λ (x : Chip). x.outputs) c.requires.seen.same) in
    open_by_settled seen c.args.defect c.is_shown.result c.is_settled.result
    (shown_is rank seen c.args.defect view c.args.outputs.now outputs_are c.is_shown.result c.is_shown.ensures)
    (settled_is rank seen c.args.defect view c.args.outputs.now outputs_are c.is_settled.result c.is_settled.ensures) c.if-not-is_shown.true

pub returns-else-not-is_shown : goal.returns-else-not-is_shown
returns-else-not-is_shown g c =
    let chip = c.args.chip.now.core in
    let rank = place_in c.args.chip.now.ranks in
    let seen = g.V.NetWaves.seen c.args.waves.now in
    let view = view_of chip rank seen c.args.defect c.linked.ensures.linked.is_chip c.requires.seen c.exact.ensures in
    let outputs_are = c.requires.outputs ∙ sym (Rattle.std.proofs.Common.ap (λ (x : Chip). x.outputs) c.requires.seen.same) in
    open_by_shown seen c.args.defect c.is_shown.result
    (shown_is rank seen c.args.defect view c.args.outputs.now outputs_are c.is_shown.result c.is_shown.ensures) c.if-not-is_shown.false
