use Rattle.std.proofs.Common.{◌≡◌, sym, ◌∙◌, ap, subst, true, false, refl, inl, inr}
use Rattle.ca_flat.specs.Chip.{Chip}
use Rattle.ca_flat.specs.Rows.{ListsExposingRows}
use Rattle.ca_flat.specs.CheckedCode.{MayLeave}
use Rattle.ca_view.specs.Linked.{place_in}
use Rattle.ca_examiner.specs.code.ChipExaminer.{ReachesOutput}
use Rattle.ca_examiner.proofs.LeaveLemmas.{view_of, outputs_within, shown_is, settled_is, plain_by_rows, plain_by_chains, plain_by_full}
use Rattle.ca_examiner.proofs.LeaveLemmas.{unset_stays, shown_stays, leave_by_shown}
use Rattle.ca_examiner.proofs.leave.may_leave.Goals as goal

pub is_settled-requires : goal.is_settled-requires
is_settled-requires g c = outputs_within c.args.chip.now.core (place_in c.args.chip.now.ranks)
    (g.V.NetWaves.seen c.args.waves.now).chip c.args.outputs.now c.linked.ensures.linked.is_chip c.requires.seen.same c.requires.outputs

pub is_shown-requires : goal.is_shown-requires
is_shown-requires g c = outputs_within c.args.chip.now.core (place_in c.args.chip.now.ranks)
    (g.V.NetWaves.seen c.args.waves.now).chip c.args.outputs.now c.linked.ensures.linked.is_chip c.requires.seen.same c.requires.outputs

pub returns-then-is_settled-clause-leaf : goal.returns-then-is_settled-clause-leaf
returns-then-is_settled-clause-leaf g c =
    let rank = place_in c.args.chip.now.ranks in
    let seen = g.V.NetWaves.seen c.args.waves.now in
    let view = view_of c.args.chip.now.core rank seen c.args.defect c.linked.ensures.linked.is_chip c.requires.seen c.exact.ensures in
    let outputs_are = c.requires.outputs ∙ sym (ap (λ (x : Chip). x.outputs) c.requires.seen.same) in
    let settled = settled_is rank seen c.args.defect view c.args.outputs.now outputs_are c.is_settled.result c.is_settled.ensures in
    (λ yes. inl (settled.0 c.if-is_settled.true), λ may. refl)

pub returns-then-not-is_some_row_allowed-clause-leaf : goal.returns-then-not-is_some_row_allowed-clause-leaf
returns-then-not-is_some_row_allowed-clause-leaf g c =
    let rank = place_in c.args.chip.now.ranks in
    let seen = g.V.NetWaves.seen c.args.waves.now in
    let view = view_of c.args.chip.now.core rank seen c.args.defect c.linked.ensures.linked.is_chip c.requires.seen c.exact.ensures in
    let lists = subst (λ x. ListsExposingRows x c.args.defect c.args.rows.now) (sym c.requires.seen.same) c.requires.rows in
    (λ yes. inr (plain_by_rows rank seen c.args.defect view c.args.rows.now lists (c.is_some_row_allowed.ensures.none c.if-not-is_some_row_allowed.true)), λ may. refl)

pub returns-then-not-has_open_chain-clause-leaf : goal.returns-then-not-has_open_chain-clause-leaf
returns-then-not-has_open_chain-clause-leaf g c =
    let rank = place_in c.args.chip.now.ranks in
    let seen = g.V.NetWaves.seen c.args.waves.now in
    let view = view_of c.args.chip.now.core rank seen c.args.defect c.linked.ensures.linked.is_chip c.requires.seen c.exact.ensures in (
      λ yes. inr (plain_by_chains rank seen c.args.defect view c.has_open_chain.new.open_nets.items c.has_open_chain.ensures.open_nets
          (λ reaches. let clash : true ≡ false = sym (c.has_open_chain.ensures.chain.1
          (subst (λ x. ReachesOutput x c.has_open_chain.new.open_nets.items c.args.defect.instance) c.requires.seen.same reaches)) ∙ c.if-not-has_open_chain.true in cc)),
      λ may. refl,
    )

pub returns-then-has_unset-clause-leaf : goal.returns-then-has_unset-clause-leaf
returns-then-has_unset-clause-leaf g c =
    let rank = place_in c.args.chip.now.ranks in
    let seen = g.V.NetWaves.seen c.args.waves.now in
    let view = view_of c.args.chip.now.core rank seen c.args.defect c.linked.ensures.linked.is_chip c.requires.seen c.exact.ensures in
    let outputs_are = c.requires.outputs ∙ sym (ap (λ (x : Chip). x.outputs) c.requires.seen.same) in
    let lists = subst (λ x. ListsExposingRows x c.args.defect c.args.rows.now) (sym c.requires.seen.same) c.requires.rows in
    let settled = settled_is rank seen c.args.defect view c.args.outputs.now outputs_are c.is_settled.result c.is_settled.ensures in (
      λ yes. absurd (let clash : false ≡ true = yes in cc),
      λ may. absurd (unset_stays rank seen c.args.defect view c.args.rows.now lists (c.is_some_row_allowed.ensures.some c.if-not-is_some_row_allowed.false)
          c.has_open_chain.new.open_nets.items c.has_open_chain.ensures.open_nets
          (subst (λ x. ReachesOutput x c.has_open_chain.new.open_nets.items c.args.defect.instance) (sym c.requires.seen.same)
          (c.has_open_chain.ensures.chain.0 c.if-not-has_open_chain.false))
          (λ is. let clash : true ≡ false = sym (settled.1 is) ∙ c.if-is_settled.false in cc)
          (c.has_unset.ensures.0 c.if-has_unset.true) may),
    )

pub returns-clause-leaf : goal.returns-clause-leaf
returns-clause-leaf g c =
    let rank = place_in c.args.chip.now.ranks in
    let seen = g.V.NetWaves.seen c.args.waves.now in
    let view = view_of c.args.chip.now.core rank seen c.args.defect c.linked.ensures.linked.is_chip c.requires.seen c.exact.ensures in
    let outputs_are = c.requires.outputs ∙ sym (ap (λ (x : Chip). x.outputs) c.requires.seen.same) in
    let lists = subst (λ x. ListsExposingRows x c.args.defect c.args.rows.now) (sym c.requires.seen.same) c.requires.rows in
    let settled = settled_is rank seen c.args.defect view c.args.outputs.now outputs_are c.is_settled.result c.is_settled.ensures in
    let shown = shown_is rank seen c.args.defect view c.args.outputs.now outputs_are c.is_shown.result c.is_shown.ensures in
    leave_by_shown seen c.args.defect c.is_shown.result (MayLeave seen.chip c.args.defect seen.pair) shown
    (λ not_shown. inr (plain_by_full rank seen c.args.defect view
    (λ has. let clash : true ≡ false = sym (c.has_unset.ensures.1 has) ∙ c.if-has_unset.false in cc) not_shown))
    (λ is. shown_stays rank seen c.args.defect view c.args.rows.now lists (c.is_some_row_allowed.ensures.some c.if-not-is_some_row_allowed.false)
    c.has_open_chain.new.open_nets.items c.has_open_chain.ensures.open_nets
    (subst (λ x. ReachesOutput x c.has_open_chain.new.open_nets.items c.args.defect.instance) (sym c.requires.seen.same)
    (c.has_open_chain.ensures.chain.0 c.if-not-has_open_chain.false))
    (λ done. let clash : true ≡ false = sym (settled.1 done) ∙ c.if-is_settled.false in cc) is)
