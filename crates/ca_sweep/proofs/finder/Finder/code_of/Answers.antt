use Rattle.std.proofs.Common.{◌∙◌, [], ap, refl, sym, subst}
use Rattle.ca_view.specs.Places.{cell_number}
use Rattle.std.specs.Prelude.{slice_index_or, IfSome}
use Rattle.ca_net.specs.State.{value_at}
use Rattle.ca_flat.specs.Chip.{cell_at}
use Rattle.ca_view.specs.Linked.{IsPlaced, place_in}
use Rattle.ca_sweep.specs.Seen.{Loaded}
use Rattle.ca_sweep.specs.code.Rows.{IsListOf}
use Rattle.ca_sweep.specs.code.Hand.{IsCodedAt}
use Rattle.ca_sweep.proofs.CodedLemmas.{hand_coded}
use Rattle.ca_sweep.proofs.finder.Finder.code_of.Goals as goal

pub returns-clause-code : goal.returns-clause-code
returns-clause-code c =
    let core = c.self.inside.chip.now.core in
    let ranks = c.self.inside.chip.now.ranks in
    let lists = c.take.new.rows.lists.items in
    let u = c.args.defect.instance in
    let placed : IsPlaced core (place_in ranks) u = subst (λ chip. IsPlaced chip (place_in c.self.inside.chip.now.ranks) c.args.defect.instance) c.self.invariant.chip_is
    (subst (λ places. IsPlaced c.self.inside.sweep.chip (place_in places) c.args.defect.instance) c.self.invariant.places_are
    (subst (λ (s : Loaded). IsPlaced s.chip (place_in s.places) c.args.defect.instance) (sym c.self.view_is) c.requires)) in
    let taken = c.if-not-take.ensures.taken refl in
    let list = slice_index_or lists c.take.new.hand.number [] in
    let is_list : IsListOf (cell_at core u) (slice_index_or lists c.take.new.hand.number []) =
    subst (λ n. IsListOf (cell_at c.self.inside.chip.now.core c.args.defect.instance) (slice_index_or c.take.new.rows.lists.items n []))
    (ap (cell_number c.self.inside.chip.now.chip) (sym taken.instance_is) ∙ sym taken.taken.number_is)
    (c.take.ensures.rows.lists.each u placed) in
    subst (λ (s : Loaded). IfSome c.code.result (IsCodedAt s.chip s.waves c.args.defect)) c.self.view_is
    (subst (λ chip. IfSome c.code.result (IsCodedAt chip c.self.inside.waves.items c.args.defect)) (sym c.self.invariant.chip_is)
    (subst (λ list. IfSome c.code.result (IsCodedAt c.self.inside.chip.now.core list c.args.defect)) c.deref.ensures.value
    (hand_coded core (cell_number c.self.inside.chip.now.chip) (value_at c.self.inside.sweep.lasts) c.deref.result.now c.take.new.rows.slots.items c.take.new.hand c.args.defect
    list c.in_ok-at.at c.code.result taken is_list c.in_ok-at.ensures c.code.ensures)))
