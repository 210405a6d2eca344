use Rattle.std.proofs.Common.{ℕ, ◌≡◌, ◌<◌, length, sym, ◌∙◌, ap, subst, arith, get_or}
use Rattle.std.specs.List.{All}
use Rattle.ca_view.specs.Linked.{place_in}
use Rattle.ca_examiner.specs.code.Marks.{MarksListed}
use Rattle.ca_examiner.proofs.SupportLemmas.{leading_are}
use Rattle.ca_examiner.proofs.LeaveLemmas.{outputs_within}
use Rattle.ca_examiner.proofs.support.mark_leading.Goals as goal

pub mark_listed-requires-clause-within : goal.mark_listed-requires-clause-within
mark_listed-requires-clause-within c =
    let core = c.args.chip.now.core in
    subst (λ n. All (λ net. net < n) c.args.outputs.now) (sym (c.unmark.ensures.length ∙ c.requires.leading))
    (outputs_within core (place_in c.args.chip.now.ranks) core c.args.outputs.now c.linked.ensures.linked.is_chip Rattle.std.proofs.Common.refl c.requires.outputs)

pub returns-clause-leading : goal.returns-clause-leading
returns-clause-leading c =
    leading_are c.args.chip.now.core (place_in c.args.chip.now.ranks) c.linked.ensures.linked.is_chip c.args.all_nets.now
    c.requires.all c.requires.all_count c.args.u c.requires.placed.known c.args.outputs.now c.mark_onward.new.marks.items c.unmark.new.marks.items
    c.mark_listed.new.marks.items c.mark_back.new.marks.items c.requires.outputs c.mark_onward.ensures c.unmark.ensures.none
    (subst (λ m. MarksListed m c.args.outputs.now c.unmark.new.marks.items c.mark_listed.new.marks.items) c.deref.ensures.value c.mark_listed.ensures) c.mark_back.ensures
