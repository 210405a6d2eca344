use Rattle.std.proofs.Common.{length, ◌∙◌, ap, subst}
use Rattle.std.specs.Prelude.{IsTrue, ◌↔◌}
use Rattle.std.specs.List.{Any}
use Rattle.ca_view.specs.Linked.{place_in}
use Rattle.ca_examiner.specs.code.Marks.{IsMarked}
use Rattle.ca_examiner.specs.code.Sweep.{AreReached}
use Rattle.ca_examiner.proofs.LeaveLemmas.{reaches_is, marks_within}
use Rattle.ca_examiner.proofs.leave.has_open_chain.Goals as goal

pub is_some_marked-requires : goal.is_some_marked-requires
is_some_marked-requires g c =
    marks_within c.args.chip.now.core (place_in c.args.chip.now.ranks) c.args.outputs.now c.deref-2.result.now
    c.linked.ensures.linked.is_chip c.requires.outputs (ap length c.deref-2.ensures.value ∙ c.mark_onward.ensures.size)

pub returns-clause-chain : goal.returns-clause-chain
returns-clause-chain g c =
    reaches_is c.args.chip.now.core c.mark_open.new.marks.items c.mark_onward.new.marks.items c.args.u c.args.outputs.now
    c.is_some_marked.result c.requires.outputs
    (subst (λ o. AreReached c.args.chip.now.core o c.args.u c.mark_onward.new.marks.items) c.deref.ensures.value c.mark_onward.ensures)
    (subst (λ m. IsTrue c.is_some_marked.result ↔ Any (IsMarked m) c.args.outputs.now) c.deref-2.ensures.value c.is_some_marked.ensures)
