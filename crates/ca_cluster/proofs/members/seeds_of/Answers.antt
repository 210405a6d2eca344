use Rattle.std.proofs.Common.{◌∙◌, length, arith, ap, false}
use Rattle.std.proofs.lemmas.List.{length-replicate}
use Rattle.ca_linked.specs.Paths.{mark_at}
use Rattle.ca_view.proofs.PartFacts.{library_known}
use Rattle.ca_cluster.proofs.MarkLemmas.{unmarked}
use Rattle.ca_cluster.proofs.MemberLemmas.{member_known, seeds_are}
use Rattle.ca_cluster.proofs.members.seeds_of.Goals as goal

pub end_member-requires-clause-within : goal.end_member-requires-clause-within
end_member-requires-clause-within c = let o = c.requires.is_bridge.ordered in let w = c.requires.is_bridge.within in omega arith

pub mark_if-requires : goal.mark_if-requires
mark_if-requires c = λ x e.
    let lt = member_known c.args.chip.now c.args.bridge.instance.0 c.args.bridge.m.0 x (library_known c.args.chip.now c.args.bridge.instance.0 c.requires.library) ((c.end_member.ensures x).0 e) in
    let room = ap (λ ms. length ms) (c.in_ok-at.ensures {u = tt}) ∙ length-replicate c.parts.result false ∙ c.parts.ensures in
    omega arith

pub mark_if-requires-2 : goal.mark_if-requires-2
mark_if-requires-2 c = λ x e.
    let lt = member_known c.args.chip.now c.args.bridge.instance.0 c.args.bridge.n.0 x (library_known c.args.chip.now c.args.bridge.instance.0 c.requires.library) ((c.end_member-2.ensures x).0 e) in
    let room = ap (λ ms. length ms) (c.in_ok-at.ensures {u = tt}) ∙ length-replicate c.parts.result false ∙ c.parts.ensures in
    let one = c.mark_if.ensures.room in
    omega arith

pub returns-clause-room : goal.returns-clause-room
returns-clause-room c =
    c.mark_if-2.ensures.room ∙ c.mark_if.ensures.room ∙ ap (λ ms. length ms) (c.in_ok-at.ensures {u = tt}) ∙ length-replicate c.parts.result false ∙ c.parts.ensures

pub returns-clause-seeds : goal.returns-clause-seeds
returns-clause-seeds c =
    seeds_are c.args.chip.now c.args.bridge c.end_member.result c.end_member-2.result c.in_ok-at.at c.mark_if.new.marks c.mark_if-2.new.marks
    (λ x. ap (λ ms. mark_at ms x) (c.in_ok-at.ensures {u = tt}) ∙ unmarked c.parts.result x)
    c.end_member.ensures c.end_member-2.ensures c.mark_if.ensures c.mark_if-2.ensures
