use Rattle.std.proofs.Common.{◌<◌, sym, ◌∙◌, subst}
use Rattle.ca_linked.specs.code.Drivers.{AreNoted, IsSeen, after_constant}
use Rattle.ca_linked.proofs.DriverLemmas.{constant_seen, constant_passed, constant_within}
use Rattle.ca_linked.proofs.drivers.Drivers.note_constant.Goals as goal

pub note-requires : goal.note-requires
note-requires c =
    subst (λ count. c.in-Some.net < count) (sym c.requires.so_far.count)
    (constant_within c.args.draft.now c.args.value c.in-Some.net c.requires.drafted (sym c.constant_net.ensures ∙ c.in-Some.is))

pub returns-in-Some : goal.returns-in-Some
returns-in-Some c =
    let is = sym c.constant_net.ensures ∙ c.in-Some.is in
    subst (AreNoted c.args.draft.now (IsSeen (after_constant c.args.value))) (sym c.note.ensures)
    (constant_seen c.args.draft.now c.args.self.now c.args.value c.in-Some.net is
    (constant_within c.args.draft.now c.args.value c.in-Some.net c.requires.drafted is) c.requires.so_far)

pub returns-in_default : goal.returns-in_default
returns-in_default c = constant_passed c.args.draft.now c.args.self.now c.args.value (sym c.constant_net.ensures ∙ c.in_default.is) c.requires.so_far
