use Rattle.std.proofs.Common.{◌+◌, [], ◌∷◌, ◌++◌, sym, refl, ◌∙◌, ap, subst, arith}
use Rattle.ca_wiring.specs.Numbers.{WireMarks, NetNumbers, earliest_of, AreNumbered}
use Rattle.ca_wiring.proofs.NumberLemmas.{numbered_joined, numbered_unused, numbered_net}
use Rattle.ca_wiring.proofs.numbers.NetTable.push_wire.Goals as goal

pub returns-in_ok-push_number : goal.returns-in_ok-push_number
returns-in_ok-push_number c =
    let marks : WireMarks = record { earliest = c.args.earliest.now; used = c.args.used.now } in
    let old : NetNumbers = c.args.self.now in
    subst (AreNumbered marks (c.args.w + 1))
    (sym (c.in_ok-push_number.ensures {u = tt} ∙ ap (λ n. record { nets = old.nets; numbers = old.numbers ++ n ∷ [] }) c.number-number.ensures))
    (numbered_joined marks c.requires.marks c.args.w c.requires.within old c.requires.so_far (earliest_of marks c.args.w) refl c.if-first-w.true)

pub returns-in_ok-push_net : goal.returns-in_ok-push_net
returns-in_ok-push_net c =
    let marks : WireMarks = record { earliest = c.args.earliest.now; used = c.args.used.now } in
    let old : NetNumbers = c.args.self.now in
    let le = c.requires.marks.no_later c.args.w c.requires.within in
    let ge = c.if-first-w.false in
    subst (AreNumbered marks (c.args.w + 1)) (sym (c.in_ok-push_net.ensures {u = tt}))
    (numbered_net marks c.requires.marks c.args.w c.requires.within old c.requires.so_far (omega arith) c.if-used-w.true)

pub returns-in_ok-push_number-2 : goal.returns-in_ok-push_number-2
returns-in_ok-push_number-2 c =
    let marks : WireMarks = record { earliest = c.args.earliest.now; used = c.args.used.now } in
    let old : NetNumbers = c.args.self.now in
    let le = c.requires.marks.no_later c.args.w c.requires.within in
    let ge = c.if-first-w.false in
    subst (AreNumbered marks (c.args.w + 1)) (sym (c.in_ok-push_number-2.ensures {u = tt}))
    (numbered_unused marks c.requires.marks c.args.w c.requires.within old c.requires.so_far 0 (omega arith) (λ used. let unused = c.if-used-w.false in cc))
