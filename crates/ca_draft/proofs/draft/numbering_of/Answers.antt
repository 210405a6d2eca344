use Rattle.std.proofs.Common.{◌∙◌, sym, subst, List, ℕ}
use Rattle.ca_wiring.specs.Wiring.{joins_of}
use Rattle.ca_wiring.specs.Joined.{AreEarliest}
use Rattle.ca_draft.specs.code.OnWires.{AreMarks}
use Rattle.ca_draft.proofs.DraftLemmas.{firsts_within, leads_to}
use Rattle.ca_draft.proofs.draft.numbering_of.Goals as goal

pub marks_of-requires-clause-listed : goal.marks_of-requires-clause-listed
marks_of-requires-clause-listed c =
    firsts_within (joins_of c.args.bits c.args.joins.now) c.args.wires c.deref.result.now
    (subst (AreEarliest (joins_of c.args.bits c.args.joins.now) c.args.wires) (sym c.deref.ensures.value) (c.in_ok-earliest.ensures {u = tt}))
    c.args.touched.now c.requires.within

pub number_nets-requires-clause-marks : goal.number_nets-requires-clause-marks
number_nets-requires-clause-marks c =
    leads_to (joins_of c.args.bits c.args.joins.now) c.args.wires c.deref-2.result.now
    (subst (AreEarliest (joins_of c.args.bits c.args.joins.now) c.args.wires) (sym c.deref-2.ensures.value) (c.in_ok-earliest.ensures {u = tt}))
    c.args.touched.now c.deref-3.result.now
    (subst (AreMarks c.deref-2.result.now c.args.touched.now) (sym c.deref-3.ensures.value)
    (subst (λ (l : List ℕ). AreMarks l c.args.touched.now c.in_ok-used.used.items) (c.deref.ensures.value ∙ sym c.deref-2.ensures.value) (c.in_ok-used.ensures {u = tt})))
