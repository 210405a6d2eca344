use Rattle.std.proofs.Common.{◌≡◌, ◌<◌, length, subst, sym, ap, ◌∙◌, arith}
use Rattle.ca_net.specs.State.{value_at}
use Rattle.ca_flat.specs.Chip.{count_of}
use Rattle.ca_view.specs.Linked.{place_in}
use Rattle.ca_sweep.proofs.ChangeLemmas.{mark_read}
use Rattle.ca_sweep.specs.Seen.{IsClear, IsSeen, Swept}
use Rattle.ca_sweep.proofs.NoneLemmas.{none_seen}
use Rattle.ca_sweep.proofs.SegmentLemmas.{number_seen, nowhere_seen}
use Rattle.ca_sweep.proofs.sweep.Sweep.see.Goals.{in-Some, in-Some-2, in-None}
use Rattle.ca_sweep.proofs.sweep.Sweep.see.Goals as goal

pub returns-clause-seen : goal.returns-clause-seen
returns-clause-seen c =
    let now = c.args.self.now in
    let kept = c.self.invariant in
    let known : c.args.u < count_of c.self.inside.chip.now.core = subst (λ (s : Swept). c.args.u < count_of s.chip) (sym c.self.view_is) c.requires.known in
    let clear : IsClear c.args.self.now.chip (value_at c.args.self.now.lasts) c.args.u =
    subst (λ (s : Swept). IsClear s.chip (value_at s.lasts) c.args.u) c.self.view_is
    (kept.clear_are.each c.args.u (mark_read c.self.inside.clear.items c.args.u c.index.result.now
    (subst (λ n. c.args.u < n) (sym kept.clear_are.room) known) c.index.ensures c.if-not-index.false)) in
    let outputs : length c.self-2.inside.outputs.items ≡ length c.args.self.now.chip.outputs =
    ap length c.self-2.invariant.outputs_are ∙ ap (λ (s : Swept). length s.chip.outputs) (c.self-2.view_is ∙ c.first_number.ensures.kept) in
    elim c.match-first_number.branch [
      | in-Some w ↦ subst (IsSeen c.args.self.now.chip (value_at c.args.self.now.lasts) c.args.u c.args.flips) (sym w.result-is)
          (number_seen c.args.self.now.chip (place_in c.args.self.now.places) (value_at c.args.self.now.lasts) c.args.u c.args.flips w.in-Some.number clear
          w.in-Some.ensures.swept (let l = w.len.ensures in let t = w.if-number-len.true in omega arith))
      | in-Some-2 w ↦ subst (IsSeen c.args.self.now.chip (value_at c.args.self.now.lasts) c.args.u c.args.flips) (sym w.result-is)
          (nowhere_seen c.args.self.now.chip (place_in c.args.self.now.places) (value_at c.args.self.now.lasts) c.args.u c.args.flips w.in-Some.number clear
          w.in-Some.ensures.swept (let l = w.len.ensures in let t = w.if-number-len.false in omega arith))
      | in-None w ↦ subst (IsSeen c.args.self.now.chip (value_at c.args.self.now.lasts) c.args.u c.args.flips) (sym w.result-is) tt
    ]

pub returns-then-is_none-clause-seen : goal.returns-then-is_none-clause-seen
returns-then-is_none-clause-seen c =
    let kept = c.self.invariant in
    let known : c.args.u < count_of c.self.inside.chip.now.core = subst (λ (s : Swept). c.args.u < count_of s.chip) (sym c.self.view_is) c.requires.known in
    let clear : IsClear c.args.self.now.chip (value_at c.args.self.now.lasts) c.args.u =
    subst (λ (s : Swept). IsClear s.chip (value_at s.lasts) c.args.u) c.self.view_is
    (kept.clear_are.each c.args.u (mark_read c.self.inside.clear.items c.args.u c.index.result.now
    (subst (λ n. c.args.u < n) (sym kept.clear_are.room) known) c.index.ensures c.if-not-index.false)) in
    none_seen c.args.self.now.chip (value_at c.args.self.now.lasts) c.args.u c.args.flips clear (c.is_none.ensures.first c.if-is_none.true) (c.is_none.ensures.second c.if-is_none.true)
