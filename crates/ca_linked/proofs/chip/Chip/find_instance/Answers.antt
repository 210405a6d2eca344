use Rattle.std.proofs.Common.{subst, sym, ap, true≢false, arith}
use Rattle.std.specs.Prelude.{length}
use Rattle.ca_linked.specs.Linked.{LinkedChip, IsWired}
use Rattle.ca_linked.proofs.CellLemmas.{none_named, none_more}
use Rattle.ca_linked.proofs.chip.Chip.find_instance.Goals as goal

pub loop-k-preserved : goal.loop-k-preserved
loop-k-preserved c =
    none_more c.args.self.now (subst IsWired c.self.view_is c.self.invariant.wired) c.args.name.now c.loop-k.k c.loop-k.invariant
    (λ u at found. true≢false (sym (c.if-is_named.ensures.other u at found)))

pub returns-clause-none : goal.returns-clause-none
returns-clause-none c = λ u found.
    none_named c.args.self.now (subst IsWired c.self.view_is c.self.invariant.wired) c.args.name.now
    (λ j w lt at named. c.loop-k.invariant j w (let e = c.len-k-end.ensures in let o = ap (λ (chip : LinkedChip). length chip.order) c.self.view_is in omega (arith, e, o, c.loop-k-test.false, lt)) at named) u found
