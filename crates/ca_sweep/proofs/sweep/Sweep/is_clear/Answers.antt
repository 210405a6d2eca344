use Rattle.std.proofs.Common.{◌<◌, subst, sym}
use Rattle.ca_net.specs.State.{value_at}
use Rattle.ca_flat.specs.Chip.{count_of}
use Rattle.ca_sweep.proofs.ChangeLemmas.{mark_read}
use Rattle.ca_sweep.specs.Seen.{IsClear, Swept}
use Rattle.ca_sweep.proofs.sweep.Sweep.is_clear.Goals as goal

pub returns : goal.returns
returns c is =
    let kept = c.self.invariant in
    let known : c.args.u < count_of c.self.inside.chip.now.core = subst (λ (s : Swept). c.args.u < count_of s.chip) (sym c.self.view_is) c.requires.known in
    subst (λ (s : Swept). IsClear s.chip (value_at s.lasts) c.args.u) c.self.view_is
    (kept.clear_are.each c.args.u (mark_read c.self.inside.clear.items c.args.u c.index.result.now
    (subst (λ n. c.args.u < n) (sym kept.clear_are.room) known) c.index.ensures is))
