use Rattle.std.proofs.Common.{◌≡◌, ℕ, Some, sym, subst, Option}
use Rattle.ca_cluster.specs.code.Marks.{Spreads}
use Rattle.ca_cluster.proofs.SpreadLemmas.{one_spread, spread_none, none_given}
use Rattle.ca_cluster.proofs.marks.mark_if.Goals as goal

pub returns-in-Some : goal.returns-in-Some
returns-in-Some c =
    subst (λ (o : Option ℕ). Spreads (λ x. o ≡ Some x) c.args.marks.now c.mark.new.self) (sym c.in-Some.is)
    (one_spread c.in-Some.u c.args.marks.now c.mark.new.self (c.requires c.in-Some.u c.in-Some.is) c.mark.ensures)

pub returns-in-None : goal.returns-in-None
returns-in-None c = spread_none (λ x. c.args.u ≡ Some x) c.args.marks.now (λ x e. none_given c.args.u x c.in-None.is e)
