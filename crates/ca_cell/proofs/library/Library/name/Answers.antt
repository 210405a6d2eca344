use Rattle.std.proofs.Common.{ℕ, List, take, sym, subst}
use Rattle.std.specs.Prelude.{IsNone}
use Rattle.ca_cell.specs.Library.{Named, entry_of}
use Rattle.ca_cell.proofs.CopyLemmas.{new_at}
use Rattle.ca_cell.proofs.library.Library.name.Goals as goal

pub returns-clause-new : goal.returns-clause-new
returns-clause-new c =
    subst (λ (name : List ℕ). IsNone (entry_of (take c.args.place c.args.self.now) name)) (sym c.deref.ensures.value)
    (subst (λ (library : List Named). IsNone (entry_of (take c.args.place library) c.in-Some.name.now.items)) c.self.view_is
    (new_at c.self.inside.entries.entries c.args.place (c.in-Some.name.now, c.in-Some.field-0-1.now) c.len.ensures.unique (sym c.in-Some.ensures.entry)))
