use Rattle.std.proofs.Common.{◌∙◌, sym, ap}
use Rattle.ca_cell.specs.Library.{entry_of}
use Rattle.ca_cell.proofs.LibraryLemmas.{entry_of-named, entry_kept, name_in_upper_case}
use Rattle.ca_cell.proofs.library.Library.find.Goals as goal

pub returns-clause-found : goal.returns-clause-found
returns-clause-found c =
    c.get.ensures.value ∙ sym (entry_of-named c.self.inside.entries.entries c.args.name.now)
    ∙ ap (λ library. entry_of library c.args.name.now) c.self.view_is

pub returns-clause-upper : goal.returns-clause-upper
returns-clause-upper c =
    name_in_upper_case c.self.inside.entries.entries c.args.name.now c.get.result c.self.invariant.0 c.get.ensures.value

pub returns-clause-entry : goal.returns-clause-entry
returns-clause-entry c =
    entry_kept c.self.inside.entries.entries c.args.name.now c.get.result c.self.invariant.1 c.get.ensures.value
