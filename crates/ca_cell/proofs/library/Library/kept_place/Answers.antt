use Rattle.std.proofs.Common.{◌≡◌, sym, ◌∙◌, ap}
use Rattle.std.specs.Prelude.{Some}
use Rattle.ca_cell.specs.Library.{entry_of}
use Rattle.ca_cell.proofs.LibraryLemmas.{entry_of-named, place_found, name_in_upper_case}
use Rattle.ca_cell.proofs.library.Library.kept_place.Goals as goal

pub returns-in-Some-clause-some : goal.returns-in-Some-clause-some
returns-in-Some-clause-some c =
    let found : entry_of c.args.self.now c.args.name.now ≡ Some c.in-Some.field-0-2.now =
    sym (ap (λ library. entry_of library c.args.name.now) c.self.view_is)
    ∙ entry_of-named c.self.inside.entries.entries c.args.name.now ∙ sym c.in-Some.ensures.value in
    place_found c.self.inside.entries.entries c.args.self.now c.args.name.now c.in-Some.place
    c.in-Some.field-0-1.now c.in-Some.field-0-2.now c.self.view_is c.in-Some.ensures.entry found

pub returns-in-Some-clause-upper : goal.returns-in-Some-clause-upper
returns-in-Some-clause-upper c =
    name_in_upper_case c.self.inside.entries.entries c.args.name.now (Some c.in-Some.field-0-2) c.self.invariant.0
    c.in-Some.ensures.value
