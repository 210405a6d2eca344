use Rattle.std.proofs.Common.{◌≡◌, ◌+◌, ◌<◌, ◌^◌, ◌++◌, [], ◌∷◌, List, length, sym, ap, ◌∙◌, subst}
use Rattle.ca_cell.specs.Library.{Named}
use Rattle.ca_cell.specs.code.Entries.{named_entries}
use Rattle.ca_cell.proofs.LibraryLemmas.{added_last, IsKept, kept_grown, named_grown}
use Rattle.ca_cell.proofs.library.Library.insert.Goals as goal

pub invariant_of-self-2 : goal.invariant_of-self-2
invariant_of-self-2 c =
    let old = c.self.inside.entries in
    let grown : c.insert.new.self.entries ≡ old.entries ++ (c.args.key, c.args.entry) ∷ [] =
    c.in_ok-insert.ensures.entries ∙ added_last old c.args.self.now c.args.key c.args.entry c.self.view_is c.requires.fresh in
    let room : length (named_entries old.entries) + 1 < 2 ^ 32 =
    subst (λ (library : List Named). length library + 1 < 2 ^ 32) (sym c.self.view_is) c.requires.room in
    subst IsKept (sym grown) (kept_grown old.entries c.args.key c.args.entry c.self.invariant c.requires.upper c.requires.entry room)

pub returns-clause-ok : goal.returns-clause-ok
returns-clause-ok c =
    let old = c.self.inside.entries in
    let grown : c.insert.new.self.entries ≡ old.entries ++ (c.args.key, c.args.entry) ∷ [] =
    c.in_ok-insert.ensures.entries ∙ added_last old c.args.self.now c.args.key c.args.entry c.self.view_is c.requires.fresh in
    ap named_entries grown ∙ named_grown old.entries c.args.key c.args.entry c.args.self.now c.self.view_is
