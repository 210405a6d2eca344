use Rattle.std.proofs.Common.{◌≡◌, ◌∙◌, ◌++◌, ◌∷◌, [], List, sym, ap, subst, ℕ}
use Rattle.std.specs.List.{All}
use Rattle.std.proofs.lemmas.List.Elements.{All-push}
use Rattle.ca_spice.specs.code.SpiceFault.{kind_reported}
use Rattle.ca_spice.specs.code.Names.{texts}
use Rattle.ca_spice.specs.code.Kept.{IsUpper, names_of}
use Rattle.ca_spice.specs.code.Views.{cell_seen, reading_seen}
use Rattle.ca_spice.proofs.ReadingLemmas.{outside_names, named-new, named-fault, handed_on}
use Rattle.ca_spice.proofs.reading.Reading.named.Goals as goal

pub invariant_of-result-clause-named : goal.invariant_of-result-clause-named
invariant_of-result-clause-named c =
    let self = c.args.self in
    let names : self.names ≡ names_of self.cells.items = outside_names self.names self.cells.items self.current self.named c.requires.outside in
    c.in_ok-cell.ensures.names ∙ ap (λ (all : List (List ℕ)). all ++ c.args.name.now ∷ []) names
    ∙ ap (λ (last : List ℕ). names_of self.cells.items ++ last ∷ []) (sym c.in_ok-cell.ensures.same_name)

pub returns-in_err-cell : goal.returns-in_err-cell
returns-in_err-cell c =
    let self = c.args.self in
    let names : self.names ≡ names_of self.cells.items = outside_names self.names self.cells.items self.current self.named c.requires.outside in
    handed_on reading_seen c.from_residual.result c.in_err-cell.field-0.0 _ c.from_residual.ensures.1
    (named-fault c.args.line c.args.name.now (texts c.args.pins.now) self.names (reading_seen self) (kind_reported c.in_err-cell.field-0.0) names c.in_err-cell.ensures.read)

pub invariant_of-result-clause-upper : goal.invariant_of-result-clause-upper
invariant_of-result-clause-upper c =
    let self = c.args.self in
    subst (All IsUpper) (sym c.in_ok-cell.ensures.names)
    (All-push IsUpper self.names c.args.name.now self.upper c.requires.upper)

pub returns : goal.returns
returns c =
    let self = c.args.self in
    let names : self.names ≡ names_of self.cells.items = outside_names self.names self.cells.items self.current self.named c.requires.outside in
    named-new c.args.line c.args.name.now (texts c.args.pins.now) self.names (reading_seen self) (cell_seen c.in_ok-cell.cell) names c.in_ok-cell.ensures.read
