use Rattle.std.proofs.Common.{sym, subst}
use Rattle.std.specs.List.{All}
use Rattle.std.proofs.lemmas.List.Elements.{All-push}
use Rattle.ca_spice.specs.declared.subcircuit.Subcircuit.{Subcircuit}
use Rattle.ca_spice.specs.code.Kept.{IsPlacedCell}
use Rattle.ca_spice.proofs.ReadingLemmas.{names_ended}
use Rattle.ca_spice.proofs.reading.Reading.ends.Goals as goal

pub invariant_of-result-clause-named : goal.invariant_of-result-clause-named
invariant_of-result-clause-named c =
    names_ended c.args.self.names c.args.self.cells.items c.push.new.self.items c.in_ok-cell.cell c.in-Some.cell c.args.self.current c.args.self.named c.in-Some.is
    c.in_ok-cell.ensures.same_name c.in_ok-push.ensures.items

pub invariant_of-result-clause-placed : goal.invariant_of-result-clause-placed
invariant_of-result-clause-placed c =
    subst (All (λ (cell : Subcircuit). IsPlacedCell cell.raw)) (sym c.in_ok-push.ensures.items)
    (All-push (λ (cell : Subcircuit). IsPlacedCell cell.raw) c.args.self.cells.items c.in_ok-cell.cell c.args.self.placed c.in_ok-cell.ensures.placed)
