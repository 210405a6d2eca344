use Rattle.std.proofs.Common.{sym, subst}
use Rattle.ca_linked.specs.Linked.{LinkedChip, IsWired}
use Rattle.ca_linked.specs.code.Kept.{KeptTables, IsKept}
use Rattle.ca_linked.proofs.ReaderLemmas.{readers_too}
use Rattle.ca_linked.proofs.WiredLemmas.{single_too}
use Rattle.ca_linked.proofs.wiring.chip_of.Goals as goal

pub invariant_of-result : goal.invariant_of-result
invariant_of-result c =
    let found = c.requires.found in
    let tables = c.requires.tables in
    let order = c.args.judged.order in
    let kept_tables : KeptTables = record {
      path = c.args.judged.path;
      drivers = c.args.judged.drivers;
      places = c.args.tables.places.items;
      readers = c.args.tables.readers;
      inputs = c.args.tables.inputs;
      outputs = c.args.tables.outputs;
      gates = c.args.tables.gates;
      scans = c.args.tables.scans;
      used = c.args.tables.used.items;
    } in
    let kept : IsKept (record c.args.draft { order = order }) kept_tables = record {
      wired = c.requires.wired;
      marked = found.path;
      single = single_too c.args.draft c.args.judged.drivers found.single order;
      read = readers_too c.args.draft c.args.tables.readers tables.read order;
      placed = tables.placed;
      are_inputs = tables.are_inputs;
      are_outputs = tables.are_outputs;
      are_gates = tables.are_gates;
      are_scans = tables.are_scans;
      are_used = tables.are_used;
    } in
    subst (λ (d : LinkedChip). IsKept (record d { order = order }) kept_tables) (sym c.draft.view_is) kept

pub returns-clause-wired : goal.returns-clause-wired
returns-clause-wired c =
    subst (λ (d : LinkedChip). IsWired (record d { order = c.args.judged.order })) (sym c.draft.view_is) c.requires.wired
