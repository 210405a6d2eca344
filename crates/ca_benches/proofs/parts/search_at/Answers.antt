use Rattle.std.proofs.Common.{◌∙◌, None, map, sym, subst}
use Rattle.std.specs.Prelude.{IfOk}
use Rattle.ca_flat.specs.Chip.{Chip}
use Rattle.ca_credit.specs.Defects.{Task}
use Rattle.ca_generate.specs.Outcome.{IsSearchEnd}
use Rattle.ca_benches.specs.Benches.{no_chip, no_task, task_at}
use Rattle.ca_benches.specs.code.Parts.{aimed_in_at}
use Rattle.ca_benches.proofs.ListLemmas.{map_same, at_read}
use Rattle.ca_benches.proofs.parts.search_at.Goals as goal

pub returns-clause-searched : goal.returns-clause-searched
returns-clause-searched g c defect aimed =
    let parts = c.args.parts.now.items in
    let part = c.args.part in
    let bench = c.index_mut.result.now in
    let is = c.index_mut.ensures.value in
    let within = c.requires in
    let chip = aimed_in_at (map g.B.Simulator.aimed_in parts) part in
    subst (λ (own : Task). IfOk c.find.result (IsSearchEnd chip own.budget defect)) (sym (at_read g.B.Simulator.task parts part bench no_task within is))
    (subst (λ (own : Chip). IfOk c.find.result (IsSearchEnd own (g.B.Simulator.task bench).budget defect))
    (sym (at_read g.B.Simulator.aimed_in parts part bench no_chip within is))
    (c.find.ensures.searched defect (sym (at_read g.B.Simulator.aimed parts part bench None within is) ∙ aimed)))

pub returns-clause-tasks : goal.returns-clause-tasks
returns-clause-tasks g c =
    map_same g.B.Simulator.task c.args.parts.now.items c.args.part c.index_mut.result.now c.find.new.self c.index_mut.ensures.value c.find.ensures.task
