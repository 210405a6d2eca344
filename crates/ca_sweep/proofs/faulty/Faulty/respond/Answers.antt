use Rattle.std.proofs.Common.{◌<◌, length, subst, sym, ap, ◌∙◌}
use Rattle.std.proofs.lemmas.List.{length-set}
use Rattle.ca_cell.specs.List.{faulty_of}
use Rattle.ca_response.specs.Gives.{Gives}
use Rattle.ca_flat.specs.Chip.{cell_at}
use Rattle.ca_view.specs.Linked.{place_in}
use Rattle.ca_view.specs.Places.{cell_number}
use Rattle.ca_sweep.proofs.FaultyLemmas.{entry_true, kept_more}
use Rattle.ca_sweep.proofs.faulty.Faulty.respond.Goals as goal

pub returns-clause-kept : goal.returns-clause-kept
returns-clause-kept c =
    let core = c.args.chip.now.core in
    let place_of = place_in c.args.chip.now.ranks in
    let number_of = cell_number c.args.chip.now.chip in
    record {
      rooms = c.compute-outputs.ensures.rooms;
      slots = kept_more core place_of number_of c.args.self.now.slots.items c.compute-outputs.new.self.slots.items c.slot_of-slot.result _ c.requires.kept.slots c.compute-outputs.ensures.slots
          (entry_true core place_of number_of c.args.defect.instance _ c.compute-outputs.result.items c.linked.ensures.linked (record { known = c.requires.defect.defect_is.known; placed = c.requires.defect.placed })
          c.number-number.ensures (subst (λ p. Gives (cell_at core c.args.defect.instance) (faulty_of (cell_at core c.args.defect.instance) c.args.defect.defect) p c.compute-outputs.result.items) c.as_slice-3.ensures.value c.compute-outputs.ensures.gives) c.copied.ensures);
      some = subst (λ n. 0 < n) (sym (length-set c.compute-outputs.new.self.slots.items c.slot_of-slot.result _ ∙ ap length c.compute-outputs.ensures.slots)) c.requires.kept.some;
    }
