use Rattle.std.proofs.Common.{◌<◌, ◌+◌, length, subst, sym, ap, ◌∙◌}
use Rattle.std.specs.List.{All}
use Rattle.ca_flat.specs.Chip.{cell_at}
use Rattle.ca_view.specs.Linked.{place_in}
use Rattle.ca_view.specs.Places.{cell_number}
use Rattle.ca_sweep.specs.declared.faulty.Entry.{Entry}
use Rattle.std.specs.Prelude.{List, Option}
use Rattle.ca_sweep.specs.code.Faulty.{HoldsTrue}
use Rattle.ca_sweep.specs.code.Rows.{code_of_lasts}
use Rattle.ca_sweep.proofs.RowLemmas.{codes_more}
use Rattle.ca_sweep.proofs.rows.codes_of.Goals as goal

pub loop-place-preserved : goal.loop-place-preserved
loop-place-preserved c =
    let core = c.args.chip.now.core in
    let was = c.loop-place.invariant in
    record {
      count = c.push.ensures.len ∙ ap (λ n. n + 1) was.count;
      codes = codes_more (cell_at core c.args.u) c.args.pins.now c.loop-place.codes.items c.push.new.self.items c.code_of_lasts.result c.loop-place.place
          c.args.list.now c.get.result c.compute-outputs.result.items was.count c.push.ensures.items c.requires.list.is c.get.ensures
          c.compute-outputs.ensures.gives (c.code_of_lasts.ensures ∙ ap code_of_lasts c.as_slice.ensures.value) was.codes;
      faulty = record {
        rooms = c.compute-outputs.ensures.rooms;
        slots = subst (All (HoldsTrue core (place_in c.args.chip.now.ranks) (cell_number c.args.chip.now.chip))) (sym c.compute-outputs.ensures.slots) was.faulty.slots;
        some = subst (λ (list : List (Option Entry)). 0 < length list) (sym c.compute-outputs.ensures.slots) was.faulty.some;
      };
    }
