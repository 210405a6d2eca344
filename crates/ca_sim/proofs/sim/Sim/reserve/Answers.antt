use Rattle.std.proofs.Common.{◌≡◌, ◌<◌, ◌*◌, ◌∙◌, ap, sym, subst, length, replicate}
use Rattle.std.specs.Prelude.{None}
use Rattle.std.proofs.lemmas.List.{length-replicate}
use Rattle.ca_net.specs.declared.trit.Trit.TheVariants.{X}
use Rattle.ca_flat.specs.Pair.{bit_count}
use Rattle.ca_flat.specs.Codes.{unset_pair}
use Rattle.ca_view.specs.Linked.{place_in}
use Rattle.ca_sim.specs.Network.{IsAtRest}
use Rattle.ca_sim.specs.Current.{IsSimulated, none_due}
use Rattle.ca_sim.specs.code.Cells.{AreCellRooms}
use Rattle.ca_sim.specs.code.Cache.{HoldTrue}
use Rattle.ca_sim.specs.declared.cache.Cache.{Cache}
use Rattle.ca_view.specs.Places.{cell_number}
use Rattle.ca_sim.proofs.SimLemmas.{at_rest, copy_at_rest}
use Rattle.ca_sim.proofs.sim.Sim.reserve.Goals as goal

pub invariant_of-result : goal.invariant_of-result
invariant_of-result c =
    let core = c.args.chip.now.core in
    let place_of = place_in c.args.chip.now.ranks in
    let unset : c.in_ok-bits.bits ≡ unset_pair core = c.in_ok-bits.ensures ∙ ap (λ k. replicate (2 * k) X) c.input_count.ensures in
    let loaded : c.in_ok-unknown-2.field-0 ≡ unset_pair core = c.in_ok-unknown-2.ensures ∙ ap (λ k. replicate (2 * k) X) c.input_count-3.ensures in
    let good : IsAtRest core place_of None (unset_pair core) c.settle.new.self =
    at_rest core place_of None (unset_pair core) c.in_ok-good.good c.settle.new.self c.in_ok-good.ensures c.settle.ensures.settled in
    record {
      linked = c.linked.ensures.linked;
      aim_is = tt;
      rest = record {
        bits = ap length unset ∙ length-replicate (bit_count core) X;
        good = subst (λ bits. IsAtRest core place_of None bits c.settle.new.self) (sym unset) good;
        faulty = subst (λ bits. IsAtRest core place_of None bits c.in_ok-faulty.faulty) (sym unset)
            (copy_at_rest core place_of None (unset_pair core) c.settle.new.self c.in_ok-faulty.faulty good c.in_ok-faulty.ensures);
      };
      no_bit = c.in_ok-unknown.ensures ∙ ap (λ k. replicate (2 * k) X) c.input_count-2.ensures;
      unset_are = subst (IsSimulated core None (unset_pair core) none_due) (sym c.in_ok-copy.ensures) good.simulated;
      loaded_are = record {
        count = ap length loaded ∙ length-replicate (bit_count core) X;
        simulated = subst (λ bits. IsSimulated core None bits none_due c.in_ok-copy-2.field-0) (sym loaded)
            (subst (IsSimulated core None (unset_pair core) none_due) (sym c.in_ok-copy-2.ensures) good.simulated);
      };
      rooms = record {
        rooms = subst (AreCellRooms core place_of (cell_number c.args.chip.now.chip)) (sym c.counted_anew.ensures.rooms) c.settle.ensures.cells.rooms;
        slots = subst (λ (cache : Cache). HoldTrue core place_of (cell_number c.args.chip.now.chip) cache.slots.items) (sym c.counted_anew.ensures.cache) c.settle.ensures.cells.slots;
        some = subst (λ (cache : Cache). 0 < length cache.slots.items) (sym c.counted_anew.ensures.cache) c.settle.ensures.cells.some;
      };
    }
