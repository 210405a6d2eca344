use Rattle.std.proofs.Common.{rules, ◌≡◌, true, subst}
use Rattle.ca_sweep.specs.Tables.{is_marked}
use Rattle.ca_every_vector.proofs.LaneTriedLemmas.{fixed_same, unmarked}
use Rattle.ca_every_vector.proofs.wanted.reserve.Goals as goal

pub returns : goal.returns
returns c =
    let chip = c.args.chip.now.core in
    record {
      masks_room = search rules;
      tried_are = record {
        room = search rules;
        each = λ u marked. absurd (unmarked _ u (subst (λ list. is_marked list u ≡ true) (c.in_ok-vec-2.ensures.items_if_clones_equal (λ y same. same)) marked));
      };
      fixed_are = c.in_ok-fixed_lanes.ensures;
      nodes = c.in_ok-fixed_lanes-2.ensures.nodes;
      other_nodes = c.in_ok-fixed_lanes-3.ensures.nodes;
      values_are = fixed_same chip c.in_ok-fixed_lanes-2.field-0 c.in_ok-fixed_lanes.field-0 c.in_ok-fixed_lanes-2.ensures c.in_ok-fixed_lanes.ensures;
      others_are = fixed_same chip c.in_ok-fixed_lanes-3.field-0 c.in_ok-fixed_lanes.field-0 c.in_ok-fixed_lanes-3.ensures c.in_ok-fixed_lanes.ensures;
      room = search rules;
    }
