use Rattle.std.proofs.Common.{◌<◌, get_or, rules, subst, sym, ◌∙◌}
use Rattle.std.specs.List.{Contains}
use Rattle.std.proofs.lemmas.List.Elements.{Contains-get_or}
use Rattle.ca_net.specs.State.{value_at}
use Rattle.ca_sweep.specs.Seen.{IsClear}
use Rattle.ca_sweep.specs.code.Firsts.{AreFirsts}
use Rattle.ca_sweep.proofs.ClearLemmas.{marks_new}
use Rattle.ca_sweep.proofs.sweep.Sweep.reserve.Goals as goal

pub firsts_of-requires : goal.firsts_of-requires
firsts_of-requires c = λ k d less.
    let are = c.deref.ensures.value ∙ c.requires.outputs in
    subst (λ n. get_or c.deref.result.now k d < n) (sym c.nets.ensures)
    (c.linked.ensures.linked.is_chip.observed (get_or c.deref.result.now k d)
    (subst (λ list. Contains list (get_or c.deref.result.now k d)) are (Contains-get_or c.deref.result.now k d less)))

pub invariant_of-result : goal.invariant_of-result
invariant_of-result c = record {
  outputs_are = c.requires.outputs;
  few = c.requires.few;
  firsts_are = subst (λ n. AreFirsts c.args.outputs.items n c.in_ok-firsts.firsts.items) c.nets.ensures
      (subst (λ list. AreFirsts list c.nets.result c.in_ok-firsts.firsts.items) c.deref.ensures.value c.in_ok-firsts.ensures);
  tables_are = c.in_ok-tables.ensures;
  all_static = c.are_all_static-is_static.ensures;
  order_is = c.in_ok-order_of.ensures;
  pinned_are = c.in_ok-pinned_nets.ensures.marked;
  pinned_room = c.in_ok-pinned_nets.ensures.room;
  nets = search rules;
  clear_are = marks_new c.args.chip.now.core (IsClear c.args.chip.now.core (value_at c.in_ok-unknown.field-0)) c.in_ok-vec.field-0.items c.instances.result
      c.instances.ensures (c.in_ok-vec.ensures.items_if_clones_equal (λ y same. same));
  passing_are = search rules;
  values_are = search rules;
  segments_are = c.in_ok-reserve-2.ensures _ _ _ (sym c.instances-3.ensures);
}
