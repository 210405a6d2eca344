use Rattle.std.proofs.Common.{◌≡◌, ◌<◌, get_or, rules, subst, sym, ap, length, true, false}
use Rattle.std.specs.List.{Contains}
use Rattle.std.proofs.lemmas.List.Elements.{Contains-get_or}
use Rattle.ca_sweep.specs.code.Firsts.{AreFirsts}
use Rattle.ca_sweep.proofs.lane_sweep.LaneSweep.reserve.Goals as goal

pub firsts_of-requires : goal.firsts_of-requires
firsts_of-requires c = λ k d less.
    subst (λ n. get_or c.args.outputs.now k d < n) (sym c.nets.ensures)
    (c.linked.ensures.linked.is_chip.observed (get_or c.args.outputs.now k d)
    (subst (λ list. Contains list (get_or c.args.outputs.now k d)) c.requires (Contains-get_or c.args.outputs.now k d less)))

pub invariant_of-result : goal.invariant_of-result
invariant_of-result c = record {
  count_is = ap length c.requires;
  firsts_are = subst (λ n. AreFirsts c.args.chip.now.core.outputs n c.in_ok-firsts.firsts.items) c.nets.ensures
      (subst (λ list. AreFirsts list c.nets.result c.in_ok-firsts.firsts.items) c.requires c.in_ok-firsts.ensures);
  tables_are = c.in_ok-tables.ensures;
  all_static = c.are_all_static-is_static.ensures;
  order_is = c.in_ok-order_of.ensures;
  pinned_are = c.in_ok-pinned_nets.ensures.marked;
  pinned_room = c.in_ok-pinned_nets.ensures.room;
  wanted_room = search rules;
  nets = search rules;
  roomy = record { nets = search rules; places = search rules };
  none = c.in_ok-reserve.ensures.none;
  masks_are = search rules;
  room = search rules;
  static_found = λ on. let e : false ≡ true = on in absurd cc;
  found = λ on. let e : false ≡ true = on in absurd cc;
}
