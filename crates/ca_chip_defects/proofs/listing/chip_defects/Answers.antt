use Rattle.std.proofs.Common.{◌≡◌, ◌∙◌, sym, ap, subst, arith, List}
use Rattle.std.specs.List.{All}
use Rattle.std.proofs.lemmas.List.Elements.{All-nil}
use Rattle.ca_flat.specs.declared.chip_defect.ChipDefect.{ChipDefect}
use Rattle.ca_view.specs.Linked.{IsPlacedDefect, place_in}
use Rattle.ca_linked.specs.Instances.{gates_of}
use Rattle.ca_flat.specs.Chip.{Chip, count_of}
use Rattle.ca_chip_defects.specs.ChipDefects.{chip_defects}
use Rattle.ca_chip_defects.specs.code.ChipDefects.{placed_before, placed_instances}
use Rattle.ca_chip_defects.proofs.PlacedLemmas.{placed_are_gates}
use Rattle.ca_chip_defects.proofs.ListingLemmas.{none_before, instance_adds}
use Rattle.ca_chip_defects.proofs.listing.chip_defects.Goals as goal

pub loop-u-init : goal.loop-u-init
loop-u-init c =
    let chip = c.args.view.now.core in
    let places = c.args.view.now.ranks in (
      c.new-list.ensures ∙ sym (none_before chip places),
      subst (λ (list : List ChipDefect). All (IsPlacedDefect chip (place_in places)) list)
          (sym c.new-list.ensures) (All-nil (IsPlacedDefect chip (place_in places))),
    )

pub loop-u-preserved : goal.loop-u-preserved
loop-u-preserved c = (
  instance_adds c.args.view.now.core c.args.view.now.ranks c.loop-u.u c.loop-u.list
      c.add_instance.new.list c.loop-u.invariant.0 c.in_ok-add_instance.ensures.more,
  c.in_ok-add_instance.ensures.placed,
)

pub returns-clause-exact : goal.returns-clause-exact
returns-clause-exact c =
    let chip = c.args.view.now.chip in
    let core = c.args.view.now.core in
    let ranks = c.args.view.now.ranks in
    let count : c.loop-u.u ≡ count_of core =
    omega (arith, c.loop-u-test.false, c.loop-u.auto.u-end, c.instances-u-end.ensures) in
    c.loop-u.invariant.0 ∙ ap (λ n. chip_defects core (placed_before ranks n)) count
    ∙ ap (chip_defects core) (subst (λ (one : Chip). placed_instances one ranks ≡ gates_of chip)
    (sym c.viewed.ensures.is_view.core_is) (placed_are_gates chip ranks c.viewed.ensures.is_view.ranked))
