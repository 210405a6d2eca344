use Rattle.std.proofs.Common.{◌^◌, length, drop, sym, ◌∙◌, subst}
use Rattle.ca_view.specs.Linked.{place_in}
use Rattle.ca_every_vector.specs.code.Masks.{HaveFirsts}
use Rattle.ca_every_vector.proofs.TableLemmas.{taken}
use Rattle.ca_every_vector.proofs.every_vector.first_masks.Goals as goal

pub returns : goal.returns
returns c =
    let chip = c.args.chip.now.core in
    subst (HaveFirsts c.args.chip.now.core (place_in c.args.chip.now.ranks) (2 ^ length c.args.chip.now.core.inputs))
    (sym (taken c.in_ok-masks.masks.len c.find_firsts.new.masks (drop (length c.find_firsts.new.masks) c.in_ok-masks.masks.items)
    (c.find_firsts.ensures.room ∙ sym c.instances.ensures ∙ sym c.in_ok-masks.ensures.len)))
    c.find_firsts.ensures.firsts
