use Rattle.std.proofs.Common.{subst, arith}
use Rattle.std.specs.Prelude.{Option}
use Rattle.ca_flat.specs.declared.chip_defect.ChipDefect.{ChipDefect}
use Rattle.ca_flat.specs.Chip.{IsDefectIn, IsChipDefect}
use Rattle.ca_view.specs.Core.{core_of}
use Rattle.ca_flatten.proofs.SizeLemmas.{core_count, inner_fits}
use Rattle.ca_flatten.proofs.devices.bridge_of.Goals as goal

pub overflow_add-inner : goal.overflow_add-inner
overflow_add-inner c =
    let chip = c.args.chip.now in
    let fits : IsDefectIn (core_of chip) c.in-Some.given = subst (λ (o : Option ChipDefect). IsChipDefect (core_of chip) o) c.in-Some.is c.requires.defect in
    let known = fits.known in
    let count = core_count chip in
    let few = inner_fits chip c.args.defect c.requires.few c.in-Some.given.instance (omega arith) in
    let first = c.requires.first in
    let inner = c.inner_before.ensures in
    omega arith
