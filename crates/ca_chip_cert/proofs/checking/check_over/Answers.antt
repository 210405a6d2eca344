use Rattle.std.proofs.Common.{sym, ◌∙◌, ap, subst}
use Rattle.std.specs.Prelude.{Option}
use Rattle.ca_linked.specs.Linked.{LinkedChip}
use Rattle.ca_flat.specs.declared.chip_defect.ChipDefect.{ChipDefect}
use Rattle.ca_view.specs.Core.{core_of}
use Rattle.ca_flatten.specs.Few.{IsFew}
use Rattle.ca_chip_cert.proofs.ViewLemmas.{viewed_networks}
use Rattle.ca_chip_cert.proofs.checking.check_over.Goals as goal

pub check_linked-requires-clause-networks : goal.check_linked-requires-clause-networks
check_linked-requires-clause-networks c =
    viewed_networks c.args.view.now c.viewed.ensures.wired c.viewed.ensures.is_view c.flat_is_well_formed.ensures
    (subst (λ (chip : LinkedChip). (given : Option ChipDefect) → IsFew (core_of chip) given) c.chip.ensures
    (c.in_ok-judge_size.ensures {u = tt}))

pub check_linked-requires-clause-rows : goal.check_linked-requires-clause-rows
check_linked-requires-clause-rows c = ap core_of c.requires.rows ∙ sym c.viewed.ensures.is_view.core_is
