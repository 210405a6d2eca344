use Rattle.std.proofs.Common.{sym, subst}
use Rattle.ca_flat.specs.Chip.{IsChip, IsDefectIn}
use Rattle.ca_flat.specs.Rows.{ListsExposingRows}
use Rattle.ca_view.specs.Linked.{place_in}
use Rattle.ca_examiner.specs.ChipExaminer.{AreNetworks}
use Rattle.ca_examiner.proofs.DetectLemmas.{none_shows}
use Rattle.ca_examiner.proofs.detect.may_show.Goals as goal

pub returns : goal.returns
returns g c denied shown =
    let rank = place_in c.args.chip.now.ranks in
    none_shows (g.V.NetWaves.seen c.args.waves.now) rank c.args.defect
    (subst (λ x. IsChip x rank) (sym c.requires.same) c.linked.ensures.linked.is_chip)
    (subst (λ x. IsDefectIn x c.args.defect) (sym c.requires.same) c.requires.defect.defect_is)
    (subst AreNetworks (sym c.requires.same) c.requires.networks) c.exact.ensures c.args.rows.now
    (subst (λ x. ListsExposingRows x c.args.defect c.args.rows.now) (sym c.requires.same) c.requires.rows)
    (c.is_some_row_allowed.ensures.none denied) shown
