use Rattle.ca_merge.proofs.SizeLemmas.{small_is_raw}
use Rattle.ca_merge.proofs.cell.small_cell.Goals as goal

pub check-requires : goal.check-requires
check-requires c =
    small_is_raw c.args.of.now.chip.now c.args.of.now.members.now c.args.of.now.nets.now c.in_ok-raw.raw c.wired.ensures c.requires.seated c.requires.few (c.in_ok-raw.ensures {u = tt})
