use Rattle.ca_lanes.proofs.ScreenableLemmas.{defects_are_screenable_lem}
use Rattle.ca_lanes.proofs.laws.defects_are_screenable.Goals as goal

pub returns : goal.returns
returns c = defects_are_screenable_lem
