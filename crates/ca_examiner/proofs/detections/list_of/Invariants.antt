use Rattle.std.proofs.Common.{◌≡◌, take}
use Rattle.ca_examiner.proofs.detections.list_of.Given as goal

abbrev pub invariant-loop-defect : goal.invariant-loop-defect
invariant-loop-defect l = l.list ≡ take l.defect-index l.defects
