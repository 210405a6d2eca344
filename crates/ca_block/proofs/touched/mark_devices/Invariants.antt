use Rattle.ca_block.specs.code.Touched.{AreDevicesMarked, StayMarked}
use Rattle.ca_block.proofs.touched.mark_devices.Given as goal

abbrev pub invariant-loop-i : goal.invariant-loop-i
invariant-loop-i l = record {
  devices : AreDevicesMarked l.i l.devices l.homes l.changed l.marks;
  kept : StayMarked l.fn.marks l.marks;
}
