use Rattle.std.proofs.Common.{length}
use Rattle.ca_places.specs.PlaceSet.{HoldsUpTo}
use Rattle.ca_cert.specs.code.Asked.{AreAsked}
use Rattle.ca_cert.proofs.asked.asked_places.Given as goal

abbrev pub invariant-loop-place : goal.invariant-loop-place
invariant-loop-place l = record {
  asked : AreAsked l.claims l.place l.set;
  room : HoldsUpTo l.set (length l.claims);
}
