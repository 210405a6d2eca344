use Rattle.std.proofs.Common.{◌≡◌, length}
use Rattle.std.specs.List.{All}
use Rattle.ca_net.specs.Circuit.{HasSize, HasStrength, GateIsDrain}
use Rattle.ca_replay_tests.proofs.networks.network.Given as goal

abbrev pub invariant-loop-place : goal.invariant-loop-place
invariant-loop-place l = record {
  sizes : All HasSize l.nodes;
  count : length l.nodes ≡ l.place-index;
}

abbrev pub invariant-loop-part : goal.invariant-loop-part
invariant-loop-part l = record {
  strengths : All HasStrength l.devices;
  gates : All GateIsDrain l.devices;
  count : length l.devices ≡ l.part-index;
}
