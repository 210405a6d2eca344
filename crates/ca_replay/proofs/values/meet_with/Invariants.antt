use Rattle.std.proofs.Common.{◌≡◌, length}
use Rattle.std.specs.List.{All}
use Rattle.ca_replay.specs.code.Kept.{IsWithin, met_with}
use Rattle.ca_replay.proofs.values.meet_with.Given as goal

abbrev pub invariant-nodes : goal.invariant-nodes
invariant-nodes l = record {
  within : All (IsWithin (length l.at)) l.rest;
  room : length l.at ≡ length l.fn.at;
  same : met_with l.from l.rest l.at ≡ met_with l.from l.nodes l.fn.at;
}

abbrev pub decreases-nodes : goal.decreases-nodes
decreases-nodes l = length l.rest
