use Rattle.std.proofs.Common.{◌≡◌, length}
use Rattle.std.specs.List.{All}
use Rattle.ca_replay.specs.code.Kept.{IsWithin, with_values}
use Rattle.ca_replay.proofs.values.take_values.Given as goal

abbrev pub invariant-nodes : goal.invariant-nodes
invariant-nodes l = record {
  within : All (IsWithin (length l.at)) l.rest;
  room : length l.at ≡ length l.fn.at;
  same : with_values l.from l.rest l.at ≡ with_values l.from l.nodes l.fn.at;
}

abbrev pub decreases-nodes : goal.decreases-nodes
decreases-nodes l = length l.rest
