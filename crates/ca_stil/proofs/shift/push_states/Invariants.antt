use Rattle.std.proofs.Common.{◌≡◌, ◌++◌, length}
use Rattle.std.specs.List.{All}
use Rattle.ca_stil.specs.Chip.{part, IsWithin}
use Rattle.ca_stil.specs.Pair.{states_text}
use Rattle.ca_stil.proofs.shift.push_states.Given as goal

abbrev pub invariant-chains : goal.invariant-chains
invariant-chains g l = record {
  within : All (IsWithin l.count) l.rest;
  written : l.text ++ states_text l.most (part l.from l.count (g.P.PatternBits.bits l.pair)) l.rest
      ≡ l.fn.text ++ states_text l.most (part l.from l.count (g.P.PatternBits.bits l.pair)) l.chains;
}

abbrev pub decreases-chains : goal.decreases-chains
decreases-chains g l = length l.rest
