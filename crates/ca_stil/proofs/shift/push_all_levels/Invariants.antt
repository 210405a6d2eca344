use Rattle.std.proofs.Common.{◌≡◌, ◌++◌, length}
use Rattle.std.specs.List.{All}
use Rattle.ca_stil.specs.Chip.{part, IsWithin}
use Rattle.ca_stil.specs.Pair.{all_levels_text}
use Rattle.ca_stil.proofs.shift.push_all_levels.Given as goal

abbrev pub invariant-chains : goal.invariant-chains
invariant-chains g l = record {
  within : All (IsWithin l.count) l.rest;
  written : l.text ++ all_levels_text l.most (part l.from l.count (g.E.ExpectedValues.values l.expected)) l.rest
      ≡ l.fn.text ++ all_levels_text l.most (part l.from l.count (g.E.ExpectedValues.values l.expected)) l.chains;
}

abbrev pub decreases-chains : goal.decreases-chains
decreases-chains g l = length l.rest
