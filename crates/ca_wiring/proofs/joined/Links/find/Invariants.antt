use Rattle.std.proofs.Common.{◌<◌, length}
use Rattle.ca_wiring.specs.code.Forest.{HaveOneRoot, Shortens}
use Rattle.ca_wiring.proofs.joined.Links.find.Given as goal

abbrev pub invariant-steps : goal.invariant-steps
invariant-steps l = record {
  shortens : Shortens l.fn.self l.self;
  one : HaveOneRoot l.self l.w l.at;
  within : l.at < length l.self;
}

abbrev pub decreases-steps : goal.decreases-steps
decreases-steps l = l.at
