use Rattle.std.proofs.Common.{◌*◌, ◌^◌, refl}
use Rattle.std.proofs.Math.Nat.{mod-add-mod}
use Rattle.ca_make.specs.Draw.{next_state, drawn}
use Rattle.ca_make.proofs.draw.Draws.draw.Goals as goal

pub returns-clause-state : goal.returns-clause-state
unfolding next_state
returns-clause-state c = mod-add-mod (c.args.self.now.state * 6364136223846793005) (2 ^ 64) 1442695040888963407

pub returns-clause-drawn : goal.returns-clause-drawn
unfolding drawn
returns-clause-drawn c = refl
