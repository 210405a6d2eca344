-- Words of the code beside those of `specs/Allowed.antt`. Private functions and proofs cite them.
use Rattle.std.specs.Prelude.{◌≡◌}
use Rattle.ca_net.specs.declared.trit.Trit.{Trit}
use Rattle.ca_net.specs.declared.node.NodeKind.{NodeKind}
use Rattle.ca_net.specs.declared.node.NodeKind.TheVariants.{Input}
use Rattle.ca_net.specs.declared.trit.Trit.TheVariants.{X}

-- a node of this kind with these values in the two vectors may be set: it is an input node that doesn't have
-- one value of 0 and 1 in both
abbrev pub IsFree : NodeKind → Trit → Trit → Type 0
IsFree kind first last = (kind ≡ Input) × (first ≡ last → first ≡ X)
