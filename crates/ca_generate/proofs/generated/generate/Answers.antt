use Rattle.std.proofs.Common.{◌≡◌, true, false}
use Rattle.ca_generate.proofs.generated.generate.Goals as goal

pub generate_knowing-requires-clause-untestable : goal.generate_knowing-requires-clause-untestable
generate_knowing-requires-clause-untestable g c = λ place marked. let e : false ≡ true = marked in cc
