-- To each node some definite path is not blocked.
use Rattle.std.proofs.Common.{ℕ, ◌<◌, List, length, arith}
use Rattle.ca_net.specs.declared.trit.Trit.{Trit}
use Rattle.ca_net.specs.Circuit.{Circuit}
use Rattle.ca_net.specs.Path.{Root}
use Rattle.ca_net.specs.Response.{HasUnblocked}
use Rattle.ca_net.specs.Laws.{SomePathIsUnblocked}
use Rattle.ca_net.proofs.Levels.{Level}
use Rattle.ca_net.proofs.Decided.{level_at}

-- a node alone is a definite path, so each node is marked at strength 0
pub free_path : (net : Circuit) (s : List Trit) (n : ℕ) → n < length net.nodes → HasUnblocked net s n
free_path net s n lt =
    let level : Level net s 0 = level_at net s 0 in
    (level.is_level.paths n (level.full (Root n) lt tt (omega arith))).free

-- the law
pub some_path_is_unblocked_lem : SomePathIsUnblocked
some_path_is_unblocked_lem net s n well_formed lt = free_path net s n lt
