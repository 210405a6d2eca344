use Rattle.std.proofs.Common.{◌≡◌, List, subst}
use Rattle.std.specs.Prelude.{slice_get, IsSomeAnd}
use Rattle.ca_targets.specs.declared.target.Cluster.{Cluster}
use Rattle.ca_targets.proofs.CodeLemmas.{found_for}
use Rattle.ca_targets.proofs.clusters.inner_target.Goals as goal

pub join-requires-clause-for_it : goal.join-requires-clause-for_it
join-requires-clause-for_it c =
    found_for c.args.chip.now c.args.bridge c.in_ok-members.members c.args.clusters.now.items c.in-Some.number c.in_ok-members.ensures.are
    c.requires.clusters
    (subst (λ (l : List Cluster). IsSomeAnd (slice_get l c.in-Some.number) (λ one. one.members ≡ c.in_ok-members.members)) c.as_slice.ensures.value
    c.in-Some.ensures.found)
