-- What the code shows of a cluster and of the clusters.
use Rattle.std.proofs.Common.{◌≡◌, ℕ, ◌<◌, List, [], ◌∷◌, ◌++◌, length, get_or, inl, refl, sym, subst}
use Rattle.std.specs.Prelude.{slice_get, slice_set, IsSomeAnd}
use Rattle.std.specs.List.{All}
use Rattle.std.proofs.lemmas.Option.{slice_get_read}
use Rattle.ca_flat.specs.declared.chip_defect.ChipDefect.{ChipDefect}
use Rattle.ca_linked.specs.Linked.{LinkedChip, IsWired}
use Rattle.ca_view.specs.Core.{core_of}
use Rattle.ca_merged.specs.Bridge.{short_of}
use Rattle.ca_merge.specs.Merge.{CanMerge}
use Rattle.ca_cluster.specs.declared.bridge.Bridge.{Bridge}
use Rattle.ca_cluster.specs.Clusters.{AreMembersOf}
use Rattle.ca_cluster.proofs.MemberLemmas.{members_library}
use Rattle.ca_cluster.proofs.ClusterLemmas.{can_merge, merged_last}
use Rattle.ca_targets.specs.declared.target.Target.TheVariants.{Short}
use Rattle.ca_targets.specs.declared.target.Cluster.{Cluster}
use Rattle.ca_targets.specs.Targets.{IsCluster}
use Rattle.ca_targets.specs.code.Steps.{IsInner, IsFor, Joins, Steps}
use Rattle.ca_targets.proofs.ListLemmas.{all_at, some_map}

-- the members may be merged
pub may_merge : (chip : LinkedChip) (bridge : Bridge) (members : List ℕ) → IsWired chip → IsInner chip bridge → AreMembersOf chip bridge members
    → CanMerge chip members
may_merge chip bridge members is inner are =
    can_merge chip is bridge inner.known inner.inside members are (members_library chip is bridge inner.known members are)

-- the bridge is the short that was appended
pub joined : (chip : LinkedChip) (bridge : Bridge) (before after : Cluster) (short : ChipDefect) (place : ℕ) → IsWired chip → IsInner chip bridge
    → IsFor chip bridge before → short ≡ short_of (core_of chip) before.members bridge.instance.0 bridge.m.0 bridge.n.0
    → place ≡ length before.shorts → after ≡ record before { shorts = before.shorts ++ short ∷ [] } → Joins chip bridge before after place
joined chip bridge before after short place is inner for same place_is after_is = record {
  for = for;
  short = short;
  merged = merged_last chip is bridge inner.known inner.inside before.members for.are before.chip before.last.0 short
      (members_library chip is bridge inner.known before.members for.are) for.made.merged for.made.keeps inner.few same;
  place_is = place_is;
  new_is = after_is;
}

-- a cluster that was found by its members is the bridge's
pub found_for : (chip : LinkedChip) (bridge : Bridge) (members : List ℕ) (clusters : List Cluster) (number : ℕ) → AreMembersOf chip bridge members
    → All (IsCluster chip) clusters → IsSomeAnd (slice_get clusters number) (λ one. one.members ≡ members)
    → IsSomeAnd (slice_get clusters number) (IsFor chip bridge)
found_for chip bridge members clusters number are all found =
    some_map (λ (one : Cluster). one.members ≡ members) (IsFor chip bridge) (slice_get clusters number)
    (λ one at same. let is = all_at (IsCluster chip) clusters number one all at in record {
      are = subst (AreMembersOf chip bridge) (sym same) are;
      made = record { merged = is.merged; keeps = is.keeps };
    }) found

-- the bridge joined the cluster at a place
pub join_steps : (chip : LinkedChip) (bridge : Bridge) (old new : List Cluster) (number place : ℕ) (before after : Cluster) → IsInner chip bridge
    → number < length old → before ≡ get_or old number before → Joins chip bridge before after place → new ≡ slice_set old number after
    → Steps chip bridge old (Short number place) new
join_steps chip bridge old new number place before after inner within at joins new_is = (
  inner.inside,
  inl (record {
    before = before;
    at = slice_get_read old (length old) number before refl within at;
    after = after;
    joins = joins;
    new_is = new_is;
  }),
)
