-- One target more.
use Rattle.std.proofs.Common.{◌≡◌, ℕ, ◌+◌, List, [], ◌∷◌, ◌++◌, length, take, inl, inr, refl, sym, ◌∙◌, ap, subst, arith}
use Rattle.std.specs.Prelude.{◌==◌, slice_get, slice_set, Option, Some}
use Rattle.std.specs.List.{All, AllPairs, range_with_len}
use Rattle.std.proofs.Math.Seq.{map-set_same}
use Rattle.std.proofs.lemmas.Bool.{cases_eq, eq-eqb, ne_eqb, cond-true, cond-false}
use Rattle.std.proofs.lemmas.List.{append-nil, length_push, map_push, take_more}
use Rattle.std.proofs.lemmas.List.Concat.{flat_map-append}
use Rattle.std.proofs.lemmas.List.Elements.{All-nil, All-push, All-set, All-map, All-weaker}
use Rattle.std.proofs.lemmas.List.Quantifiers.{all_pairs_push}
use Rattle.std.proofs.lemmas.Option.{same_Some, slice_get_within, slice_get_past, get_or_from_slice_get}
use Rattle.ca_flat.specs.declared.chip_defect.ChipDefect.{ChipDefect}
use Rattle.ca_linked.specs.Linked.{LinkedChip}
use Rattle.ca_cluster.specs.declared.bridge.Bridge.{Bridge}
use Rattle.ca_cluster.specs.Clusters.{AreMembersOf, IsMergedFor}
use Rattle.ca_targets.specs.declared.target.Target.{Target}
use Rattle.ca_targets.specs.declared.target.Target.TheVariants.{Port, OneNode, Wide, Short}
use Rattle.ca_targets.specs.declared.target.Cluster.{Cluster}
use Rattle.ca_targets.specs.Targets.{IsLibraryDefect, IsCluster, IsShortAt, IsTarget, members_of_each, shorts_in, shorts_at, place_for, places_in, AreTargetsOf}
use Rattle.ca_targets.specs.code.Steps.{Joins, Steps, IsNext}
use Rattle.ca_targets.proofs.ListLemmas.{all_at, push_cases, push_kept, push_last, push_other, set_same, set_other, range_more}

-- a cluster keeps its members, its chip and the places of its shorts
record HasGrown (old new : Cluster) : Type 0 where
  members : new.members ≡ old.members
  chip : new.chip ≡ old.chip
  shorts : (place : ℕ) (short : ChipDefect) → slice_get old.shorts place ≡ Some short → slice_get new.shorts place ≡ Some short

-- what the cluster with a number has become
record IsNow (new : List Cluster) (number : ℕ) (old : Cluster) : Type 0 where
  cluster : Cluster
  at : slice_get new number ≡ Some cluster
  grown : HasGrown old cluster

-- each cluster is kept so
record HaveGrown (old new : List Cluster) : Type 0 where
  each : (number : ℕ) (cluster : Cluster) → slice_get old number ≡ Some cluster → IsNow new number cluster

stays : (cluster : Cluster) → HasGrown cluster cluster
stays cluster = record { members = refl; chip = refl; shorts = λ place short e. e }

all_stay : (clusters : List Cluster) → HaveGrown clusters clusters
all_stay clusters = record { each = λ number cluster e. record { cluster = cluster; at = e; grown = stays cluster } }

module _ (chip : LinkedChip) (bridge : Bridge) (old new : List Cluster) (grown : HaveGrown old new) where
  -- a short keeps its place
  short_kept : (number place : ℕ) → IsShortAt chip old bridge number place → IsShortAt chip new bridge number place
  short_kept number place is =
      let now = grown.each number is.cluster is.is_cluster in record {
        cluster = now.cluster;
        is_cluster = now.at;
        short = is.short;
        is_short = now.grown.shorts place is.short is.is_short;
        are = subst (AreMembersOf chip bridge) (sym now.grown.members) is.are;
        merged = subst (λ (made : LinkedChip). IsMergedFor chip bridge now.cluster.members made is.short) (sym now.grown.chip)
            (subst (λ (members : List ℕ). IsMergedFor chip bridge members is.cluster.chip is.short) (sym now.grown.members) is.merged);
      }

  target_kept : (target : Target) → IsTarget chip old bridge target → IsTarget chip new bridge target
  target_kept Port is = is
  target_kept OneNode is = is
  target_kept (Wide rule) is = is
  target_kept (Short number place) is = (is.0, short_kept number place is.1)

-- each bridge has its target, old or last
module _ (chip : LinkedChip) (bridges : List Bridge) (bridge : Bridge) (targets : List Target) (target : Target) (old new : List Cluster)
    (are : AreTargetsOf chip bridges targets old) (grown : HaveGrown old new) (is : IsTarget chip new bridge target) where
  more_each : (k : ℕ) (b : Bridge) (t : Target) → slice_get (bridges ++ bridge ∷ []) k ≡ Some b → slice_get (targets ++ target ∷ []) k ≡ Some t
      → IsTarget chip new b t
  more_each k b t eb et = elim (push_cases bridges bridge b k eb) [
    | inl before ↦ elim (push_cases targets target t k et) [
      | inl old_target ↦ target_kept chip b old new grown t (are.each k b t before old_target)
      | inr last ↦ absurd (let within = slice_get_within bridges k b before in let count = are.one_each in let at = last.0 in omega arith)
    ]
    | inr last ↦ elim (push_cases targets target t k et) [
      | inl old_target ↦ absurd (let within = slice_get_within targets k t old_target in let count = are.one_each in let at = last.0 in omega arith)
      | inr last_target ↦
          subst (λ (x : Target). IsTarget chip new b x) last_target.1
          (subst (λ (x : Bridge). IsTarget chip new x target) last.1 is)
    ]
  ]

  more_count : length (targets ++ target ∷ []) ≡ length (bridges ++ bridge ∷ [])
  more_count = length_push targets target ∙ ap (λ n. n + 1) are.one_each ∙ sym (length_push bridges bridge)

-- the places with one target more
places_push : (number : ℕ) (targets : List Target) (target : Target)
    → places_in number (targets ++ target ∷ []) ≡ places_in number targets ++ place_for number target
places_push number targets target =
    flat_map-append (place_for number) targets (target ∷ [])
    ∙ ap (λ (l : List ℕ). places_in number targets ++ l) (append-nil (place_for number target))

places_same : (number : ℕ) (targets : List Target) (target : Target) → place_for number target ≡ []
    → places_in number (targets ++ target ∷ []) ≡ places_in number targets
places_same number targets target none =
    places_push number targets target ∙ ap (λ (l : List ℕ). places_in number targets ++ l) none ∙ append-nil (places_in number targets)

places_elsewhere : (n number place : ℕ) (targets : List Target) → (n ≡ number → ⊥)
    → places_in n (targets ++ Short number place ∷ []) ≡ places_in n targets
places_elsewhere n number place targets ne =
    places_same n targets (Short number place) (cond-false (number == n) (place ∷ []) [] (ne_eqb number n (λ e. ne (sym e))))

places_here : (number place : ℕ) (targets : List Target) (before after : List ChipDefect) (short : ChipDefect)
    → places_in number targets ≡ range_with_len 0 (length before) → place ≡ length before → after ≡ before ++ short ∷ []
    → places_in number (targets ++ Short number place ∷ []) ≡ range_with_len 0 (length after)
places_here number place targets before after short are place_is after_is =
    places_push number targets (Short number place)
    ∙ ap (λ (l : List ℕ). places_in number targets ++ l) (cond-true (number == number) (place ∷ []) [] (eq-eqb number number refl))
    ∙ ap (λ (l : List ℕ). l ++ place ∷ []) are
    ∙ ap (λ n. range_with_len 0 (length before) ++ n ∷ []) place_is
    ∙ sym (range_more (length before))
    ∙ ap (range_with_len 0) (sym (ap length after_is ∙ length_push before short))

-- the clusters stay as they are
stay_more : (chip : LinkedChip) (bridges : List Bridge) (bridge : Bridge) (targets : List Target) (target : Target) (old new : List Cluster)
    → AreTargetsOf chip bridges targets old → IsTarget chip old bridge target → ((number : ℕ) → place_for number target ≡ []) → new ≡ old
    → AreTargetsOf chip (bridges ++ bridge ∷ []) (targets ++ target ∷ []) new
stay_more chip bridges bridge targets target old new are is none same =
    subst (AreTargetsOf chip (bridges ++ bridge ∷ []) (targets ++ target ∷ [])) (sym same) (record {
      one_each = more_count chip bridges bridge targets target old old are (all_stay old) is;
      each = more_each chip bridges bridge targets target old old are (all_stay old) is;
      clusters_are = are.clusters_are;
      apart = are.apart;
      exactly = λ number. places_same number targets target (none number) ∙ are.exactly number;
    })

-- a cluster with one short more
module _ (chip : LinkedChip) (bridge : Bridge) (before after : Cluster) (place : ℕ) (joins : Joins chip bridge before after place) where
  after_members : after.members ≡ before.members
  after_members = ap (λ (c : Cluster). c.members) joins.new_is

  after_chip : after.chip ≡ before.chip
  after_chip = ap (λ (c : Cluster). c.chip) joins.new_is

  after_shorts : after.shorts ≡ before.shorts ++ joins.short ∷ []
  after_shorts = ap (λ (c : Cluster). c.shorts) joins.new_is

  after_grown : HasGrown before after
  after_grown = record {
    members = after_members;
    chip = after_chip;
    shorts = λ k short e. ap (λ (l : List ChipDefect). slice_get l k) after_shorts ∙ push_kept before.shorts joins.short short k e;
  }

  -- the short is at its place
  after_short : (clusters : List Cluster) (number : ℕ) → slice_get clusters number ≡ Some after → IsShortAt chip clusters bridge number place
  after_short clusters number at = record {
    cluster = after;
    is_cluster = at;
    short = joins.short;
    is_short = ap (λ (l : List ChipDefect). slice_get l place) after_shorts ∙ ap (slice_get (before.shorts ++ joins.short ∷ [])) joins.place_is
        ∙ push_last before.shorts joins.short;
    are = subst (AreMembersOf chip bridge) (sym after_members) joins.for.are;
    merged = subst (λ (made : LinkedChip). IsMergedFor chip bridge after.members made joins.short) (sym after_chip)
        (subst (λ (members : List ℕ). IsMergedFor chip bridge members before.chip joins.short) (sym after_members) joins.merged);
  }

  -- it is a cluster, if the shorts that it had are its own
  after_cluster : All (λ short. short.instance ≡ before.last.0) before.shorts → All (IsLibraryDefect before.chip) before.shorts → IsCluster chip after
  after_cluster last shorts =
      subst (IsCluster chip) (sym joins.new_is) (record {
        merged = joins.for.made.merged;
        keeps = joins.for.made.keeps;
        some = (let e = length_push before.shorts joins.short in omega arith);
        last = All-push (λ (short : ChipDefect). short.instance ≡ before.last.0) before.shorts joins.short last
            (joins.merged.is.place ∙ sym joins.for.made.merged.place);
        shorts = All-push (IsLibraryDefect before.chip) before.shorts joins.short shorts
            (record { defect_is = joins.merged.stands.flat_chip.defect_is; library = joins.merged.library });
      })

-- a short joins a cluster that was there
module _ (chip : LinkedChip) (bridges : List Bridge) (bridge : Bridge) (targets : List Target) (old : List Cluster) (number place : ℕ)
    (before after : Cluster) (are : AreTargetsOf chip bridges targets old) (at : slice_get old number ≡ Some before)
    (joins : Joins chip bridge before after place) where
  abbrev changed : List Cluster
  changed = slice_set old number after

  changed_at : slice_get changed number ≡ Some after
  changed_at = set_same old number after before at

  changed_grown : HaveGrown old changed
  changed_grown = record {
    each = λ n cluster e. elim (cases_eq n number) [
      | inl same ↦ record {
        cluster = after;
        at = ap (slice_get changed) same ∙ changed_at;
        grown = subst (λ (c : Cluster). HasGrown c after) (same_Some before cluster (sym at ∙ ap (slice_get old) (sym same) ∙ e))
            (after_grown chip bridge before after place joins);
      }
      | inr ne ↦ record { cluster = cluster; at = set_other old number n after ne ∙ e; grown = stays cluster }
    ];
  }

  changed_exactly : (n : ℕ) → places_in n (targets ++ Short number place ∷ []) ≡ range_with_len 0 (length (shorts_at changed n))
  changed_exactly n = elim (cases_eq n number) [
    | inl same ↦
        subst (λ m. places_in m (targets ++ Short number place ∷ []) ≡ range_with_len 0 (length (shorts_at changed m))) (sym same)
        (places_here number place targets before.shorts after.shorts joins.short
        (are.exactly number ∙ ap (λ (c : Option Cluster). range_with_len 0 (length (shorts_in c))) at) joins.place_is
        (after_shorts chip bridge before after place joins)
        ∙ ap (λ (c : Option Cluster). range_with_len 0 (length (shorts_in c))) (sym changed_at))
    | inr ne ↦
        places_elsewhere n number place targets ne ∙ are.exactly n
        ∙ ap (λ (c : Option Cluster). range_with_len 0 (length (shorts_in c))) (sym (set_other old number n after ne))
  ]

  changed_members : members_of_each changed ≡ members_of_each old
  changed_members =
      map-set_same (λ (c : Cluster). c.members) old number after before
      (after_members chip bridge before after place joins
      ∙ ap (λ (c : Cluster). c.members) (sym (get_or_from_slice_get old number before before at)))

  joined_more : IsTarget chip changed bridge (Short number place)
      → AreTargetsOf chip (bridges ++ bridge ∷ []) (targets ++ Short number place ∷ []) changed
  joined_more is =
      let was = all_at (IsCluster chip) old number before are.clusters_are at in record {
        one_each = more_count chip bridges bridge targets (Short number place) old changed are changed_grown is;
        each = more_each chip bridges bridge targets (Short number place) old changed are changed_grown is;
        clusters_are = All-set (IsCluster chip) old number after (after_cluster chip bridge before after place joins was.last was.shorts) are.clusters_are;
        apart = subst (AllPairs (λ (one other : List ℕ). one ≡ other → ⊥)) (sym changed_members) are.apart;
        exactly = changed_exactly;
      }

-- a short is the first of a new cluster
module _ (chip : LinkedChip) (bridges : List Bridge) (bridge : Bridge) (targets : List Target) (old : List Cluster) (number place : ℕ)
    (before after : Cluster) (are : AreTargetsOf chip bridges targets old) (none : before.shorts ≡ [])
    (joins : Joins chip bridge before after place) (apart : All (λ one. one.members ≡ before.members → ⊥) old) (last : number ≡ length old) where
  abbrev longer : List Cluster
  longer = old ++ after ∷ []

  longer_at : slice_get longer number ≡ Some after
  longer_at = ap (slice_get longer) last ∙ push_last old after

  longer_grown : HaveGrown old longer
  longer_grown = record { each = λ n cluster e. record { cluster = cluster; at = push_kept old after cluster n e; grown = stays cluster } }

  -- there was no short with this number
  empty : shorts_at old number ≡ before.shorts
  empty = ap shorts_in (slice_get_past old number (omega arith)) ∙ sym none

  longer_exactly : (n : ℕ) → places_in n (targets ++ Short number place ∷ []) ≡ range_with_len 0 (length (shorts_at longer n))
  longer_exactly n = elim (cases_eq n number) [
    | inl same ↦
        subst (λ m. places_in m (targets ++ Short number place ∷ []) ≡ range_with_len 0 (length (shorts_at longer m))) (sym same)
        (places_here number place targets before.shorts after.shorts joins.short
        (are.exactly number ∙ ap (λ (l : List ChipDefect). range_with_len 0 (length l)) empty) joins.place_is
        (after_shorts chip bridge before after place joins)
        ∙ ap (λ (c : Option Cluster). range_with_len 0 (length (shorts_in c))) (sym longer_at))
    | inr ne ↦
        places_elsewhere n number place targets ne ∙ are.exactly n
        ∙ ap (λ (c : Option Cluster). range_with_len 0 (length (shorts_in c))) (sym (push_other old after n (λ e. ne (e ∙ sym last))))
  ]

  longer_apart : AllPairs (λ (one other : List ℕ). one ≡ other → ⊥) (members_of_each longer)
  longer_apart =
      let members = after_members chip bridge before after place joins in
      let differs : All (λ (one : List ℕ). one ≡ after.members → ⊥) (members_of_each old) =
      All-map (λ (one : List ℕ). one ≡ after.members → ⊥) (λ (c : Cluster). c.members) old
      (All-weaker (λ (one : Cluster). one.members ≡ before.members → ⊥) (λ (one : Cluster). one.members ≡ after.members → ⊥)
      (λ one ne e. ne (e ∙ members)) old apart) in
      subst (AllPairs (λ (one other : List ℕ). one ≡ other → ⊥)) (sym (map_push (λ (c : Cluster). c.members) old after))
      (all_pairs_push (λ (one other : List ℕ). one ≡ other → ⊥) (members_of_each old) after.members are.apart differs)

  opened_more : IsTarget chip longer bridge (Short number place)
      → AreTargetsOf chip (bridges ++ bridge ∷ []) (targets ++ Short number place ∷ []) longer
  opened_more is = record {
    one_each = more_count chip bridges bridge targets (Short number place) old longer are longer_grown is;
    each = more_each chip bridges bridge targets (Short number place) old longer are longer_grown is;
    clusters_are = All-push (IsCluster chip) old after are.clusters_are
        (after_cluster chip bridge before after place joins
        (subst (All (λ (short : ChipDefect). short.instance ≡ before.last.0)) (sym none) (All-nil (λ (short : ChipDefect). short.instance ≡ before.last.0)))
        (subst (All (IsLibraryDefect before.chip)) (sym none) (All-nil (IsLibraryDefect before.chip))));
    apart = longer_apart;
    exactly = longer_exactly;
  }

-- one target more
more : (chip : LinkedChip) (bridges : List Bridge) (bridge : Bridge) (targets : List Target) (target : Target) (old new : List Cluster)
    → AreTargetsOf chip bridges targets old → Steps chip bridge old target new
    → AreTargetsOf chip (bridges ++ bridge ∷ []) (targets ++ target ∷ []) new
more chip bridges bridge targets Port old new are steps = stay_more chip bridges bridge targets Port old new are steps.0 (λ number. refl) steps.1
more chip bridges bridge targets OneNode old new are steps =
    stay_more chip bridges bridge targets OneNode old new are (steps.0, steps.1) (λ number. refl) steps.2
more chip bridges bridge targets (Wide rule) old new are steps =
    stay_more chip bridges bridge targets (Wide rule) old new are (steps.0, steps.1) (λ number. refl) steps.2
more chip bridges bridge targets (Short number place) old new are steps = elim steps.1 [
  | inl j ↦
      subst (AreTargetsOf chip (bridges ++ bridge ∷ []) (targets ++ Short number place ∷ [])) (sym j.new_is)
      (joined_more chip bridges bridge targets old number place j.before j.after are j.at j.joins
      (steps.0, after_short chip bridge j.before j.after place j.joins (slice_set old number j.after) number (set_same old number j.after j.before j.at)))
  | inr o ↦
      subst (AreTargetsOf chip (bridges ++ bridge ∷ []) (targets ++ Short number place ∷ [])) (sym o.new_is)
      (opened_more chip bridges bridge targets old number place o.before o.after are o.none o.joins o.apart o.last (
        steps.0,
        after_short chip bridge o.before o.after place o.joins (old ++ o.after ∷ []) number
            (ap (slice_get (old ++ o.after ∷ [])) o.last ∙ push_last old o.after),
      ))
]

-- the next bridge has one
pub next : (chip : LinkedChip) (bridges : List Bridge) (k : ℕ) (bridge : Bridge) (targets : List Target) (clusters : List Cluster)
    (new : List Target) (new_clusters : List Cluster) → slice_get bridges k ≡ Some bridge → AreTargetsOf chip (take k bridges) targets clusters
    → IsNext chip bridge targets clusters new new_clusters → AreTargetsOf chip (take (k + 1) bridges) new new_clusters
next chip bridges k bridge targets clusters new new_clusters at are is =
    let taken : take (k + 1) bridges ≡ take k bridges ++ bridge ∷ [] =
    take_more bridges k bridge (slice_get_within bridges k bridge at)
    ∙ ap (λ (b : Bridge). take k bridges ++ b ∷ []) (get_or_from_slice_get bridges k bridge bridge at) in
    subst (λ (bs : List Bridge). AreTargetsOf chip bs new new_clusters) (sym taken)
    (subst (λ (ts : List Target). AreTargetsOf chip (take k bridges ++ bridge ∷ []) ts new_clusters) (sym is.new_is)
    (more chip (take k bridges) bridge targets is.target clusters new_clusters are is.steps))
