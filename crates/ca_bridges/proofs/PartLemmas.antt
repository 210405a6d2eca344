-- The benches of clusters, and what is generated with them.
use Rattle.std.proofs.Common.{◌≡◌, ◌==◌, ℕ, zero, suc, ◌+◌, ◌<◌, ◌≤◌, ◌∙◌, List, [], ◌∷◌, ◌++◌, length, length-append, map, get_or, refl, sym, ap, subst, arith, zero-add, add-zero, Option, Some, None, inl, inr, Bool, true, false}
use Rattle.std.specs.Prelude.{slice_get, slice_index_or, option_map, IfSome, IsSomeAnd, IfOk, Result, Ok, Err, if◌then◌else◌}
use Rattle.std.specs.List.{All, remove, range_with_len}
use Rattle.std.proofs.Math.Decide.{dec_lt}
use Rattle.std.proofs.lemmas.List.{length-map, length-replicate}
use Rattle.std.proofs.lemmas.List.FromFn.{length-range_with_len}
use Rattle.std.proofs.lemmas.Bool.{eqb-true}
use Rattle.ca_expected.proofs.WholeLemmas.{pairs_whole as aimed_whole}
use Rattle.std.proofs.lemmas.Option.{slice_get_within, slice_get-map, slice_get-get_or, get_or_from_slice_get, same_Some}
use Rattle.std.proofs.lemmas.List.Elements.{All-get_or}
use Rattle.ca_net.specs.declared.trit.Trit.{Trit}
use Rattle.ca_net.specs.declared.trit.Trit.TheVariants.{X}
use Rattle.ca_flat.specs.Pair.{bit_count}
use Rattle.ca_flat.specs.declared.chip_defect.ChipDefect.{ChipDefect}
use Rattle.ca_flat.specs.Chip.{Chip, IsChip}
use Rattle.ca_linked.specs.Linked.{LinkedChip}
use Rattle.ca_view.specs.Core.{core_of}
use Rattle.ca_credit.specs.Defects.{Task, StandsIn, AreTargets}
use Rattle.ca_credit.specs.Good.{IsGood}
use Rattle.ca_cluster.specs.declared.bridge.Bridge.{Bridge}
use Rattle.ca_cluster.specs.Clusters.{IsShortFor}
use Rattle.ca_engine.specs.ChipBench.{Benched, task_in}
use Rattle.ca_generate.specs.declared.generated.Generated.{Generated}
use Rattle.ca_generate.proofs.ListLemmas.{entry_is}
use Rattle.ca_targets.specs.declared.target.Target.{Target}
use Rattle.ca_targets.specs.declared.target.Target.TheVariants as kind
use Rattle.ca_targets.specs.declared.target.Cluster.{Cluster}
use Rattle.ca_targets.specs.Targets.{AreTargetsOf, IsCluster, places_in, shorts_at, shorts_in, IsLibraryDefect}
use Rattle.ca_benches.specs.declared.station.Station.{Station}
use Rattle.ca_benches.specs.Benches.{task_at, chip_of_station, defect_of, IsStationed, IsPart, task_of}
use Rattle.ca_bridges.specs.Numbers.{IsFound, IsStationOf, AreNumbered, IsTaskOf}
use Rattle.ca_bridges.specs.declared.numbers.Numbered.{Numbered}
use Rattle.ca_bridges.specs.code.Parts.{AreEach, AreEachFrom, ArePartsOf, AreParts, IsPartOf, StandsInFor, IsGoodFor}
use Rattle.ca_bridge_verdicts.proofs.BridgeLemmas.{some_at}
use Rattle.ca_bridges.proofs.TargetLemmas.{one_entry}
use Rattle.ca_bridges.proofs.NumberLemmas.{all_entries}

pub each_none : {A B : Type 0} (Is : A → B → Type 0) (xs : List A) → AreEach Is xs 0 []
each_none Is xs = record { counted = refl; each = λ k x y at is. absurd (let within = slice_get_within [] k y is in omega (arith, within)) }

pub each_begin : {A B : Type 0} (Is : A → B → Type 0) (xs : List A) (ys : List B) → ys ≡ [] → AreEach Is xs 0 ys
each_begin {A} {B} Is xs ys none = subst (λ (l : List B). AreEach Is xs 0 l) (sym none) (each_none Is xs)

pub each_more : {A B : Type 0} (Is : A → B → Type 0) (xs : List A) (count : ℕ) (ys : List B) (x : A) (y : B) → AreEach Is xs count ys
    → slice_get xs count ≡ Some x → Is x y → AreEach Is xs (count + 1) (ys ++ y ∷ [])
each_more Is xs count ys x y are here is = record {
  counted = let grown = length-append ys (y ∷ []) in let counted = are.counted in omega (arith, grown, counted);
  each = λ k one other at there. elim (entry_is ys y k other there) [
    | inl old ↦ are.each k one other at old
    | inr new ↦
        let same : k ≡ count = new.0 ∙ are.counted in
        let e : x ≡ one = one_entry xs count x one here (subst (λ (n : ℕ). slice_get xs n ≡ Some one) same at) in
        subst (λ a. Is a other) e (subst (λ b. Is x b) (sym new.1) is)
  ];
}

-- one more was appended
pub each_pushed : {A B : Type 0} (Is : A → B → Type 0) (xs : List A) (count : ℕ) (ys new : List B) (x : A) (y : B) → AreEach Is xs count ys
    → slice_get xs count ≡ Some x → Is x y → new ≡ ys ++ y ∷ [] → AreEach Is xs (count + 1) new
each_pushed Is xs count ys new x y are here is grown =
    subst (AreEach Is xs (count + 1)) (sym grown) (each_more Is xs count ys x y are here is)

-- so they are from the first place on
pub each_from : {A B : Type 0} (Is : A → B → Type 0) (xs : List A) (count : ℕ) (ys : List B) → AreEach Is xs count ys → AreEachFrom Is xs 0 ys
each_from Is xs count ys are = λ k x y at there. are.each k x y (subst (λ n. slice_get xs n ≡ Some x) (add-zero k) at) there

-- the first of the others is so to the entry at that place
pub each_here : {A B : Type 0} (Is : A → B → Type 0) (xs : List A) (from : ℕ) (ys : List B) (y : B) → AreEachFrom Is xs from ys
    → 0 < length ys → y ≡ slice_index_or ys 0 y → IfSome (slice_get xs from) (λ x. Is x y)
each_here Is xs from [] y are some is = absurd (omega arith)
each_here {A} Is xs from (first ∷ ys) y are some is = by (slice_get xs from) refl
  where
    by : (o : Option A) → slice_get xs from ≡ o → IfSome o (λ x. Is x y)
    by None none = tt
    by (Some x) here = subst (Is x) (sym is) (are 0 x first (subst (λ n. slice_get xs n ≡ Some x) (sym (zero-add from)) here) refl)

-- without it the others are so from the next place on
pub each_after : {A B : Type 0} (Is : A → B → Type 0) (xs : List A) (from : ℕ) (ys : List B) → AreEachFrom Is xs from ys
    → AreEachFrom Is xs (from + 1) (remove ys 0)
each_after Is xs from [] are = λ k x y at there. absurd (let within = slice_get_within [] k y there in omega (arith, within))
each_after Is xs from (first ∷ ys) are = λ k x y at there. are (suc k) x y (subst (λ n. slice_get xs n ≡ Some x) (omega arith) at) there

pub parts_begin : (own : Chip) (budget : ℕ) (clusters : List Cluster) (good : Benched) (new : List Benched) → IsPartOf own [] budget good
    → new ≡ [] ++ good ∷ [] → AreParts own budget clusters 0 new
parts_begin own budget clusters good new is grown = record {
  good = good;
  others = [];
  are = grown;
  good_is = is;
  others_are = each_none (λ cluster part. IsPartOf (core_of cluster.chip) cluster.shorts budget part) clusters;
}

pub parts_more : (own : Chip) (budget : ℕ) (clusters : List Cluster) (count : ℕ) (parts new : List Benched) (part : Benched)
    → AreParts own budget clusters count parts
    → IsSomeAnd (slice_get clusters count) (λ cluster. IsPartOf (core_of cluster.chip) cluster.shorts budget part)
    → new ≡ parts ++ part ∷ [] → AreParts own budget clusters (count + 1) new
parts_more own budget clusters count parts new part are is grown = by (slice_get clusters count) refl is
  where
    by : (o : Option Cluster) → slice_get clusters count ≡ o
        → IsSomeAnd o (λ cluster. IsPartOf (core_of cluster.chip) cluster.shorts budget part) → AreParts own budget clusters (count + 1) new
    by None at here = absurd here
    by (Some cluster) at here = record {
      good = are.good;
      others = are.others ++ part ∷ [];
      are = grown ∙ ap (λ (front : List Benched). front ++ part ∷ []) are.are;
      good_is = are.good_is;
      others_are = each_more (λ (c : Cluster) (p : Benched). IsPartOf (core_of c.chip) c.shorts budget p) clusters count are.others
          cluster part are.others_are at here;
    }

-- an entry of a list that a function gives
map_at : {A B : Type 0} (f : A → B) (xs : List A) (k : ℕ) (y : B) → slice_get (map f xs) k ≡ Some y → (x : A) × (slice_get xs k ≡ Some x) × (f x ≡ y)
map_at f xs k y at =
    let within = slice_get_within (map f xs) k y at in
    let long = length-map xs f in
    let x = some_at xs k (omega (arith, within, long)) in
    (x.0, x.1, same_Some (f x.0) y (sym (ap (option_map f) x.1) ∙ sym (slice_get-map f xs k) ∙ at))

at_map : {A B : Type 0} (f : A → B) (xs : List A) (k : ℕ) (x : A) (d : B) → slice_get xs k ≡ Some x → get_or (map f xs) k d ≡ f x
at_map f xs k x d at = get_or_from_slice_get (map f xs) k (f x) d (slice_get-map f xs k ∙ ap (option_map f) at)

module _ (chip : Chip) (budget : ℕ) (clusters : List Cluster) (good : Benched) (parts : List Benched) (good_chip : good.chip ≡ chip)
    (good_budget : good.budget ≡ budget) (are : ArePartsOf budget clusters (length clusters) parts)
    (stand : All (λ cluster. StandsIn chip (core_of cluster.chip)) clusters) where
  -- the cluster of a bench
  cluster_at : (k : ℕ) (part : Benched) → slice_get parts k ≡ Some part → (cluster : Cluster) × (slice_get clusters k ≡ Some cluster)
  cluster_at k part at =
      let within = slice_get_within parts k part at in
      let counted = are.counted in
      some_at clusters k (omega (arith, within, counted))

  part_at : (k : ℕ) (cluster : Cluster) → slice_get clusters k ≡ Some cluster → (part : Benched) × (slice_get parts k ≡ Some part)
  part_at k cluster at =
      let within = slice_get_within clusters k cluster at in
      let counted = are.counted in
      some_at parts k (omega (arith, within, counted))

  pub all_parts : All (IsPart (task_in good)) (map task_in parts)
  all_parts = all_entries (IsPart (task_in good)) (map task_in parts) (λ k task at.
      let part = map_at task_in parts k task at in
      let cluster = cluster_at k part.0 part.1 in
      let is = are.each k cluster.0 part.0 cluster.1 part.1 in
      let within = slice_get_within clusters k cluster.0 cluster.1 in
      let stands : StandsIn chip (core_of cluster.0.chip) = subst (λ (c : Cluster). StandsIn chip (core_of c.chip))
      (get_or_from_slice_get clusters k cluster.0 cluster.0 cluster.1) (All-get_or (λ (c : Cluster). StandsIn chip (core_of c.chip)) clusters k cluster.0 within stand) in
      subst (λ (t : Task). IsPart (task_in good) t) part.2 (record {
        stands_in = subst (λ (c : Chip). StandsIn c part.0.chip) (sym good_chip) (subst (λ (c : Chip). StandsIn chip c) (sym is.chip_is) stands);
        budget = is.budget_is ∙ sym good_budget;
      }))

  pub all_stationed : (stations : List Station) → All (IsStationOf clusters) stations → All (IsStationed (map task_in parts)) stations
  all_stationed stations sit = all_entries (IsStationed (map task_in parts)) stations (λ k station at.
      let lies : IsStationOf clusters station = subst (IsStationOf clusters) (get_or_from_slice_get stations k station station at)
      (All-get_or (IsStationOf clusters) stations k station (slice_get_within stations k station at) sit) in
      let part = part_at station.part lies.cluster lies.is_cluster in
      let is = are.each station.part lies.cluster part.0 lies.is_cluster part.1 in
      let long = length-map parts task_in in
      let within = slice_get_within parts station.part part.0 part.1 in
      let here : task_at (map task_in parts) station.part ≡ task_in part.0 = at_map task_in parts station.part part.0 _ part.1 in
      record {
        within = omega (arith, long, within);
        listed = subst (λ (t : Task). slice_get t.defects station.place ≡ Some station.defect) (sym here)
            (subst (λ (l : List ChipDefect). slice_get l station.place ≡ Some station.defect) (sym is.defects_are) lies.is_short);
      })

  -- the chip of a station is its cluster's
  pub chip_is : (stations : List Station) (k : ℕ) (station : Station) (cluster : Cluster) → slice_get stations k ≡ Some station → slice_get clusters station.part ≡ Some cluster
      → (task_of (task_in good) (map task_in parts) stations).chip_of k ≡ core_of cluster.chip
  chip_is stations k station cluster at is =
      let part = part_at station.part cluster is in
      let of = are.each station.part cluster part.0 is part.1 in
      let here : task_at (map task_in parts) station.part ≡ task_in part.0 = at_map task_in parts station.part part.0 _ part.1 in
      at_map (chip_of_station (map task_in parts)) stations k station good.chip at
      ∙ ap (λ (t : Task). t.chip_of station.place) here ∙ of.chip_is

-- of benches that were made, of which the first is the chip's own
module _ (own : LinkedChip) (core : Chip) (budget : ℕ) (clusters : List Cluster) (made_parts : List Benched) (core_is : core ≡ core_of own)
    (made : AreParts core budget clusters (length clusters) made_parts) (stand_in : All (StandsInFor own) clusters) where
  pub parts_some : 0 < length made_parts
  parts_some = subst (λ (l : List Benched). 0 < length l) (sym made.are) (omega arith)

  module _ (first : Benched) (others : List Benched) (is : made_parts ≡ first ∷ others) where
    first_is : IsPartOf core [] budget first
    first_is =
        let e : made.good ∷ made.others ≡ first ∷ others = sym made.are ∙ is in
        let same : made.good ≡ first = cc in
        subst (IsPartOf core [] budget) same made.good_is

    others_are : ArePartsOf budget clusters (length clusters) others
    others_are =
        let e : made.good ∷ made.others ≡ first ∷ others = sym made.are ∙ is in
        let same : made.others ≡ others = cc in
        subst (ArePartsOf budget clusters (length clusters)) same made.others_are

    -- a bit for each pattern bit of the chip is one for each of that of the first
    pub first_sized : (count : ℕ) → count ≡ bit_count core → count ≡ bit_count first.chip
    first_sized count sized = sized ∙ ap bit_count (sym first_is.chip_is)

    pub others_parts : All (IsPart (task_in first)) (map task_in others)
    others_parts = all_parts (core_of own) budget clusters first others (first_is.chip_is ∙ core_is) first_is.budget_is others_are stand_in

    pub others_stationed : (stations : List Station) → All (IsStationOf clusters) stations → All (IsStationed (map task_in others)) stations
    others_stationed stations sit =
        all_stationed (core_of own) budget clusters first others (first_is.chip_is ∙ core_is) first_is.budget_is others_are stand_in stations sit

    pub others_good : (stations : List Station) (result : Generated)
        → IsGood (task_of (task_in first) (map task_in others) stations) result.pairs result.aims result.verdicts
        → IsGoodFor own budget clusters stations result
    others_good stations result good_result = record {
      task = task_of (task_in first) (map task_in others) stations;
      chip_is = first_is.chip_is ∙ core_is;
      budget_is = first_is.budget_is;
      defects_are = refl;
      chips_are = λ k station cluster at known. chip_is (core_of own) budget clusters first others (first_is.chip_is ∙ core_is)
          first_is.budget_is others_are stand_in stations k station cluster at known;
      good = good_result;
    }

  pub made_good : {E : Type 0} (stations : List Station) (result : Result Generated E)
      → ((first : Benched) (others : List Benched) → made_parts ≡ first ∷ others
      → IfOk result (λ given. IsGood (task_of (task_in first) (map task_in others) stations) given.pairs given.aims given.verdicts))
      → IfOk result (IsGoodFor own budget clusters stations)
  made_good stations (Ok given) next = others_good made.good made.others made.are stations given (next made.good made.others made.are)
  made_good stations (Err fault) next = tt

-- some target is a short of each cluster that has one
some_short : (number : ℕ) (targets : List Target) → 0 < length (places_in number targets) → (k : ℕ) × (at : ℕ) × (slice_get targets k ≡ Some (kind.Short number at))
some_short number [] some = absurd (omega (arith, some))
some_short number (kind.Port ∷ targets) some = let found = some_short number targets some in (suc found.0, found.1, found.2)
some_short number (kind.OneNode ∷ targets) some = let found = some_short number targets some in (suc found.0, found.1, found.2)
some_short number (kind.Wide rule ∷ targets) some = let found = some_short number targets some in (suc found.0, found.1, found.2)
some_short number (kind.Short cluster place ∷ targets) some = by (cluster == number) refl some (λ more. some_short number targets more)
  where
    by : (same : Bool) → (cluster == number) ≡ same → 0 < length (places_in number (kind.Short cluster place ∷ targets))
        → (0 < length (places_in number targets) → (k : ℕ) × (at : ℕ) × (slice_get targets k ≡ Some (kind.Short number at)))
        → (k : ℕ) × (at : ℕ) × (slice_get (kind.Short cluster place ∷ targets) k ≡ Some (kind.Short number at))
    by true e here rest = (0, place, ap (λ (n : ℕ). Some (kind.Short n place)) (eqb-true cluster number e))
    by false e here rest =
        let found = rest (subst (λ (same : Bool). 0 < length ((if same then place ∷ [] else []) ++ places_in number targets)) e here) in
        (suc found.0, found.1, found.2)

-- each cluster's chip stands in for the chip, since some bridge is a short of it
pub clusters_stand : (chip : LinkedChip) (rank : ℕ → ℕ) (bridges : List Bridge) (targets : List Target) (clusters : List Cluster)
    → IsChip (core_of chip) rank → AreTargetsOf chip bridges targets clusters → All (StandsInFor chip) clusters
clusters_stand chip rank bridges targets clusters is_chip are = all_entries (StandsInFor chip) clusters (λ number cluster at.
    let within = slice_get_within clusters number cluster at in
    let is = subst (IsCluster chip) (get_or_from_slice_get clusters number cluster cluster at) (All-get_or (IsCluster chip) clusters number cluster within are.clusters_are) in
    let has : 0 < length cluster.shorts = is.some in
    let long : length (places_in number targets) ≡ length cluster.shorts =
    ap length (are.exactly number) ∙ length-range_with_len 0 (length (shorts_at clusters number))
    ∙ ap (λ (found : Option Cluster). length (shorts_in found)) at in
    let found = some_short number targets (omega (arith, has, long)) in
    let below = slice_get_within targets found.0 (kind.Short number found.1) found.2 in
    let one_each = are.one_each in
    let bridge = some_at bridges found.0 (omega (arith, below, one_each)) in
    let short = (are.each found.0 bridge.0 (kind.Short number found.1) bridge.1 found.2).1 in
    let same : short.cluster ≡ cluster = one_entry clusters number short.cluster cluster short.is_cluster at in
    subst (StandsInFor chip) same (record {
      inputs = short.merged.stands.same_inputs;
      outputs = short.merged.stands.same_outputs;
      good = λ pair net v observed. short.merged.stands.good pair net v (is_chip.observed net observed);
    }))

-- the shorts of clusters are defects of library instances
pub cluster_shorts : (chip : LinkedChip) (clusters : List Cluster) → All (IsCluster chip) clusters
    → All (λ cluster. All (IsLibraryDefect cluster.chip) cluster.shorts) clusters
cluster_shorts chip clusters all k d lt = (all k d lt).shorts

-- a short is found among those of its cluster
pub targets_found : (chip : LinkedChip) (bridges : List Bridge) (targets : List Target) (clusters : List Cluster)
    → AreTargetsOf chip bridges targets clusters → All (IsFound clusters) targets
targets_found chip bridges targets clusters are = all_entries (IsFound clusters) targets (λ k t at. by k t at)
  where
    by : (k : ℕ) (t : Target) → slice_get targets k ≡ Some t → IsFound clusters t
    by k kind.Port at = tt
    by k kind.OneNode at = tt
    by k (kind.Wide rule) at = tt
    by k (kind.Short number place) at =
        let below = slice_get_within targets k (kind.Short number place) at in
        let one_each = are.one_each in
        let bridge = some_at bridges k (omega (arith, below, one_each)) in
        let short = (are.each k bridge.0 (kind.Short number place) bridge.1 at).1 in
        (short.cluster, short.is_cluster, slice_get_within short.cluster.shorts place short.short short.is_short)

-- the defects of the task are the shorts with the numbers
pub task_is : (chip : LinkedChip) (budget : ℕ) (targets : List Target) (clusters : List Cluster) (numbered : Numbered) (made : Generated)
    → AreNumbered targets clusters (length targets) numbered → (of : IsGoodFor chip budget clusters numbered.stations made)
    → IsTaskOf chip budget targets clusters numbered.numbers of.task
task_is chip budget targets clusters numbered made are of = record {
  chip_is = of.chip_is;
  budget_is = of.budget_is;
  counted = ap length of.defects_are ∙ length-map numbered.stations defect_of ∙ are.one_each;
  each = λ k place number at cluster short number_at target_at cluster_at short_at.
      let within = slice_get_within numbered.numbers k place number_at in
      let one_each = are.one_each in
      let station = some_at numbered.stations k (omega (arith, within, one_each)) in
      let e : kind.Short number at ≡ kind.Short station.0.part station.0.place = are.for k place station.0 (kind.Short number at) station.1 number_at target_at in
      let part : number ≡ station.0.part = cc in
      let spot : at ≡ station.0.place = cc in
      let lies = are.stations k station.0 station.1 in
      let here : slice_get clusters station.0.part ≡ Some cluster = subst (λ (n : ℕ). slice_get clusters n ≡ Some cluster) part cluster_at in
      let same : lies.cluster ≡ cluster = one_entry clusters station.0.part lies.cluster cluster lies.is_cluster here in
      let lies_there : slice_get cluster.shorts station.0.place ≡ Some station.0.defect =
      subst (λ (c : Cluster). slice_get c.shorts station.0.place ≡ Some station.0.defect) same lies.is_short in
      let same_short : station.0.defect ≡ short = one_entry cluster.shorts station.0.place station.0.defect short lies_there
      (subst (λ (n : ℕ). slice_get cluster.shorts n ≡ Some short) spot short_at) in (
        of.chips_are k station.0 cluster station.1 here,
        subst (λ (l : List ChipDefect). slice_get l k ≡ Some short) (sym of.defects_are)
            (slice_get-map defect_of numbered.stations k ∙ ap (option_map defect_of) station.1 ∙ ap (λ (d : ChipDefect). Some d) same_short),
      );
}

-- each aim is the number of a short
pub aims_within : (chip : LinkedChip) (budget : ℕ) (clusters : List Cluster) (numbered : Numbered) (made : Generated)
    → length numbered.stations ≡ length numbered.numbers → IsGoodFor chip budget clusters numbered.stations made
    → All (λ aim. aim < length numbered.numbers) made.aims
aims_within chip budget clusters numbered made one_each of = all_entries (λ aim. aim < length numbered.numbers) made.aims (λ number aim at.
    let found = (of.good.aims_are.each number aim at).found_at in
    let within = slice_get_within of.task.defects aim found.defect found.is_defect in
    let long = ap length of.defects_are ∙ length-map numbered.stations defect_of in
    omega (arith, within, long, one_each))

-- each pair has a value for each pattern bit of the chip, since each aim's short is one of a chip that stands in for it
pub pairs_whole : (chip : LinkedChip) (rank : ℕ → ℕ) (budget : ℕ) (bridges : List Bridge) (targets : List Target) (clusters : List Cluster)
    (numbered : Numbered) (made : Generated) → IsChip (core_of chip) rank → AreTargetsOf chip bridges targets clusters
    → AreNumbered targets clusters (length targets) numbered → IsGoodFor chip budget clusters numbered.stations made
    → All (λ (pair : List Bool). length pair ≡ bit_count (core_of chip)) made.pairs
pairs_whole chip rank budget bridges targets clusters numbered made is_chip are numbers of =
    subst (λ (c : Chip). All (λ (pair : List Bool). length pair ≡ bit_count c) made.pairs) of.chip_is
    (aimed_whole of.task made.pairs made.aims targeted of.good.aims_are)
  where
    targeted : AreTargets of.task
    targeted place below =
        let long = ap length of.defects_are ∙ length-map numbered.stations defect_of in
        let station = some_at numbered.stations place (omega (arith, below, long)) in
        let lies = numbers.stations place station.0 station.1 in
        let stands = clusters_stand chip rank bridges targets clusters is_chip are in
        let cluster_stands : StandsInFor chip lies.cluster = subst (StandsInFor chip)
        (get_or_from_slice_get clusters station.0.part lies.cluster lies.cluster lies.is_cluster)
        (All-get_or (StandsInFor chip) clusters station.0.part lies.cluster (slice_get_within clusters station.0.part lies.cluster lies.is_cluster) stands) in
        subst (λ (c : Chip). StandsIn c (of.task.chip_of place)) (sym of.chip_is)
        (subst (λ (c : Chip). StandsIn (core_of chip) c) (sym (of.chips_are place station.0 lies.cluster station.1 lies.is_cluster)) cluster_stands)
