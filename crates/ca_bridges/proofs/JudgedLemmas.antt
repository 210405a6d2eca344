-- Good verdicts on the shorts of merged chips are good for the bridges.
use Rattle.std.proofs.Common.{◌≡◌, ℕ, ◌<◌, ◌≤◌, ◌∙◌, ◌↔◌, List, length, map, get_or, Bool, refl, sym, ap, subst, arith, Some}
use Rattle.std.specs.Prelude.{slice_get, option_map}
use Rattle.std.proofs.Math.Decide.{dec_lt}
use Rattle.std.proofs.lemmas.List.{length-map}
use Rattle.std.proofs.lemmas.Option.{slice_get_within, slice_get-map, get_or_from_slice_get}
use Rattle.ca_cell.specs.declared.rule.CellRule.{CellRule}
use Rattle.ca_cell.specs.Rules.{IsFirstBroken}
use Rattle.ca_flat.specs.declared.chip_defect.ChipDefect.{ChipDefect}
use Rattle.ca_flat.specs.declared.token.Token.{Token}
use Rattle.ca_flat.specs.Chip.{Chip, IsChip}
use Rattle.ca_flat.specs.Codes.{IsSpentCode}
use Rattle.ca_flat.specs.Detection.{IsExposableIn}
use Rattle.ca_linked.specs.Linked.{LinkedChip}
use Rattle.ca_view.specs.Core.{core_of}
use Rattle.ca_merged.specs.Cluster.{cluster_cell}
use Rattle.ca_merged.specs.Laws.{ClusterIsOne}
use Rattle.ca_credit.specs.declared.verdict.Verdict.{Verdict}
use Rattle.ca_credit.specs.declared.verdict.Verdict.TheVariants as verdict
use Rattle.ca_credit.specs.Defects.{Task, IsDefectAt}
use Rattle.ca_credit.specs.Listed.{IsAscending, IsAim, IsFoundFor}
use Rattle.ca_credit.specs.Good.{IsGood, HasVerdict, HasSupport}
use Rattle.ca_credit.specs.Good as good
use Rattle.ca_cluster.specs.declared.bridge.Bridge.{Bridge}
use Rattle.ca_cluster.specs.Clusters.{IsAtPort, IsOneNode, IsInside, IsWide, IsMergedBy, IsShortFor}
use Rattle.ca_bridge_verdicts.specs.Bridges.{Ends, IsForBridge, AreForBridges}
use Rattle.ca_bridge_verdicts.specs.Good.{HasBridgeVerdict, AreGoodBridges, IsFirstBridgeDetection, IsUntestableBridge}
use Rattle.ca_bridge_verdicts.specs.Laws.{GoodTargetsAreBridges}
use Rattle.ca_targets.specs.declared.target.Target.{Target}
use Rattle.ca_targets.specs.declared.target.Target.TheVariants as kind
use Rattle.ca_targets.specs.declared.target.Cluster.{Cluster}
use Rattle.ca_targets.specs.Targets.{AreTargetsOf}
use Rattle.ca_targets.specs.Laws.{OneCluster}
use Rattle.ca_bridge_verdicts.specs.declared.verdict.BridgeVerdict.{BridgeVerdict}
use Rattle.ca_bridge_verdicts.specs.declared.verdict.BridgeVerdict.TheVariants as said
use Rattle.ca_bridge_verdicts.specs.Promise as judged
use Rattle.ca_bridge_verdicts.specs.Promise.{ends_of, AreGoodVerdicts, IsRightlyAborted, IsSaidWide, IsNeeded, IsCreditedTo, IsAmple}
use Rattle.ca_bridges.specs.Numbers.{IsShort, IsPlaceOfShort, AreNumbers, own_word, word_of, ArePut, IsTaskOf, AreAimsAt}
use Rattle.ca_bridge_verdicts.proofs.BridgeLemmas.{some_at}
use Rattle.ca_bridges.proofs.TargetLemmas.{one_entry, HasTarget, target_of, IsJudgedAt, judged_at, own_at, searched_at}

-- which words no target has of itself
not_credited : (pair output : ℕ) (target : Target) → own_word target ≡ said.Credited pair output → ⊥
not_credited pair output kind.Port e = let f : said.Port ≡ said.Credited pair output = e in cc
not_credited pair output kind.OneNode e = let f : said.Unexposable ≡ said.Credited pair output = e in cc
not_credited pair output (kind.Wide rule) e = let f : said.Wide rule ≡ said.Credited pair output = e in cc
not_credited pair output (kind.Short number at) e = let f : said.Unexposable ≡ said.Credited pair output = e in cc

not_untestable : (target : Target) → own_word target ≡ said.Untestable → ⊥
not_untestable kind.Port e = let f : said.Port ≡ said.Untestable = e in cc
not_untestable kind.OneNode e = let f : said.Unexposable ≡ said.Untestable = e in cc
not_untestable (kind.Wide rule) e = let f : said.Wide rule ≡ said.Untestable = e in cc
not_untestable (kind.Short number at) e = let f : said.Unexposable ≡ said.Untestable = e in cc

not_aborted : (code : List Token) (target : Target) → own_word target ≡ said.Aborted code → ⊥
not_aborted code kind.Port e = let f : said.Port ≡ said.Aborted code = e in cc
not_aborted code kind.OneNode e = let f : said.Unexposable ≡ said.Aborted code = e in cc
not_aborted code (kind.Wide rule) e = let f : said.Wide rule ≡ said.Aborted code = e in cc
not_aborted code (kind.Short number at) e = let f : said.Unexposable ≡ said.Aborted code = e in cc

-- a verdict's word says which verdict it is
was_credited : (pair output : ℕ) (v : Verdict) → word_of v ≡ said.Credited pair output → v ≡ verdict.Credited pair output
was_credited pair output (verdict.Credited p o) e = let f : said.Credited p o ≡ said.Credited pair output = e in cc
was_credited pair output verdict.Unexposable e = let f : said.Unexposable ≡ said.Credited pair output = e in cc
was_credited pair output verdict.Untestable e = let f : said.Untestable ≡ said.Credited pair output = e in cc
was_credited pair output (verdict.Aborted code) e = let f : said.Aborted code ≡ said.Credited pair output = e in cc

was_untestable : (v : Verdict) → word_of v ≡ said.Untestable → v ≡ verdict.Untestable
was_untestable (verdict.Credited p o) e = let f : said.Credited p o ≡ said.Untestable = e in cc
was_untestable verdict.Unexposable e = let f : said.Unexposable ≡ said.Untestable = e in cc
was_untestable verdict.Untestable e = refl
was_untestable (verdict.Aborted code) e = let f : said.Aborted code ≡ said.Untestable = e in cc

was_unexposable : (v : Verdict) → word_of v ≡ said.Unexposable → v ≡ verdict.Unexposable
was_unexposable (verdict.Credited p o) e = let f : said.Credited p o ≡ said.Unexposable = e in cc
was_unexposable verdict.Unexposable e = refl
was_unexposable verdict.Untestable e = let f : said.Untestable ≡ said.Unexposable = e in cc
was_unexposable (verdict.Aborted code) e = let f : said.Aborted code ≡ said.Unexposable = e in cc

was_aborted : (tokens : List Token) (v : Verdict) → word_of v ≡ said.Aborted tokens → v ≡ verdict.Aborted tokens
was_aborted tokens (verdict.Credited p o) e = let f : said.Credited p o ≡ said.Aborted tokens = e in cc
was_aborted tokens verdict.Unexposable e = let f : said.Unexposable ≡ said.Aborted tokens = e in cc
was_aborted tokens verdict.Untestable e = let f : said.Untestable ≡ said.Aborted tokens = e in cc
was_aborted tokens (verdict.Aborted code) e = let f : said.Aborted code ≡ said.Aborted tokens = e in cc

never_port : (v : Verdict) → word_of v ≡ said.Port → ⊥
never_port (verdict.Credited p o) e = let f : said.Credited p o ≡ said.Port = e in cc
never_port verdict.Unexposable e = let f : said.Unexposable ≡ said.Port = e in cc
never_port verdict.Untestable e = let f : said.Untestable ≡ said.Port = e in cc
never_port (verdict.Aborted code) e = let f : said.Aborted code ≡ said.Port = e in cc

never_wide : (rule : CellRule) (v : Verdict) → word_of v ≡ said.Wide rule → ⊥
never_wide rule (verdict.Credited p o) e = let f : said.Credited p o ≡ said.Wide rule = e in cc
never_wide rule verdict.Unexposable e = let f : said.Unexposable ≡ said.Wide rule = e in cc
never_wide rule verdict.Untestable e = let f : said.Untestable ≡ said.Wide rule = e in cc
never_wide rule (verdict.Aborted code) e = let f : said.Aborted code ≡ said.Wide rule = e in cc

-- the short of a chip that stands for a bridge, by the ends of the bridge
for_bridge : (chip : Chip) (bridge : Bridge) (made : Chip) (short : ChipDefect) → IsShortFor chip bridge made short
    → IsForBridge chip (ends_of bridge) made short
for_bridge chip bridge made short stands = record {
  same_inputs = stands.same_inputs;
  same_outputs = stands.same_outputs;
  good = stands.good;
  detects = stands.detects;
}

no_bridge : Bridge
no_bridge = record { instance = record { 0 = 0 }; m = record { 0 = 0 }; n = record { 0 = 0 } }

-- the ends of the bridge at a place
abbrev ends_at : List Bridge → ℕ → Ends
ends_at bridges place = ends_of (get_or bridges place no_bridge)

module _ (chip : LinkedChip) (rank : ℕ → ℕ) (budget : ℕ) (bridges : List Bridge) (targets : List Target) (clusters : List Cluster) (numbers : List ℕ)
    (task : Task) (pairs : List (List Bool)) (aims : List ℕ) (given : List Verdict) (places : List ℕ) (verdicts : List BridgeVerdict)
    (is_chip : IsChip (core_of chip) rank) (all : AreTargetsOf chip bridges targets clusters) (are : AreNumbers targets (length targets) numbers)
    (of : IsTaskOf chip budget targets clusters numbers task) (is_good : IsGood task pairs aims given)
    (put : ArePut targets numbers given verdicts) (moved : AreAimsAt numbers aims places)
    (one_cluster : OneCluster) (cluster_is_one : ClusterIsOne) (bridge_law : GoodTargetsAreBridges) where
  abbrev Judged : ℕ → Bridge → Type 0
  Judged place bridge = IsJudgedAt chip numbers task given verdicts place bridge

  short_judged : (place number at : ℕ) (bridge : Bridge) → HasTarget chip bridges targets clusters place bridge (kind.Short number at)
      → Judged place bridge
  short_judged = judged_at chip budget bridges targets clusters numbers task given verdicts are of put is_good.one_each

  searched : (place : ℕ) (bridge : Bridge) (v : BridgeVerdict) → slice_get bridges place ≡ Some bridge → slice_get verdicts place ≡ Some v
      → ((target : Target) → own_word target ≡ v → ⊥) → Judged place bridge
  searched place bridge v at is apart =
      searched_at chip budget bridges targets clusters numbers task given verdicts are of put is_good.one_each place bridge v all at is apart

  own : (place : ℕ) (bridge : Bridge) (target : Target) (v : BridgeVerdict) → HasTarget chip bridges targets clusters place bridge target
      → (IsShort target → ⊥) → slice_get verdicts place ≡ Some v → own_word target ≡ v
  own = own_at chip budget bridges targets clusters numbers task given verdicts are of put is_good.one_each

  -- the short at a number, of the bridge at its place
  numbered : (k place : ℕ) (bridge : Bridge) → slice_get numbers k ≡ Some place → slice_get bridges place ≡ Some bridge
      → (made : LinkedChip) × (short : ChipDefect) × (task.chip_of k ≡ core_of made) × IsDefectAt task k short × IsMergedBy chip bridge made short
  numbered k place bridge at is = by found.0 found.1 (are.shorts k place at)
    where
      found : (target : Target) × HasTarget chip bridges targets clusters place bridge target
      found = target_of chip bridges targets clusters place bridge all is

      by : (target : Target) → HasTarget chip bridges targets clusters place bridge target → IsPlaceOfShort targets place
          → (made : LinkedChip) × (short : ChipDefect) × (task.chip_of k ≡ core_of made) × IsDefectAt task k short × IsMergedBy chip bridge made short
      by (kind.Short number spot) has short =
          let short_at = has.is.1 in
          let known = of.each k place number spot short_at.cluster short_at.short at has.target_at short_at.is_cluster short_at.is_short in (
            short_at.cluster.chip,
            short_at.short,
            known.0,
            known.1,
            record { members = short_at.cluster.members; are = short_at.are; merged = short_at.merged },
          )
      by kind.Port has short = absurd (subst IsShort (one_entry targets place short.target kind.Port short.at has.target_at) short.short)
      by kind.OneNode has short = absurd (subst IsShort (one_entry targets place short.target kind.OneNode short.at has.target_at) short.short)
      by (kind.Wide rule) has short = absurd (subst IsShort (one_entry targets place short.target (kind.Wide rule) short.at has.target_at) short.short)

  abbrev listed : List Ends
  listed = map (ends_at bridges) numbers

  listed_at : (k place : ℕ) (bridge : Bridge) → slice_get numbers k ≡ Some place → slice_get bridges place ≡ Some bridge
      → slice_get listed k ≡ Some (ends_of bridge)
  listed_at k place bridge at is =
      slice_get-map (ends_at bridges) numbers k ∙ ap (option_map (ends_at bridges)) at
      ∙ ap (λ (b : Bridge). Some (ends_of b)) (get_or_from_slice_get bridges place bridge no_bridge is)

  for_bridges : AreForBridges task listed
  for_bridges = record {
    one_each = of.counted ∙ sym (length-map numbers (ends_at bridges));
    each = λ k ends short ends_is short_is.
        let counted = of.counted in
        let below = slice_get_within task.defects k short short_is in
        let place = some_at numbers k (omega (arith, counted, below)) in
        let one_each = all.one_each in
        let inside = are.below k place.0 place.1 in
        let bridge = some_at bridges place.0 (omega (arith, inside, one_each)) in
        let here = numbered k place.0 bridge.0 place.1 bridge.1 in
        let same_ends = one_entry listed k (ends_of bridge.0) ends (listed_at k place.0 bridge.0 place.1 bridge.1) ends_is in
        let same_short = one_entry task.defects k here.1 short here.3 short_is in
        subst (λ (c : Chip). IsForBridge c ends (task.chip_of k) short) (sym of.chip_is)
        (subst (λ (c : Chip). IsForBridge (core_of chip) ends c short) (sym here.2)
        (subst (λ (e : Ends). IsForBridge (core_of chip) e (core_of here.0) short) same_ends
        (subst (λ (s : ChipDefect). IsForBridge (core_of chip) (ends_of bridge.0) (core_of here.0) s) same_short
        (for_bridge (core_of chip) bridge.0 (core_of here.0) here.1 here.4.merged.stands))));
  }

  good_bridges : AreGoodBridges (core_of chip) listed pairs given
  good_bridges = subst (λ (c : Chip). AreGoodBridges c listed pairs given) of.chip_is
      (bridge_law task rank listed pairs aims given (subst (λ (c : Chip). IsChip c rank) (sym of.chip_is) is_chip) for_bridges is_good)

  bridge_has : (place : ℕ) (bridge : Bridge) (v : Verdict) (is : slice_get bridges place ≡ Some bridge) (at : Judged place bridge) → at.verdict ≡ v
      → HasBridgeVerdict listed given at.k (ends_of bridge) v
  bridge_has place bridge v is at same = record {
    is_bridge = listed_at at.k place bridge at.numbered is;
    is_verdict = at.given_at ∙ ap (λ (x : Verdict). Some x) same;
  }

  short_has : (place : ℕ) (bridge : Bridge) (v : Verdict) (at : Judged place bridge) → at.verdict ≡ v → HasVerdict task given at.k at.short v
  short_has place bridge v at same = record { is_defect = at.short_at; is_verdict = at.given_at ∙ ap (λ (x : Verdict). Some x) same }

  -- the chip and the short of a bridge are those of any merged chip for it
  same_chip : (place : ℕ) (bridge : Bridge) (made : LinkedChip) (short : ChipDefect) (at : Judged place bridge) → IsMergedBy chip bridge made short
      → (task.chip_of at.k ≡ core_of made) × (at.short ≡ short)
  same_chip place bridge made short at merged =
      let same = one_cluster chip bridge at.made made at.short short at.merged merged in
      (at.chip_is ∙ same.0, same.1)

  said_is : (place : ℕ) (bridge : Bridge) (v : BridgeVerdict) (at : Judged place bridge) → slice_get verdicts place ≡ Some v → word_of at.verdict ≡ v
  said_is place bridge v at is = one_entry verdicts place (word_of at.verdict) v at.said_at is

  credited : (place pair output : ℕ) (bridge : Bridge) → judged.HasVerdict bridges verdicts place bridge (said.Credited pair output)
      → IsFirstBridgeDetection (core_of chip) (ends_of bridge) pairs pair output
  credited place pair output bridge has =
      let at = searched place bridge (said.Credited pair output) has.is_bridge has.is_verdict (not_credited pair output) in
      let same = was_credited pair output at.verdict (said_is place bridge (said.Credited pair output) at has.is_verdict) in
      good_bridges.credited at.k pair output (ends_of bridge) (bridge_has place bridge (verdict.Credited pair output) has.is_bridge at same)

  untestable : (place : ℕ) (bridge : Bridge) → judged.HasVerdict bridges verdicts place bridge said.Untestable
      → IsUntestableBridge (core_of chip) (ends_of bridge)
  untestable place bridge has =
      let at = searched place bridge said.Untestable has.is_bridge has.is_verdict not_untestable in
      let same = was_untestable at.verdict (said_is place bridge said.Untestable at has.is_verdict) in
      good_bridges.untestable at.k (ends_of bridge) (bridge_has place bridge verdict.Untestable has.is_bridge at same)

  aborted : (place : ℕ) (bridge : Bridge) (code : List Token) (made : LinkedChip) (short : ChipDefect)
      → judged.HasVerdict bridges verdicts place bridge (said.Aborted code) → IsMergedBy chip bridge made short
      → IsRightlyAborted chip budget pairs bridge code made short
  aborted place bridge code made short has merged =
      let at = searched place bridge (said.Aborted code) has.is_bridge has.is_verdict (not_aborted code) in
      let same = was_aborted code at.verdict (said_is place bridge (said.Aborted code) at has.is_verdict) in
      let has_short = short_has place bridge (verdict.Aborted code) at same in
      let rightly = is_good.aborted at.k at.short code has_short in
      let alike = same_chip place bridge made short at merged in
      subst (λ (s : ChipDefect). IsRightlyAborted chip budget pairs bridge code made s) alike.1 (record {
        exposable = subst (λ (c : Chip). IsExposableIn c at.short) alike.0 rightly.exposable;
        undetected = good_bridges.undetected at.k (ends_of bridge) code (bridge_has place bridge (verdict.Aborted code) has.is_bridge at same);
        spent = subst (λ (c : Chip). IsSpentCode c at.short budget code) alike.0 (subst (λ (b : ℕ). IsSpentCode (task.chip_of at.k) at.short b code) of.budget_is rightly.spent);
        checked = subst (λ (c : Chip). good.IsCheckedSpent c at.short budget code) alike.0
            (subst (λ (b : ℕ). good.IsCheckedSpent (task.chip_of at.k) at.short b code) of.budget_is (is_good.checked at.k at.short code has_short));
      })

  -- the target of a bridge that is the short of a merged chip is a short
  wide_merged : (bridge : Bridge) (rule : CellRule) (made : LinkedChip) (short : ChipDefect) → IsWide chip bridge rule → IsMergedBy chip bridge made short → ⊥
  wide_merged bridge rule made short is merged =
      let same = cluster_is_one (core_of chip) bridge.instance.0 bridge.m.0 bridge.n.0 is.members merged.members is.are merged.are in
      let broken : IsFirstBroken (cluster_cell (core_of chip) merged.members) rule =
      subst (λ (members : List ℕ). IsFirstBroken (cluster_cell (core_of chip) members) rule) same is.broken in
      merged.merged.keeps rule broken.broken

  inside_judged : (place : ℕ) (bridge : Bridge) (made : LinkedChip) (short : ChipDefect) → slice_get bridges place ≡ Some bridge → IsInside chip bridge
      → IsMergedBy chip bridge made short → Judged place bridge
  inside_judged place bridge made short at inside merged = by found.0 found.1
    where
      found : (target : Target) × HasTarget chip bridges targets clusters place bridge target
      found = target_of chip bridges targets clusters place bridge all at

      by : (target : Target) → HasTarget chip bridges targets clusters place bridge target → Judged place bridge
      by (kind.Short number at) has = short_judged place number at bridge has
      by kind.Port has = absurd (inside.no_port has.is)
      by kind.OneNode has = absurd (inside.apart has.is.1)
      by (kind.Wide rule) has = absurd (wide_merged bridge rule made short has.is.1 merged)

  unexposable : (place : ℕ) (bridge : Bridge) (made : LinkedChip) (short : ChipDefect) → slice_get bridges place ≡ Some bridge
      → IsInside chip bridge → IsMergedBy chip bridge made short
      → (slice_get verdicts place ≡ Some said.Unexposable) ↔ (IsExposableIn (core_of made) short → ⊥)
  unexposable place bridge made short is inside merged = (
    (λ at exposed.
        let same = was_unexposable here.verdict (said_is place bridge said.Unexposable here at) in
        is_good.unexposable here.k here.short (short_has place bridge verdict.Unexposable here same)
        (subst (λ (c : Chip). IsExposableIn c here.short) (sym alike.0) (subst (λ (s : ChipDefect). IsExposableIn (core_of made) s) (sym alike.1) exposed))),
    (λ none.
        let named = is_good.named_unexposable here.k here.short here.short_at
        (λ exposed. none (subst (λ (s : ChipDefect). IsExposableIn (core_of made) s) alike.1 (subst (λ (c : Chip). IsExposableIn c here.short) alike.0 exposed))) in
        let same : here.verdict ≡ verdict.Unexposable = one_entry given here.k here.verdict verdict.Unexposable here.given_at named.is_verdict in
        here.said_at ∙ ap (λ (v : Verdict). Some (word_of v)) same),
  )
    where
      here : Judged place bridge
      here = inside_judged place bridge made short is inside merged

      alike : (task.chip_of here.k ≡ core_of made) × (here.short ≡ short)
      alike = same_chip place bridge made short here merged

  port : (place : ℕ) (bridge : Bridge) → slice_get bridges place ≡ Some bridge
      → (slice_get verdicts place ≡ Some said.Port) ↔ IsAtPort (core_of chip) bridge
  port place bridge at = (forward found.0 found.1, back found.0 found.1)
    where
      found : (target : Target) × HasTarget chip bridges targets clusters place bridge target
      found = target_of chip bridges targets clusters place bridge all at

      forward : (target : Target) → HasTarget chip bridges targets clusters place bridge target
          → slice_get verdicts place ≡ Some said.Port → IsAtPort (core_of chip) bridge
      forward kind.Port has is = has.is
      forward kind.OneNode has is = let e : said.Unexposable ≡ said.Port = own place bridge kind.OneNode said.Port has (λ short. short) is in cc
      forward (kind.Wide rule) has is = let e : said.Wide rule ≡ said.Port = own place bridge (kind.Wide rule) said.Port has (λ short. short) is in cc
      forward (kind.Short number at) has is =
          let here = short_judged place number at bridge has in
          absurd (never_port here.verdict (said_is place bridge said.Port here is))

      back : (target : Target) → HasTarget chip bridges targets clusters place bridge target
          → IsAtPort (core_of chip) bridge → slice_get verdicts place ≡ Some said.Port
      back kind.Port has is = put.own place kind.Port has.target_at (λ short. short)
      back kind.OneNode has is = absurd (has.is.0 is)
      back (kind.Wide rule) has is = absurd (has.is.0.no_port is)
      back (kind.Short number at) has is = absurd (has.is.0.no_port is)

  wide : (place : ℕ) (bridge : Bridge) (rule : CellRule) → judged.HasVerdict bridges verdicts place bridge (said.Wide rule)
      → IsInside chip bridge × IsWide chip bridge rule
  wide place bridge rule has_verdict = by found.0 found.1
    where
      is : slice_get verdicts place ≡ Some (said.Wide rule)
      is = has_verdict.is_verdict

      found : (target : Target) × HasTarget chip bridges targets clusters place bridge target
      found = target_of chip bridges targets clusters place bridge all has_verdict.is_bridge

      by : (target : Target) → HasTarget chip bridges targets clusters place bridge target → IsInside chip bridge × IsWide chip bridge rule
      by kind.Port has = let e : said.Port ≡ said.Wide rule = own place bridge kind.Port (said.Wide rule) has (λ short. short) is in cc
      by kind.OneNode has = let e : said.Unexposable ≡ said.Wide rule = own place bridge kind.OneNode (said.Wide rule) has (λ short. short) is in cc
      by (kind.Wide other) has =
          let e : said.Wide other ≡ said.Wide rule = own place bridge (kind.Wide other) (said.Wide rule) has (λ short. short) is in
          let same : other ≡ rule = cc in
          (has.is.0, subst (λ (r : CellRule). IsWide chip bridge r) same has.is.1)
      by (kind.Short number at) has =
          let here = short_judged place number at bridge has in
          absurd (never_wide rule here.verdict (said_is place bridge (said.Wide rule) here is))

  named_wide : (place : ℕ) (bridge : Bridge) (rule : CellRule) → slice_get bridges place ≡ Some bridge → IsInside chip bridge
      → IsWide chip bridge rule → IsSaidWide verdicts place
  named_wide place bridge rule at inside is = by found.0 found.1
    where
      found : (target : Target) × HasTarget chip bridges targets clusters place bridge target
      found = target_of chip bridges targets clusters place bridge all at

      by : (target : Target) → HasTarget chip bridges targets clusters place bridge target → IsSaidWide verdicts place
      by kind.Port has = absurd (inside.no_port has.is)
      by kind.OneNode has = absurd (inside.apart has.is.1)
      by (kind.Wide other) has = record { rule = other; is = put.own place (kind.Wide other) has.target_at (λ short. short) }
      by (kind.Short number at) has =
          let short_at = has.is.1 in
          absurd (wide_merged bridge rule short_at.cluster.chip short_at.short is
          (record { members = short_at.cluster.members; are = short_at.are; merged = short_at.merged }))

  one_node : (place : ℕ) (bridge : Bridge) → slice_get bridges place ≡ Some bridge → (IsAtPort (core_of chip) bridge → ⊥)
      → IsOneNode (core_of chip) bridge → slice_get verdicts place ≡ Some said.Unexposable
  one_node place bridge at no_port is = by found.0 found.1
    where
      found : (target : Target) × HasTarget chip bridges targets clusters place bridge target
      found = target_of chip bridges targets clusters place bridge all at

      by : (target : Target) → HasTarget chip bridges targets clusters place bridge target → slice_get verdicts place ≡ Some said.Unexposable
      by kind.Port has = absurd (no_port has.is)
      by kind.OneNode has = put.own place kind.OneNode has.target_at (λ short. short)
      by (kind.Wide rule) has = absurd (has.is.0.apart is)
      by (kind.Short number at) has = absurd (has.is.0.apart is)

  -- a credit among those of shorts is one of the bridge
  credited_to : (pair k place : ℕ) → slice_get numbers k ≡ Some place → good.IsCreditedTo given pair k → IsCreditedTo verdicts pair place
  credited_to pair k place at to = record {
    output = to.output;
    credited = put.given_are k place (verdict.Credited pair to.output) at to.credited;
  }

  -- the place of a number
  place_at : (k : ℕ) (v : Verdict) → slice_get given k ≡ Some v → (place : ℕ) × (slice_get numbers k ≡ Some place)
  place_at k v at =
      let below = slice_get_within given k v at in
      let one_each = is_good.one_each in
      let counted = of.counted in
      some_at numbers k (omega (arith, below, one_each, counted))

  needed : (pair : ℕ) → pair < length pairs → IsNeeded verdicts pair
  needed pair within =
      let some = is_good.needed pair within in
      let at = place_at some.place (verdict.Credited pair some.output) some.credited in
      record { place = at.0; to = credited_to pair some.place at.0 at.1 (record { output = some.output; credited = some.credited }) }

  -- an aim of the bridges is the place of one of the shorts
  aim_at : (number aim : ℕ) → slice_get places number ≡ Some aim
      → (k : ℕ) × (slice_get aims number ≡ Some k) × (slice_get numbers k ≡ Some aim)
  aim_at number aim at =
      let below = slice_get_within places number aim at in
      let counted = moved.counted in
      let within : number < length aims = omega (arith, below, counted) in
      let k = some_at aims number within in
      (k.0, k.1, sym (moved.each number k.0 within k.1) ∙ at)

  aims_are : (number aim : ℕ) → slice_get places number ≡ Some aim → judged.IsAim chip budget bridges pairs verdicts number aim
  aims_are number aim at =
      let k = aim_at number aim at in
      let is : IsAim task pairs number k.0 = is_good.aims_are.each number k.0 k.1 in
      let one_each = all.one_each in
      let below = are.below k.0 aim k.2 in
      let bridge = some_at bridges aim (omega (arith, one_each, below)) in
      let here = numbered k.0 aim bridge.0 k.2 bridge.1 in
      record {
        bridge = bridge.0;
        pair = is.pair;
        is_bridge = bridge.1;
        is_pair = is.is_pair;
        credited = credited_to number k.0 aim k.2 (is_good.aims_credited number k.0 k.1);
        found = λ made short merged.
            let same = one_cluster chip bridge.0 here.0 made here.1 short here.4 merged in
            let same_short = one_entry task.defects k.0 is.found_at.defect here.1 is.found_at.is_defect here.3 in
            subst (λ (b : ℕ). IsFoundFor (core_of made) b short is.pair) of.budget_is
            (subst (λ (c : Chip). IsFoundFor c task.budget short is.pair) (here.2 ∙ same.0)
            (subst (λ (s : ChipDefect). IsFoundFor (task.chip_of k.0) task.budget s is.pair) (same_short ∙ same.1) is.found_at.found));
      }

  ascending : IsAscending places
  ascending i j low high before low_at high_at =
      let k = aim_at i low low_at in
      let l = aim_at j high high_at in
      are.ascending k.0 l.0 low high (is_good.aims_are.ascending i j k.0 l.0 before k.1 l.1) k.2 l.2

  ample : IsAmple chip budget bridges → good.IsAmple task
  ample enough k short at =
      let counted = of.counted in
      let below = slice_get_within task.defects k short at in
      let place = some_at numbers k (omega (arith, counted, below)) in
      let one_each = all.one_each in
      let inside = are.below k place.0 place.1 in
      let bridge = some_at bridges place.0 (omega (arith, inside, one_each)) in
      let here = numbered k place.0 bridge.0 place.1 bridge.1 in
      let same = one_entry task.defects k here.1 short here.3 at in
      let found = enough place.0 bridge.0 here.0 here.1 bridge.1 (inside_at k place.0 bridge.0 place.1 bridge.1) here.4 in (
        found.0,
        subst (λ (c : Chip). HasSupport c short found.0) (sym here.2)
            (subst (λ (s : ChipDefect). HasSupport (core_of here.0) s found.0) same found.1),
        (let few = found.2 in let is = of.budget_is in omega (arith, few, is)),
      )
    where
      inside_at : (k place : ℕ) (bridge : Bridge) → slice_get numbers k ≡ Some place → slice_get bridges place ≡ Some bridge → IsInside chip bridge
      inside_at k place bridge at is = by found.0 found.1 (are.shorts k place at)
        where
          found : (target : Target) × HasTarget chip bridges targets clusters place bridge target
          found = target_of chip bridges targets clusters place bridge all is

          by : (target : Target) → HasTarget chip bridges targets clusters place bridge target → IsPlaceOfShort targets place → IsInside chip bridge
          by (kind.Short number at) has short = has.is.0
          by kind.Port has short = absurd (subst IsShort (one_entry targets place short.target kind.Port short.at has.target_at) short.short)
          by kind.OneNode has short = absurd (subst IsShort (one_entry targets place short.target kind.OneNode short.at has.target_at) short.short)
          by (kind.Wide rule) has short = has.is.0

  aims_least : IsAmple chip budget bridges → (pair aim place : ℕ) → slice_get places pair ≡ Some aim → IsCreditedTo verdicts pair place → aim ≤ place
  aims_least enough pair aim place at to = by (place_in place to)
    where
      k : (k : ℕ) × (slice_get aims pair ≡ Some k) × (slice_get numbers k ≡ Some aim)
      k = aim_at pair aim at

      -- the place of a credit is that of a short
      place_in : (place : ℕ) → IsCreditedTo verdicts pair place
          → (l : ℕ) × (slice_get numbers l ≡ Some place) × good.IsCreditedTo given pair l
      place_in place to =
          let one_each = put.one_each in
          let below = slice_get_within verdicts place (said.Credited pair to.output) to.credited in
          let as_many = all.one_each in
          let bridge = some_at bridges place (omega (arith, one_each, below, as_many)) in
          let here = searched place bridge.0 (said.Credited pair to.output) bridge.1 to.credited (not_credited pair to.output) in
          let same = was_credited pair to.output here.verdict (said_is place bridge.0 (said.Credited pair to.output) here to.credited) in
          (here.k, here.numbered, record { output = to.output; credited = here.given_at ∙ ap (λ (v : Verdict). Some v) same })

      by : (l : ℕ) × (slice_get numbers l ≡ Some place) × good.IsCreditedTo given pair l → aim ≤ place
      by l = in_order (is_good.aims_least (ample enough) pair k.0 l.0 k.1 l.2)
        where
          in_order : k.0 ≤ l.0 → aim ≤ place
          in_order order = elim (dec_lt k.0 l.0) [
            | yes before ↦ let less = are.ascending k.0 l.0 aim place before k.2 l.1 in omega (arith, less)
            | no not ↦
                let same : k.0 ≡ l.0 = omega (arith, order, not) in
                let e = one_entry numbers l.0 aim place (subst (λ (n : ℕ). slice_get numbers n ≡ Some aim) same k.2) l.1 in
                omega (arith, e)
          ]

  pub are_good : AreGoodVerdicts chip budget bridges pairs places verdicts
  are_good = record {
    one_each = put.one_each ∙ all.one_each;
    port = port;
    wide = wide;
    named_wide = named_wide;
    one_node = one_node;
    unexposable = unexposable;
    credited = credited;
    untestable = untestable;
    aborted = aborted;
    needed = needed;
    one_aim_each = moved.counted ∙ is_good.aims_are.one_each;
    ascending = ascending;
    aims_are = aims_are;
    aims_least = aims_least;
  }
