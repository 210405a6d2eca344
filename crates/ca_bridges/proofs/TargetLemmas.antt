-- What is at the place of a bridge: its target, and of a short its number, its verdict and its merged chip.
use Rattle.std.proofs.Common.{◌≡◌, ℕ, ◌∙◌, List, length, sym, arith, Some}
use Rattle.std.specs.Prelude.{slice_get}
use Rattle.std.proofs.lemmas.Option.{slice_get_within, same_Some}
use Rattle.ca_flat.specs.declared.chip_defect.ChipDefect.{ChipDefect}
use Rattle.ca_linked.specs.Linked.{LinkedChip}
use Rattle.ca_view.specs.Core.{core_of}
use Rattle.ca_credit.specs.declared.verdict.Verdict.{Verdict}
use Rattle.ca_credit.specs.Defects.{Task, IsDefectAt}
use Rattle.ca_cluster.specs.declared.bridge.Bridge.{Bridge}
use Rattle.ca_cluster.specs.Clusters.{IsInside, IsMergedBy}
use Rattle.ca_targets.specs.declared.target.Target.{Target}
use Rattle.ca_targets.specs.declared.target.Target.TheVariants as kind
use Rattle.ca_targets.specs.declared.target.Cluster.{Cluster}
use Rattle.ca_targets.specs.Targets.{IsTarget, AreTargetsOf}
use Rattle.ca_bridge_verdicts.specs.declared.verdict.BridgeVerdict.{BridgeVerdict}
use Rattle.ca_bridge_verdicts.proofs.BridgeLemmas.{some_at}
use Rattle.ca_bridges.specs.Numbers.{IsShort, AreNumbers, own_word, word_of, ArePut, IsTaskOf}

-- two entries at one place are one
pub one_entry : {A : Type 0} (xs : List A) (k : ℕ) (x y : A) → slice_get xs k ≡ Some x → slice_get xs k ≡ Some y → x ≡ y
one_entry xs k x y one other = same_Some x y (sym one ∙ other)

-- a bridge with its target
pub record HasTarget (chip : LinkedChip) (bridges : List Bridge) (targets : List Target) (clusters : List Cluster) (place : ℕ)
    (bridge : Bridge) (target : Target) : Type 0 where
  pub bridge_at : slice_get bridges place ≡ Some bridge
  pub target_at : slice_get targets place ≡ Some target
  pub is : IsTarget chip clusters bridge target

pub target_of : (chip : LinkedChip) (bridges : List Bridge) (targets : List Target) (clusters : List Cluster) (place : ℕ) (bridge : Bridge)
    → AreTargetsOf chip bridges targets clusters → slice_get bridges place ≡ Some bridge
    → (target : Target) × HasTarget chip bridges targets clusters place bridge target
target_of chip bridges targets clusters place bridge are at =
    let within = slice_get_within bridges place bridge at in
    let one_each = are.one_each in
    let found = some_at targets place (omega (arith, within, one_each)) in
    (found.0, record { bridge_at = at; target_at = found.1; is = are.each place bridge found.0 at found.1 })

-- a bridge that is the short of a merged chip: its number among these, what is said of it, and its short
pub record IsJudgedAt (chip : LinkedChip) (numbers : List ℕ) (task : Task) (given : List Verdict) (verdicts : List BridgeVerdict)
    (place : ℕ) (bridge : Bridge) : Type 0 where
  pub k : ℕ
  pub numbered : slice_get numbers k ≡ Some place
  pub verdict : Verdict
  pub given_at : slice_get given k ≡ Some verdict
  pub said_at : slice_get verdicts place ≡ Some (word_of verdict)
  pub made : LinkedChip
  pub short : ChipDefect
  pub chip_is : task.chip_of k ≡ core_of made
  pub short_at : IsDefectAt task k short
  pub inside : IsInside chip bridge
  pub merged : IsMergedBy chip bridge made short

module _ (chip : LinkedChip) (budget : ℕ) (bridges : List Bridge) (targets : List Target) (clusters : List Cluster) (numbers : List ℕ)
    (task : Task) (given : List Verdict) (verdicts : List BridgeVerdict) (are : AreNumbers targets (length targets) numbers)
    (of : IsTaskOf chip budget targets clusters numbers task) (put : ArePut targets numbers given verdicts)
    (counted : length given ≡ length task.defects) where
  pub judged_at : (place number at : ℕ) (bridge : Bridge) → HasTarget chip bridges targets clusters place bridge (kind.Short number at)
      → IsJudgedAt chip numbers task given verdicts place bridge
  judged_at place number at bridge has =
      let short_at = has.is.1 in
      let within = slice_get_within targets place (kind.Short number at) has.target_at in
      let numbered = are.all place within (record {
        target = kind.Short number at;
        at = has.target_at;
        short = tt;
      }) in
      let below = slice_get_within numbers numbered.k place numbered.at in
      let as_many = of.counted in
      let verdict = some_at given numbered.k (omega (arith, below, as_many, counted)) in
      let known = of.each numbered.k place number at short_at.cluster short_at.short numbered.at has.target_at short_at.is_cluster short_at.is_short in
      record {
        k = numbered.k;
        numbered = numbered.at;
        verdict = verdict.0;
        given_at = verdict.1;
        said_at = put.given_are numbered.k place verdict.0 numbered.at verdict.1;
        made = short_at.cluster.chip;
        short = short_at.short;
        chip_is = known.0;
        short_at = known.1;
        inside = has.is.0;
        merged = record { members = short_at.cluster.members; are = short_at.are; merged = short_at.merged };
      }

  -- what is said of a bridge that is no short
  pub own_at : (place : ℕ) (bridge : Bridge) (target : Target) (verdict : BridgeVerdict) → HasTarget chip bridges targets clusters place bridge target
      → (IsShort target → ⊥) → slice_get verdicts place ≡ Some verdict → own_word target ≡ verdict
  own_at place bridge target verdict has none at =
      one_entry verdicts place (own_word target) verdict (put.own place target has.target_at none) at

  -- a verdict that no target has of itself is one on a short
  pub searched_at : (place : ℕ) (bridge : Bridge) (verdict : BridgeVerdict) → AreTargetsOf chip bridges targets clusters
      → slice_get bridges place ≡ Some bridge → slice_get verdicts place ≡ Some verdict → ((target : Target) → own_word target ≡ verdict → ⊥)
      → IsJudgedAt chip numbers task given verdicts place bridge
  searched_at place bridge verdict all at is apart = by found.0 found.1
    where
      found : (target : Target) × HasTarget chip bridges targets clusters place bridge target
      found = target_of chip bridges targets clusters place bridge all at

      by : (target : Target) → HasTarget chip bridges targets clusters place bridge target → IsJudgedAt chip numbers task given verdicts place bridge
      by (kind.Short number at) has = judged_at place number at bridge has
      by kind.Port has = absurd (apart kind.Port (own_at place bridge kind.Port verdict has (λ short. short) is))
      by kind.OneNode has = absurd (apart kind.OneNode (own_at place bridge kind.OneNode verdict has (λ short. short) is))
      by (kind.Wide rule) has = absurd (apart (kind.Wide rule) (own_at place bridge (kind.Wide rule) verdict has (λ short. short) is))
