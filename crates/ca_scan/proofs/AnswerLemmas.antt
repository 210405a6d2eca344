-- A chip has one list of chains, or one cause to have none.
use Rattle.std.proofs.Common.{◌≡◌, ◌≢◌, ℕ, ◌<◌, List, length, refl, sym, ap, ◌∙◌, arith}
use Rattle.ca_linked.specs.declared.instances.InstanceId.{InstanceId}
use Rattle.ca_linked.specs.Linked.{LinkedChip}
use Rattle.ca_scan.specs.declared.fault.ChainFault.{ChainFault}
use Rattle.ca_scan.specs.declared.fault.ChainFault.TheVariants.{ChainBroken, TooManyChains, NoMemory}
use Rattle.ca_scan.specs.Chain.{IsFirstOff}
use Rattle.ca_scan.specs.ChainFault.{AreAllChains, IsChainCause, HasOneAnswer}
use Rattle.ca_scan.proofs.ChainLemmas.{one_list}

-- one scan instance is the first
one_first : (chip : LinkedChip) (u v : ℕ) → IsFirstOff chip u → IsFirstOff chip v → u ≡ v
one_first chip u v is also = omega (arith, not_after u v is also, not_after v u also is)
  where
    not_after : (a b : ℕ) → IsFirstOff chip a → IsFirstOff chip b → a < b → ⊥
    not_after a b first later less = first.off (later.none_before a less first.scan)

causes : (chip : LinkedChip) (fault other : ChainFault) → IsChainCause chip fault → IsChainCause chip other → fault ≢ NoMemory → other ≢ NoMemory → fault ≡ other
causes chip NoMemory other is also known reported = absurd (known refl)
causes chip fault NoMemory is also known reported = absurd (reported refl)
causes chip (ChainBroken u) (ChainBroken v) is also known reported = ap ChainBroken (same_instance u v (one_first chip u.0 v.0 is also))
  where
    same_instance : (a b : InstanceId) → a.0 ≡ b.0 → a ≡ b
    same_instance a b same = (λ j. record { 0 = same j })
causes chip (ChainBroken u) (TooManyChains count) is also known reported = absurd (is.off (also.on_chains u.0 is.scan))
causes chip (TooManyChains count) (ChainBroken v) is also known reported = absurd (also.off (is.on_chains v.0 also.scan))
causes chip (TooManyChains count) (TooManyChains number) is also known reported =
    ap TooManyChains (is.counted ∙ ap length (one_list chip is.chains also.chains is.are also.are) ∙ sym also.counted)

both : (chip : LinkedChip) (chains : List (List ℕ)) (fault : ChainFault) → AreAllChains chip chains → IsChainCause chip fault → fault ≡ NoMemory
both chip chains NoMemory all is = refl
both chip chains (ChainBroken u) all is = absurd (is.off (all.on_chains u.0 is.scan))
both chip chains (TooManyChains count) all is =
    let size = ap length (one_list chip chains is.chains all.are is.are) in
    let few = all.few in
    let many = is.many in
    let counted = is.counted in
    absurd (omega (arith, size, few, many, counted))

pub one_answer : (chip : LinkedChip) → HasOneAnswer chip
one_answer chip = record {
  one_list = λ chains others all also. one_list chip chains others all.are also.are;
  one_cause = causes chip;
  not_both = both chip;
}
