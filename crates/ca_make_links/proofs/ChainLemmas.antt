-- A chip whose instances are all of library cells has no scan chains, and a generated chip is one.
use Rattle.std.proofs.Common.{◌≡◌, ℕ, zero, suc, ◌≤◌, List, [], ◌∷◌, length, flat_map, Some, None, Option}
use Rattle.std.proofs.Common.{refl, ap, arith}
use Rattle.std.specs.Prelude.{slice_get, IsSomeAnd, option_to_list}
use Rattle.ca_linked.specs.declared.parts.Body.{Body}
use Rattle.ca_linked.specs.declared.parts.Body.TheVariants as body
use Rattle.ca_linked.specs.declared.parts.Part.{Part}
use Rattle.ca_linked.specs.declared.pins.ScanPin.TheVariants.{Si}
use Rattle.ca_linked.specs.Linked.{LinkedChip}
use Rattle.ca_linked.specs.Instances.{HasOnPin, IsScan}
use Rattle.ca_wiring.specs.Linking.{IsLinkOf}
use Rattle.ca_scan.specs.Chain.{IsChainAt, IsChainFrom, IsScanAt, RunsOut}
use Rattle.ca_scan.specs.ChainFault.{AreAllChains}
use Rattle.ca_scan.proofs.AnswerLemmas.{one_answer}
use Rattle.ca_make.specs.declared.gate.TheConstants.{MOST_GATES}
use Rattle.ca_make.specs.Chip.{gates_of}
use Rattle.ca_make_laws.proofs.ChipLemmas.{are_spelled}
use Rattle.ca_make_links.specs.Laws.{HasNoChains}
use Rattle.ca_make_links.proofs.DriverLemmas.{chip_wiring}
use Rattle.ca_make_links.proofs.RuleLemmas.{IsGateBody, bodies}

-- nothing, `count` times
abbrev nothings : ℕ → List (Option (List ℕ))
nothings zero = []
nothings (suc count) = None ∷ nothings count

length-nothings : (count : ℕ) → length (nothings count) ≡ count
length-nothings zero = refl
length-nothings (suc count) = ap (λ n. suc n) (length-nothings count)

none_of_nothings : (count : ℕ) → [] ≡ flat_map option_to_list (nothings count)
none_of_nothings zero = refl
none_of_nothings (suc count) = none_of_nothings count

nothing_there : (count p : ℕ) (chain : List ℕ) → slice_get (nothings count) p ≡ Some (Some chain) → ⊥
nothing_there zero p chain at = absurd cc
nothing_there (suc count) zero chain at = absurd cc
nothing_there (suc count) (suc p) chain at = nothing_there count p chain at

module _ (chip : LinkedChip) (gates : (u : ℕ) (part : Part) → slice_get chip.parts u ≡ Some part → IsGateBody part.body) where
  -- what no library instance has, no instance has
  no_instance : (P : Body → Type 0) → ((it : Body) → IsGateBody it → P it → ⊥) → (u : ℕ)
      → IsSomeAnd (slice_get chip.parts u) (λ part. P part.body) → ⊥
  no_instance P none u = by (slice_get chip.parts u) refl
    where
      by : (found : Option Part) → slice_get chip.parts u ≡ found → IsSomeAnd found (λ part. P part.body) → ⊥
      by None at it = it
      by (Some part) at it = none part.body (gates u part at) it

  not_on_pin : (net : ℕ) (it : Body) → IsGateBody it → HasOnPin Si net it → ⊥
  not_on_pin net (body.Gate cell inputs outputs) gate on = on
  not_on_pin net (body.Scan pins) gate on = gate

  not_scan : (it : Body) → IsGateBody it → IsScan it → ⊥
  not_scan (body.Gate cell inputs outputs) gate scan = scan
  not_scan (body.Scan pins) gate scan = gate

  no_scan_at : (u : ℕ) → IsScanAt chip u → ⊥
  no_scan_at = no_instance IsScan not_scan

  no_run : (net : ℕ) (chain : List ℕ) → 1 ≤ length chain → RunsOut chip net chain → ⊥
  no_run net [] some runs = absurd (omega (arith, some))
  no_run net (u ∷ chain) some runs = no_instance (HasOnPin Si net) (not_on_pin net) u runs.2

  no_chain : (p : ℕ) (chain : List ℕ) → IsChainFrom chip p chain → ⊥
  no_chain p chain it = no_run it.net chain it.some it.runs

  none_at : (count p : ℕ) (found : Option (List ℕ)) → slice_get (nothings count) p ≡ Some found → IsChainAt chip p found
  none_at count p None at = no_chain p
  none_at count p (Some chain) at = absurd (nothing_there count p chain at)

  no_chains : AreAllChains chip []
  no_chains = record {
    are = record {
      at_port = nothings (length chip.ports);
      room = length-nothings (length chip.ports);
      each = none_at (length chip.ports);
      all = none_of_nothings (length chip.ports);
    };
    on_chains = λ u scan. absurd (no_scan_at u scan);
    few = omega arith;
  }

  has_no_chains : HasNoChains chip
  has_no_chains = record {
    no_scan = no_scan_at;
    none = no_chains;
    no_other = λ chains all. (one_answer chip).one_list chains [] all no_chains;
    memory_alone = λ fault cause. (one_answer chip).not_both [] fault no_chains cause;
  }

pub chip_has_no_chains : (n : ℕ) → n ≤ MOST_GATES → (chip : LinkedChip) → IsLinkOf (chip_wiring n) chip → HasNoChains chip
unfolding gates_of
chip_has_no_chains n le chip link = has_no_chains chip (bodies n (are_spelled n le) chip link)
