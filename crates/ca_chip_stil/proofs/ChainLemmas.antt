-- The chains of a chip are runs of scan instances.
use Rattle.std.proofs.Common.{◌≡◌, ℕ, suc, ◌<◌, List, [], ◌∷◌, length, get_or, refl, sym, subst}
use Rattle.std.specs.Prelude.{Option, Some, None, IsSomeAnd, slice_get, option_to_list}
use Rattle.std.specs.List.{All, flat_map}
use Rattle.std.proofs.lemmas.List.Elements.{All-nil, All-cons}
use Rattle.ca_linked.specs.declared.pins.ScanPin.TheVariants.{Si}
use Rattle.ca_linked.specs.declared.parts.Body.{Body}
use Rattle.ca_linked.specs.declared.parts.Body.TheVariants.{Gate, Scan}
use Rattle.ca_linked.specs.declared.parts.Part.{Part}
use Rattle.ca_linked.specs.Linked.{LinkedChip}
use Rattle.ca_linked.specs.Instances.{HasOnPin, IsScan}
use Rattle.ca_scan.specs.Chain.{IsOnPin, RunsOut, IsChainFrom, IsScanAt}
use Rattle.ca_scan.specs.ChainFault.{AreAllChains}
use Rattle.ca_chip_stil.specs.code.Kept.{AreScans, IsRun}

-- what has a pin of a scan instance is one
scan_on_pin : (chip : LinkedChip) (u net : ℕ) → IsOnPin chip Si u net → IsScanAt chip u
scan_on_pin chip u net there = by (slice_get chip.parts u) there
  where
    of_body : (body : Body) → HasOnPin Si net body → IsScan body
    of_body (Gate cell inputs outputs) is = is
    of_body (Scan nets) is = tt

    by : (o : Option Part) → IsSomeAnd o (λ part. HasOnPin Si net part.body) → IsSomeAnd o (λ part. IsScan part.body)
    by None is = is
    by (Some part) is = of_body part.body is

run_of_scans : (chip : LinkedChip) (net : ℕ) (chain : List ℕ) → RunsOut chip net chain → AreScans chip chain
run_of_scans chip net [] runs = All-nil (IsScanAt chip)
run_of_scans chip net (u ∷ chain) runs =
    All-cons (IsScanAt chip) u chain (scan_on_pin chip u net runs.2) (run_of_scans chip runs.0 chain runs.4)

-- what holds of each that was found holds of all that are listed
listed : (P : List ℕ → Type 0) (found : List (Option (List ℕ)))
    → ((p : ℕ) (chain : List ℕ) → slice_get found p ≡ Some (Some chain) → P chain)
    → All P (flat_map option_to_list found)
listed P [] each = All-nil P
listed P (None ∷ found) each = listed P found (λ p. each (suc p))
listed P (Some chain ∷ found) each =
    All-cons P chain (flat_map option_to_list found) (each 0 chain refl) (listed P found (λ p. each (suc p)))

-- each of the chains is a run of scan instances
pub all_runs : (chip : LinkedChip) (chains : List (List ℕ)) → AreAllChains chip chains → All (IsRun chip) chains
all_runs chip chains all =
    subst (All (IsRun chip)) (sym all.are.all)
    (listed (IsRun chip) all.are.at_port (λ p chain at. of_chain p chain (all.are.each p (Some chain) at)))
  where
    of_chain : (p : ℕ) (chain : List ℕ) → IsChainFrom chip p chain → IsRun chip chain
    of_chain p chain whole = record { some = whole.some; scans = run_of_scans chip whole.net chain whole.runs }

pub run_at : (chip : LinkedChip) (chains others : List (List ℕ)) (k : ℕ) (chain : List ℕ) → AreAllChains chip chains
    → others ≡ chains → k < length others → chain ≡ get_or others k chain → IsRun chip chain
run_at chip chains others k chain all same below is =
    subst (IsRun chip) (sym is) (all_runs chip others (subst (AreAllChains chip) (sym same) all) k chain below)
