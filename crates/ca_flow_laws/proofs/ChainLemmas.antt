-- A chip has chains, or, up to a double negation, a cause to have none.
use Rattle.std.proofs.Common.{ℕ, zero, suc, ◌≡◌, ◌<◌, ◌⊎◌, ◌∙◌, inl, inr, refl, sym, ap, subst, arith, List, [], ◌∷◌, ◌++◌, length}
use Rattle.std.proofs.Common.{Option, Some, None, length-append}
use Rattle.std.specs.Prelude.{IsSomeAnd, slice_get, option_to_list}
use Rattle.std.specs.List.{flat_map}
use Rattle.std.proofs.Math.Decide.{dec_lt, dec_le}
use Rattle.std.proofs.lemmas.Option.{slice_get_within}
use Rattle.ca_linked.specs.declared.parts.Part.{Part}
use Rattle.ca_linked.specs.Instances.{IsScan}
use Rattle.ca_linked.specs.Linked.{LinkedChip}
use Rattle.ca_scan.specs.declared.whole.TheConstants.{MOST_CHAINS}
use Rattle.ca_scan.specs.Chain.{IsChainFrom, IsChainAt, AreChains, IsScanAt, IsOnChain, AreOnChains, IsFirstOff}
use Rattle.ca_fault.specs.declared.fault.LimitKind.TheVariants as limit
use Rattle.ca_fault.specs.declared.fault.Fault.{Fault}
use Rattle.ca_fault.specs.declared.fault.Fault.TheVariants.{Chain, Limit}
use Rattle.ca_load.specs.Chips.{IsTracingCause, IsTraced}
use Rattle.ca_flow_laws.proofs.FirstLemmas.{either}

-- what stands at a place of a list with one item more
pub last_or : {A : Type 0} (list : List A) (x y : A) (p : ℕ) → slice_get (list ++ x ∷ []) p ≡ Some y
    → (slice_get list p ≡ Some y) ⊎ ((p ≡ length list) × (x ≡ y))
last_or [] x y zero at = inr (refl, cc)
last_or [] x y (suc p) at = absurd cc
last_or (first ∷ list) x y zero at = inl at
last_or (first ∷ list) x y (suc p) at = elim (last_or list x y p at) [
  | inl there ↦ inl there
  | inr here ↦ inr (ap suc here.0, here.1)
]

module _ (chip : LinkedChip) where
  -- the chains from the first ports
  pub record AreAtPorts (n : ℕ) : Type 0 where
    pub list : List (Option (List ℕ))
    pub count : length list ≡ n
    pub each : (p : ℕ) (found : Option (List ℕ)) → slice_get list p ≡ Some found → IsChainAt chip p found

  with_port : (n : ℕ) (found : Option (List ℕ)) → IsChainAt chip n found → AreAtPorts n → AreAtPorts (suc n)
  with_port n found is are = record {
    list = are.list ++ found ∷ [];
    count = let grown = length-append are.list (found ∷ []) in let count = are.count in omega (arith, grown, count);
    each = λ p other at. elim (last_or are.list found other p at) [
      | inl there ↦ are.each p other there
      | inr here ↦ subst (λ it. IsChainAt chip p it) here.1 (subst (λ k. IsChainAt chip k found) (sym (here.0 ∙ are.count)) is)
    ];
  }

  ports_found : (n : ℕ) → (AreAtPorts n → ⊥) → ⊥
  ports_found zero refutes = refutes (record { list = []; count = refl; each = λ p found at. absurd cc })
  ports_found (suc n) refutes = ports_found n (λ are. either ((chain : List ℕ) × IsChainFrom chip n chain) (λ found. elim found [
    | inl one ↦ refutes (with_port n (Some one.0) one.1 are)
    | inr none ↦ refutes (with_port n None (λ chain is. none (chain, is)) are)
  ]))

  -- where no scan instance is the first that is on no chain
  module _ (none : (u : ℕ) → IsFirstOff chip u → ⊥) where
    on_below : (n : ℕ) → (((u : ℕ) → u < n → IsScanAt chip u → IsOnChain chip u) → ⊥) → ⊥
    on_below zero refutes = refutes (λ u less scan. absurd (omega (arith, less)))
    on_below (suc n) refutes = on_below n (λ all. either (IsOnChain chip n) (λ found. elim found [
      | inl on ↦ refutes (λ u less scan. more u n less all (λ same. subst (IsOnChain chip) (sym same) on) scan)
      | inr off ↦ either (IsScanAt chip n) (λ there. elim there [
        | inl scan ↦ none n (record { scan = scan; off = off; none_before = all })
        | inr other ↦ refutes (λ u less scan. more u n less all (λ same. absurd (other (subst (IsScanAt chip) same scan))) scan)
      ])
    ]))
      where
        more : (u n : ℕ) → u < suc n → ((u : ℕ) → u < n → IsScanAt chip u → IsOnChain chip u) → (u ≡ n → IsOnChain chip u) → IsScanAt chip u
            → IsOnChain chip u
        more u n less all last scan = elim (dec_lt u n) [
          | yes before ↦ all u before scan
          | no not ↦ last (omega (arith, less, not))
        ]

    scan_within : (u : ℕ) → IsScanAt chip u → u < length chip.parts
    scan_within u scan = by (slice_get chip.parts u) refl scan
      where
        by : (found : Option Part) → slice_get chip.parts u ≡ found → IsSomeAnd found (λ part. IsScan part.body) → u < length chip.parts
        by None at scan = absurd scan
        by (Some part) at scan = slice_get_within chip.parts u part at

    on_chains : (AreOnChains chip → ⊥) → ⊥
    on_chains refutes = on_below (length chip.parts) (λ all. refutes (λ u scan. all u (scan_within u scan) scan))

  -- where nothing is reported of a chip, it has chains
  pub traced_or : ((fault : Fault) → IsTracingCause fault chip → ⊥) → (IsTraced chip → ⊥) → ⊥
  traced_or none refutes = ports_found (length chip.ports) (λ are. on_chains first (λ on.
      let chains : List (List ℕ) = flat_map option_to_list are.list in
      let is : AreChains chip chains = record { at_port = are.list; room = are.count; each = are.each; all = refl } in
      elim (dec_le (length chains) MOST_CHAINS) [
        | yes few ↦ refutes (chains, record { are = is; on_chains = on; few = few })
        | no many ↦ none (Limit limit.Chains (length chains))
            (record { chains = chains; are = is; on_chains = on; counted = refl; many = omega (arith, many) })
      ]))
    where
      named : (u : ℕ) → IsScanAt chip u → (name : List ℕ) × IsSomeAnd (slice_get chip.parts u) (λ part. name ≡ part.name)
      named u scan = by (slice_get chip.parts u) scan
        where
          by : (found : Option Part) → IsSomeAnd found (λ part. IsScan part.body) → (name : List ℕ) × IsSomeAnd found (λ part. name ≡ part.name)
          by None scan = absurd scan
          by (Some part) scan = (part.name, refl)

      first : (u : ℕ) → IsFirstOff chip u → ⊥
      first u off = let it = named u off.scan in none (Chain it.0) (u, (off, it.1))
