-- Nets off the scan path and their numbers.
use Rattle.std.proofs.Common.{◌≡◌, ℕ, zero, suc, ◌+◌, ◌-◌, ◌<◌, ◌≤◌, [], ◌∷◌, ◌++◌, Bool, true, false, length}
use Rattle.std.proofs.Common.{inl, inr, refl, sym, ◌∙◌, ap, subst, arith, get_or, length-append}
use Rattle.std.specs.Prelude.{if◌then◌else◌}
use Rattle.std.proofs.lemmas.List.{get_or_append_left, get_or-append-add}
use Rattle.std.proofs.lemmas.Bool.{cases_lt}
use native.Mathlib.Decide.{ℕ_discrete}
use Rattle.ca_net.specs.declared.node.NodeKind.{NodeKind}
use Rattle.ca_net.specs.declared.node.NodeKind.TheVariants as node
use Rattle.ca_linked.specs.Linked.{LinkedChip, is_scan_path}
use Rattle.ca_view.specs.Core.{core_net, core_kinds, kind_of}

abbrev pub IsOutside : LinkedChip → ℕ → Type 0
IsOutside chip net = is_scan_path chip net ≡ false

module _ (chip : LinkedChip) where
  step : (net : ℕ) → core_net chip (suc net) ≡ core_net chip net + (if is_scan_path chip net then 0 else 1)
  unfolding core_net
  step net = refl

  step_outside : (net : ℕ) → IsOutside chip net → core_net chip (suc net) ≡ core_net chip net + 1
  step_outside net outside = step net ∙ ap (λ b. core_net chip net + (if b then 0 else 1)) outside

  not_less : (net : ℕ) → core_net chip net ≤ core_net chip (suc net)
  not_less net = let e = step net in omega arith

  rises : (m more : ℕ) → core_net chip m ≤ core_net chip (m + more)
  rises m zero = subst (λ n. core_net chip m ≤ core_net chip n) (let e : m ≡ m + 0 = omega arith in e) (omega arith)
  rises m (suc more) =
      let h = rises m more in
      let k = not_less (m + more) in
      subst (λ n. core_net chip m ≤ core_net chip n) (let e : suc (m + more) ≡ m + suc more = omega arith in e) (omega arith)

  -- a net off the scan path has a lower number than each later one
  pub core_less : (m n : ℕ) → IsOutside chip m → m < n → core_net chip m < core_net chip n
  core_less m n outside lt =
      let h = rises (suc m) (n - suc m) in
      let e : suc m + (n - suc m) ≡ n = omega arith in
      let same : core_net chip (suc m + (n - suc m)) ≡ core_net chip n = ap (core_net chip) e in
      let s = step_outside m outside in
      omega arith

  pub core_same : (m n : ℕ) → IsOutside chip m → IsOutside chip n → core_net chip m ≡ core_net chip n → m ≡ n
  core_same m n outside_m outside_n e = elim (cases_lt m n) [
    | inl lt ↦ let h = core_less m n outside_m lt in absurd (omega arith)
    | inr ge ↦ elim (cases_lt n m) [
      | inl lt ↦ let h = core_less n m outside_n lt in absurd (omega arith)
      | inr le ↦ omega arith
    ]
  ]

  kinds_step : (net : ℕ) → core_kinds chip (suc net) ≡ core_kinds chip net ++ (if is_scan_path chip net then [] else kind_of chip net ∷ [])
  unfolding core_kinds
  kinds_step net = refl

  piece_length : (b : Bool) (kind : NodeKind) → length (if b then [] else kind ∷ []) ≡ (if b then 0 else 1)
  piece_length true kind = refl
  piece_length false kind = refl

  pub length-core_kinds : (net : ℕ) → length (core_kinds chip net) ≡ core_net chip net
  unfolding core_net core_kinds
  length-core_kinds zero = refl
  length-core_kinds (suc net) =
      length-append (core_kinds chip net) (if is_scan_path chip net then [] else kind_of chip net ∷ [])
      ∙ (let h = length-core_kinds net in let p = piece_length (is_scan_path chip net) (kind_of chip net) in omega arith)

  -- the kind of a net is at its number
  pub kind_at : (m n : ℕ) → IsOutside chip m → m < n → get_or (core_kinds chip n) (core_net chip m) node.Input ≡ kind_of chip m
  kind_at m zero outside lt = absurd (omega (arith, lt))
  kind_at m (suc n) outside lt = elim (ℕ_discrete m n) [
    | yes e ↦
        let here : core_kinds chip (suc n) ≡ core_kinds chip m ++ kind_of chip m ∷ [] =
        ap (λ k. core_kinds chip (suc k)) (sym e) ∙ kinds_step m ∙ ap (λ b. core_kinds chip m ++ (if b then [] else kind_of chip m ∷ [])) outside in
        ap (λ ks. get_or ks (core_net chip m) node.Input) here
        ∙ ap (λ k. get_or (core_kinds chip m ++ kind_of chip m ∷ []) k node.Input) (let l = length-core_kinds m in let s : core_net chip m ≡ length (core_kinds chip m) + 0 = omega arith in s)
        ∙ get_or-append-add (core_kinds chip m) (kind_of chip m ∷ []) 0 node.Input
    | no ne ↦
        let before : m < n = omega arith in
        let less = core_less m n outside before in
        ap (λ ks. get_or ks (core_net chip m) node.Input) (kinds_step n)
        ∙ get_or_append_left (core_kinds chip n) (if is_scan_path chip n then [] else kind_of chip n ∷ []) node.Input (core_net chip m)
        (let l = length-core_kinds n in omega arith)
        ∙ kind_at m n outside before
  ]

  -- each number below the count is that of a net off the scan path
  pub record HasNet (n k : ℕ) : Type 0 where
    pub net : ℕ
    pub within : net < n
    pub outside : IsOutside chip net
    pub numbered : core_net chip net ≡ k

  pub net_of_number : (n k : ℕ) → k < core_net chip n → HasNet n k
  unfolding core_net
  net_of_number zero k lt = absurd (omega (arith, lt))
  net_of_number (suc n) k lt = elim (cases_lt k (core_net chip n)) [
    | inl before ↦
        let found = net_of_number n k before in
        record { net = found.net; within = (let w = found.within in omega arith); outside = found.outside; numbered = found.numbered }
    | inr here ↦ last (is_scan_path chip n) refl here
  ]
    where
      last : (b : Bool) → is_scan_path chip n ≡ b → core_net chip n ≤ k → HasNet (suc n) k
      last true e here = absurd (let s : core_net chip (suc n) ≡ core_net chip n + 0 = step n ∙ ap (λ b. core_net chip n + (if b then 0 else 1)) e in omega (arith, lt, here))
      last false e here = record {
        net = n;
        within = omega arith;
        outside = e;
        numbered = let s = step_outside n e in omega (arith, lt, here);
      }
