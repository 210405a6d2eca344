-- Blocks in the order of a list, and in another order.
use Rattle.std.proofs.Common.{◌≡◌, ℕ, zero, suc, ◌+◌, ◌-◌, ◌<◌, List, [], ◌∷◌, ◌++◌, length, take}
use Rattle.std.proofs.Common.{cond, eqb, ltb, inl, inr, refl, sym, ◌∙◌, ap, subst, arith, get_or}
use Rattle.std.specs.List.{Contains, sum_by}
use Rattle.std.proofs.lemmas.Bool.{cases_lt, cases_eq, eq-eqb, ne_eqb, cond_below, cond_above}
use Rattle.std.proofs.lemmas.Bool.{cond-true, cond-false}
use Rattle.std.proofs.lemmas.List.Sums.{sum_by-cons}
use Rattle.ca_merged.specs.Blocks.{block_start}
use Rattle.ca_merged.proofs.Lists.{IsDistinct, cons_cases, cons_here, cons_there, none_in_nil, distinct_tail}
use Rattle.ca_merged.proofs.Lists.{distinct_head, get_or_contains}

-- a place in the block of a number
pub record Spot : Type 0 where
  pub block : ℕ
  pub inside : ℕ

pub same_spot : (a b k l : ℕ) → a ≡ b → k ≡ l → (let p : Spot = record { block = a; inside = k } in let q : Spot = record { block = b; inside = l } in p ≡ q)
same_spot a b k l e f = cc

module _ (size : ℕ → ℕ) where
  -- the block in which a place stands
  abbrev pub spot_in : List ℕ → ℕ → Spot
  spot_in [] z = record { block = 0; inside = z }
  spot_in (w ∷ us) z = cond (ltb z (size w)) (record { block = w; inside = z }) (spot_in us (z - size w))

  start_here : (w u : ℕ) (us : List ℕ) → w ≡ u → block_start size (w ∷ us) u ≡ 0
  start_here w u us e = cond-true (eqb w u) 0 (size w + block_start size us u) (eq-eqb w u e)

  start_later : (w u : ℕ) (us : List ℕ) → (w ≡ u → ⊥) → block_start size (w ∷ us) u ≡ size w + block_start size us u
  start_later w u us ne = cond-false (eqb w u) 0 (size w + block_start size us u) (ne_eqb w u ne)

  pub spot_start : (us : List ℕ) (u k : ℕ) → Contains us u → k < size u
      → spot_in us (block_start size us u + k) ≡ record { block = u; inside = k }
  spot_start [] u k h lt = absurd (none_in_nil u h)
  spot_start (w ∷ us) u k h lt = elim (cases_eq w u) [
    | inl e ↦
        let z : block_start size (w ∷ us) u + k ≡ k = let s = start_here w u us e in omega arith in
        let less : k < size w = subst (λ x. k < size x) (sym e) lt in
        ap (spot_in (w ∷ us)) z ∙ sym (cond_below k (size w) (record { block = w; inside = k }) _ less) ∙ ap (λ x. record { block = x; inside = k }) e
    | inr ne ↦
        let c : Contains us u = elim (cons_cases w us u h) [ inl e ↦ absurd (ne e) | inr more ↦ more ] in
        let z : block_start size (w ∷ us) u + k ≡ size w + (block_start size us u + k) = let s = start_later w u us ne in omega arith in
        ap (spot_in (w ∷ us)) z
        ∙ sym (cond_above (size w + (block_start size us u + k)) (size w) _ _ _ (omega arith) refl)
        ∙ ap (spot_in us) (omega arith) ∙ spot_start us u k c lt
  ]

  -- the place stands in this block
  pub record InBlock (us : List ℕ) (z : ℕ) (p : Spot) : Type 0 where
    pub listed : Contains us p.block
    pub within : p.inside < size p.block
    pub at : block_start size us p.block + p.inside ≡ z

  pub in_block : (us : List ℕ) (z : ℕ) → IsDistinct us → z < sum_by size us → InBlock us z (spot_in us z)
  in_block [] z d lt = absurd (omega arith)
  in_block (w ∷ us) z d lt = elim (cases_lt z (size w)) [
    | inl less ↦ subst (InBlock (w ∷ us) z) (cond_below z (size w) (record { block = w; inside = z }) _ less) (record {
      listed = cons_here w us;
      within = less;
      at = let s = start_here w w us refl in omega arith;
    })
    | inr ge ↦
        let total = sum_by-cons size w us in
        let q = in_block us (z - size w) (distinct_tail w us d) (omega arith) in
        let ne : w ≡ (spot_in us (z - size w)).block → ⊥ = λ e. distinct_head w us d (subst (Contains us) (sym e) q.listed) in
        subst (InBlock (w ∷ us) z) (cond_above z (size w) _ _ _ ge refl) (record {
          listed = cons_there w us (spot_in us (z - size w)).block q.listed;
          within = q.within;
          at = let s = start_later w (spot_in us (z - size w)).block us ne in let e = q.at in omega arith;
        })
  ]

  pub start_within : (us : List ℕ) (u k : ℕ) → Contains us u → k < size u → block_start size us u + k < sum_by size us
  start_within [] u k h lt = absurd (none_in_nil u h)
  start_within (w ∷ us) u k h lt =
      let total = sum_by-cons size w us in
      elim (cases_eq w u) [
        | inl e ↦ let s = start_here w u us e in let less : k < size w = subst (λ x. k < size x) (sym e) lt in omega arith
        | inr ne ↦
            let c : Contains us u = elim (cons_cases w us u h) [ inl e ↦ absurd (ne e) | inr more ↦ more ] in
            let s = start_later w u us ne in let r = start_within us u k c lt in omega arith
      ]

  -- blocks after those of a list
  pub start_left : (us vs : List ℕ) (u : ℕ) → Contains us u → block_start size (us ++ vs) u ≡ block_start size us u
  start_left [] vs u h = absurd (none_in_nil u h)
  start_left (w ∷ us) vs u h = elim (cases_eq w u) [
    | inl e ↦ start_here w u (us ++ vs) e ∙ sym (start_here w u us e)
    | inr ne ↦
        let c : Contains us u = elim (cons_cases w us u h) [ inl e ↦ absurd (ne e) | inr more ↦ more ] in
        start_later w u (us ++ vs) ne ∙ ap (λ x. size w + x) (start_left us vs u c) ∙ sym (start_later w u us ne)
  ]

  pub start_right : (us vs : List ℕ) (u : ℕ) → (Contains us u → ⊥) → block_start size (us ++ vs) u ≡ sum_by size us + block_start size vs u
  start_right [] vs u out = omega arith
  start_right (w ∷ us) vs u out =
      let ne : w ≡ u → ⊥ = λ e. out (subst (Contains (w ∷ us)) e (cons_here w us)) in
      let r = start_right us vs u (λ c. out (cons_there w us u c)) in
      let s = start_later w u (us ++ vs) ne in
      let total = sum_by-cons size w us in
      omega arith

  -- before a block stand those of the numbers before its own
  pub start_take : (us : List ℕ) (i : ℕ) → IsDistinct us → i < length us → block_start size us (get_or us i 0) ≡ sum_by size (take i us)
  start_take [] i d lt = absurd (omega arith)
  start_take (w ∷ us) zero d lt = start_here w w us refl
  start_take (w ∷ us) (suc i) d lt =
      let less : i < length us = omega arith in
      let ne : w ≡ get_or us i 0 → ⊥ = λ e. distinct_head w us d (subst (Contains us) (sym e) (get_or_contains us i less)) in
      start_later w (get_or us i 0) us ne ∙ ap (λ x. size w + x) (start_take us i (distinct_tail w us d) less) ∙ sym (sum_by-cons size w (take i us))

  -- the same place of the same block, in another order
  abbrev pub reordered : List ℕ → List ℕ → ℕ → ℕ
  reordered us vs z = block_start size vs (spot_in us z).block + (spot_in us z).inside

  module _ (us vs : List ℕ) (one : IsDistinct us) (kept : (u : ℕ) → Contains us u → Contains vs u) where
    pub reordered_within : (z : ℕ) → z < sum_by size us → reordered us vs z < sum_by size vs
    reordered_within z lt =
        let b = in_block us z one lt in
        start_within vs (spot_in us z).block (spot_in us z).inside (kept _ b.listed) b.within

    pub reordered_back : (z : ℕ) → z < sum_by size us → reordered vs us (reordered us vs z) ≡ z
    reordered_back z lt =
        let b = in_block us z one lt in
        let e = spot_start vs (spot_in us z).block (spot_in us z).inside (kept _ b.listed) b.within in
        ap (λ p. block_start size us p.block + p.inside) e ∙ b.at

  pub reordered_start : (us vs : List ℕ) (u k : ℕ) → Contains us u → k < size u → reordered us vs (block_start size us u + k) ≡ block_start size vs u + k
  reordered_start us vs u k c lt = ap (λ p. block_start size vs p.block + p.inside) (spot_start us u k c lt)
