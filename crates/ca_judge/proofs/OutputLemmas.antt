-- The observed nets.
use Rattle.std.proofs.Common.{◌≡◌, ℕ, ◌+◌, ◌∷◌, [], ◌++◌, inl, inr, Bool, true, false, List, sym, ◌∙◌, ap}
use Rattle.std.proofs.Common.{subst, arith}
use Rattle.std.specs.Prelude.{slice_index_or}
use Rattle.std.specs.List.{Contains}
use Rattle.std.proofs.lemmas.List.Elements.{Contains-push, Contains-append_left, Contains-push_cases}
use native.Mathlib.Decide.{ℕ_discrete}
use Rattle.ca_judge.specs.code.Outputs.{AreObservedBelow}

-- none is before the first
pub observed_none : (observed : List Bool) (nets : List ℕ) → nets ≡ [] → AreObservedBelow observed 0 nets
observed_none observed nets none = subst (AreObservedBelow observed 0) (sym none) (record {
  each = λ net. ((λ at. absurd (let lt = at.1 in omega arith)), (λ h. absurd (let lt = h.0 in omega arith)));
})

-- one more net is observed
pub observed_push : (observed : List Bool) (count : ℕ) (nets longer : List ℕ)
    → AreObservedBelow observed count nets → slice_index_or observed count false ≡ true
    → longer ≡ nets ++ count ∷ [] → AreObservedBelow observed (count + 1) longer
observed_push observed count nets longer are is pushed = record {
  each = λ net. (
    (λ at. elim (Contains-push_cases nets count net (subst (λ l. Contains l net) pushed at)) [
      | inl before ↦ (let h = (are.each net).0 before in ((let lt = h.0 in omega arith), h.1))
      | inr same ↦ ((let s = same in omega arith), subst (λ n. slice_index_or observed n false ≡ true) same is)
    ]),
    (λ h. subst (λ l. Contains l net) (sym pushed) (elim (ℕ_discrete count net) [
      | yes same ↦ subst (λ n. Contains (nets ++ count ∷ []) n) same (Contains-push nets count)
      | no other ↦ Contains-append_left nets (count ∷ []) net ((are.each net).1 ((let lt = h.0 in omega arith), h.1))
    ])),
  );
}

-- one more isn't
pub observed_skip : (observed : List Bool) (count : ℕ) (nets : List ℕ) → AreObservedBelow observed count nets
    → slice_index_or observed count false ≡ false → AreObservedBelow observed (count + 1) nets
observed_skip observed count nets are is_not = record {
  each = λ net. (
    (λ at. let h = (are.each net).0 at in ((let lt = h.0 in omega arith), h.1)),
    (λ h. elim (ℕ_discrete count net) [
      | yes same ↦ absurd (let clash : true ≡ false =
          sym h.1 ∙ ap (λ n. slice_index_or observed n false) (sym same) ∙ is_not in cc)
      | no other ↦ (are.each net).1 ((let lt = h.0 in omega arith), h.1)
    ]),
  );
}
