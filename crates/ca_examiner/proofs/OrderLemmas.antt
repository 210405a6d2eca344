-- The order of instances.
use Rattle.std.proofs.Common.{◌≡◌, ℕ, zero, suc, ◌+◌, ◌<◌, List, [], ◌∷◌, length, refl, sym, ◌∙◌, ap, subst, arith}
use Rattle.std.proofs.Common.{Some, None, Option}
use native.Mathlib.Decide.{ℕ_discrete}
use Rattle.std.specs.Prelude.{slice_get, slice_set, replicate}
use Rattle.std.proofs.lemmas.List.{length-replicate, length-set}
use Rattle.ca_flat.specs.Chip.{Chip, count_of}
use Rattle.ca_view.specs.Linked.{IsPlaced, IsLinked}
use Rattle.ca_examiner.specs.code.Order.{IsOrderTo}

none_there : {T : Type 0} (count place : ℕ) (x : T) → slice_get (replicate count None) place ≡ Some (Some x) → ⊥
none_there zero place x e = cc
none_there (suc count) zero x e = cc
none_there (suc count) (suc place) x e = none_there count place x e

set_here : {T : Type 0} (xs : List T) (place : ℕ) (x : T) → place < length xs → slice_get (slice_set xs place x) place ≡ Some x
set_here [] place x lt = absurd (omega arith)
set_here (y ∷ xs) zero x lt = refl
set_here (y ∷ xs) (suc place) x lt = set_here xs place x (omega arith)

set_there : {T : Type 0} (xs : List T) (place other : ℕ) (x : T) → (other ≡ place → ⊥)
    → slice_get (slice_set xs place x) other ≡ slice_get xs other
set_there [] place other x apart = refl
set_there (y ∷ xs) zero zero x apart = absurd (apart refl)
set_there (y ∷ xs) zero (suc other) x apart = refl
set_there (y ∷ xs) (suc place) zero x apart = refl
set_there (y ∷ xs) (suc place) (suc other) x apart = set_there xs place other x (λ e. apart (ap suc e))

pub order_begin : (chip : Chip) (place_of : ℕ → ℕ) (count : ℕ) (order : List (Option ℕ)) → count ≡ count_of chip + 1
    → order ≡ replicate count None → IsOrderTo chip place_of 0 order
order_begin chip place_of count order long is = record {
  size = ap length is ∙ length-replicate count None ∙ long;
  each = λ u before placed. absurd (omega arith);
  only = λ place u at. absurd (none_there count place u (subst (λ o. slice_get o place ≡ Some (Some u)) is at));
}

module _ (chip : Chip) (place_of number_of : ℕ → ℕ) (linked : IsLinked chip place_of number_of) (k place : ℕ)
    (known : k < count_of chip) (at : place ≡ place_of k) (old : List (Option ℕ)) (before : IsOrderTo chip place_of k old) where
  -- an instance that has the place
  pub order_more : 0 < place → (new : List (Option ℕ)) → new ≡ slice_set old place (Some k) → IsOrderTo chip place_of (k + 1) new
  order_more some new is = subst (IsOrderTo chip place_of (k + 1)) (sym is) (record {
    size = length-set old place (Some k) ∙ before.size;
    each = λ u below placed. elim (ℕ_discrete u k) [
      | yes same ↦ subst (λ n. slice_get (slice_set old place (Some k)) (place_of n) ≡ Some (Some n)) (sym same)
          (subst (λ n. slice_get (slice_set old place (Some k)) n ≡ Some (Some k)) at (set_here old place (Some k) within))
      | no apart ↦
          let far : u ≡ k → ⊥ = apart in
          set_there old place (place_of u) (Some k) (λ e. far (linked.apart u k placed placed_k (e ∙ at)))
          ∙ before.each u (omega arith) placed
    ];
    only = λ other u there. elim (ℕ_discrete other place) [
      | yes same ↦
          let e : Some (Some k) ≡ Some (Some u) = sym (set_here old place (Some k) within) ∙ (ap (slice_get (slice_set old place (Some k))) (sym same) ∙ there) in
          let one : k ≡ u = cc in
          (subst (IsPlaced chip place_of) one placed_k, ap place_of (sym one) ∙ sym at ∙ sym same)
      | no apart ↦ before.only other u (sym (set_there old place other (Some k) apart) ∙ there)
    ];
  })
    where
      placed_k : IsPlaced chip place_of k
      placed_k = record { known = known; placed = omega arith }

      within : place < length old
      within = let most = linked.within k known in let long = before.size in omega arith

  -- one that has none
  pub order_skip : (0 < place → ⊥) → IsOrderTo chip place_of (k + 1) old
  order_skip none = record {
    size = before.size;
    each = λ u below placed. elim (ℕ_discrete u k) [
      | yes same ↦ absurd (none (let p = placed.placed in subst (λ n. 0 < n) (ap place_of same ∙ sym at) p))
      | no apart ↦ before.each u (let far : u ≡ k → ⊥ = apart in omega arith) placed
    ];
    only = before.only;
  }

-- what is never some is none
pub none_of : (o : Option ℕ) → ((x : ℕ) → o ≡ Some x → ⊥) → o ≡ None
none_of None never = refl
none_of (Some x) never = absurd (never x refl)
