-- Marks, one more; and parts of a list that are changed one by one.
use Rattle.std.proofs.Common.{◌≡◌, ℕ, zero, suc, ◌+◌, ◌<◌, ◌≤◌, List, [], ◌∷◌, ◌++◌, Bool, true, false}
use Rattle.std.proofs.Common.{length, map, inl, inr, refl, sym, ◌∙◌, ap, ap₂, subst, arith, get_or, set}
use Rattle.std.proofs.Common.{true≢false, get_or-set_same, get_or-set_other}
use Rattle.std.specs.Prelude.{Some, slice_get, take, drop, replicate}
use Rattle.std.specs.List.{All}
use Rattle.std.proofs.lemmas.List.{map-append, length-set, length-replicate, get_or-replicate, take_more_set}
use Rattle.std.proofs.lemmas.List.{take_all, drop-set-lt, drop-drop}
use Rattle.std.proofs.lemmas.List.Elements.{Contains-append_left, Contains-push, Contains-push_cases}
use Rattle.std.proofs.lemmas.Option.{slice_get_within, slice_get-get_or, get_or_from_slice_get}
use native.Mathlib.Decide.{ℕ_discrete}
use Rattle.ca_draft.specs.code.OnWires.{AreMarks}
use Rattle.ca_linked.proofs.EndLemmas.{take_more}

module _ (earliest : List ℕ) where
  pub marks_none : AreMarks earliest [] (replicate (length earliest) false)
  marks_none = record {
    count = length-replicate (length earliest) false;
    each = λ w lt. (
      λ used. absurd (true≢false (sym used ∙ get_or-replicate (length earliest) w false false lt)),
      λ found. absurd (let less = found.1.1 in omega (arith, less)),
    );
  }

  pub marks_more : (wires : List ℕ) (k wire first : ℕ) (old : List Bool) → slice_get wires k ≡ Some wire → first ≡ get_or earliest wire 0
      → first < length earliest → AreMarks earliest (take k wires) old → AreMarks earliest (take (k + 1) wires) (set old first true)
  marks_more wires k wire first old at is lt are = subst (λ l. AreMarks earliest l (set old first true)) (sym (take_more wires k wire at)) (record {
    count = length-set old first true ∙ are.count;
    each = λ w less. elim (ℕ_discrete w first) [
      | yes e ↦ (
        λ used. (wire, Contains-push (take k wires) wire, sym is ∙ sym e),
        λ found. ap (λ n. get_or (set old first true) n false) e
            ∙ get_or-set_same old first true false (let c = are.count in omega (arith, c, lt)),
      )
      | no ne ↦
          let other : get_or (set old first true) w false ≡ get_or old w false = get_or-set_other old first w true false ne in (
            λ used.
                let found = (are.each w less).0 (sym other ∙ used) in
                (found.0, Contains-append_left (take k wires) (wire ∷ []) found.0 found.1, found.2),
            λ found. other ∙ elim (Contains-push_cases (take k wires) wire found.0 found.1) [
              | inl before ↦ (are.each w less).1 (found.0, before, found.2)
              | inr new ↦ absurd (ne (sym found.2 ∙ ap (λ n. get_or earliest n 0) (sym new) ∙ sym is))
            ],
          )
    ];
  })

-- the first of a list are changed, and the others are as they were
pub record IsChanged {X : Type 0} (f : X → X) (k : ℕ) (old new : List X) : Type 0 where
  pub count : length new ≡ length old
  pub changed : take k new ≡ map f (take k old)
  pub same : drop k new ≡ drop k old

pub changed_none : {X : Type 0} (f : X → X) (old : List X) → IsChanged f 0 old old
changed_none f old = record { count = refl; changed = refl; same = refl }

pub changed_more : {X : Type 0} (f : X → X) (k : ℕ) (x y : X) (old mid new : List X) → slice_get old k ≡ Some x → IsChanged f k old mid
    → y ≡ f x → new ≡ set mid k y → IsChanged f (k + 1) old new
changed_more f k x y old mid new at before is change =
    let lt = slice_get_within old k x at in
    let within : k < length mid = let c = before.count in omega (arith, c, lt) in
    subst (IsChanged f (k + 1) old) (sym change) (record {
      count = length-set mid k y ∙ before.count;
      changed =
          take_more_set mid k y within ∙ ap₂ (λ l z. l ++ z ∷ []) before.changed is
          ∙ sym (map-append f (take k old) (x ∷ [])) ∙ ap (map f) (sym (take_more old k x at));
      same =
          drop-set-lt (k + 1) mid k y (omega arith)
          ∙ sym (drop-drop 1 k mid) ∙ ap (drop 1) before.same ∙ drop-drop 1 k old;
    })

pub changed_end : {X : Type 0} (f : X → X) (k : ℕ) (old new : List X) → length old ≤ k → IsChanged f k old new → new ≡ map f old
changed_end f k old new le is =
    sym (take_all k new (let c = is.count in omega (arith, c, le))) ∙ is.changed ∙ ap (map f) (take_all k old le)

head_of : {X : Type 0} (xs : List X) (k : ℕ) → slice_get (drop k xs) 0 ≡ slice_get xs k
head_of [] zero = refl
head_of [] (suc k) = refl
head_of (x ∷ xs) zero = refl
head_of (x ∷ xs) (suc k) = head_of xs k

-- what is at a place that isn't changed yet
pub unchanged_at : {X : Type 0} (f : X → X) (k : ℕ) (x : X) (old new : List X) → IsChanged f k old new → slice_get new k ≡ Some x → slice_get old k ≡ Some x
unchanged_at f k x old new is at =
    sym (head_of old k) ∙ ap (λ l. slice_get l 0) (sym is.same) ∙ head_of new k ∙ at

-- and what holds of each that wasn't changed, holds of it
pub holds_at : {X : Type 0} (f : X → X) (P : X → Type 0) (k : ℕ) (x : X) (old new : List X) → All P old → IsChanged f k old new
    → slice_get new k ≡ Some x → P x
holds_at f P k x old new all is at =
    let was = unchanged_at f k x old new is at in
    subst P (get_or_from_slice_get old k x x was) (all k x (slice_get_within old k x was))

-- what an index gives
pub got : {X : Type 0} (xs : List X) (k : ℕ) (x : X) → k < length xs → x ≡ get_or xs k x → slice_get xs k ≡ Some x
got xs k x lt is = slice_get-get_or xs k x lt ∙ ap Some (sym is)
