-- All instances of a chip may be merged.
use Rattle.std.proofs.Common.{◌≡◌, ℕ, zero, suc, ◌+◌, ◌<◌, List, [], ◌∷◌, ◌++◌, length, inl, inr, sym, ◌∙◌, ap, subst, arith}
use Rattle.std.specs.Prelude.{map}
use Rattle.std.specs.List.{Contains, IsDistinct, range_with_len}
use Rattle.std.specs.Str.{bytes_eq}
use Rattle.std.proofs.lemmas.List.{length-map}
use Rattle.std.proofs.lemmas.List.FromFn.{length-range_with_len, get_or-range_with_len}
use Rattle.ca_flat.specs.Chip as flat
use Rattle.ca_linked.specs.declared.parts.Part.{Part}
use Rattle.ca_linked.specs.Linked.{LinkedChip, IsLibrary}
use Rattle.ca_view.specs.Core.{core_of, core_instance}
use Rattle.ca_merged.specs.Merged.{IsInstanceChain}
use Rattle.ca_merged.proofs.Lists.{cons_cases, none_in_nil}
use Rattle.ca_merge.specs.Merge.{CanMerge}

-- a range with its next number
range_last : (a n j : ℕ) → a + n ≡ j → range_with_len a (suc n) ≡ range_with_len a n ++ j ∷ []
range_last a zero j e = let same : a ≡ j = omega arith in ap (λ k. k ∷ []) same
range_last a (suc n) j e = ap (λ l. a ∷ l) (range_last (a + 1) n j (omega arith))

pub list_more : (n : ℕ) (old new : List ℕ) → old ≡ range_with_len 0 n → new ≡ old ++ n ∷ [] → new ≡ range_with_len 0 (n + 1)
list_more n old new was grown =
    grown ∙ ap (λ xs. xs ++ n ∷ []) was ∙ sym (range_last 0 n n (omega arith)) ∙ ap (range_with_len 0) (let e : suc n ≡ n + 1 = omega arith in e)

-- a list of no rows has different ones
pub none_double : {X : Type 0} (name : X → List ℕ) (rows : List X) → rows ≡ [] → IsDistinct bytes_eq (map name rows)
unfolding IsDistinct
none_double name rows none = subst (λ xs. IsDistinct bytes_eq (map name xs)) (sym none) tt

-- what is on a chain is an instance
chain_known : (chip : flat.Chip) (u : ℕ) (path : List ℕ) (w : ℕ) → IsInstanceChain chip u path w → (x : ℕ) → Contains path x → x < flat.count_of chip
chain_known chip u [] w h x c = absurd (none_in_nil x c)
chain_known chip u (next ∷ more) w h x c = elim (cons_cases next more x c) [
  | inl e ↦ subst (λ y. y < flat.count_of chip) e h.0.fed_known
  | inr later ↦ chain_known chip next more w h.1 x later
]

in_range : (n x : ℕ) → x < n → Contains (range_with_len 0 n) x
in_range n x lt = (x, subst (λ k. x < k) (sym (length-range_with_len 0 n)) lt, get_or-range_with_len 0 n x x lt ∙ omega arith)

of_range : (n x : ℕ) → Contains (range_with_len 0 n) x → x < n
of_range n x c =
    let lt : c.0 < n = subst (λ k. c.0 < k) (length-range_with_len 0 n) c.1 in
    let e : 0 + c.0 ≡ x = sym (get_or-range_with_len 0 n c.0 x lt) ∙ c.2 in
    omega arith

all_range : (chip : LinkedChip) (n : ℕ) → n ≡ length chip.parts → ((w : ℕ) → w < n → IsLibrary chip w) → 0 < n → CanMerge chip (range_with_len 0 n)
all_range chip n count gates some =
    let known : flat.count_of (core_of chip) ≡ n = length-map chip.parts (λ (part : Part). core_instance chip part.body) ∙ sym count in
    record {
      gates = λ u c. gates u (of_range n u c);
      some = subst (λ k. 0 < k) (sym (length-range_with_len 0 n)) some;
      are = record {
        known = λ u c. let lt = of_range n u c in omega arith;
        ascending = λ i j d lt within.
            let within_n : j < n = subst (λ k. j < k) (length-range_with_len 0 n) within in
            let a = get_or-range_with_len 0 n i d (omega arith) in
            let b = get_or-range_with_len 0 n j d within_n in
            omega arith;
        closed = λ u w path cu cw chain x cx.
            let lt = chain_known (core_of chip) u path w chain x cx in
            in_range n x (omega arith);
      };
    }

pub all_can : (chip : LinkedChip) (list : List ℕ) (n : ℕ) → list ≡ range_with_len 0 n → n ≡ length chip.parts → ((w : ℕ) → w < n → IsLibrary chip w)
    → 0 < length list → CanMerge chip list
all_can chip list n same count gates some =
    subst (CanMerge chip) (sym same)
    (all_range chip n count gates (let l = ap (λ xs. length xs) same ∙ length-range_with_len 0 n in omega arith))
