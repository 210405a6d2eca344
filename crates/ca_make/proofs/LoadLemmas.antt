-- What is kept of the loads, with those of the next gate.
use Rattle.std.proofs.Common.{◌≡◌, ℕ, ◌+◌, ◌<◌, ◌==◌, Bool, true, false, ◌||◌, List, [], ◌∷◌, ◌++◌, length}
use Rattle.std.proofs.Common.{inl, inr}
use Rattle.std.proofs.Common.{sym, ◌∙◌, ap, arith, get_or, set, refl, take, subst, zero, suc, if◌then◌else◌}
use Rattle.std.proofs.lemmas.List.{append-nil, get_or-set_same, get_or-set_other, get_or_default, length-set}
use Rattle.std.proofs.lemmas.List.{take_more}
use Rattle.std.proofs.lemmas.List.Folds.{list_any-append}
use Rattle.std.proofs.lemmas.List.Elements.{filter-append}
use Rattle.std.proofs.lemmas.Bool.Decides.{eqb_tells}
use Rattle.std.specs.List.{All, filter, range_with_len}
use Rattle.ca_make.specs.declared.gate.Gate.{Gate}
use Rattle.ca_make.specs.declared.gate.Gate.TheVariants as gate
use Rattle.ca_make.specs.Chip.{takes, is_loaded}
use Rattle.ca_make.specs.code.Chip.{IsWithin}
use Rattle.ca_make.specs.code.Kept.{marked_by, AreLoads}

or_true : (b : Bool) → true ≡ (b || true)
or_true true = refl
or_true false = refl

or_false : (b : Bool) → b ≡ (b || false)
or_false true = refl
or_false false = refl

or_assoc : (a b c : Bool) → ((a || b) || c) ≡ (a || ((b || c) || false))
or_assoc true b c = refl
or_assoc false true c = refl
or_assoc false false true = refl
or_assoc false false false = refl

-- a place has a mark after that of another, or its own
marked : (loads : List Bool) (place a : ℕ) → a < length loads
    → get_or (set loads a true) place false ≡ (get_or loads place false || (place == a))
marked loads place a lt = elim (eqb_tells place a) [
  | inl same ↦ ap (λ n. get_or (set loads a true) n false) same.1 ∙ get_or-set_same loads a true false lt
      ∙ or_true (get_or loads place false) ∙ ap (λ b. get_or loads place false || b) (sym same.0)
  | inr apart ↦ get_or-set_other loads a place true false apart.1
      ∙ or_false (get_or loads place false) ∙ ap (λ b. get_or loads place false || b) (sym apart.0)
]

-- what is kept of the loads with an inverter
marked_one : (gates : List Gate) (n a : ℕ) (loads : List Bool) → a < n
    → AreLoads gates n loads → AreLoads (gates ++ gate.Inv a ∷ []) n (set loads a true)
marked_one gates n a loads lt are = (
  length-set loads a true ∙ are.0,
  λ place within. marked loads place a (let e = are.0 in omega (arith, lt, e))
      ∙ ap (λ b. b || (place == a)) (are.1 place within)
      ∙ ap (λ b. is_loaded gates place || b) (or_false (place == a))
      ∙ sym (list_any-append (takes place) gates (gate.Inv a ∷ [])),
)

-- and with a gate of two inputs
marked_two : (gates : List Gate) (it : Gate) (n a b : ℕ)
    → ((place : ℕ) → takes place it ≡ (place == a || place == b)) → (loads : List Bool) → a < n → b < n
    → AreLoads gates n loads → AreLoads (gates ++ it ∷ []) n (set (set loads a true) b true)
marked_two gates it n a b both loads lt_a lt_b are =
    let e = are.0 in
    let first : length (set loads a true) ≡ length loads = length-set loads a true in (
      length-set (set loads a true) b true ∙ first ∙ e,
      λ place within. marked (set loads a true) place b (omega (arith, lt_b, e, first))
          ∙ ap (λ m. m || (place == b))
          (marked loads place a (omega (arith, lt_a, e)) ∙ ap (λ m. m || (place == a)) (are.1 place within))
          ∙ or_assoc (is_loaded gates place) (place == a) (place == b)
          ∙ ap (λ m. is_loaded gates place || (m || false)) (sym (both place))
          ∙ sym (list_any-append (takes place) gates (it ∷ [])),
    )

marked_more : (gates : List Gate) (it : Gate) (n : ℕ) (loads : List Bool) → IsWithin n it
    → AreLoads gates n loads → AreLoads (gates ++ it ∷ []) n (marked_by it loads)
marked_more gates (gate.Inv a) n loads within are = marked_one gates n a loads within are
marked_more gates (gate.Nand2 a b) n loads within are =
    marked_two gates (gate.Nand2 a b) n a b (λ place. refl) loads within.0 within.1 are
marked_more gates (gate.Nor2 a b) n loads within are =
    marked_two gates (gate.Nor2 a b) n a b (λ place. refl) loads within.0 within.1 are

-- what is kept of the loads of the first gates, with those of the next
pub marked_next : (gates items : List Gate) (k : ℕ) (other : Gate) (n : ℕ) (loads next : List Bool)
    → items ≡ gates → k < length items → All (IsWithin n) gates → next ≡ marked_by (get_or items k other) loads
    → AreLoads (take k gates) n loads → AreLoads (take (k + 1) gates) n next
marked_next gates items k other n loads next same lt all marks are =
    let within : k < length gates = subst (λ (g : List Gate). k < length g) same lt in
    subst (λ (g : List Gate). AreLoads g n next) (sym (take_more gates k other within))
    (subst (AreLoads (take k gates ++ get_or gates k other ∷ []) n)
    (sym (marks ∙ ap (λ g. marked_by (get_or g k other) loads) same))
    (marked_more (take k gates) (get_or gates k other) n loads (all k other within) are))

-- the first numbers, with the next
range_more : (from count : ℕ) → range_with_len from (suc count) ≡ range_with_len from count ++ (from + count) ∷ []
range_more from zero = ap (λ n. n ∷ []) (let e : from ≡ from + 0 = omega arith in e)
range_more from (suc count) = ap (λ list. from ∷ list)
    (range_more (from + 1) count
    ∙ ap (λ n. range_with_len (from + 1) count ++ n ∷ []) (let e : from + 1 + count ≡ from + suc count = omega arith in e))

-- those that pass a test, with the next
module _ (test : ℕ → Bool) (k : ℕ) where
  filter_more : filter test (range_with_len 0 (k + 1)) ≡ filter test (range_with_len 0 k) ++ filter test (k ∷ [])
  filter_more =
      ap (λ n. filter test (range_with_len 0 n)) (let e : k + 1 ≡ suc k = omega arith in e)
      ∙ ap (filter test) (range_more 0 k)
      ∙ filter-append test (range_with_len 0 k) ((0 + k) ∷ [])
      ∙ ap (λ n. filter test (range_with_len 0 k) ++ filter test (n ∷ [])) (let e : 0 + k ≡ k = omega arith in e)

  pub filter_passed : (before after : List ℕ) → before ≡ filter test (range_with_len 0 k) → test k ≡ true
      → after ≡ before ++ k ∷ [] → after ≡ filter test (range_with_len 0 (k + 1))
  filter_passed before after is passed more =
      more ∙ ap (λ list. list ++ k ∷ []) is
      ∙ ap (λ b. filter test (range_with_len 0 k) ++ (if b then k ∷ [] else [])) (sym passed)
      ∙ sym filter_more

  pub filter_left_out : (before after : List ℕ) → before ≡ filter test (range_with_len 0 k) → test k ≡ false
      → after ≡ before → after ≡ filter test (range_with_len 0 (k + 1))
  filter_left_out before after is failed same =
      same ∙ is ∙ sym (append-nil (filter test (range_with_len 0 k)))
      ∙ ap (λ b. filter test (range_with_len 0 k) ++ (if b then k ∷ [] else [])) (sym failed)
      ∙ sym filter_more

-- the mark of a candidate that is read
pub mark_is : (gates : List Gate) (n : ℕ) (loads : List Bool) (place : ℕ) (mark : Bool) → AreLoads gates n loads
    → place < n → mark ≡ get_or loads place mark → mark ≡ is_loaded gates place
mark_is gates n loads place mark are lt read =
    read ∙ get_or_default loads place mark false (let e = are.0 in omega (arith, lt, e)) ∙ are.1 place lt
