-- Rows of codes: what is kept, and what is passed over.
use Rattle.std.proofs.Common.{◌≡◌, ℕ, zero, suc, ◌+◌, ◌*◌, ◌/◌, ◌%◌, ◌<◌, ◌≤◌, ◌≢◌, ◌↔◌, Bool, true, false, not, List, [], ◌∷◌, ◌++◌, length, get_or, Option, None, Some, refl, sym, ◌∙◌, ap, subst, arith, below_more}
use Rattle.std.specs.Prelude.{slice_get, slice_index, slice_set, IsTrue}
use Rattle.std.specs.Option.{ForSome}
use Rattle.std.proofs.lemmas.List.{get_or_push, get_or_append_left, length-set}
use Rattle.std.proofs.Common.{length-append}
use Rattle.ca_net.specs.declared.trit.Trit.{Trit}
use Rattle.ca_net.specs.declared.trit.Trit.TheVariants.{Zero, One, X}
use Rattle.ca_net.specs.declared.wave.Wave.{Wave}
use Rattle.ca_cell.specs.declared.raw.RawCell.{RawCell}
use Rattle.ca_cell.specs.declared.defect.Defect.{Defect}
use Rattle.ca_cell.specs.List.{faulty_of, defects_of}
use Rattle.ca_response.specs.Gives.{Gives, wave_at}
use Rattle.ca_flat.specs.Chip.{Chip, cell_at, outputs_at}
use Rattle.ca_flips.specs.Flips.{IsOpposite}
use Rattle.ca_planes.specs.Plane.{has_lane}
use Rattle.ca_view.specs.Linked.{IsLinked, IsPlaced}
use Rattle.ca_sweep.specs.declared.row.Row.{Row}
use Rattle.ca_sweep.specs.declared.codes.Goods.{Goods}
use Rattle.ca_sweep.specs.declared.seen.Flips.{Flips}
use Rattle.ca_sweep.specs.code.Faulty.{AreFlipsOf}
use Rattle.ca_sweep.specs.code.Digits.{digit_of, trit_of}
use Rattle.ca_sweep.specs.code.Loud.{FlipsNone}
use Rattle.ca_sweep.specs.code.Rows.{code_of_lasts, IsCoded, AreCodes, FitsList, AreListsTo, AreLists, HoldsRow, IsRowFor, IsRowOf, AreGoodsAt, AreFlipsOfCode}

low_digit : (a b : Trit) → trit_of ((digit_of a + 4 * digit_of b) % 4) ≡ a
low_digit Zero Zero = refl
low_digit Zero One = refl
low_digit Zero X = refl
low_digit One Zero = refl
low_digit One One = refl
low_digit One X = refl
low_digit X Zero = refl
low_digit X One = refl
low_digit X X = refl

high_digit : (a b : Trit) → trit_of ((digit_of a + 4 * digit_of b) / 4) ≡ b
high_digit Zero Zero = refl
high_digit Zero One = refl
high_digit Zero X = refl
high_digit One Zero = refl
high_digit One One = refl
high_digit One X = refl
high_digit X Zero = refl
high_digit X One = refl
high_digit X X = refl

-- the values of a code are the last ones
pub first_of_code : (outputs : List Wave) (code : ℕ) → code ≡ code_of_lasts outputs → trit_of (code % 4) ≡ (wave_at outputs 0).last
first_of_code outputs code is = ap (λ n. trit_of (n % 4)) is ∙ low_digit (wave_at outputs 0).last (wave_at outputs 1).last

pub second_of_code : (outputs : List Wave) (code : ℕ) → code ≡ code_of_lasts outputs → trit_of (code / 4) ≡ (wave_at outputs 1).last
second_of_code outputs code is = ap (λ n. trit_of (n / 4)) is ∙ high_digit (wave_at outputs 0).last (wave_at outputs 1).last

-- the flips by a code are those of what the cell gives
pub flips_of_code : (chip : Chip) (goods : ℕ → Trit) (u : ℕ) (ends : Goods) (outputs : List Wave) (code : ℕ) (flips : Flips) → outputs_at chip u ≤ 2
    → AreGoodsAt chip goods u ends → code ≡ code_of_lasts outputs → AreFlipsOfCode ends code flips → AreFlipsOf chip goods u outputs flips
flips_of_code chip goods u ends outputs code flips few goods_are code_is are zero within =
    subst (λ good. (flips.first ≡ true) ↔ IsOpposite good (wave_at outputs 0).last) (goods_are.first within)
    (subst (λ value. (flips.first ≡ true) ↔ IsOpposite ends.first value)
    (ap (λ n. trit_of (n % 4)) code_is ∙ low_digit (wave_at outputs 0).last (wave_at outputs 1).last) are.first)
flips_of_code chip goods u ends outputs code flips few goods_are code_is are (suc zero) within =
    subst (λ good. (flips.second ≡ true) ↔ IsOpposite good (wave_at outputs 1).last) (goods_are.second within)
    (subst (λ value. (flips.second ≡ true) ↔ IsOpposite ends.second value)
    (ap (λ n. trit_of (n / 4)) code_is ∙ high_digit (wave_at outputs 0).last (wave_at outputs 1).last) are.second)
flips_of_code chip goods u ends outputs code flips few goods_are code_is are (suc (suc more)) within = absurd (omega arith)

-- the codes of one instance are kept for each with its cell's number
pub row_true : (chip : Chip) (place_of number_of : ℕ → ℕ) (u : ℕ) (row : Row) → IsLinked chip place_of number_of → IsPlaced chip place_of u
    → row.number ≡ number_of u → AreCodes (cell_at chip u) row.pins.items row.codes.items → HoldsRow chip place_of number_of (Some row)
row_true chip place_of number_of u row linked placed number_is codes = λ w w_placed at.
    subst (λ (raw : RawCell). AreCodes raw row.pins.items row.codes.items) (linked.numbered u w placed w_placed (sym number_is ∙ sym at)) codes

-- the row that is there is that of the cell
pub row_there : (chip : Chip) (place_of number_of : ℕ → ℕ) (u number : ℕ) (pins : List Wave) (slot : Option Row) → IsPlaced chip place_of u → number ≡ number_of u
    → HoldsRow chip place_of number_of slot → ForSome slot (IsRowFor number pins) → IsRowOf (cell_at chip u) pins slot
row_there chip place_of number_of u number pins None placed number_is holds for_it = tt
row_there chip place_of number_of u number pins (Some row) placed number_is holds for_it =
    let it = for_it row refl in
    subst (λ list. AreCodes (cell_at chip u) list row.codes.items) it.pins_are (holds u placed (sym number_is ∙ sym it.number_is))

-- one code more
pub codes_more : (raw : RawCell) (pins : List Wave) (old new : List ℕ) (code place : ℕ) (list : List Defect) (defect : Defect) (outputs : List Wave) → length old ≡ place
    → new ≡ old ++ code ∷ [] → list ≡ defects_of raw → slice_get list place ≡ Some defect → Gives raw (faulty_of raw defect) pins outputs → code ≡ code_of_lasts outputs
    → AreCodes raw pins old → AreCodes raw pins new
codes_more raw pins old new code place list defect outputs count is list_is at gives code_is each k other less found =
    below_more (λ j. (one : Defect) → slice_get (defects_of raw) j ≡ Some one → IsCoded raw one pins (slice_index new j)) place
    (λ j low one one_at. subst (IsCoded raw one pins) (sym (ap (λ l. get_or l j 0) is ∙ get_or_append_left old (code ∷ []) 0 j (omega arith))) (each j one (omega arith) one_at))
    (λ one one_at.
    let same : Some defect ≡ Some one = sym at ∙ ap (λ l. slice_get l place) list_is ∙ one_at in
    let is_one : defect ≡ one = cc in
    subst (λ d. IsCoded raw d pins (slice_index new place)) is_one
    (subst (IsCoded raw defect pins) (sym (ap (λ l. get_or l place 0) is ∙ get_or_push old code 0 place (omega arith)))
    (record { outputs = outputs; gives = gives; code_is = code_is })))
    k (let c = count in let l = ap length is in let a = length-append old (code ∷ []) in omega arith) other found

-- one list more
pub lists_more : (chip : Chip) (place_of number_of : ℕ → ℕ) (count : ℕ) (old new : List (List Defect)) (list : List Defect)
    → AreListsTo chip place_of number_of count old → new ≡ old ++ list ∷ [] → FitsList chip place_of number_of count list
    → AreListsTo chip place_of number_of (count + 1) new
lists_more chip place_of number_of count old new list are is fits = record {
  room = ap length is ∙ (let l = length-append old (list ∷ []) in let r = are.room in omega arith);
  each = below_more (λ n. FitsList chip place_of number_of n (get_or new n [])) count
      (λ n less. subst (FitsList chip place_of number_of n)
      (sym (ap (λ l. get_or l n []) is ∙ get_or_append_left old (list ∷ []) [] n (let r = are.room in omega arith))) (are.each n less))
      (subst (FitsList chip place_of number_of count)
      (sym (ap (λ l. get_or l count []) is ∙ get_or_push old list [] count (let r = are.room in omega arith))) fits);
}

-- so all have theirs
pub lists_all : (chip : Chip) (place_of number_of : ℕ → ℕ) (count : ℕ) (lists : List (List Defect)) → AreListsTo chip place_of number_of count lists
    → ((u : ℕ) → IsPlaced chip place_of u → number_of u < count) → AreLists chip place_of number_of lists
lists_all chip place_of number_of count lists are few = record {
  room = λ u placed. let f = few u placed in let r = are.room in omega arith;
  each = λ u placed. are.each (number_of u) (few u placed) u placed refl;
}

-- one number more
pub numbers_more : (chip : Chip) (place_of number_of : ℕ → ℕ) (count number : ℕ) (old new : List ℕ) → length old ≡ count
    → ((k : ℕ) → k < count → IsPlaced chip place_of k → slice_index old k ≡ number_of k) → new ≡ old ++ number ∷ []
    → (IsPlaced chip place_of count → number ≡ number_of count)
    → (k : ℕ) → k < count + 1 → IsPlaced chip place_of k → slice_index new k ≡ number_of k
numbers_more chip place_of number_of count number old new room each is last =
    below_more (λ k. IsPlaced chip place_of k → slice_index new k ≡ number_of k) count
    (λ k less placed. ap (λ l. get_or l k 0) is ∙ get_or_append_left old (number ∷ []) 0 k (omega arith) ∙ each k less placed)
    (λ placed. ap (λ l. get_or l count 0) is ∙ get_or_push old number 0 count (omega arith) ∙ last placed)

true_if : (b : Bool) → not b ≡ false → b ≡ true
true_if true is = refl
true_if false is = let e : true ≡ false = is in absurd cc

-- where no pin is flipped by a code it flips none
flips_none : (goods : Goods) (code : ℕ) (flips : Flips) → AreFlipsOfCode goods code flips → flips.first ≡ false → flips.second ≡ false → FlipsNone goods code
flips_none goods code flips are first second = record {
  first = λ opposite. let e : true ≡ false = sym (are.first.1 opposite) ∙ first in absurd cc;
  second = λ opposite. let e : true ≡ false = sym (are.second.1 opposite) ∙ second in absurd cc;
}

-- one code more is looked at
pub loud_more : (codes : List ℕ) (goods : Goods) (place old new code : ℕ) (flips : Flips) (none : Bool) → place < 64
    → ((k : ℕ) → k < place → has_lane old k ≡ false → FlipsNone goods (slice_index codes k)) → code ≡ slice_index codes place → AreFlipsOfCode goods code flips
    → (IsTrue none → flips.first ≡ false) → (IsTrue none → flips.second ≡ false) → has_lane new place ≡ not none
    → ((other : ℕ) → other < 64 → other ≢ place → has_lane new other ≡ has_lane old other)
    → (k : ℕ) → k < place + 1 → has_lane new k ≡ false → FlipsNone goods (slice_index codes k)
loud_more codes goods place old new code flips none small before code_is are first second here others =
    below_more (λ k. has_lane new k ≡ false → FlipsNone goods (slice_index codes k)) place
    (λ k less clear. before k less (sym (others k (omega arith) (λ e. absurd (omega arith))) ∙ clear))
    (λ clear. let is : none ≡ true = true_if none (sym here ∙ clear) in
    subst (FlipsNone goods) code_is (flips_none goods code flips are (first is) (second is)))

-- a list stays one with entries
pub still_some : (slots : List (Option Row)) (place : ℕ) (slot : Option Row) → 0 < length slots → 0 < length (slice_set slots place slot)
still_some slots place slot some = subst (λ n. 0 < n) (sym (length-set slots place slot)) some
