-- Values that are right up to some output, and the first that isn't.
use Rattle.std.proofs.Common.{◌≡◌, ◌≢◌, ℕ, ◌+◌, ◌<◌, Bool, List, [], length, None, inl, inr}
use Rattle.std.proofs.Common.{refl, sym, ◌∙◌, ap, subst, arith, get_or}
use Rattle.std.specs.Prelude.{Option, Some, slice_get, slice_index}
use Rattle.std.proofs.lemmas.Bool.{cases_lt}
use Rattle.std.proofs.lemmas.Option.{get_or_from_slice_get}
use Rattle.ca_net.specs.declared.trit.Trit.{Trit}
use Rattle.ca_net.specs.declared.trit.Trit.TheVariants.{Zero, One, X}
use Rattle.ca_flat.specs.declared.chip_defect.ChipDefect.{ChipDefect}
use Rattle.ca_flat.specs.Chip.{Chip}
use Rattle.ca_code.specs.Filled.{trits_of}
use Rattle.ca_credit.specs.Detection.{IsNetEnd}
use Rattle.ca_expected.specs.Expected.{AreGoodEnds}
use Rattle.ca_expected.specs.Wrong.{IsRightAt, IsWrongFrom}
use Rattle.ca_expected.specs.code.Wrong.{AreRightUpTo, AreRightRows}

-- a network ends with one value
zero_definite : Zero ≢ X
zero_definite same = absurd cc

one_definite : One ≢ X
one_definite same = absurd cc

ends_same : (chip : Chip) (given : Option ChipDefect) (pair : List Trit) (net : ℕ) (one two : Trit)
    → IsNetEnd chip given pair net one → IsNetEnd chip given pair net two → one ≡ two
ends_same chip given pair net Zero two is also = sym ((also Zero).1 ((is Zero).0 (zero_definite, refl))).1
ends_same chip given pair net One two is also = sym ((also One).1 ((is One).0 (one_definite, refl))).1
ends_same chip given pair net X Zero is also = ((is Zero).1 ((also Zero).0 (zero_definite, refl))).1
ends_same chip given pair net X One is also = ((is One).1 ((also One).0 (one_definite, refl))).1
ends_same chip given pair net X X is also = refl

-- one output more
pub right_more : (chip : Chip) (pair values : List Trit) (count : ℕ) (end got : Trit) → AreRightUpTo chip pair values count
    → IsNetEnd chip None pair (slice_index chip.outputs count) end → slice_get values count ≡ Some got → end ≡ got
    → AreRightUpTo chip pair values (count + 1)
right_more chip pair values count end got before is at same o below = elim (cases_lt o count) [
  | inl early ↦ before o early
  | inr late ↦
      let here : count ≡ o = omega (arith, below, late) in
      subst (IsRightAt chip pair values) here
      (subst (IsNetEnd chip None pair (slice_index chip.outputs count)) (same ∙ sym (get_or_from_slice_get values count got X at)) is)
]

-- the first that is wrong
pub wrong_here : (chip : Chip) (pair values : List Trit) (output : ℕ) (end got : Trit) → output < length chip.outputs
    → AreRightUpTo chip pair values output → IsNetEnd chip None pair (slice_index chip.outputs output) end
    → slice_get values output ≡ Some got → (end ≡ got → ⊥) → IsWrongFrom chip pair values output
wrong_here chip pair values output end got within before is at differs = record {
  within = within;
  before = before;
  here = λ right. differs (ends_same chip None pair (slice_index chip.outputs output) end got is
      (subst (IsNetEnd chip None pair (slice_index chip.outputs output)) (get_or_from_slice_get values output got X at) right));
}

pub all_right : (chip : Chip) (pair values : List Trit) → length values ≡ length chip.outputs
    → AreRightUpTo chip pair values (length chip.outputs) → AreGoodEnds chip pair values
all_right chip pair values counted right = record { count = counted; each = right }

-- one pair more
pub row_right : (chip : Chip) (pairs : List (List Bool)) (rows : List (List Trit)) (count : ℕ) → AreRightRows chip pairs rows count
    → AreGoodEnds chip (trits_of (get_or pairs count [])) (get_or rows count []) → AreRightRows chip pairs rows (count + 1)
row_right chip pairs rows count before here place below = elim (cases_lt place count) [
  | inl early ↦ before place early
  | inr late ↦
      let same : count ≡ place = omega (arith, below, late) in
      subst (λ k. AreGoodEnds chip (trits_of (get_or pairs k [])) (get_or rows k [])) same here
]

-- so where they are under bits that are those of the pair
pub row_right_by : (chip : Chip) (pairs : List (List Bool)) (rows : List (List Trit)) (count : ℕ) (pair : List Bool) (bits values : List Trit)
    → AreRightRows chip pairs rows count → bits ≡ trits_of pair → pair ≡ get_or pairs count [] → values ≡ get_or rows count []
    → AreGoodEnds chip bits values → AreRightRows chip pairs rows (count + 1)
row_right_by chip pairs rows count pair bits values before bits_are pair_is values_are here =
    row_right chip pairs rows count before
    (subst (AreGoodEnds chip (trits_of (get_or pairs count []))) values_are
    (subst (λ (set : List Trit). AreGoodEnds chip set values) (bits_are ∙ ap trits_of pair_is) here))
