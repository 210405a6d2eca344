-- Codes that flip no output pin: their defects are detected nowhere.
use Rattle.std.proofs.Common.{◌≡◌, ℕ, ◌+◌, ◌<◌, ◌≤◌, ◌↔◌, ◌&&◌, ◌==◌, List, Bool, true, false, inl, inr, refl, sym, ◌∙◌, ap, subst, arith}
use Rattle.std.proofs.lemmas.Bool.{cases_lt}
use Rattle.std.specs.Prelude.{slice_index, slice_index_or, Option, None, Some}
use Rattle.std.specs.Int.{bit_at}
use Rattle.ca_net.specs.declared.trit.Trit.{Trit}
use Rattle.ca_net.specs.declared.wave.Wave.{Wave}
use Rattle.ca_net.specs.State.{value_at}
use Rattle.ca_cell.specs.declared.rule.CellRule.TheVariants.{TooManyOutputs}
use Rattle.ca_flat.specs.Chip.{Chip, IsChip, count_of, outputs_at}
use Rattle.ca_flips.specs.Laws.{SweptAreFlipped, DetectedIsFilledIn, DetectedIsFlipped}
use Rattle.ca_planes.specs.Plane.{has_lane}
use Rattle.ca_places.specs.declared.place_set.PlaceSet.{PlaceSet}
use Rattle.ca_places.specs.PlaceSet.{Has}
use Rattle.ca_sim.specs.Seen as sim
use Rattle.ca_view.specs.Linked.{place_in}
use Rattle.ca_sweep.specs.declared.codes.Goods.{Goods}
use Rattle.ca_sweep.specs.declared.faulty.Faulty.{Faulty}
use Rattle.ca_sweep.specs.declared.hand.Hand.{Hand}
use Rattle.ca_sweep.specs.declared.row.Row.{Row}
use Rattle.ca_sweep.specs.declared.rows.Rows.{Rows}
use Rattle.ca_sweep.specs.declared.seen.Flips.{Flips}
use Rattle.ca_sweep.specs.declared.seen.Seen.TheVariants.{Nowhere}
use Rattle.ca_sweep.specs.Seen.{IsSeen, Swept}
use Rattle.ca_sweep.specs.code.Asked.{IsAsked, AreNowhereAt}
use Rattle.ca_sweep.specs.code.Coded.{IsSeenCoded}
use Rattle.ca_sweep.specs.code.Hand.{IsFinder, IsTaken}
use Rattle.ca_sweep.specs.code.Loud.{FlipsNone}
use Rattle.ca_sweep.specs.code.Rows.{AreGoodsAt, IsCodeIn, IsLoudIn}
use Rattle.ca_sweep.proofs.TakenLemmas.{loaded_of, taken_nowhere}

-- no pin is flipped
abbrev pub no_flips : Flips
no_flips = record { first = false; second = false }

-- a code that flips none, in the row of a slot
record QuietCode (slot : Option Row) (goods : Goods) (place : ℕ) : Type 0 where
  code : ℕ
  is : IsCodeIn slot place code
  none : FlipsNone goods code

-- the code at a place that isn't marked
quiet_code : (slot : Option Row) (goods : Goods) (count loud place : ℕ) → IsLoudIn slot goods count loud → place < count → place < 64
    → has_lane loud place ≡ false → QuietCode slot goods place
quiet_code None goods count loud place is below small clear = absurd is
quiet_code (Some row) goods count loud place is below small clear = record {
  code = slice_index row.codes.items place;
  is = record { within = let fits = is.within in omega arith; is = refl };
  none = is.are place small (let fits = is.within in omega arith) clear;
}

few_outputs : (chip : Chip) (rank : ℕ → ℕ) (u : ℕ) → IsChip chip rank → u < count_of chip → outputs_at chip u ≤ 2
few_outputs chip rank u is known = elim (cases_lt 2 (outputs_at chip u)) [
  | inr few ↦ few
  | inl many ↦ absurd ((is.cells u known).keeps (TooManyOutputs (outputs_at chip u)) (λ e. absurd cc) (refl, omega arith))
]

-- such a code is seen nowhere
quiet_coded : (chip : Chip) (goods : ℕ → Trit) (u : ℕ) (ends : Goods) (code : ℕ) → outputs_at chip u ≤ 2 → AreGoodsAt chip goods u ends → FlipsNone ends code
    → IsSeen chip goods u no_flips Nowhere → IsSeenCoded chip goods u code Nowhere
quiet_coded chip goods u ends code few goods_are none seen_is = record {
  few = few;
  ends = ends;
  goods_are = goods_are;
  flips = no_flips;
  flips_are = record {
    first = ((λ e. let no : false ≡ true = e in absurd cc), (λ opposite. absurd (none.first opposite)));
    second = ((λ e. let no : false ≡ true = e in absurd cc), (λ opposite. absurd (none.second opposite)));
  };
  known = false;
  known_is = λ e. let no : false ≡ true = e in absurd cc;
  seen = Nowhere;
  seen_is = seen_is;
  is = refl;
}

clear_of : (a b both : Bool) → both ≡ (a && b) → both ≡ false → a ≡ true → b ≡ false
clear_of true b both is clear set = sym is ∙ clear
clear_of false b both is clear set = let e : false ≡ true = set in absurd cc

-- no defect of a set is detected whose code isn't marked, where no place of the set from a span's start on is
-- marked
pub quiet_nowhere : SweptAreFlipped → DetectedIsFilledIn → DetectedIsFlipped
    → (chip : Chip) (places : List ℕ) (number_of : ℕ → ℕ) (swept : Swept) (faulty : Faulty) (rows : Rows) (waves : List Wave) (hand : Hand) (seen : sim.Seen)
    (set : PlaceSet) (u start count window loud mask : ℕ) → IsFinder chip places (place_in places) number_of swept faulty rows waves hand → IsChip chip (place_in places)
    → u < count_of chip → IsAsked seen (loaded_of swept waves) → hand.is_full ≡ true → hand.instance ≡ u
    → IsLoudIn (slice_index_or rows.slots.items hand.slot None) hand.goods count loud → count ≤ 64
    → ((k : ℕ) → k < 64 → (bit_at window k ≡ 1) ↔ Has set (start + k)) → ((lane : ℕ) → has_lane mask lane ≡ (has_lane window lane && has_lane loud lane))
    → ((lane : ℕ) → lane < 64 → has_lane mask lane ≡ false) → IsSeen swept.chip (value_at swept.lasts) u no_flips Nowhere
    → (at : ℕ) → at < count → Has set (start + at) → AreNowhereAt seen.pair u at (loaded_of swept waves)
unfolding has_lane
quiet_nowhere swept_laws filled flipped chip places number_of swept faulty rows waves hand seen set u start count window loud mask is is_chip known asked full in_hand marked
    few_places window_is mask_is none_marked seen_is at below has =
    let goods = value_at swept.lasts in
    let slots = rows.slots.items in
    let set_here : has_lane window at ≡ true = ap (λ b. b == 1) ((window_is at (omega arith)).1 has) in
    let clear : has_lane loud at ≡ false =
    clear_of (has_lane window at) (has_lane loud at) (has_lane mask at) (mask_is at) (none_marked at (omega arith)) set_here in
    let quiet = quiet_code (slice_index_or slots hand.slot None) hand.goods count loud at marked below (omega arith) clear in
    let hand_is : IsTaken swept.chip number_of goods waves slots hand = subst (λ c. IsTaken c number_of goods waves slots hand) (sym is.chip_is) (is.hand_is full) in
    let own_chip : IsChip swept.chip (place_in places) = subst (λ c. IsChip c (place_in places)) (sym is.chip_is) is_chip in
    let own_known : u < count_of swept.chip = subst (λ (c : Chip). u < count_of c) (sym is.chip_is) known in
    let coded : IsSeenCoded swept.chip goods u quiet.code Nowhere =
    quiet_coded swept.chip goods u hand.goods quiet.code (few_outputs swept.chip (place_in places) u own_chip own_known)
    (subst (λ w. AreGoodsAt swept.chip goods w hand.goods) in_hand hand_is.goods_are) quiet.none seen_is in
    taken_nowhere swept_laws filled flipped chip places number_of swept faulty rows waves hand seen u at quiet.code Nowhere is is_chip asked full in_hand quiet.is coded refl
