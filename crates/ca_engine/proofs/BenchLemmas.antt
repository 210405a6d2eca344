-- What the fields of a bench keep.
use Rattle.std.proofs.Common.{◌≡◌, ◌<◌, ◌≤◌, ◌^◌, ℕ, List, length, Option, None, Some, ◌∙◌, sym, refl, ap, subst}
use Rattle.std.specs.Prelude.{slice_get, slice_index, IfOk, Result, Ok, Err}
use Rattle.std.specs.List.{All}
use Rattle.std.proofs.lemmas.Option.{get_or_from_slice_get}
use Rattle.std.proofs.lemmas.List.Elements.{All-get_or, Contains-get_or}
use Rattle.ca_net.specs.declared.trit.Trit.{Trit}
use Rattle.ca_net.specs.Circuit.{IsWellFormed}
use Rattle.ca_flat.specs.declared.chip_defect.ChipDefect.{ChipDefect}
use Rattle.ca_flat.specs.declared.token.Token.{Token}
use Rattle.ca_flat.specs.Chip.{Chip, IsDefectIn, IsChipDefect}
use Rattle.ca_flat.specs.Flat.{flat}
use Rattle.ca_flat.specs.Codes.{branch_count}
use Rattle.ca_flat.specs.Simulation.{IsFlattened}
use Rattle.ca_response.specs.Gives.{wave_at}
use Rattle.ca_cell.specs.Exposes.{opposite_of}
use Rattle.ca_sim.specs.Seen.{Seen, IsExact, aimed_anew}
use Rattle.ca_sim.specs.Laws.{DefiniteLastIsEnd}
use Rattle.ca_view.specs.Linked.{IsLinked, IsPlacedDefect, place_in}
use Rattle.ca_sim.specs.Simulator.{Simulator, IsFresh, KeepsAim, KeepsPair}
use Rattle.ca_search.specs.declared.trail.Outcome.{Outcome}
use Rattle.ca_search.specs.Judged.{IsSameAim}
use Rattle.ca_search.specs.Outcome.{IsOutcome}
use Rattle.ca_judge.specs.ChipJudge.{judged_of}
use Rattle.ca_judge.specs.ChipJudge as judge
use Rattle.ca_credit.specs.Defects.{IsSearchable}
use Rattle.ca_credit.specs.Detection.{IsNetEnd, AreDetectedAlike}
use Rattle.ca_credit.specs.ToTry.{IsNextToTry}
use Rattle.ca_places.specs.declared.place_set.PlaceSet.{PlaceSet}
use Rattle.ca_sweep.specs.Spans.{Spanned}
use Rattle.ca_sweep.specs.Found.{IsNextFound}
use Rattle.ca_search.specs.declared.trail.Outcome.TheVariants.{Found, Exhausted, Spent}
use Rattle.ca_generate.specs.declared.search_end.SearchEnd.{SearchEnd}
use Rattle.ca_generate.specs.declared.search_end.SearchEnd.TheVariants as end
use Rattle.ca_code.specs.Ends.{IsSpentSearch}
use Rattle.ca_search.specs.Ends.{IsSearch, OutcomeIsSearch}
use Rattle.ca_generate.specs.Outcome.{IsSearchEnd}
use Rattle.ca_engine.specs.ChipBench.{Benched, task_in}
use Rattle.ca_engine.specs.code.ChipBench.{IsChipBench}
use Rattle.ca_engine.specs.code.SearchEnd.{IsKept}

-- a defect at a place of the list may be aimed at
pub placed_at : (chip : Chip) (place_of : ℕ → ℕ) (defects : List ChipDefect) (place : ℕ) (defect : ChipDefect)
    → All (IsPlacedDefect chip place_of) defects → place < length defects
    → slice_get defects place ≡ Some defect → IsPlacedDefect chip place_of defect
placed_at chip place_of defects place defect all lt at =
    subst (IsPlacedDefect chip place_of) (get_or_from_slice_get defects place defect defect at)
    (All-get_or (IsPlacedDefect chip place_of) defects place defect lt all)

-- one place of a list has one entry
pub same_entry : (defects : List ChipDefect) (place : ℕ) (one other : ChipDefect)
    → slice_get defects place ≡ Some one → slice_get defects place ≡ Some other → one ≡ other
same_entry defects place one other is also = let e : Some one ≡ Some other = sym is ∙ also in cc

-- the bench of a chip begins without a defect
pub bench_begins : (core : Chip) (places : List ℕ) (number_of : ℕ → ℕ) (sim : Simulator)
    (rows_chip : Chip) (defects : Spanned) (outputs : List ℕ)
    → IsFresh core places sim → IsLinked core (place_in places) number_of → judge.CanBeJudged core
    → rows_chip ≡ core → defects.chip ≡ core → All (IsPlacedDefect core (place_in places)) defects.list
    → length defects.list < 2 ^ 32
    → outputs ≡ core.outputs → length outputs < 2 ^ 32
    → IsChipBench sim.seen.chip sim.seen.places sim.seen.aim rows_chip defects outputs None
bench_begins core places number_of sim rows_chip defects outputs fresh linked judged same of placed few_defects are few =
    subst (λ c. IsChipBench c sim.seen.places sim.seen.aim rows_chip defects outputs None) (sym fresh.chip_is)
    (subst (λ p. IsChipBench core p sim.seen.aim rows_chip defects outputs None) (sym fresh.places_are) (record {
      rank = place_in places;
      chip_is = linked.is_chip;
      good_is = judged.good_is;
      faulty_are = judged.faulty_are;
      spans_of = of;
      placed = placed;
      few_defects = few_defects;
      outputs_are = are;
      few = few;
      rows_are = same;
      aim_is = fresh.aim;
      aimed = tt;
    }))

-- it is kept where the chip and the defect are the same
same_bench : (chip new_chip : Chip) (places new_places : List ℕ) (aim new_aim : Option ChipDefect)
    (rows_chip : Chip) (defects : Spanned) (outputs : List ℕ) (defect : Option ChipDefect)
    → new_chip ≡ chip → new_places ≡ places → new_aim ≡ aim
    → IsChipBench chip places aim rows_chip defects outputs defect
    → IsChipBench new_chip new_places new_aim rows_chip defects outputs defect
same_bench chip new_chip places new_places aim new_aim rows_chip defects outputs defect chip_is places_are aim_is is =
    subst (λ c. IsChipBench c new_places new_aim rows_chip defects outputs defect) (sym chip_is)
    (subst (λ p. IsChipBench chip p new_aim rows_chip defects outputs defect) (sym places_are)
    (subst (λ a. IsChipBench chip places a rows_chip defects outputs defect) (sym aim_is) is))

-- so where other bits are loaded
pub bench_loads : (old new : Simulator) (rows_chip : Chip) (defects : Spanned) (outputs : List ℕ)
    (defect : Option ChipDefect) → KeepsAim old new
    → IsChipBench old.seen.chip old.seen.places old.seen.aim rows_chip defects outputs defect
    → IsChipBench new.seen.chip new.seen.places new.seen.aim rows_chip defects outputs defect
bench_loads old new rows_chip defects outputs defect keeps is =
    same_bench old.seen.chip new.seen.chip old.seen.places new.seen.places old.seen.aim new.seen.aim
    rows_chip defects outputs defect keeps.chip.chip keeps.chip.places keeps.aim is

-- and where a search has ended
pub bench_searches : (old new : Seen) (rows_chip : Chip) (defects : Spanned) (outputs : List ℕ)
    (defect : Option ChipDefect) → IsSameAim (judged_of old) (judged_of new)
    → IsChipBench old.chip old.places old.aim rows_chip defects outputs defect
    → IsChipBench new.chip new.places new.aim rows_chip defects outputs defect
bench_searches old new rows_chip defects outputs defect same is =
    same_bench old.chip new.chip old.places new.places old.aim new.aim rows_chip defects outputs defect
    (ap (λ judged. judged.chip) same) (ap (λ judged. judged.places) same) (ap (λ judged. judged.aim) same) is

-- another defect of the chip is aimed at, or none
pub bench_aims : (old new : Simulator) (rows_chip : Chip) (defects : Spanned) (outputs : List ℕ)
    (before defect : Option ChipDefect) → KeepsPair old new → new.seen.aim ≡ defect
    → IsChipDefect old.seen.chip defect
    → IsChipBench old.seen.chip old.seen.places old.seen.aim rows_chip defects outputs before
    → IsChipBench new.seen.chip new.seen.places new.seen.aim rows_chip defects outputs defect
bench_aims old new rows_chip defects outputs before defect keeps aimed in_chip is =
    same_bench old.seen.chip new.seen.chip old.seen.places new.seen.places defect new.seen.aim
    rows_chip defects outputs defect keeps.chip.chip keeps.chip.places aimed (record {
      rank = is.rank;
      chip_is = is.chip_is;
      good_is = is.good_is;
      faulty_are = is.faulty_are;
      spans_of = is.spans_of;
      placed = is.placed;
      few_defects = is.few_defects;
      outputs_are = is.outputs_are;
      few = is.few;
      rows_are = is.rows_are;
      aim_is = refl;
      aimed = in_chip;
    })

module _ (seen : Seen) (rows_chip : Chip) (defects : Spanned) (outputs : List ℕ)
    (defect : Option ChipDefect)
    (is : IsChipBench seen.chip seen.places seen.aim rows_chip defects outputs defect) where
  -- the defect that is aimed at is one of the chip
  in_chip : IsChipDefect seen.chip seen.aim
  in_chip = subst (IsChipDefect seen.chip) (sym is.aim_is) is.aimed

  formed : (given : Option ChipDefect) → IsChipDefect seen.chip given → IsWellFormed (flat seen.chip given)
  formed None one = is.good_is
  formed (Some d) one = is.faulty_are d one

  flattened : (given : Option ChipDefect) → IsChipDefect seen.chip given → IsFlattened seen.chip is.rank given
  flattened given one = record { chip_is = is.chip_is; defect_is = one; formed = formed given one }

  -- an observed output is on a net of the chip
  pub output_within : (output : ℕ) → output < length outputs
      → slice_index outputs output < length seen.chip.nets
  output_within output lt = subst (λ nets. slice_index nets output < length seen.chip.nets) (sym is.outputs_are)
      (is.chip_is.observed (slice_index seen.chip.outputs output)
      (Contains-get_or seen.chip.outputs output 0 (subst (λ nets. output < length nets) is.outputs_are lt)))

  at_outputs : (given : Option ChipDefect) (output : ℕ) (value : ℕ → Trit)
      → ((net : ℕ) → net < length seen.chip.nets → IsNetEnd seen.chip given seen.pair net (value net))
      → output < length outputs
      → IsNetEnd seen.chip given seen.pair (slice_index seen.chip.outputs output) (value (slice_index outputs output))
  at_outputs given output value each lt =
      subst (λ nets. IsNetEnd seen.chip given seen.pair (slice_index nets output) (value (slice_index outputs output)))
      is.outputs_are (each (slice_index outputs output) (output_within output lt))

  -- the last values of the waves are what the good chip ends with, and the one with the defect
  pub good_ends : DefiniteLastIsEnd → IsExact seen → (output : ℕ) → output < length outputs
      → IsNetEnd seen.chip None seen.pair (slice_index seen.chip.outputs output)
      (wave_at seen.good (slice_index outputs output)).last
  good_ends law exact output lt = at_outputs None output (λ net. (wave_at seen.good net).last)
      (λ net within v. law seen.chip is.rank None seen.pair seen.good net v (flattened None tt)
      (exact.good is.good_is) within) lt

  pub faulty_ends : DefiniteLastIsEnd → IsExact seen → (output : ℕ) → output < length outputs
      → IsNetEnd seen.chip seen.aim seen.pair (slice_index seen.chip.outputs output)
      (wave_at seen.faulty (slice_index outputs output)).last
  faulty_ends law exact output lt = at_outputs seen.aim output (λ net. (wave_at seen.faulty net).last)
      (λ net within v. law seen.chip is.rank seen.aim seen.pair seen.faulty net v (flattened seen.aim in_chip)
      (exact.faulty (formed seen.aim in_chip)) within) lt

  -- the defect that is aimed at may be searched for
  searchable : (d : ChipDefect) → seen.aim ≡ Some d → IsSearchable seen.chip d
  searchable d aimed =
      let one : IsDefectIn seen.chip d = subst (IsChipDefect seen.chip) aimed in_chip in
      record {
        rank = is.rank;
        is_flat = record {
          chip_is = is.chip_is;
          defect_is = one;
          good_is = is.good_is;
          faulty_is = is.faulty_are d one;
        };
      }

  -- what a search answers is how it has ended for the defect
  pub search_ends : OutcomeIsSearch → (new : Seen) (budget : ℕ) (code : List Token) (outcome : Outcome)
      → IsSameAim (judged_of seen) (judged_of new) → branch_count code ≤ budget
      → IsOutcome (judged_of new) budget code outcome → (d : ChipDefect) → seen.aim ≡ Some d
      → IsSearch seen.chip budget d code new.pair outcome
  search_ends law new budget code outcome same within ends d aimed =
      let known = searchable d aimed in
      law seen.chip known.rank budget seen.places d code new.pair outcome known.is_flat within
      (subst (λ a. IsOutcome (record { chip = seen.chip; places = seen.places; aim = a; pair = new.pair }) budget
      code outcome) aimed (subst (λ judged. IsOutcome judged budget code outcome) same ends))

-- what is kept of a search is its end
pub kept_ends : (chip : Chip) (budget : ℕ) (defect : ChipDefect) (code : List Token) (partial : List Trit) (outcome : Outcome)
    (last : SearchEnd) → IsSearch chip budget defect code partial outcome → IsKept partial code outcome last
    → IsSearchEnd chip budget defect last
kept_ends chip budget defect code partial Found (end.Found pair) is kept = record {
  partial = partial;
  code = code;
  front = is.ends.front;
  within = is.within;
  shown = is.ends.shown;
  fills = kept;
}
kept_ends chip budget defect code partial Found end.Exhausted is kept = absurd kept
kept_ends chip budget defect code partial Found (end.Spent other) is kept = absurd kept
kept_ends chip budget defect code partial Exhausted (end.Found pair) is kept = absurd kept
kept_ends chip budget defect code partial Exhausted end.Exhausted is kept = (code, is.ends)
kept_ends chip budget defect code partial Exhausted (end.Spent other) is kept = absurd kept
kept_ends chip budget defect code partial Spent (end.Found pair) is kept = absurd kept
kept_ends chip budget defect code partial Spent end.Exhausted is kept = absurd kept
kept_ends chip budget defect code partial Spent (end.Spent other) is kept =
    subst (IsSpentSearch chip budget defect) (sym kept) is.ends

pub kept_end_is : {E : Type 0} (chip : Chip) (budget : ℕ) (defect : ChipDefect) (code : List Token) (partial : List Trit)
    (outcome : Outcome) (result : Result SearchEnd E) → IsSearch chip budget defect code partial outcome
    → IfOk result (IsKept partial code outcome) → IfOk result (IsSearchEnd chip budget defect)
kept_end_is chip budget defect code partial outcome (Ok last) is kept =
    kept_ends chip budget defect code partial outcome last is kept
kept_end_is chip budget defect code partial outcome (Err fault) is kept = tt

module _ (seen : Seen) (rows_chip : Chip) (defects : Spanned) (outputs : List ℕ)
    (defect : Option ChipDefect)
    (is : IsChipBench seen.chip seen.places seen.aim rows_chip defects outputs defect) (other : ChipDefect)
    (in_chip_too : IsDefectIn seen.chip other) where
  -- the same bench, aimed at another defect
  other_bench : IsChipBench seen.chip seen.places (Some other) rows_chip defects outputs (Some other)
  other_bench = record {
    rank = is.rank;
    chip_is = is.chip_is;
    good_is = is.good_is;
    faulty_are = is.faulty_are;
    spans_of = is.spans_of;
    placed = is.placed;
    few_defects = is.few_defects;
    outputs_are = is.outputs_are;
    few = is.few;
    rows_are = is.rows_are;
    aim_is = refl;
    aimed = in_chip_too;
  }

  -- defects with which all waves are the same are detected at the same outputs
  pub alike_detects : DefiniteLastIsEnd → IsExact seen → IsExact (aimed_anew seen other) → (one : ChipDefect)
      → seen.aim ≡ Some one → AreDetectedAlike seen.chip one other seen.pair
  alike_detects law exact alike one aimed output lt =
      let within : output < length outputs = subst (λ nets. output < length nets) (sym is.outputs_are) lt in
      let net = slice_index seen.chip.outputs output in
      let value = (wave_at seen.faulty (slice_index outputs output)).last in
      let one_ends : IsNetEnd seen.chip (Some one) seen.pair net value =
      subst (λ aim. IsNetEnd seen.chip aim seen.pair net value) aimed
      (faulty_ends seen rows_chip defects outputs defect is law exact output within) in
      let other_ends : IsNetEnd seen.chip (Some other) seen.pair net value =
      faulty_ends (aimed_anew seen other) rows_chip defects outputs (Some other) other_bench law alike output within in (
        λ detects. record {
          value = detects.value;
          good = detects.good;
          faulty = (other_ends (opposite_of detects.value)).0 ((one_ends (opposite_of detects.value)).1 detects.faulty);
        },
        λ detects. record {
          value = detects.value;
          good = detects.good;
          faulty = (one_ends (opposite_of detects.value)).0 ((other_ends (opposite_of detects.value)).1 detects.faulty);
        },
      )

-- what is found of places of the bench's list is what is to be tried of its task
pub next_is : (bench : Benched) (set : PlaceSet) (from : ℕ) (next : Option ℕ)
    → IsNextFound bench.chip bench.defects bench.bits set from next → IsNextToTry (task_in bench) bench.bits set from next
next_is bench set from None found = found
next_is bench set from (Some next) found = found
