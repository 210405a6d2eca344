-- What benches that work as one keep, and what each of them says of the task of all.
use Rattle.std.proofs.Common.{◌≡◌, ℕ, ◌*◌, List, [], length, map, Option, Some, None, ◌∙◌, refl, sym, ap, subst}
use Rattle.std.specs.Prelude.{slice_get, slice_index, slice_index_or, option_map, Bool, IfOk, Result}
use Rattle.std.specs.List.{All, Contains}
use Rattle.std.proofs.lemmas.List.{get_or-map}
use Rattle.std.proofs.lemmas.List.Elements.{All-get_or, All-nil}
use Rattle.std.proofs.lemmas.Option.{slice_get-map, slice_get_within, get_or_from_slice_get}
use Rattle.ca_net.specs.declared.trit.Trit.{Trit}
use Rattle.ca_flat.specs.declared.chip_defect.ChipDefect.{ChipDefect}
use Rattle.ca_flat.specs.Chip.{Chip}
use Rattle.ca_flat.specs.Pair.{bit_count}
use Rattle.ca_credit.specs.Defects.{Task, StandsIn, IsDefectAt}
use Rattle.ca_credit.specs.Detection.{IsNetEnd, AreDetectedAlike}
use Rattle.ca_generate.specs.declared.search_end.SearchEnd.{SearchEnd}
use Rattle.ca_generate.specs.Outcome.{IsSearchEnd}
use Rattle.ca_benches.specs.declared.station.Station.{Station}
use Rattle.ca_benches.specs.Benches.{no_task, task_at, chip_of_station, defect_of, IsStationed, IsPart, task_of, Joined, task_in}
use Rattle.ca_benches.specs.code.Parts.{bits_at, aimed_at, aimed_in_at, IsAimedAt, IsAimed, aimed_of, aimed_chip}
use Rattle.ca_benches.specs.code.Benches.{AreBenches}
use Rattle.ca_benches.proofs.PartLemmas.{bits_here}

-- what stands in for a chip that stands in for another, stands in for that
pub stands_in_twice : (one two three : Chip) → StandsIn one two → StandsIn two three → StandsIn one three
stands_in_twice one two three first second = record {
  inputs = second.inputs ∙ first.inputs;
  outputs = second.outputs ∙ first.outputs;
  good = λ pair net v observed.
      let there = first.good pair net v observed in
      let further = second.good pair net v (subst (λ (outputs : List ℕ). Contains outputs net) (sym first.outputs) observed) in
      ((λ ends. further.0 (there.0 ends)), (λ ends. there.1 (further.1 ends)));
}

-- a chip that stands in for another has as many pattern bits
pub as_many_bits : (one two : Chip) → StandsIn one two → bit_count two ≡ bit_count one
as_many_bits one two stands = ap (λ (inputs : List ℕ). 2 * length inputs) stands.inputs

-- the same chip, tasks and stations make the same task
pub same_task : (whole new_whole : Task) (tasks new_tasks : List Task) (stations : List Station) → new_whole ≡ whole → new_tasks ≡ tasks
    → task_of new_whole new_tasks stations ≡ task_of whole tasks stations
same_task whole new_whole tasks new_tasks stations whole_is tasks_are =
    ap (λ (w : Task). task_of w new_tasks stations) whole_is ∙ ap (λ (ts : List Task). task_of whole ts stations) tasks_are

-- a bit for each pattern bit of the chip is one for each of that of each bench
pub sized_for_all : (whole : Task) (tasks : List Task) (count : ℕ) → All (IsPart whole) tasks → count ≡ bit_count whole.chip
    → All (λ (task : Task). count ≡ bit_count task.chip) tasks
sized_for_all whole tasks count parts sized k d within =
    let part = parts k d within in
    sized ∙ sym (as_many_bits whole.chip (slice_index_or tasks k d).chip part.stands_in)

-- a station of the list
pub station_of : (tasks : List Task) (stations : List Station) (place : ℕ) (station : Station) → All (IsStationed tasks) stations
    → slice_get stations place ≡ Some station → IsStationed tasks station
station_of tasks stations place station all at =
    subst (IsStationed tasks) (get_or_from_slice_get stations place station station at)
    (All-get_or (IsStationed tasks) stations place station (slice_get_within stations place station at) all)

-- its chip and its defect
pub chip_is : (tasks : List Task) (stations : List Station) (place : ℕ) (station : Station) (d : Chip) → slice_get stations place ≡ Some station
    → slice_index_or (map (chip_of_station tasks) stations) place d ≡ chip_of_station tasks station
chip_is tasks stations place station d at =
    get_or-map (chip_of_station tasks) stations place station d (slice_get_within stations place station at)
    ∙ ap (chip_of_station tasks) (get_or_from_slice_get stations place station station at)

pub defect_is : (stations : List Station) (place : ℕ) (station : Station) → slice_get stations place ≡ Some station
    → slice_get (map defect_of stations) place ≡ Some station.defect
defect_is stations place station at = slice_get-map defect_of stations place ∙ ap (option_map defect_of) at

-- one place of a list has one entry
same_entry : (defects : List ChipDefect) (place : ℕ) (one other : ChipDefect)
    → slice_get defects place ≡ Some one → slice_get defects place ≡ Some other → one ≡ other
same_entry defects place one other is also = let e : Some one ≡ Some other = sym is ∙ also in cc

-- the aim stays
pub aim_stays : (tasks : List Task) (aimeds new_aimeds : List (Option ChipDefect)) (chips new_chips : List Chip) (aim : Option Station)
    → new_aimeds ≡ aimeds → new_chips ≡ chips → IsAimed tasks aimeds chips aim → IsAimed tasks new_aimeds new_chips aim
aim_stays tasks aimeds new_aimeds chips new_chips aim aimeds_are chips_are aimed =
    subst (λ (now : List (Option ChipDefect)). IsAimed tasks now new_chips aim) (sym aimeds_are)
    (subst (λ (now : List Chip). IsAimed tasks aimeds now aim) (sym chips_are) aimed)

module _ (whole : Task) (tasks : List Task) (stations : List Station) (bits : List Trit) (rest : List Bool) (part_bits : List (List Trit))
    (aim : Option Station) (aimeds : List (Option ChipDefect)) (chips : List Chip)
    (are : AreBenches whole tasks stations bits rest part_bits aim aimeds chips) where
  -- the tasks stay, all benches have the bits, and the aim is there
  pub renewed : (new_whole : Task) (new_tasks : List Task) (new_bits : List Trit) (new_part_bits : List (List Trit))
      (new_aim : Option Station) (new_aimeds : List (Option ChipDefect)) (new_chips : List Chip)
      → new_whole ≡ whole → new_tasks ≡ tasks → All (λ (own : List Trit). own ≡ new_bits) new_part_bits
      → IsAimed tasks new_aimeds new_chips new_aim
      → AreBenches new_whole new_tasks stations new_bits rest new_part_bits new_aim new_aimeds new_chips
  renewed new_whole new_tasks new_bits new_part_bits new_aim new_aimeds new_chips whole_is tasks_are all aimed =
      subst (λ (w : Task). AreBenches w new_tasks stations new_bits rest new_part_bits new_aim new_aimeds new_chips) (sym whole_is)
      (subst (λ (ts : List Task). AreBenches whole ts stations new_bits rest new_part_bits new_aim new_aimeds new_chips)
      (sym tasks_are) (record {
        parts = are.parts;
        stationed = are.stationed;
        sized = are.sized;
        parts_have = all;
        aimed = aimed;
      }))

  -- nothing changes but what isn't seen
  pub stays : (new_tasks : List Task) (new_part_bits : List (List Trit)) (new_aimeds : List (Option ChipDefect)) (new_chips : List Chip)
      → new_tasks ≡ tasks → new_part_bits ≡ part_bits → new_aimeds ≡ aimeds → new_chips ≡ chips
      → AreBenches whole new_tasks stations bits rest new_part_bits aim new_aimeds new_chips
  stays new_tasks new_part_bits new_aimeds new_chips tasks_are part_bits_are aimeds_are chips_are =
      renewed whole new_tasks bits new_part_bits aim new_aimeds new_chips refl tasks_are
      (subst (All (λ (own : List Trit). own ≡ bits)) (sym part_bits_are) are.parts_have)
      (aim_stays tasks aimeds new_aimeds chips new_chips aim aimeds_are chips_are are.aimed)

  -- the chip of the bench of a station stands in for the task's
  pub part_of : (station : Station) → IsStationed tasks station → IsPart whole (task_at tasks station.part)
  part_of station stationed = All-get_or (IsPart whole) tasks station.part no_task stationed.within are.parts

  module _ (aimed : Station) (aim_is : aim ≡ Some aimed) where
    -- the station that is aimed at
    pub aim_stationed : IsStationed tasks aimed
    aim_stationed = (subst (IsAimed tasks aimeds chips) aim_is are.aimed).0

    pub aim_at : IsAimedAt tasks aimeds chips aimed
    aim_at = (subst (IsAimed tasks aimeds chips) aim_is are.aimed).1

    -- its chip stands in for the task's
    pub aim_stands_in : StandsIn whole.chip (chip_of_station tasks aimed)
    aim_stands_in = stands_in_twice _ _ _ (part_of aimed aim_stationed).stands_in aim_at.stands_in

    -- what a search for its defect has ended with
    pub searched : {E : Type 0} (result : Result SearchEnd E) (defect : ChipDefect)
        → ((one : ChipDefect) → aimed_at aimeds aimed.part ≡ Some one
        → IfOk result (IsSearchEnd (aimed_in_at chips aimed.part) (task_at tasks aimed.part).budget one))
        → Some aimed.defect ≡ Some defect
        → IfOk result (IsSearchEnd (chip_of_station tasks aimed) whole.budget defect)
    searched result defect ended is =
        subst (λ (one : ChipDefect). IfOk result (IsSearchEnd (chip_of_station tasks aimed) whole.budget one))
        (let e : Some aimed.defect ≡ Some defect = is in cc)
        (subst (λ (chip : Chip). IfOk result (IsSearchEnd chip whole.budget aimed.defect)) aim_at.aimed_in
        (subst (λ (budget : ℕ). IfOk result (IsSearchEnd (aimed_in_at chips aimed.part) budget aimed.defect))
        (part_of aimed aim_stationed).budget (ended aimed.defect aim_at.aimed)))

-- so it is before anything was asked
pub begun : (whole new_whole : Task) (tasks new_tasks : List Task) (stations : List Station) (bits : List Trit) (rest : List Bool)
    (part_bits : List (List Trit)) (aimeds : List (Option ChipDefect)) (chips : List Chip)
    → All (IsPart whole) tasks → All (IsStationed tasks) stations → new_whole ≡ whole → new_tasks ≡ tasks
    → length rest ≡ bit_count whole.chip → All (λ (own : List Trit). own ≡ bits) part_bits
    → AreBenches new_whole new_tasks stations bits rest part_bits None aimeds chips
begun whole new_whole tasks new_tasks stations bits rest part_bits aimeds chips parts stationed whole_is tasks_are sized all =
    let old : AreBenches whole tasks stations bits rest [] None [] [] = record {
      parts = parts;
      stationed = stationed;
      sized = sized;
      parts_have = All-nil (λ (own : List Trit). own ≡ bits);
      aimed = tt;
    } in
    renewed whole tasks stations bits rest [] None [] [] old new_whole new_tasks bits part_bits None aimeds chips
    whole_is tasks_are all tt

module _ {B : Type 0} (task : B → Task) (bits_of : B → List Trit) (good : B) (parts : List B) (stations : List Station) (bits : List Trit)
    (rest : List Bool) (aim : Option Station) (aimeds : List (Option ChipDefect)) (chips : List Chip)
    (are : AreBenches (task good) (map task parts) stations bits rest (map bits_of parts) aim aimeds chips) where
  module _ (v : Joined) (task_is : task_of (task good) (map task parts) stations ≡ task_in v) (bits_are : bits ≡ v.bits)
      (place : ℕ) (station : Station) (at : slice_get stations place ≡ Some station) where
    stationed : IsStationed (map task parts) station
    stationed = station_of (map task parts) stations place station are.stationed at

    -- its chip and its defect are those of the task
    pub chip_told : chip_of_station (map task parts) station ≡ (task_in v).chip_of place
    chip_told = sym (chip_is (map task parts) stations place station (task good).chip at) ∙ ap (λ (t : Task). t.chip_of place) task_is

    pub defect_told : Some station.defect ≡ slice_get (task_in v).defects place
    defect_told = sym (defect_is stations place station at) ∙ ap (λ (t : Task). slice_get t.defects place) task_is

    -- what the bench of a station says of its defect is so of the defect of the task
    pub told : (P : Chip → ChipDefect → List Trit → Type 0) (defect : ChipDefect)
        → P (chip_of_station (map task parts) station) station.defect (bits_at (map bits_of parts) station.part)
        → IsDefectAt (task_in v) place defect → P ((task_in v).chip_of place) defect v.bits
    told P defect holds here =
        subst (λ (chip : Chip). P chip defect v.bits) chip_told
        (subst (λ (own : List Trit). P (chip_of_station (map task parts) station) defect own)
        (bits_here task bits_of parts station bits stationed are.parts_have ∙ bits_are)
        (subst (λ (d : ChipDefect). P (chip_of_station (map task parts) station) d (bits_at (map bits_of parts) station.part))
        (let e : Some station.defect ≡ Some defect = defect_told ∙ here in cc) holds))

    module _ (aimed : Station) (aim_is : aim ≡ Some aimed) (part_is : aimed.part ≡ station.part) where
      aimed_there : IsAimedAt (map task parts) aimeds chips aimed
      aimed_there = aim_at _ _ _ _ _ _ _ _ _ are aimed aim_is

      aimed_in_is : aimed_in_at chips station.part ≡ aimed_chip (task good).chip (map task parts) aim
      aimed_in_is = ap (aimed_in_at chips) (sym part_is) ∙ aimed_there.aimed_in
          ∙ ap (aimed_chip (task good).chip (map task parts)) (sym aim_is)

      aimed_is : aimed_at aimeds station.part ≡ aimed_of aim
      aimed_is = ap (aimed_at aimeds) (sym part_is) ∙ aimed_there.aimed ∙ ap aimed_of (sym aim_is)

      -- where the bench of the aim says that a defect is alike, both are defects of one chip
      pub chip_alike : chip_of_station (map task parts) station ≡ aimed_in_at chips station.part
          → (task_in v).chip_of place ≡ aimed_chip (task good).chip (map task parts) aim
      chip_alike same = sym chip_told ∙ same ∙ aimed_in_is

      -- and are detected alike
      pub told_alike : (one other : ChipDefect)
          → ((first : ChipDefect) → aimed_at aimeds station.part ≡ Some first
          → AreDetectedAlike (aimed_in_at chips station.part) first station.defect (bits_at (map bits_of parts) station.part))
          → aimed_of aim ≡ Some one → IsDefectAt (task_in v) place other
          → AreDetectedAlike (aimed_chip (task good).chip (map task parts) aim) one other v.bits
      told_alike one other alike is here =
          subst (λ (chip : Chip). AreDetectedAlike chip one other v.bits) aimed_in_is
          (subst (λ (own : List Trit). AreDetectedAlike (aimed_in_at chips station.part) one other own)
          (bits_here task bits_of parts station bits stationed are.parts_have ∙ bits_are)
          (subst (λ (d : ChipDefect). AreDetectedAlike (aimed_in_at chips station.part) one d (bits_at (map bits_of parts) station.part))
          (let e : Some station.defect ≡ Some other = defect_told ∙ here in cc) (alike one (aimed_is ∙ is))))

  -- the faulty end at an output is that of the bench of the aim
  pub end_told : (aimed : Station) → aim ≡ Some aimed → (output : ℕ) (value : Trit)
      → IsNetEnd (aimed_in_at chips aimed.part) (aimed_at aimeds aimed.part) (bits_at (map bits_of parts) aimed.part)
      (slice_index (task_at (map task parts) aimed.part).chip.outputs output) value
      → IsNetEnd (aimed_chip (task good).chip (map task parts) aim) (aimed_of aim) bits
      (slice_index (task good).chip.outputs output) value
  end_told aimed aim_is output value ends =
      let there = aim_at _ _ _ _ _ _ _ _ _ are aimed aim_is in
      let stationed = aim_stationed _ _ _ _ _ _ _ _ _ are aimed aim_is in
      let net = slice_index (task good).chip.outputs output in
      subst (λ (a : Option Station). IsNetEnd (aimed_chip (task good).chip (map task parts) a) (aimed_of a) bits net value) (sym aim_is)
      (subst (λ (chip : Chip). IsNetEnd chip (Some aimed.defect) bits net value) there.aimed_in
      (subst (λ (given : Option ChipDefect). IsNetEnd (aimed_in_at chips aimed.part) given bits net value) there.aimed
      (subst (λ (own : List Trit). IsNetEnd (aimed_in_at chips aimed.part) (aimed_at aimeds aimed.part) own net value)
      (bits_here task bits_of parts aimed bits stationed are.parts_have)
      (subst (λ (outputs : List ℕ). IsNetEnd (aimed_in_at chips aimed.part) (aimed_at aimeds aimed.part)
      (bits_at (map bits_of parts) aimed.part) (slice_index outputs output) value)
      (part_of _ _ _ _ _ _ _ _ _ are aimed stationed).stands_in.outputs ends))))
