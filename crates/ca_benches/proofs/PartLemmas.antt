-- The bench of a station, read in the list of benches.
use Rattle.std.proofs.Common.{◌≡◌, ℕ, ◌<◌, List, [], length, map, get_or, sym, subst, Option, None}
use Rattle.std.specs.Prelude.{slice_index}
use Rattle.std.specs.List.{All}
use Rattle.std.proofs.lemmas.List.{length-map}
use Rattle.std.proofs.lemmas.List.Elements.{All-get_or}
use Rattle.std.proofs.lemmas.Option.{slice_get_within}
use Rattle.ca_net.specs.declared.trit.Trit.{Trit}
use Rattle.ca_flat.specs.declared.chip_defect.ChipDefect.{ChipDefect}
use Rattle.ca_flat.specs.Chip.{Chip}
use Rattle.ca_credit.specs.Defects.{Task, IsDefectAt}
use Rattle.ca_credit.specs.Detection.{IsNetEnd}
use Rattle.ca_benches.specs.declared.station.Station.{Station}
use Rattle.ca_benches.specs.Benches.{no_chip, no_task, task_at, chip_of_station, IsStationed}
use Rattle.ca_benches.specs.code.Parts.{bits_at, aimed_at, aimed_in_at}
use Rattle.ca_benches.proofs.ListLemmas.{at_read}

module _ {B : Type 0} (task : B → Task) (parts : List B) (station : Station) (stationed : IsStationed (map task parts) station) where
  -- it is one of the list
  pub station_within : station.part < length parts
  station_within = subst (λ (n : ℕ). station.part < n) (length-map parts task) stationed.within

  module _ (bench : B) (is : bench ≡ get_or parts station.part bench) where
    -- its task
    pub own_task : task_at (map task parts) station.part ≡ task bench
    own_task = at_read task parts station.part bench no_task station_within is

    -- has the defect
    pub own_listed : IsDefectAt (task bench) station.place station.defect
    own_listed = subst (λ (own : Task). IsDefectAt own station.place station.defect) own_task stationed.listed

    pub place_within : station.place < length (task bench).defects
    place_within = slice_get_within (task bench).defects station.place station.defect own_listed

    -- what it says of the defect at the place, it says of the defect in the station
    pub of_station : (P : Chip → ChipDefect → Type 0)
        → ((defect : ChipDefect) → IsDefectAt (task bench) station.place defect → P ((task bench).chip_of station.place) defect)
        → P (chip_of_station (map task parts) station) station.defect
    of_station P holds = subst (λ (own : Task). P (own.chip_of station.place) station.defect) (sym own_task) (holds station.defect own_listed)

    -- and so under its bits
    pub of_station_with : (bits : B → List Trit) (P : Chip → ChipDefect → List Trit → Type 0)
        → ((defect : ChipDefect) → IsDefectAt (task bench) station.place defect
        → P ((task bench).chip_of station.place) defect (bits bench))
        → P (chip_of_station (map task parts) station) station.defect (bits_at (map bits parts) station.part)
    of_station_with bits P holds =
        subst (λ (own : List Trit). P (chip_of_station (map task parts) station) station.defect own)
        (sym (at_read bits parts station.part bench [] station_within is))
        (of_station (λ chip defect. P chip defect (bits bench)) holds)

    -- what the chip ends with of the defect at which it is aimed
    pub end_of_station : (bits : B → List Trit) (aimed : B → Option ChipDefect) (aimed_in : B → Chip) (output : ℕ) (value : Trit)
        → IsNetEnd (aimed_in bench) (aimed bench) (bits bench) (slice_index (task bench).chip.outputs output) value
        → IsNetEnd (aimed_in_at (map aimed_in parts) station.part) (aimed_at (map aimed parts) station.part)
        (bits_at (map bits parts) station.part) (slice_index (task_at (map task parts) station.part).chip.outputs output) value
    end_of_station bits aimed aimed_in output value ends =
        let chip = aimed_in_at (map aimed_in parts) station.part in
        let given = aimed_at (map aimed parts) station.part in
        let pair = bits_at (map bits parts) station.part in
        subst (λ (own : Task). IsNetEnd chip given pair (slice_index own.chip.outputs output) value) (sym own_task)
        (subst (λ (own : List Trit). IsNetEnd chip given own (slice_index (task bench).chip.outputs output) value)
        (sym (at_read bits parts station.part bench [] station_within is))
        (subst (λ (own : Option ChipDefect). IsNetEnd chip own (bits bench) (slice_index (task bench).chip.outputs output) value)
        (sym (at_read aimed parts station.part bench None station_within is))
        (subst (λ (own : Chip). IsNetEnd own (aimed bench) (bits bench) (slice_index (task bench).chip.outputs output) value)
        (sym (at_read aimed_in parts station.part bench no_chip station_within is)) ends)))

-- what all benches have, that of a station has
pub bits_here : {B : Type 0} (task : B → Task) (bits_of : B → List Trit) (parts : List B) (station : Station) (bits : List Trit)
    → IsStationed (map task parts) station → All (λ (own : List Trit). own ≡ bits) (map bits_of parts)
    → bits_at (map bits_of parts) station.part ≡ bits
bits_here task bits_of parts station bits stationed all =
    All-get_or (λ (own : List Trit). own ≡ bits) (map bits_of parts) station.part []
    (subst (λ (n : ℕ). station.part < n) (sym (length-map parts bits_of)) (station_within task parts station stationed)) all
