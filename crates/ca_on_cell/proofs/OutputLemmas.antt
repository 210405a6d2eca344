-- The values of output pins: the name of each, and the last of its wave.
use Rattle.std.proofs.Common.{ℕ, ◌+◌, ◌≡◌, ◌∙◌, sym, ap, refl, zero, suc, List, [], ◌∷◌, ◌++◌, length, take}
use Rattle.std.proofs.Common.{map, Some, arith, add-one}
use Rattle.std.proofs.lemmas.Option.{same_Some}
use Rattle.std.specs.List.{slice_get}
use Rattle.ca_net.specs.declared.trit.Trit.{Trit}
use Rattle.ca_net.specs.declared.wave.Wave.{Wave}
use Rattle.ca_net.specs.Circuit.{Circuit}
use Rattle.ca_cell.specs.declared.raw.RawCell.{RawCell}
use Rattle.ca_response.specs.Outputs.{AreEndsOf}
use Rattle.ca_on_cell.specs.declared.pin_values.PinValue.{PinValue}
use Rattle.ca_cell.specs.Raw.{output_names}
use Rattle.ca_on_cell.specs.Outputs.{AreEnds}

abbrev pub reported_values : List (List ℕ) → List Wave → List PinValue
reported_values [] waves = []
reported_values (name ∷ names) [] = []
reported_values (name ∷ names) (wave ∷ waves) = record { pin = name; value = wave.last } ∷ reported_values names waves

-- one pin more
reported_next : (names : List (List ℕ)) (waves : List Wave) (place : ℕ) (name : List ℕ) (wave : Wave) → slice_get names place ≡ Some name
    → slice_get waves place ≡ Some wave
    → reported_values (take (suc place) names) waves ≡ reported_values (take place names) waves ++ (record { pin = name; value = wave.last } ∷ [])
reported_next [] waves place name wave there waved = cc
reported_next (first ∷ names) [] place name wave there waved = cc
reported_next (first ∷ names) (one ∷ waves) zero name wave there waved =
    rw (same_Some first name there, same_Some one wave waved) refl
reported_next (first ∷ names) (one ∷ waves) (suc place) name wave there waved =
    ap (λ rest. record { pin = first; value = one.last } ∷ rest) (reported_next names waves place name wave there waved)

-- the value of one pin more is added at the end
pub reported_pushed : (names : List (List ℕ)) (waves : List Wave) (place : ℕ) (name copy : List ℕ) (wave : Wave) (value : Trit) (old new : List PinValue)
    → old ≡ reported_values (take place names) waves → slice_get names place ≡ Some name → slice_get waves place ≡ Some wave → copy ≡ name
    → value ≡ wave.last → new ≡ old ++ (record { pin = copy; value = value } ∷ []) → new ≡ reported_values (take (place + 1) names) waves
reported_pushed names waves place name copy wave value old new before there waved copied valued pushed =
    rw (add-one place) (pushed ∙ rw (before, copied, valued) (sym (reported_next names waves place name wave there waved)))

-- the pins of the values
pins_of_reported : (names : List (List ℕ)) (waves : List Wave) → length waves ≡ length names
    → map (λ (value : PinValue). value.pin) (reported_values names waves) ≡ names
pins_of_reported [] waves same = refl
pins_of_reported (name ∷ names) [] same = absurd (omega (arith, same))
pins_of_reported (name ∷ names) (wave ∷ waves) same = ap (λ rest. name ∷ rest) (pins_of_reported names waves (omega (arith, same)))

-- the value at a place is the last of the wave there
record IsLastOf (waves : List Wave) (place : ℕ) (value : PinValue) : Type 0 where
  pub wave : Wave
  pub there : slice_get waves place ≡ Some wave
  pub is : value.value ≡ wave.last

wave_of_reported : (names : List (List ℕ)) (waves : List Wave) (place : ℕ) (value : PinValue)
    → slice_get (reported_values names waves) place ≡ Some value → IsLastOf waves place value
wave_of_reported [] waves place value there = cc
wave_of_reported (name ∷ names) [] place value there = cc
wave_of_reported (name ∷ names) (wave ∷ waves) zero value there = record {
  wave = wave;
  there = refl;
  is = ap (λ (v : PinValue). v.value) (sym (same_Some _ _ there));
}
wave_of_reported (name ∷ names) (wave ∷ waves) (suc place) value there =
    let rest = wave_of_reported names waves place value there in
    record { wave = rest.wave; there = rest.there; is = rest.is }

-- the values are those of all output pins, and are what every run ends with where the waves' lasts are
pub reported_are_ends : (raw : RawCell) (net : Circuit) (first last : List Trit) (names : List (List ℕ)) (waves : List Wave)
    → names ≡ output_names raw.pins → length waves ≡ length names → AreEndsOf raw net first last waves
    → AreEnds raw first last (reported_values names waves) net
reported_are_ends raw net first last names waves are same ends = record {
  of_pins = pins_of_reported names waves same ∙ are;
  ends = λ place value end there.
      let spot = wave_of_reported names waves place value there in
      rw spot.is (ends place spot.wave end spot.there);
}
