-- What is seen of pairs and expected values is of a chip where they have the lengths that the chip asks for.
use Rattle.std.proofs.Common.{◌≡◌, Bool, List, ◌∙◌, length, map, subst, arith, sym}
use Rattle.std.specs.List.{All}
use Rattle.std.proofs.lemmas.List.{get_or-map, length-map}
use Rattle.std.proofs.lemmas.List.Elements.{All-map}
use Rattle.ca_net.specs.declared.trit.Trit.{Trit}
use Rattle.ca_stil.specs.declared.chip.StilChip.{StilChip}
use Rattle.ca_stil.specs.Chip.{IsStilChip, IsPairOf, AreValuesOf, AreOf}

all_unseen : {X Y : Type 0} (view : X → Y) (P : Y → Type 0) (xs : List X) → All P (map view xs) → All (λ x. P (view x)) xs
all_unseen view P xs all k d below =
    let long = length-map xs view in
    subst P (get_or-map view xs k d (view d) below) (all k (view d) (omega (arith, long, below)))

pub makes_of : {X Y : Type 0} (bits : X → List Bool) (values : Y → List Trit) (chip : StilChip) (pairs : List X)
    (expected : List Y) → IsStilChip chip → All (λ x. IsPairOf chip (bits x)) pairs
    → All (λ y. AreValuesOf chip (values y)) expected → length pairs ≡ length expected
    → AreOf chip (map bits pairs) (map values expected)
makes_of bits values chip pairs expected chains all_pairs all_values counted = record {
  chains = chains;
  bits = All-map (IsPairOf chip) bits pairs all_pairs;
  values = All-map (AreValuesOf chip) values expected all_values;
  counted = length-map pairs bits ∙ (counted ∙ sym (length-map expected values));
}

pub of_pairs : {X Y : Type 0} (bits : X → List Bool) (values : Y → List Trit) (chip : StilChip) (pairs : List X)
    (expected : List Y) → AreOf chip (map bits pairs) (map values expected) → All (λ x. IsPairOf chip (bits x)) pairs
of_pairs bits values chip pairs expected of = all_unseen bits (IsPairOf chip) pairs of.bits

pub of_values : {X Y : Type 0} (bits : X → List Bool) (values : Y → List Trit) (chip : StilChip) (pairs : List X)
    (expected : List Y) → AreOf chip (map bits pairs) (map values expected)
    → All (λ y. AreValuesOf chip (values y)) expected
of_values bits values chip pairs expected of = all_unseen values (AreValuesOf chip) expected of.values

pub of_counted : {X Y : Type 0} (bits : X → List Bool) (values : Y → List Trit) (chip : StilChip) (pairs : List X)
    (expected : List Y) → AreOf chip (map bits pairs) (map values expected) → length pairs ≡ length expected
of_counted bits values chip pairs expected of =
    sym (length-map pairs bits) ∙ (of.counted ∙ length-map expected values)
