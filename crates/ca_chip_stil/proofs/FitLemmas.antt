-- Pairs and expected values of the chip are of what its text is made from.
use Rattle.std.proofs.Common.{◌≡◌, ℕ, ◌<◌, Bool, List, length, sym, subst, arith, ◌∙◌, map, ◌+◌}
use Rattle.std.specs.List.{All}
use Rattle.std.proofs.lemmas.List.{get_or-map, length-map}
use Rattle.std.proofs.lemmas.List.Elements.{All-map}
use Rattle.ca_net.specs.declared.trit.Trit.{Trit}
use Rattle.ca_linked.specs.Linked.{LinkedChip, inputs_of, outputs_of}
use Rattle.ca_linked.specs.Instances.{scans_of}
use Rattle.ca_scan.specs.ChainFault.{AreAllChains}
use Rattle.ca_stil.specs.declared.chip.StilChip.{StilChip}
use Rattle.ca_stil.specs.Chip.{IsWithin, AreOf}
use Rattle.ca_chip_stil.specs.ChipStil.{place_of, chain_of, stil_chip, AreOfChip}
use Rattle.ca_chip_stil.specs.code.Kept.{IsRun}
use Rattle.ca_chip_stil.proofs.PlaceLemmas.{place_within}
use Rattle.ca_chip_stil.proofs.ChainLemmas.{all_runs}
use Rattle.ca_chip_stil.proofs.SiteLemmas.{input_count, output_count}

run_within : (chip : LinkedChip) (chain : List ℕ) → IsRun chip chain → IsWithin (length (scans_of chip)) (chain_of chip chain)
run_within chip chain run =
    All-map (λ (place : ℕ). place < length (scans_of chip)) (place_of chip) chain
    (λ k d lt. place_within chip _ (run.scans k d lt))

pub made_of : (chip : LinkedChip) (chains : List (List ℕ)) (made : StilChip) (pairs : List (List Bool))
    (expected : List (List Trit)) → made ≡ stil_chip chip chains → AreOfChip chip chains pairs expected
    → AreOf made pairs expected
made_of chip chains made pairs expected is of = subst (λ given. AreOf given pairs expected) (sym is) (record {
  chains = All-map (IsWithin (length (scans_of chip))) (chain_of chip) chains
      (λ k d lt. run_within chip _ (all_runs chip chains of.chains_are k d lt));
  bits = λ k d lt.
      let given = of.bits k d lt in
      let count = input_count chip in
      omega (arith, given, count);
  values = λ k d lt.
      let given = of.values k d lt in
      let count = output_count chip in
      omega (arith, given, count);
  counted = of.counted;
})

all_unseen : {X Y : Type 0} (view : X → Y) (P : Y → Type 0) (xs : List X) → All P (map view xs) → All (λ x. P (view x)) xs
all_unseen view P xs all k d below =
    let long = length-map xs view in
    subst P (get_or-map view xs k d (view d) below) (all k (view d) (omega (arith, long, below)))

-- pairs and values of the lengths that the chip asks for are of the chip
pub makes_of_chip : {X Y : Type 0} (bits : X → List Bool) (values : Y → List Trit) (chip : LinkedChip) (chains : List (List ℕ))
    (pairs : List X) (expected : List Y) → AreAllChains chip chains
    → All (λ x. length (bits x) ≡ length (inputs_of chip) + length (inputs_of chip)) pairs
    → All (λ y. length (values y) ≡ length (outputs_of chip)) expected → length pairs ≡ length expected
    → AreOfChip chip chains (map bits pairs) (map values expected)
makes_of_chip bits values chip chains pairs expected chains_are all_bits all_values counted = record {
  chains_are = chains_are;
  bits = All-map (λ pair. length pair ≡ length (inputs_of chip) + length (inputs_of chip)) bits pairs all_bits;
  values = All-map (λ given. length given ≡ length (outputs_of chip)) values expected all_values;
  counted = length-map pairs bits ∙ (counted ∙ sym (length-map expected values));
}

pub of_bits : {X Y : Type 0} (bits : X → List Bool) (values : Y → List Trit) (chip : LinkedChip) (chains : List (List ℕ))
    (pairs : List X) (expected : List Y) → AreOfChip chip chains (map bits pairs) (map values expected)
    → All (λ x. length (bits x) ≡ length (inputs_of chip) + length (inputs_of chip)) pairs
of_bits bits values chip chains pairs expected of =
    all_unseen bits (λ pair. length pair ≡ length (inputs_of chip) + length (inputs_of chip)) pairs of.bits

pub of_values : {X Y : Type 0} (bits : X → List Bool) (values : Y → List Trit) (chip : LinkedChip) (chains : List (List ℕ))
    (pairs : List X) (expected : List Y) → AreOfChip chip chains (map bits pairs) (map values expected)
    → All (λ y. length (values y) ≡ length (outputs_of chip)) expected
of_values bits values chip chains pairs expected of =
    all_unseen values (λ given. length given ≡ length (outputs_of chip)) expected of.values

pub of_counted : {X Y : Type 0} (bits : X → List Bool) (values : Y → List Trit) (chip : LinkedChip) (chains : List (List ℕ))
    (pairs : List X) (expected : List Y) → AreOfChip chip chains (map bits pairs) (map values expected)
    → length pairs ≡ length expected
of_counted bits values chip chains pairs expected of =
    sym (length-map pairs bits) ∙ (of.counted ∙ length-map expected values)
