-- Pairs and expected values of a linked chip are of its core.
use Rattle.std.proofs.Common.{◌≡◌, ℕ, Bool, List, length, arith}
use Rattle.std.specs.List.{All}
use Rattle.std.proofs.lemmas.List.{length-map}
use Rattle.ca_net.specs.declared.trit.Trit.{Trit}
use Rattle.ca_linked.specs.Linked.{LinkedChip, inputs_of, outputs_of}
use Rattle.ca_view.specs.Core.{core_of, core_net}
use Rattle.ca_flat.specs.Pair.{bit_count}
use Rattle.ca_chip_stil.specs.ChipStil.{AreOfChip}

pub bits_fit : (chip : LinkedChip) (chains : List (List ℕ)) (pairs : List (List Bool)) (expected : List (List Trit))
    → AreOfChip chip chains pairs expected → All (λ pair. length pair ≡ bit_count (core_of chip)) pairs
bits_fit chip chains pairs expected of k d below =
    let given = of.bits k d below in
    let count = length-map (inputs_of chip) (core_net chip) in
    omega (arith, given, count)

pub values_fit : (chip : LinkedChip) (chains : List (List ℕ)) (pairs : List (List Bool)) (expected : List (List Trit))
    → AreOfChip chip chains pairs expected → All (λ values. length values ≡ length (core_of chip).outputs) expected
values_fit chip chains pairs expected of k d below =
    let given = of.values k d below in
    let count = length-map (outputs_of chip) (core_net chip) in
    omega (arith, given, count)
