-- What is of a chip's text is of the chip.
use Rattle.std.proofs.Common.{ℕ, Bool, true, false, List, arith}
use Rattle.ca_net.specs.declared.trit.Trit.{Trit}
use Rattle.ca_linked.specs.Linked.{LinkedChip, inputs_of, outputs_of}
use Rattle.ca_scan.specs.ChainFault.{AreAllChains}
use Rattle.ca_stil.specs.Chip.{AreOf}
use Rattle.ca_chip_stil.specs.ChipStil.{stil_chip, AreOfChip}
use Rattle.ca_chip_stil.specs.Laws.{SetSitesAreInputs, SeenSitesAreOutputs}
use Rattle.ca_stil_laws.proofs.ValueLemmas.{site_count}

pub of_chip : SetSitesAreInputs → SeenSitesAreOutputs → (chip : LinkedChip) (chains : List (List ℕ)) (pairs : List (List Bool))
    (expected : List (List Trit)) → AreAllChains chip chains → AreOf (stil_chip chip chains) pairs expected
    → AreOfChip chip chains pairs expected
of_chip set seen chip chains pairs expected are of = record {
  chains_are = are;
  bits = λ k d below.
      let given = of.bits k d below in
      let count = site_count chip true (inputs_of chip) (set chip) in
      omega (arith, given, count);
  values = λ k d below.
      let given = of.values k d below in
      let count = site_count chip false (outputs_of chip) (seen chip) in
      omega (arith, given, count);
  counted = of.counted;
}
