-- What the codes of claims are.
use Rattle.std.proofs.Common.{ℕ, List, inl, inr}
use Rattle.ca_net.specs.declared.trit.Trit.{Trit}
use Rattle.ca_flat.specs.declared.chip_defect.ChipDefect.{ChipDefect}
use Rattle.ca_flat.specs.Chip.{Chip}
use Rattle.ca_flat.specs.Pair.{IsRuledOut}
use Rattle.ca_flat.specs.Waves.{IsFlatChip}
use Rattle.ca_flat.proofs.CheckedCodes.{reads_wider}
use Rattle.ca_flat.proofs.Detected.{some_good, some_faulty}
use Rattle.ca_flat.proofs.Completions.{settled_is_ruled_out_lem}
use Rattle.ca_flat.proofs.RuledOut.{plain_is_ruled_out_lem}
use Rattle.ca_flat.specs.CheckedCode.{MayLeave}
use Rattle.ca_read_code.specs.ClaimedCode.{ClaimedCodesAreCodes}

module _ (chip : Chip) (rank : ℕ → ℕ) (defect : ChipDefect) (is : IsFlatChip chip rank defect) where
  pub leaf_is_ruled_out : (pair : List Trit) → MayLeave chip defect pair → IsRuledOut chip defect pair
  leaf_is_ruled_out pair (inl settled) = settled_is_ruled_out_lem chip rank defect pair is settled
  leaf_is_ruled_out pair (inr plain) = λ whole completes shown. some_good chip rank defect is pair (λ good.
      some_faulty chip rank defect is pair (λ faulty.
      plain_is_ruled_out_lem chip rank defect pair good faulty is (plain good faulty) whole completes shown))

pub claimed_codes_are_codes_lem : ClaimedCodesAreCodes
claimed_codes_are_codes_lem chip rank defect code is = record {
  whole = λ reads. reads_wider _ _ leaf (λ pair bit may. may) code _ _ reads;
  front = λ pair front. record {
    later = front.later;
    reads = reads_wider _ _ leaf (λ pair bit may. may) code _ _ front.reads;
  };
  spent = λ budget spent. record {
    pair = spent.pair;
    front = record {
      later = spent.front.later;
      reads = reads_wider _ _ leaf (λ pair bit may. may) code _ _ spent.front.reads;
    };
    spent = spent.spent;
    bit = spent.bit;
    goes_on = spent.goes_on;
  };
}
  where
    leaf : (pair : List Trit) → MayLeave chip defect pair → IsRuledOut chip defect pair
    leaf = leaf_is_ruled_out chip rank defect is
