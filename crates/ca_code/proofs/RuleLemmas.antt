-- What the codes that a search may write are.
use Rattle.std.proofs.Common.{ℕ, List, [], ◌∷◌, inl, inr}
use Rattle.ca_net.specs.declared.trit.Trit.{Trit}
use Rattle.ca_flat.specs.declared.chip_defect.ChipDefect.{ChipDefect}
use Rattle.ca_flat.specs.declared.token.Token.{Token}
use Rattle.ca_flat.specs.declared.token.Token.TheVariants.{Branch, Leaf}
use Rattle.ca_flat.specs.Chip.{Chip}
use Rattle.ca_flat.specs.Pair.{IsRuledOut}
use Rattle.ca_flat.specs.Waves.{IsFlatChip}
use Rattle.ca_flat.specs.Codes.{Reading, At, Ended, following, after_tree, Rules, Reads, MayBranch}
use Rattle.ca_flat.specs.CheckedCode.{IsPlain, IsCheckedLeaf, IsCheckedBranch}
use Rattle.ca_flat.proofs.Detected.{some_good, some_faulty}
use Rattle.ca_flat.proofs.Completions.{settled_is_ruled_out_lem}
use Rattle.ca_flat.proofs.RuledOut.{plain_is_ruled_out_lem}
use Rattle.ca_flat.proofs.CheckedCodes.{plain_is_of_pair_lem}
use Rattle.ca_code.specs.SearchRules.{IsPlainPair, MayLeave, MayDecide}
use Rattle.ca_code.specs.Laws.{SearchCodesAreCodes, SearchCodesAreChecked}

-- tokens that stricter rules allow are allowed
reads_wider : (strict wide : Rules) → ((pair : List Trit) → strict.leaf pair → wide.leaf pair)
    → ((pair : List Trit) (bit : ℕ) → strict.branch pair bit → wide.branch pair bit)
    → (code : List Token) (from to : Reading) → Reads strict code from to → Reads wide code from to
reads_wider strict wide leaf branch [] from to reads = reads
reads_wider strict wide leaf branch (token ∷ code) Ended to reads = absurd reads
reads_wider strict wide leaf branch (Leaf ∷ code) (At pair later) to reads =
    (leaf pair reads.0, reads_wider strict wide leaf branch code (after_tree later) to reads.1)
reads_wider strict wide leaf branch (Branch bit first ∷ code) (At pair later) to reads = (
  branch pair bit reads.0,
  reads_wider strict wide leaf branch code (following (Branch bit first) pair later) to reads.1,
)

-- the same where it can't be that a leaf is not allowed
reads_stable : (strict wide : Rules)
    → ((pair : List Trit) → strict.leaf pair → (wide.leaf pair → ⊥) → ⊥)
    → ((pair : List Trit) (bit : ℕ) → strict.branch pair bit → wide.branch pair bit)
    → (code : List Token) (from to : Reading) → Reads strict code from to → (Reads wide code from to → ⊥) → ⊥
reads_stable strict wide leaf branch [] from to reads none = none reads
reads_stable strict wide leaf branch (token ∷ code) Ended to reads none = absurd reads
reads_stable strict wide leaf branch (Leaf ∷ code) (At pair later) to reads none =
    leaf pair reads.0 (λ here. reads_stable strict wide leaf branch code (after_tree later) to reads.1
    (λ rest. none (here, rest)))
reads_stable strict wide leaf branch (Branch bit first ∷ code) (At pair later) to reads none =
    reads_stable strict wide leaf branch code (following (Branch bit first) pair later) to reads.1
    (λ rest. none (branch pair bit reads.0, rest))

module _ (chip : Chip) (rank : ℕ → ℕ) (defect : ChipDefect) (is : IsFlatChip chip rank defect) where
  -- a pair that is plainly ruled out is so under some limits
  plain_is_checked : (pair : List Trit) → IsPlainPair chip defect pair → (IsPlain chip defect pair → ⊥) → ⊥
  plain_is_checked pair plain none = some_good chip rank defect is pair (λ good.
      some_faulty chip rank defect is pair (λ faulty.
      none (record { good = good; faulty = faulty; plain = plain good faulty })))

  pub leaf_is_ruled_out : (pair : List Trit) → MayLeave chip defect pair → IsRuledOut chip defect pair
  leaf_is_ruled_out pair (inl settled) = settled_is_ruled_out_lem chip rank defect pair is settled
  leaf_is_ruled_out pair (inr plain) = λ whole completes shown. plain_is_checked pair plain (λ checked.
      plain_is_ruled_out_lem chip rank defect pair checked.good checked.faulty is checked.plain whole completes shown)

  leaf_is_checked : (pair : List Trit) → MayLeave chip defect pair → (IsCheckedLeaf chip defect pair → ⊥) → ⊥
  leaf_is_checked pair (inl settled) none = none (inl settled)
  leaf_is_checked pair (inr plain) none = plain_is_checked pair plain (λ checked. none (inr checked))

branch_may : (chip : Chip) (defect : ChipDefect) (pair : List Trit) (bit : ℕ) → MayDecide chip defect pair bit
    → MayBranch chip defect pair bit
branch_may chip defect pair bit decide = decide.may

-- what is plainly ruled out under some limits is so under all
pub plain_under_all : (chip : Chip) (defect : ChipDefect) (pair : List Trit) → IsPlain chip defect pair
    → IsPlainPair chip defect pair
plain_under_all chip defect pair plain good faulty =
    plain_is_of_pair_lem chip defect pair plain.good good plain.faulty faulty plain.plain

branch_is_checked : (chip : Chip) (defect : ChipDefect) (pair : List Trit) (bit : ℕ)
    → MayDecide chip defect pair bit → IsCheckedBranch chip defect pair bit
branch_is_checked chip defect pair bit decide = record {
  may = decide.may;
  not_plain = λ plain. decide.not_plain (plain_under_all chip defect pair plain);
}

pub search_codes_are_codes_lem : SearchCodesAreCodes
search_codes_are_codes_lem chip rank defect code is = record {
  whole = λ reads. reads_wider _ _ leaf (branch_may chip defect) code _ _ reads;
  front = λ pair front. record {
    later = front.later;
    reads = reads_wider _ _ leaf (branch_may chip defect) code _ _ front.reads;
  };
  spent = λ budget spent. record {
    pair = spent.pair;
    front = record {
      later = spent.front.later;
      reads = reads_wider _ _ leaf (branch_may chip defect) code _ _ spent.front.reads;
    };
    spent = spent.spent;
    bit = spent.bit;
    goes_on = spent.goes_on.may;
  };
}
  where
    leaf : (pair : List Trit) → MayLeave chip defect pair → IsRuledOut chip defect pair
    leaf = leaf_is_ruled_out chip rank defect is

pub search_codes_are_checked_lem : SearchCodesAreChecked
search_codes_are_checked_lem chip rank defect code is = record {
  whole = λ reads none. reads_stable _ _ leaf (branch_is_checked chip defect) code _ _ reads none;
  front = λ pair front none. reads_stable _ _ leaf (branch_is_checked chip defect) code _ _ front.reads
      (λ reads. none (record { later = front.later; reads = reads }));
  spent = λ budget spent none. reads_stable _ _ leaf (branch_is_checked chip defect) code _ _ spent.front.reads
      (λ reads. none (record {
        pair = spent.pair;
        front = record { later = spent.front.later; reads = reads };
        spent = spent.spent;
        bit = spent.bit;
        goes_on = branch_is_checked chip defect spent.pair spent.bit spent.goes_on;
      }));
}
  where
    leaf : (pair : List Trit) → MayLeave chip defect pair → (IsCheckedLeaf chip defect pair → ⊥) → ⊥
    leaf = leaf_is_checked chip rank defect is
