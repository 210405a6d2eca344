-- How often is aimed while a pair is credited.
use Rattle.std.proofs.Common.{◌≡◌, ◌≤◌, ℕ, zero, suc, ◌+◌, ◌-◌, inl, inr, List, [], length, Bool, Option, Some, None, ◌∙◌, sym, ap, subst, arith, true}
use Rattle.ca_net.specs.declared.trit.Trit.{Trit}
use Rattle.ca_flat.specs.declared.chip_defect.ChipDefect.{ChipDefect}
use Rattle.ca_code.specs.Filled.{trits_of}
use Rattle.ca_credit.specs.declared.verdict.Verdict.{Verdict}
use Rattle.ca_credit.specs.Defects.{Task, IsDefectAt}
use Rattle.ca_credit.specs.Detection.{IsAllowedByRows}
use Rattle.ca_credit.specs.Table.{verdict_at, is_open, CreditsPair}
use Rattle.ca_credit.specs.Aims.{HaveAmong, Start, Passes, Counts, IsSuspectAt, AimsAtSuspects}
use Rattle.ca_credit.specs.code.Aims.{AimsAtSuspect, AimsUpTo}
use Rattle.ca_credit.specs.Aims.{NoPair, OnePair, AimsOverBlock, bits_after, aimed_after}
use Rattle.std.specs.Prelude.{slice_get, slice_index_or}

-- nothing was aimed at yet
pub aims_begin : (task : Task) (pair : List Bool) (table : List (Option Verdict)) (before after : ℕ)
    → after ≡ before → AimsUpTo task pair 0 table before after
aims_begin task pair table before after same = record { suspects = 0; are = Start; few = omega arith }

-- a defect that is suspect while earlier ones were credited was so before
suspect_before : (task : Task) (pair : List Bool) (table middle : List (Option Verdict)) (place : ℕ)
    → verdict_at middle place ≡ verdict_at table place → IsSuspectAt task pair middle place
    → IsSuspectAt task pair table place
suspect_before task pair table middle place same suspect = record {
  waits = ap is_open (sym same) ∙ suspect.waits;
  allowed = suspect.allowed;
}

-- one more defect's turn, which was not tried before
pub aims_more : (task same : Task) (pair : List Bool) (count : ℕ) (table middle : List (Option Verdict))
    (before between after : ℕ) → same ≡ task → verdict_at middle count ≡ verdict_at table count
    → AimsUpTo task pair count table before between → AimsAtSuspect same pair middle count between after
    → AimsUpTo task pair (count + 1) table before after
aims_more task same pair count table middle before between after same_is at upto one =
    elim (subst (λ (t : Task). AimsAtSuspect t pair middle count between after) same_is one) [
      | inl kept ↦ record {
        suspects = upto.suspects;
        are = Passes count upto.suspects upto.are;
        few = let few = upto.few in omega arith;
      }
      | inr aimed ↦ record {
        suspects = upto.suspects + 1;
        are = Counts count upto.suspects (suspect_before task pair table middle count at aimed.0) upto.are;
        few = let few = upto.few in let once = aimed.1 in omega arith;
      }
    ]

-- places that are passed over
pass_to : (P : ℕ → Type 0) (count more some : ℕ) → HaveAmong P count some → HaveAmong P (count + more) some
pass_to P count zero some have = subst (λ n. HaveAmong P n some) (let e : count ≡ count + 0 = omega arith in e) have
pass_to P count (suc more) some have =
    subst (λ n. HaveAmong P n some) (let e : count + more + 1 ≡ count + suc more = omega arith in e) (Passes (count + more) some (pass_to P count more some have))

pub aims_pass : (task : Task) (pair : List Bool) (count onward : ℕ) (table : List (Option Verdict)) (before after : ℕ) → count ≤ onward
    → AimsUpTo task pair count table before after → AimsUpTo task pair onward table before after
aims_pass task pair count onward table before after le upto = record {
  suspects = upto.suspects;
  are = subst (λ n. HaveAmong (IsSuspectAt task pair table) n upto.suspects) (let e : count + (onward - count) ≡ onward = omega arith in e)
      (pass_to (IsSuspectAt task pair table) count (onward - count) upto.suspects upto.are);
  few = upto.few;
}

-- and at last no defect is aimed at
pub aims_end : (task : Task) (pair : List Bool) (table : List (Option Verdict)) (before between after : ℕ)
    → AimsUpTo task pair (length table) table before between → after ≤ between + 1
    → AimsAtSuspects task pair table before after
aims_end task pair table before between after upto once =
    record { suspects = upto.suspects; are = upto.are; few = let few = upto.few in omega arith }

-- a defect of which the simulator said that it may be shown is suspect
pub is_suspect : (task : Task) (pair : List Bool) (bits : List Trit) (table : List (Option Verdict)) (place : ℕ)
    → bits ≡ trits_of pair → is_open (verdict_at table place) ≡ true
    → ((defect : ChipDefect) → IsDefectAt task place defect → IsAllowedByRows (task.chip_of place) defect bits)
    → IsSuspectAt task pair table place
is_suspect task pair bits table place bits_are waits allowed = record {
  waits = waits;
  allowed = λ defect at. subst (IsAllowedByRows (task.chip_of place) defect) bits_are (allowed defect at);
}

-- before the first pair of a block
pub block_aims_begin : (task : Task) (pairs : List (List Bool)) (from : ℕ) (table : List (Option Verdict)) (before : ℕ)
    → AimsOverBlock task pairs from table 0 table before before
block_aims_begin task pairs from table before = record { most = 0; may = NoPair; few = omega arith }

-- one more pair of a block
pub block_aims_more : (task same : Task) (pairs : List (List Bool)) (from count number : ℕ) (pair : List Bool)
    (old middle new : List (Option Verdict)) (before between after : ℕ) → same ≡ task → number ≡ from + count
    → AimsOverBlock task pairs from old count middle before between → slice_get pairs (from + count) ≡ Some pair
    → CreditsPair same pair number middle new → AimsAtSuspects same pair middle between after
    → AimsOverBlock task pairs from old (count + 1) new before after
block_aims_more task same pairs from count number pair old middle new before between after same_is number_is upto at
    credits aims =
    let here = subst (λ (t : Task). AimsAtSuspects t pair middle between after) same_is aims in
    record {
      most = upto.most + here.suspects + 1;
      may = OnePair count upto.most here.suspects pair middle new upto.may at here.are
          (subst (λ n. CreditsPair task pair n middle new) number_is
          (subst (λ (t : Task). CreditsPair t pair number middle new) same_is credits));
      few = let few = upto.few in let once = here.few in omega arith;
    }

-- the bits after one more pair are that pair's
pub bits_after_more : (pairs : List (List Bool)) (from count : ℕ) (before bits : List Trit)
    → bits ≡ trits_of (slice_index_or pairs (from + count) []) → bits ≡ bits_after pairs from (count + 1) before
bits_after_more pairs from count before bits is =
    is ∙ ap (λ k. bits_after pairs from k before) (let e : suc count ≡ count + 1 = omega arith in e)

-- nothing is aimed at after one more pair
pub aimed_after_more : (count : ℕ) (before aimed : Option ChipDefect) → aimed ≡ None
    → aimed ≡ aimed_after (count + 1) before
aimed_after_more count before aimed is =
    is ∙ ap (λ k. aimed_after k before) (let e : suc count ≡ count + 1 = omega arith in e)
