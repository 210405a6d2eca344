-- The table of verdicts: what is known, and what a pair makes of it.
use Rattle.std.proofs.Common.{◌≡◌, ℕ, zero, suc, ◌+◌, ◌<◌, ◌≤◌, List, [], ◌∷◌, length, Bool, true, refl, sym}
use Rattle.std.proofs.Common.{◌∙◌, ap, subst, arith, Some, None, Option, get_or, get_or-set_same}
use Rattle.std.proofs.Common.{get_or-set_other}
use Rattle.std.specs.Prelude.{slice_get, slice_set}
use Rattle.ca_flat.specs.declared.chip_defect.ChipDefect.{ChipDefect}
use Rattle.ca_flat.specs.Chip.{Chip}
use Rattle.ca_credit.specs.declared.verdict.Verdict.{Verdict}
use Rattle.ca_credit.specs.declared.verdict.Verdict.TheVariants.{Credited, Unexposable, Untestable, Aborted}
use Rattle.ca_credit.specs.Defects.{Task, IsDefectAt}
use Rattle.ca_credit.specs.Table.{known_verdicts, AreAllKnown, verdict_at, is_open, credit_count}
use Rattle.ca_credit.specs.Table.{IsCreditOrKept, IsAfterPair}
use Rattle.ca_credit.specs.Table.{CreditsPair, CreditsBlock, Credits}
use Rattle.ca_credit.proofs.DetectionLemmas.{get_or-other}

-- what is known at a place is what is there
pub known_at : (table : List (Option Verdict)) (k : ℕ) → AreAllKnown table → slice_get (known_verdicts table) k ≡ verdict_at table k
known_at [] k known = refl
known_at (None ∷ table) k known = absurd known
known_at (Some verdict ∷ table) zero known = refl
known_at (Some verdict ∷ table) (suc k) known = known_at table k known

pub length-known : (table : List (Option Verdict)) → AreAllKnown table → length (known_verdicts table) ≡ length table
length-known [] known = refl
length-known (None ∷ table) known = absurd known
length-known (Some verdict ∷ table) known = ap suc (length-known table known)

-- where each place has a verdict, all are known
pub all_known : (table : List (Option Verdict)) → ((k : ℕ) → k < length table → verdict_at table k ≡ None → ⊥) → AreAllKnown table
all_known [] each = tt
all_known (None ∷ table) each = absurd (each zero (omega arith) refl)
all_known (Some verdict ∷ table) each = all_known table (λ k lt none. each (suc k) (omega arith) none)

-- a verdict that is written into a table that is known is written into what is known, and all stay known
pub known-set : (table : List (Option Verdict)) (place : ℕ) (new : Verdict) → AreAllKnown table
    → known_verdicts (slice_set table place (Some new)) ≡ slice_set (known_verdicts table) place new
known-set [] place new known = refl
known-set (None ∷ table) place new known = absurd known
known-set (Some verdict ∷ table) zero new known = refl
known-set (Some verdict ∷ table) (suc place) new known = ap (λ (verdicts : List Verdict). verdict ∷ verdicts) (known-set table place new known)

pub all_known-set : (table : List (Option Verdict)) (place : ℕ) (new : Verdict) → AreAllKnown table
    → AreAllKnown (slice_set table place (Some new))
all_known-set [] place new known = known
all_known-set (None ∷ table) place new known = absurd known
all_known-set (Some verdict ∷ table) zero new known = known
all_known-set (Some verdict ∷ table) (suc place) new known = all_known-set table place new known

-- a credit in place of an open verdict is one more
pub credit_count-set : (table : List (Option Verdict)) (k pair output : ℕ) → k < length table → is_open (verdict_at table k) ≡ true
    → credit_count (slice_set table k (Some (Credited pair output))) ≡ credit_count table + 1
credit_count-set [] k pair output within may = absurd (omega arith)
credit_count-set (None ∷ table) zero pair output within may = refl
credit_count-set (Some (Credited p o) ∷ table) zero pair output within may = cc
credit_count-set (Some Unexposable ∷ table) zero pair output within may = cc
credit_count-set (Some Untestable ∷ table) zero pair output within may = cc
credit_count-set (Some (Aborted code) ∷ table) zero pair output within may = refl
credit_count-set (None ∷ table) (suc k) pair output within may = credit_count-set table k pair output (omega arith) may
credit_count-set (Some (Credited p o) ∷ table) (suc k) pair output within may = omega (arith, credit_count-set table k pair output (omega arith) may)
credit_count-set (Some Unexposable ∷ table) (suc k) pair output within may = credit_count-set table k pair output (omega arith) may
credit_count-set (Some Untestable ∷ table) (suc k) pair output within may = credit_count-set table k pair output (omega arith) may
credit_count-set (Some (Aborted code) ∷ table) (suc k) pair output within may = credit_count-set table k pair output (omega arith) may

-- what a pair makes of an open verdict
pub of_open : (chip : Chip) (pair : List Bool) (number : ℕ) (defect : ChipDefect) (old new : Option Verdict) → is_open old ≡ true
    → IsCreditOrKept chip pair number defect old new → IsAfterPair chip pair number defect old new
of_open chip pair number defect None new may is = is
of_open chip pair number defect (Some (Credited p o)) new may is = cc
of_open chip pair number defect (Some Unexposable) new may is = cc
of_open chip pair number defect (Some Untestable) new may is = cc
of_open chip pair number defect (Some (Aborted code)) new may is = is

-- the defect at a place is one
pub same_defect : (task : Task) (place : ℕ) (defect other : ChipDefect) → IsDefectAt task place defect
    → IsDefectAt task place other → defect ≡ other
same_defect task place defect other is also = let e : Some defect ≡ Some other = sym is ∙ also in cc

-- the verdict that was written, and the others
pub verdict_at-set : (table : List (Option Verdict)) (place : ℕ) (new : Option Verdict) → place < length table
    → verdict_at (slice_set table place new) place ≡ new
verdict_at-set table place new within = get_or-set_same table place new None within

pub verdict_at-other : (table : List (Option Verdict)) (place other : ℕ) (new : Option Verdict) → (other ≡ place → ⊥)
    → verdict_at (slice_set table place new) other ≡ verdict_at table other
verdict_at-other table place other new differ = get_or-set_other table place other new None differ

-- within a list there is an entry
pub some_within : {T : Type 0} (xs : List T) (k : ℕ) → k < length xs → (x : T) × (slice_get xs k ≡ Some x)
some_within [] k within = absurd (omega arith)
some_within (x ∷ xs) zero within = (x, refl)
some_within (x ∷ xs) (suc k) within = some_within xs k (omega arith)

-- of a table that is known, seen as its verdicts: a place of them is one of the table, where a verdict is
pub known_within : (table : List (Option Verdict)) (verdicts : List Verdict) (k : ℕ) → AreAllKnown table → known_verdicts table ≡ verdicts
    → k < length verdicts → k < length table
known_within table verdicts k known is within = let l = length-known table known in let m = ap length is in omega arith

pub known_there : (table : List (Option Verdict)) (verdicts : List Verdict) (k : ℕ) (d : Option Verdict) (verdict : Verdict) → AreAllKnown table
    → known_verdicts table ≡ verdicts → k < length verdicts → get_or table k d ≡ Some verdict → slice_get verdicts k ≡ Some verdict
known_there table verdicts k d verdict known is within there =
    ap (λ (v : List Verdict). slice_get v k) (sym is) ∙ known_at table k known
    ∙ get_or-other table k None d (known_within table verdicts k known is within) ∙ there

pub not_unknown : (table : List (Option Verdict)) (verdicts : List Verdict) (k : ℕ) (d : Option Verdict) → AreAllKnown table
    → known_verdicts table ≡ verdicts → k < length verdicts → get_or table k d ≡ None → ⊥
not_unknown table verdicts k d known is within none =
    let here : slice_get verdicts k ≡ None =
    ap (λ (v : List Verdict). slice_get v k) (sym is) ∙ known_at table k known
    ∙ get_or-other table k None d (known_within table verdicts k known is within) ∙ none in
    let some : (v : Verdict) × (slice_get verdicts k ≡ Some v) = some_within verdicts k within in
    cc

-- there are at most as many credits as defects
pub credit_count_within : (table : List (Option Verdict)) → credit_count table ≤ length table
credit_count_within [] = omega arith
credit_count_within (None ∷ table) = let l = credit_count_within table in omega arith
credit_count_within (Some (Credited pair output) ∷ table) = let l = credit_count_within table in omega arith
credit_count_within (Some Unexposable ∷ table) = let l = credit_count_within table in omega arith
credit_count_within (Some Untestable ∷ table) = let l = credit_count_within table in omega arith
credit_count_within (Some (Aborted code) ∷ table) = let l = credit_count_within table in omega arith

-- one more pair of a block
pub block_more : (task same : Task) (pairs : List (List Bool)) (from count number : ℕ) (pair : List Bool)
    (old middle new : List (Option Verdict)) → same ≡ task → number ≡ from + count
    → CreditsBlock task pairs from old count middle → slice_get pairs (from + count) ≡ Some pair
    → CreditsPair same pair number middle new → CreditsBlock task pairs from old (count + 1) new
block_more task same pairs from count number pair old middle new same_is number_is before at credits =
    Credits count pair middle new before at
    (subst (λ n. CreditsPair task pair n middle new) number_is
    (subst (λ (t : Task). CreditsPair t pair number middle new) same_is credits))
