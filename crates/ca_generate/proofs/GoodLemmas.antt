-- After the last turn what holds is what is promised.
use Rattle.std.proofs.Common.{◌≡◌, ℕ, zero, suc, ◌<◌, List, [], ◌∷◌, length, Bool, refl, sym, ◌∙◌, subst}
use Rattle.std.proofs.Common.{arith, Some, None, Option}
use Rattle.std.specs.Prelude.{slice_get}
use Rattle.std.proofs.lemmas.Option.{slice_get_within}
use Rattle.ca_flat.specs.declared.chip_defect.ChipDefect.{ChipDefect}
use Rattle.ca_credit.specs.declared.verdict.Verdict.{Verdict}
use Rattle.ca_credit.specs.declared.verdict.Verdict.TheVariants.{Credited, Unexposable, Untestable, Aborted}
use Rattle.ca_credit.specs.Defects.{Task, IsExposableIn}
use Rattle.ca_credit.specs.Good.{HasVerdict, IsGood}
use Rattle.ca_credit.specs.Table.{known_verdicts, AreAllKnown, verdict_at}
use Rattle.ca_credit.proofs.TableLemmas.{known_at, length-known, all_known}
use Rattle.ca_generate.specs.code.Progress.{IsEntry, StandsAfter}

-- within a list there is an entry
entry_of : {T : Type 0} (xs : List T) (k : ℕ) → k < length xs → (x : T) × (slice_get xs k ≡ Some x)
entry_of [] k within = absurd (omega arith)
entry_of (x ∷ xs) zero within = (x, refl)
entry_of (x ∷ xs) (suc k) within = entry_of xs k (omega arith)

-- where all had their turns, all verdicts are known
pub all_known_at_end : (task : Task) (table : List (Option Verdict)) (pairs : List (List Bool)) (aims : List ℕ)
    → StandsAfter task (length (task.defects)) table pairs aims → AreAllKnown table
all_known_at_end task table pairs aims stands = all_known table (λ k lt none.
    let count : length table ≡ length (task.defects) = stands.as_many in
    let some = entry_of (task.defects) k (omega arith) in
    let waiting = subst (IsEntry task (length (task.defects)) pairs aims k some.0) none (stands.entries k some.0 some.1) in
    let late = waiting.to_come in omega arith)

-- what is so of a defect by the verdict that it has
entry_of_verdict : (task : Task) (turns : ℕ) (table : List (Option Verdict)) (pairs : List (List Bool)) (aims : List ℕ) (place : ℕ) (defect : ChipDefect)
    (verdict : Verdict) → StandsAfter task turns table pairs aims → AreAllKnown table → HasVerdict task (known_verdicts table) place defect verdict
    → IsEntry task turns pairs aims place defect (Some verdict)
entry_of_verdict task turns table pairs aims place defect verdict stands known has =
    subst (IsEntry task turns pairs aims place defect) (sym (known_at table place known) ∙ has.is_verdict) (stands.entries place defect has.is_defect)

-- a defect that can't be exposed can only be unexposable
only_unexposable : (task : Task) (turns : ℕ) (pairs : List (List Bool)) (aims : List ℕ) (place : ℕ) (defect : ChipDefect) (verdict : Option Verdict)
    → IsEntry task turns pairs aims place defect verdict → ¬ (IsExposableIn (task.chip_of place) defect) → verdict ≡ Some Unexposable
only_unexposable task turns pairs aims place defect None is not = absurd (not is.exposable)
only_unexposable task turns pairs aims place defect (Some (Credited pair output)) is not = absurd (not is.exposable)
only_unexposable task turns pairs aims place defect (Some Unexposable) is not = refl
only_unexposable task turns pairs aims place defect (Some Untestable) is not = absurd (not is.exposable)
only_unexposable task turns pairs aims place defect (Some (Aborted code)) is not = absurd (not is.rightly.exposable)

-- the promise
pub good_at_end : (task : Task) (table : List (Option Verdict)) (pairs : List (List Bool)) (aims : List ℕ)
    → StandsAfter task (length (task.defects)) table pairs aims → IsGood task pairs aims (known_verdicts table)
good_at_end task table pairs aims stands =
    let turns = length (task.defects) in
    let known = all_known_at_end task table pairs aims stands in
    let count : length (known_verdicts table) ≡ length (task.defects) = length-known table known ∙ stands.as_many in
    let entry = λ (place : ℕ) (defect : ChipDefect) (verdict : Verdict) (has : HasVerdict task (known_verdicts table) place defect verdict).
    entry_of_verdict task turns table pairs aims place defect verdict stands known has in
    record {
      one_each = count;
      credited = λ place pair output defect has. (entry place defect (Credited pair output) has).first;
      unexposable = λ place defect has. entry place defect Unexposable has;
      named_unexposable = λ place defect is not. record {
        is_defect = is;
        is_verdict = known_at table place known ∙ only_unexposable task turns pairs aims place defect (verdict_at table place) (stands.entries place defect is) not;
      };
      untestable = λ place defect has. (entry place defect Untestable has).untestable;
      aborted = λ place defect code has. (entry place defect (Aborted code) has).rightly;
      few = stands.within;
      needed = λ pair lt.
          let same : length aims ≡ length pairs = stands.aims_are.one_each in
          let aim = entry_of aims pair (omega arith) in
          let credit = stands.aims_credited pair aim.0 aim.1 in
          record { place = aim.0; output = credit.output; credited = known_at table aim.0 known ∙ credit.credited };
      aims_are = stands.aims_are;
      aims_credited = λ pair aim is.
          let credit = stands.aims_credited pair aim is in
          record { output = credit.output; credited = known_at table aim known ∙ credit.credited };
      aims_least = λ ample pair aim place is credit.
          let within = slice_get_within (known_verdicts table) place _ credit.credited in
          let some = entry_of (task.defects) place (omega arith) in
          (entry place some.0 (Credited pair credit.output) (record { is_defect = some.1; is_verdict = credit.credited })).least ample aim is;
      checked = λ place defect code has. (entry place defect (Aborted code) has).checked;
    }
