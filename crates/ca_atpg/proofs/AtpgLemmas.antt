-- What the writers of the texts ask for.
use Rattle.std.proofs.Common.{◌≡◌, ℕ, ◌+◌, ◌<◌, Bool, List, [], length, map, Option, None, Some, refl, sym}
use Rattle.std.proofs.Common.{◌∙◌, ap, subst, arith, get_or}
use Rattle.std.specs.Prelude.{slice_get, IsSomeAnd, Result, Ok, Err, IfOk}
use Rattle.std.specs.List.{All}
use Rattle.std.proofs.lemmas.List.{length-map, map-id}
use Rattle.std.proofs.lemmas.List.Elements.{All-weaker, All-from_get_or}
use Rattle.std.proofs.lemmas.Option.{slice_get-get_or, slice_get_within}
use Rattle.ca_net.specs.declared.trit.Trit.{Trit}
use Rattle.ca_cell.specs.declared.defect.Defect.TheVariants.{OpenPin}
use Rattle.ca_linked.specs.Linked.{LinkedChip, inputs_of, outputs_of, IsWired}
use Rattle.ca_view.specs.Core.{core_of, core_net}
use Rattle.ca_outputs.specs.Outputs.{output_names}
use Rattle.ca_flat.specs.declared.chip_defect.ChipDefect.{ChipDefect}
use Rattle.ca_flat.specs.Chip.{IsDefectIn}
use Rattle.ca_flat.specs.Pair.{bit_count, DetectsAt}
use Rattle.ca_view.specs.Linked.{IsPlaced, IsPlacedDefect, place_in}
use Rattle.ca_scan.specs.ChainFault.{AreAllChains}
use Rattle.ca_code.specs.Filled.{trits_of}
use Rattle.ca_credit.specs.declared.verdict.Verdict.{Verdict}
use Rattle.ca_credit.specs.declared.verdict.Verdict.TheVariants.{Credited, Unexposable, Untestable, Aborted}
use Rattle.ca_credit.specs.Detection.{IsFirstOutput}
use Rattle.ca_credit.specs.Good.{IsGood}
use Rattle.ca_credit.proofs.DetectionLemmas.{own_targets}
use Rattle.ca_view.specs.View.{Viewed, IsViewOf}
use Rattle.ca_view.proofs.LinkedLemmas.{placed_is_library}
use Rattle.ca_expected.specs.Expected.{AreExpected}
use Rattle.ca_expected.proofs.WholeLemmas.{pairs_whole}
use Rattle.ca_stil.specs.Text.{stil_text}
use Rattle.ca_chip_stil.specs.ChipStil.{stil_chip, AreOfChip}
use Rattle.ca_report.specs.Report.{report_text}
use Rattle.ca_chip_report.specs.ChipReport.{report_rows, IsGateDefect, IsVerdictWithin, AreReported}
use Rattle.ca_engine.specs.ChipTask.{task_of}
use Rattle.ca_atpg.specs.Atpg.{IsStil, report_of}

-- what each value has that has another
pub on_ok : {T E : Type 0} (result : Result T E) (P Q : T → Type 0) → ((x : T) → P x → Q x) → IfOk result P → IfOk result Q
on_ok (Ok x) P Q h is = h x is
on_ok (Err e) P Q h is = tt

-- the pairs of good work have all pattern bits of the chip
pub task_pairs_fit : (chip : LinkedChip) (budget : ℕ) (pairs : List (List Bool)) (aims : List ℕ) (verdicts : List Verdict)
    → IsGood (task_of chip budget) pairs aims verdicts → All (λ pair. length pair ≡ bit_count (core_of chip)) pairs
task_pairs_fit chip budget pairs aims verdicts good = pairs_whole (task_of chip budget) pairs aims (own_targets (task_of chip budget) refl) good.aims_are

-- there is a verdict for each defect
pub one_verdict_each : (chip : LinkedChip) (budget : ℕ) (pairs : List (List Bool)) (aims : List ℕ) (verdicts : List Verdict)
    → IsGood (task_of chip budget) pairs aims verdicts → length verdicts ≡ length (task_of chip 0).defects
one_verdict_each chip budget pairs aims verdicts good = good.one_each

module _ (chip : LinkedChip) (chains : List (List ℕ)) (pairs : List (List Bool)) (expected : List (List Trit)) where
  pub are_of_chip : AreAllChains chip chains → All (λ pair. length pair ≡ bit_count (core_of chip)) pairs → AreExpected (core_of chip) pairs expected
      → AreOfChip chip chains pairs expected
  are_of_chip are whole exp = record {
    chains_are = are;
    bits = All-weaker (λ (pair : List Bool). length pair ≡ bit_count (core_of chip)) (λ (pair : List Bool). length pair ≡ length (inputs_of chip) + length (inputs_of chip))
        (λ pair is. let l = length-map (inputs_of chip) (core_net chip) in omega (arith, l, is)) pairs whole;
    values = All-from_get_or (λ (values : List Trit). length values ≡ length (outputs_of chip)) expected [] (λ k lt.
        let count = exp.count in
        (exp.each k (omega (arith, count, lt))).count ∙ length-map (outputs_of chip) (core_net chip));
    counted = sym exp.count;
  }

  pub same_pairs : map (λ (pair : List Bool). pair) pairs ≡ pairs
  same_pairs = map-id pairs

  pub same_values : map (λ (values : List Trit). values) expected ≡ expected
  same_values = map-id expected

  pub is_stil : AreExpected (core_of chip) pairs expected → (text : List ℕ) → text ≡ stil_text (stil_chip chip chains) pairs expected
      → IsStil chip chains pairs text
  is_stil exp text is = record { expected = expected; are_expected = exp; is = is }

-- an output that is credited is an observed one
output_within : (xs : List ℕ) (P : ℕ → Type 0) (k : ℕ) → IsSomeAnd (slice_get xs k) P → k < length xs
output_within xs P k some = by (slice_get xs k) refl some
  where
    by : (o : Option ℕ) → slice_get xs k ≡ o → IsSomeAnd o P → k < length xs
    by None e here = absurd here
    by (Some x) e here = slice_get_within xs k x e

some_pair : (pairs : List (List Bool)) (k : ℕ) (P : List Bool → Type 0) (Q : Type 0) → IsSomeAnd (slice_get pairs k) P → ((pair : List Bool) → P pair → Q) → Q
some_pair pairs k P Q some then = by (slice_get pairs k) some
  where
    by : (o : Option (List Bool)) → IsSomeAnd o P → Q
    by None here = absurd here
    by (Some x) here = then x here

pub verdicts_within : (chip : LinkedChip) (budget : ℕ) (pairs : List (List Bool)) (aims : List ℕ) (verdicts : List Verdict)
    → IsGood (task_of chip budget) pairs aims verdicts → All (IsVerdictWithin (length (outputs_of chip))) verdicts
verdicts_within chip budget pairs aims verdicts good = All-from_get_or (IsVerdictWithin (length (outputs_of chip))) verdicts Unexposable (λ k lt.
    by k lt (get_or verdicts k Unexposable) (slice_get-get_or verdicts k Unexposable lt))
  where
    by : (k : ℕ) → k < length verdicts → (verdict : Verdict) → slice_get verdicts k ≡ Some verdict → IsVerdictWithin (length (outputs_of chip)) verdict
    by k lt (Credited pair output) at =
        let none : ChipDefect = record { instance = 0; defect = OpenPin (record { 0 = 0 }) } in
        let one = good.one_each in
        let defect : ChipDefect = get_or (task_of chip budget).defects k none in
        let first = good.credited k pair output defect (record {
          is_defect = slice_get-get_or (task_of chip budget).defects k none (omega (arith, lt, one));
          is_verdict = at;
        }) in
        subst (λ (n : ℕ). output < n) (length-map (outputs_of chip) (core_net chip))
        (some_pair pairs pair (IsFirstOutput (core_of chip) defect output) (output < length (core_of chip).outputs) first.first_output
        (λ (p : List Bool) is. output_within (core_of chip).outputs (DetectsAt (core_of chip) defect (trits_of p)) output is.here))
    by k lt Unexposable at = tt
    by k lt Untestable at = tt
    by k lt (Aborted code) at = tt

module _ (view : Viewed) (are : IsViewOf view.chip view) (list : List ChipDefect) (is : list ≡ (task_of view.chip 0).defects) where
  pub are_reported : IsWired view.chip → All (IsPlacedDefect (core_of view.chip) (place_in view.ranks)) list → (verdicts : List Verdict)
      → length verdicts ≡ length (task_of view.chip 0).defects → All (IsVerdictWithin (length (outputs_of view.chip))) verdicts
      → AreReported view.chip list verdicts
  are_reported wired placed verdicts one_each outputs = record {
    defects_are = All-weaker (IsPlacedDefect (core_of view.chip) (place_in view.ranks)) (IsGateDefect view.chip) (λ defect one. record {
      is_defect = one.defect_is;
      is_gate = placed_is_library view.chip wired view.ranks are.ranked defect.instance
          (record { known = one.defect_is.known; placed = one.placed });
    }) list placed;
    one_each = one_each ∙ ap length (sym is);
    outputs = outputs;
  }

  pub is_report : (verdicts : List Verdict) (text : List ℕ) → text ≡ report_text (output_names view.chip) (report_rows view.chip list verdicts)
      → text ≡ report_of view.chip verdicts
  is_report verdicts text text_is = text_is ∙ ap (λ (l : List ChipDefect). report_text (output_names view.chip) (report_rows view.chip l verdicts)) is
