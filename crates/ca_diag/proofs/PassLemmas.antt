-- A pass over the open candidates, one after another, and what it leaves.
use Rattle.std.proofs.Common.{◌≡◌, ◌≢◌, ℕ, zero, suc, ◌+◌, ◌<◌, ◌≤◌, List, [], ◌∷◌, ◌++◌, ◌∙◌}
use Rattle.std.proofs.Common.{length, take, ap, arith, refl, sym, subst, inl, inr}
use Rattle.std.specs.Prelude.{Option, Some, None, slice_get, slice_set}
use Rattle.std.proofs.lemmas.Grind.{take-set_at}
use Rattle.std.proofs.lemmas.List.{take_more, length-set}
use Rattle.std.proofs.lemmas.Option.{slice_get_within, get_or_from_slice_get}
use Rattle.ca_net.specs.declared.trit.Trit.{Trit}
use Rattle.ca_flat.specs.declared.chip_defect.ChipDefect.{ChipDefect}
use Rattle.ca_credit.specs.Defects.{Task, IsDefectAt}
use Rattle.ca_diag.specs.declared.candidate.Candidate.{Candidate}
use Rattle.ca_diag.specs.code.Judged.{FailsAt, IsJudged}
use Rattle.ca_diag.specs.code.Pass.{IsLeft, IsKept, IsPass, IsPassTo}
use Rattle.ca_diag.proofs.FailingLemmas.{at_within}
use Rattle.ca_diag.proofs.JudgeLemmas.{count_few}

-- an entry stays where another is written
pub other_set : {T : Type 0} (xs : List T) (i j : ℕ) (y : T) → j ≢ i → slice_get (slice_set xs i y) j ≡ slice_get xs j
other_set [] i j y differs = refl
other_set (x ∷ xs) zero zero y differs = absurd (differs refl)
other_set (x ∷ xs) zero (suc j) y differs = refl
other_set (x ∷ xs) (suc i) zero y differs = refl
other_set (x ∷ xs) (suc i) (suc j) y differs = other_set xs i j y (λ is. differs (ap suc is))

module _ (task : Task) (bits : List Trit) (outputs : List ℕ) where
  -- one more that is left out or kept
  left_last : (old new : List Candidate) (one : Candidate) → IsPass task bits outputs old new → IsLeft task bits outputs one
      → IsPass task bits outputs (old ++ one ∷ []) new
  left_last [] new one pass left = inl (left, pass)
  left_last (first ∷ old) new one (inl (gone, pass)) left = inl (gone, left_last old new one pass left)
  left_last (first ∷ old) new one (inr (kept, others, is, stays, pass)) left =
      inr (kept, others, is, stays, left_last old others one pass left)

  kept_last : (old new : List Candidate) (one last : Candidate) → IsPass task bits outputs old new
      → IsKept task bits outputs one last → IsPass task bits outputs (old ++ one ∷ []) (new ++ last ∷ [])
  kept_last [] new one last pass stays = inr (last, [], ap (λ (list : List Candidate). list ++ last ∷ []) pass, stays, refl)
  kept_last (first ∷ old) new one last (inl (gone, pass)) stays = inl (gone, kept_last old new one last pass stays)
  kept_last (first ∷ old) new one last (inr (kept, others, is, stay, pass)) stays =
      inr (kept, others ++ last ∷ [], ap (λ (list : List Candidate). list ++ last ∷ []) is, stay, kept_last old others one last pass stays)

  one_more : (old : List Candidate) (k : ℕ) (one : Candidate) → slice_get old k ≡ Some one → take (k + 1) old ≡ take k old ++ one ∷ []
  one_more old k one at =
      take_more old k one (slice_get_within old k one at)
      ∙ ap (λ (last : Candidate). take k old ++ last ∷ []) (get_or_from_slice_get old k one one at)

  module _ (old list : List Candidate) (k kept : ℕ) (one : Candidate) (so_far : IsPassTo task bits outputs old k kept list)
      (here : slice_get list k ≡ Some one) where
    -- the candidate is still where it was
    pub was_there : slice_get old k ≡ Some one
    was_there = sym (so_far.rest k (omega arith)) ∙ here

    pub left_step : IsLeft task bits outputs one → IsPassTo task bits outputs old (k + 1) kept list
    left_step left = record {
      long = so_far.long;
      few = let few = so_far.few in omega (arith, few);
      rest = λ j past. so_far.rest j (omega (arith, past));
      passed = subst (λ (given : List Candidate). IsPass task bits outputs given (take kept list)) (sym (one_more old k one was_there))
          (left_last (take k old) (take kept list) one so_far.passed left);
    }

    pub kept_step : (last : Candidate) → IsKept task bits outputs one last
        → IsPassTo task bits outputs old (k + 1) (kept + 1) (slice_set list kept last)
    kept_step last stays =
        let few = so_far.few in
        let within = slice_get_within list k one here in
        let below : kept < length list = omega (arith, few, within) in
        record {
          long = length-set list kept last ∙ so_far.long;
          few = omega (arith, few);
          rest = λ j past. other_set list kept j last (let far : kept < j = omega (arith, few, past) in λ is. omega (arith, far, is))
              ∙ so_far.rest j (omega (arith, past));
          passed = subst (λ (given : List Candidate). IsPass task bits outputs given (take (kept + 1) (slice_set list kept last)))
              (sym (one_more old k one was_there))
              (subst (λ (given : List Candidate). IsPass task bits outputs (take k old ++ one ∷ []) given)
              (sym (take-set_at list kept (kept + 1) last refl below))
              (kept_last (take k old) (take kept list) one last so_far.passed stays));
        }

  module _ (now : Task) (now_bits : List Trit) (one : Candidate) (task_is : now ≡ task) (bits_are : now_bits ≡ bits)
      (within : one.defect < length task.defects) where
    of_old : (answer : Option ℕ)
        → ((defect : ChipDefect) → IsDefectAt now one.defect defect → IsJudged now.chip now_bits outputs defect answer)
        → (defect : ChipDefect) → IsDefectAt task one.defect defect → IsJudged task.chip bits outputs defect answer
    of_old answer judged defect at =
        subst (λ (given : List Trit). IsJudged task.chip given outputs defect answer) bits_are
        (subst (λ (given : Task). IsJudged given.chip now_bits outputs defect answer) task_is
        (judged defect (subst (λ (given : Task). IsDefectAt given one.defect defect) (sym task_is) at)))

    pub left_by : ((defect : ChipDefect) → IsDefectAt now one.defect defect → IsJudged now.chip now_bits outputs defect None)
        → IsLeft task bits outputs one
    left_by judged =
        let some = at_within task.defects one.defect within in
        record { defect = some.0; at = some.1; judged = of_old None judged some.0 some.1 }

    pub kept_by : (more : ℕ) (last : Candidate)
        → ((defect : ChipDefect) → IsDefectAt now one.defect defect → IsJudged now.chip now_bits outputs defect (Some more))
        → last.defect ≡ one.defect → last.explained ≡ one.explained + more → IsKept task bits outputs one last
    kept_by more last judged same adds =
        let some = at_within task.defects one.defect within in
        record { defect = some.0; more = more; at = some.1; judged = of_old (Some more) judged some.0 some.1; same = same; adds = adds }

    -- what is added fits
    pub adds_few : (more : ℕ)
        → ((defect : ChipDefect) → IsDefectAt now one.defect defect → IsJudged now.chip now_bits outputs defect (Some more))
        → more ≤ length outputs
    adds_few more judged =
        let some = at_within task.defects one.defect within in
        count_few (FailsAt task.chip some.0 bits) outputs more (of_old (Some more) judged some.0 some.1).1
