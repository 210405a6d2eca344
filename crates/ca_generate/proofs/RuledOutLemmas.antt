-- An aborted defect that is ruled out afterwards: the promise stays.
use Rattle.std.proofs.Common.{◌≡◌, ◌⊎◌, ℕ, zero, suc, ◌<◌, List, [], ◌∷◌, length, Bool, refl, sym, ◌∙◌, subst, ap}
use Rattle.std.proofs.Common.{arith, Some, inl, inr}
use Rattle.std.proofs.lemmas.List.{length-set}
use Rattle.std.proofs.lemmas.Bool.{cases_eq}
use Rattle.std.specs.Prelude.{slice_get, slice_set}
use Rattle.ca_flat.specs.declared.chip_defect.ChipDefect.{ChipDefect}
use Rattle.ca_flat.specs.declared.token.Token.{Token}
use Rattle.ca_credit.specs.declared.verdict.Verdict.{Verdict}
use Rattle.ca_credit.specs.declared.verdict.Verdict.TheVariants.{Credited, Unexposable, Untestable, Aborted}
use Rattle.ca_credit.specs.Defects.{Task}
use Rattle.ca_credit.specs.Good.{HasVerdict, IsGood}
use Rattle.ca_generate.specs.Known.{IsUntestableAt}

-- what is read from a list where something is written
written_here : {T : Type 0} (xs : List T) (k : ℕ) (x : T) → k < length xs → slice_get (slice_set xs k x) k ≡ Some x
written_here [] k x within = absurd (omega arith)
written_here (y ∷ xs) zero x within = refl
written_here (y ∷ xs) (suc k) x within = written_here xs k x (omega arith)

written_elsewhere : {T : Type 0} (xs : List T) (k other : ℕ) (x : T) → (other ≡ k → ⊥) → slice_get (slice_set xs k x) other ≡ slice_get xs other
written_elsewhere [] k other x differ = refl
written_elsewhere (y ∷ xs) zero zero x differ = absurd (differ refl)
written_elsewhere (y ∷ xs) zero (suc other) x differ = refl
written_elsewhere (y ∷ xs) (suc k) zero x differ = refl
written_elsewhere (y ∷ xs) (suc k) (suc other) x differ = written_elsewhere xs k other x (λ e. differ (ap suc e))

-- a verdict other than untestable was there before
was_there : (verdicts : List Verdict) (place other : ℕ) (verdict : Verdict) → place < length verdicts → (verdict ≡ Untestable → ⊥)
    → slice_get (slice_set verdicts place Untestable) other ≡ Some verdict → slice_get verdicts other ≡ Some verdict
was_there verdicts place other verdict within not is =
    elim (cases_eq other place) [
      | inl e ↦
          let here = written_here verdicts place Untestable within in
          let same : Some verdict ≡ Some Untestable = sym is ∙ ap (λ k. slice_get (slice_set verdicts place Untestable) k) e ∙ here in
          absurd (not (let inner : verdict ≡ Untestable = cc in inner))
      | inr differ ↦ sym (written_elsewhere verdicts place other Untestable differ) ∙ is
    ]

-- a verdict other than an aborted one stays
stays : (verdicts : List Verdict) (place other : ℕ) (code : List Token) (verdict : Verdict) → slice_get verdicts place ≡ Some (Aborted code)
    → (verdict ≡ Aborted code → ⊥) → slice_get verdicts other ≡ Some verdict → slice_get (slice_set verdicts place Untestable) other ≡ Some verdict
stays verdicts place other code verdict aborted not is =
    elim (cases_eq other place) [
      | inl e ↦
          let same : Some verdict ≡ Some (Aborted code) = sym is ∙ ap (λ k. slice_get verdicts k) e ∙ aborted in
          absurd (not (let inner : verdict ≡ Aborted code = cc in inner))
      | inr differ ↦ written_elsewhere verdicts place other Untestable differ ∙ is
    ]

-- an untestable one was there before, or is at this place
untestable_there : (verdicts : List Verdict) (place other : ℕ) → slice_get (slice_set verdicts place Untestable) other ≡ Some Untestable
    → (other ≡ place) ⊎ (slice_get verdicts other ≡ Some Untestable)
untestable_there verdicts place other is =
    elim (cases_eq other place) [
      | inl e ↦ inl e
      | inr differ ↦ inr (sym (written_elsewhere verdicts place other Untestable differ) ∙ is)
    ]

-- the promise stays
pub ruled_out_good : (task : Task) (pairs : List (List Bool)) (aims : List ℕ) (verdicts : List Verdict) (place : ℕ) (code : List Token)
    → place < length verdicts → slice_get verdicts place ≡ Some (Aborted code) → IsUntestableAt task place
    → IsGood task pairs aims verdicts → IsGood task pairs aims (slice_set verdicts place Untestable)
ruled_out_good task pairs aims verdicts place code within aborted untestable good =
    let old = λ (other : ℕ) (defect : ChipDefect) (verdict : Verdict) (not : verdict ≡ Untestable → ⊥)
    (has : HasVerdict task (slice_set verdicts place Untestable) other defect verdict).
    let there : HasVerdict task verdicts other defect verdict =
    record { is_defect = has.is_defect; is_verdict = was_there verdicts place other verdict within not has.is_verdict } in there in
    record {
      one_each = length-set verdicts place Untestable ∙ good.one_each;
      credited = λ other pair output defect has. good.credited other pair output defect (old other defect (Credited pair output) (λ e. cc) has);
      unexposable = λ other defect has. good.unexposable other defect (old other defect Unexposable (λ e. cc) has);
      named_unexposable = λ other defect is not.
          let has = good.named_unexposable other defect is not in
          record { is_defect = is; is_verdict = stays verdicts place other code Unexposable aborted (λ e. cc) has.is_verdict };
      untestable = λ other defect has.
          elim (untestable_there verdicts place other has.is_verdict) [
            | inl e ↦ subst (IsUntestableAt task) (sym e) untestable defect has.is_defect
            | inr was ↦ good.untestable other defect (record { is_defect = has.is_defect; is_verdict = was })
          ];
      aborted = λ other defect spent has. good.aborted other defect spent (old other defect (Aborted spent) (λ e. cc) has);
      few = good.few;
      needed = λ pair lt.
          let need = good.needed pair lt in
          record {
            place = need.place;
            output = need.output;
            credited = stays verdicts place need.place code (Credited pair need.output) aborted (λ e. cc) need.credited;
          };
      aims_are = good.aims_are;
      aims_credited = λ pair aim is.
          let credit = good.aims_credited pair aim is in
          record { output = credit.output; credited = stays verdicts place aim code (Credited pair credit.output) aborted (λ e. cc) credit.credited };
      aims_least = λ ample pair aim other is credit. good.aims_least ample pair aim other is
          (record { output = credit.output; credited = was_there verdicts place other (Credited pair credit.output) within (λ e. cc) credit.credited });
      checked = λ other defect spent has. good.checked other defect spent (old other defect (Aborted spent) (λ e. cc) has);
    }
