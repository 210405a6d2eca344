-- What good verdicts make of claims.
use Rattle.std.proofs.Common.{◌≡◌, ℕ, zero, suc, ◌<◌, ◌≤◌, ◌⊎◌, Bool, List, [], ◌∷◌, ◌++◌, length, length-append, Option, Some, inl, inr, refl, sym, ◌∙◌, ap, subst, arith, get_or}
use Rattle.std.specs.Prelude.{slice_get, option_map}
use Rattle.std.proofs.lemmas.List.{length-map}
use Rattle.std.proofs.lemmas.List.Elements.{All-get_or, All-from_get_or}
use Rattle.std.proofs.lemmas.Option.{slice_get-map, slice_get_within}
use Rattle.ca_code.specs.declared.token.TheConstants.{MOST_PATTERN_BITS}
use Rattle.ca_flat.specs.declared.chip_defect.ChipDefect.{ChipDefect}
use Rattle.ca_flat.specs.declared.token.Token.{Token}
use Rattle.ca_flat.specs.Chip.{Chip}
use Rattle.ca_flat.specs.Pair.{bit_count}
use Rattle.ca_flat.specs.Codes.{At, unset_pair}
use Rattle.ca_credit.specs.declared.verdict.Verdict.{Verdict}
use Rattle.ca_credit.specs.declared.verdict.Verdict.TheVariants as verdict
use Rattle.ca_credit.specs.Defects.{Task, IsOfOneChip, IsDefectAt, IsExposableIn}
use Rattle.ca_credit.specs.Detection.{Detects, NoneDetects, IsUntestable}
use Rattle.ca_credit.specs.Good.{HasVerdict, IsGood, IsCreditedTo}
use Rattle.ca_credit.proofs.DetectionLemmas.{own_targets}
use Rattle.ca_expected.proofs.WholeLemmas.{pairs_whole}
use Rattle.ca_claim.specs.declared.claim.Claim.{Claim}
use Rattle.ca_claim.specs.declared.claim.Claim.TheVariants.{Credited, Unexposable, Untestable, Aborted}
use Rattle.ca_claim.specs.declared.certificate.Answer.TheVariants.{Yes, No}
use Rattle.ca_claim.specs.Stands.{Stands, IsProvenUntestable}
use Rattle.ca_claim.proofs.TrueLemmas.{one_entry}
use Rattle.ca_certify.specs.Verdicts.{verdict_of, verdicts_of}
use Rattle.ca_certify.specs.Proven.{AllStand, AreProven}
use Rattle.ca_certify.specs.Laws.{GoodClaimsStand, StandingIsYes}
use Rattle.ca_code.specs.Ends.{IsSpentSearch}
use Rattle.ca_certify.specs.code.Claimed.{IsClaimOn, AreKnown, AreClaimsOn}
use Rattle.ca_generate.proofs.ListLemmas.{entry_is}
use Rattle.ca_certify.proofs.CodeLemmas.{search_codes_are_claimed_lem, narrow_tokens}

-- an entry of the list at each place within it
some_at : {T : Type 0} (xs : List T) (k : ℕ) → k < length xs → (x : T) × (slice_get xs k ≡ Some x)
some_at [] k within = absurd (omega (arith, within))
some_at (x ∷ xs) zero within = (x, refl)
some_at (x ∷ xs) (suc k) within = some_at xs k (omega (arith, within))

-- the verdict of the claim at a place is at that place
verdict_there : (claims : List Claim) (place : ℕ) (claim : Claim) → slice_get claims place ≡ Some claim
    → slice_get (verdicts_of claims) place ≡ Some (verdict_of claim)
verdict_there claims place claim at = slice_get-map verdict_of claims place ∙ ap (option_map verdict_of) at

pub standing_is_yes_lem : StandingIsYes
standing_is_yes_lem chip defects pairs budget claims Yes stand is = refl
standing_is_yes_lem chip defects pairs budget claims (No defect) stand is = absurd (is.falls (stand defect is.within))

-- a task of one chip
abbrev pub own_task : Chip → List ChipDefect → ℕ → Task
own_task chip defects budget = record { chip = chip; chip_of = λ place. chip; defects = defects; budget = budget }

one_task : (task : Task) → IsOfOneChip task → task ≡ own_task task.chip task.defects task.budget
one_task task one =
    ap (λ (of : ℕ → Chip). let made : Task = record { chip = task.chip; chip_of = of; defects = task.defects; budget = task.budget } in made) one

own_claims_stand : (chip : Chip) (defects : List ChipDefect) (budget : ℕ) (pairs : List (List Bool)) (aims : List ℕ) (claims : List Claim)
    → IsGood (own_task chip defects budget) pairs aims (verdicts_of claims) → AreProven (own_task chip defects budget) claims
    → AllStand (own_task chip defects budget) pairs claims
own_claims_stand chip defects budget pairs aims claims good proven place within =
    let claim = some_at claims place within in
    let counted = length-map claims verdict_of in
    let one_each = good.one_each in
    let defect = some_at defects place (omega (arith, counted, one_each, within)) in
    record {
      defect = defect.0;
      is_defect = defect.1;
      claim = claim.0;
      is_claim = claim.1;
      stands = by claim.0 defect.0 defect.1 claim.1;
    }
  where
    by : (claim : Claim) (defect : ChipDefect) → slice_get defects place ≡ Some defect → slice_get claims place ≡ Some claim
        → Stands chip pairs budget defect claim
    by (Credited pair output) defect at is = good.credited place pair output defect
        (record { is_defect = at; is_verdict = verdict_there claims place (Credited pair output) is })
    by Unexposable defect at is = good.unexposable place defect
        (record { is_defect = at; is_verdict = verdict_there claims place Unexposable is })
    by (Untestable code) defect at is = proven place defect code (record { is_defect = at; is_claim = is })
    by (Aborted code) defect at is =
        let has : HasVerdict (own_task chip defects budget) (verdicts_of claims) place defect (verdict.Aborted code) =
        record { is_defect = at; is_verdict = verdict_there claims place (Aborted code) is } in
        let rightly = good.aborted place defect code has in
        record {
          exposable = rightly.exposable;
          undetected = rightly.undetected;
          spent = (search_codes_are_claimed_lem chip defect code).spent budget (good.checked place defect code has);
        }

pub good_claims_stand_lem : GoodClaimsStand
good_claims_stand_lem task pairs aims claims one good proven =
    own_claims_stand task.chip task.defects task.budget pairs aims claims
    (subst (λ (t : Task). IsGood t pairs aims (verdicts_of claims)) (one_task task one) good) proven

-- the defect was called untestable, and the search for its code spent the budget
record IsNowAborted (task : Task) (verdicts : List Verdict) (place : ℕ) (defect : ChipDefect) (now : Verdict) : Type 0 where
  pub code : List Token
  pub is : now ≡ verdict.Aborted code
  pub untestable : HasVerdict task verdicts place defect verdict.Untestable
  pub exposable : IsExposableIn task.chip defect
  pub spent : IsSpentSearch task.chip task.budget defect code

module _ (chip : Chip) (defects : List ChipDefect) (budget : ℕ) (pairs : List (List Bool)) (aims : List ℕ) (verdicts : List Verdict) (claims : List Claim)
    (good : IsGood (own_task chip defects budget) pairs aims verdicts) (counted : length claims ≡ length verdicts)
    (are : AreClaimsOn chip budget defects verdicts claims) where
  abbrev task : Task
  task = own_task chip defects budget

  -- what the verdict was, of which a claim gives this one
  claim_was : (place : ℕ) (defect : ChipDefect) (old : Verdict) (claim : Claim) → IsDefectAt task place defect
      → slice_get verdicts place ≡ Some old → IsClaimOn task.chip task.budget defect old claim
      → HasVerdict task verdicts place defect (verdict_of claim) ⊎ IsNowAborted task verdicts place defect (verdict_of claim)
  claim_was place defect (verdict.Credited pair output) claim at is on =
      inl (record { is_defect = at; is_verdict = is ∙ ap (λ c. Some (verdict_of c)) (sym on) })
  claim_was place defect verdict.Unexposable claim at is on =
      inl (record { is_defect = at; is_verdict = is ∙ ap (λ c. Some (verdict_of c)) (sym on) })
  claim_was place defect (verdict.Aborted code) claim at is on =
      inl (record { is_defect = at; is_verdict = is ∙ ap (λ c. Some (verdict_of c)) (sym on) })
  claim_was place defect verdict.Untestable (Credited pair output) at is on = absurd on.searched
  claim_was place defect verdict.Untestable Unexposable at is on = absurd on.searched
  claim_was place defect verdict.Untestable (Untestable code) at is on = inl (record { is_defect = at; is_verdict = is })
  claim_was place defect verdict.Untestable (Aborted code) at is on = inr (record {
    code = code;
    is = refl;
    untestable = record { is_defect = at; is_verdict = is };
    exposable = on.exposable;
    spent = on.searched;
  })

  was : (place : ℕ) (defect : ChipDefect) (new : Verdict) → HasVerdict task (verdicts_of claims) place defect new
      → HasVerdict task verdicts place defect new ⊎ IsNowAborted task verdicts place defect new
  was place defect new has =
      let below = slice_get_within (verdicts_of claims) place new has.is_verdict in
      let mapped = length-map claims verdict_of in
      let claim = some_at claims place (omega (arith, below, mapped)) in
      let old = some_at verdicts place (omega (arith, below, mapped, counted)) in
      let there = verdict_there claims place claim.0 claim.1 in
      subst (λ verdict. HasVerdict task verdicts place defect verdict ⊎ IsNowAborted task verdicts place defect verdict)
      (one_entry (verdicts_of claims) place (verdict_of claim.0) new there has.is_verdict)
      (claim_was place defect old.0 claim.0 has.is_defect old.1 (are.each place defect old.0 claim.0 has.is_defect old.1 claim.1))

  -- a credit stays, and so does that a defect is unexposable
  stays : (place : ℕ) (defect : ChipDefect) (claim : Claim) → HasVerdict task verdicts place defect (verdict_of claim)
      → ((other : Claim) → IsClaimOn task.chip task.budget defect (verdict_of claim) other → other ≡ claim)
      → HasVerdict task (verdicts_of claims) place defect (verdict_of claim)
  stays place defect claim has only =
      let below = slice_get_within verdicts place (verdict_of claim) has.is_verdict in
      let there = some_at claims place (omega (arith, below, counted)) in
      record {
        is_defect = has.is_defect;
        is_verdict = verdict_there claims place there.0 there.1
            ∙ ap (λ c. Some (verdict_of c)) (only there.0 (are.each place defect (verdict_of claim) there.0 has.is_defect has.is_verdict there.1));
      }

  defect_there : (place : ℕ) (verdict : Verdict) → slice_get verdicts place ≡ Some verdict → (defect : ChipDefect) × IsDefectAt task place defect
  defect_there place verdict at =
      let below = slice_get_within verdicts place verdict at in
      let one_each = good.one_each in
      some_at task.defects place (omega (arith, below, one_each))

  credit_stays : (place pair output : ℕ) → slice_get verdicts place ≡ Some (verdict.Credited pair output)
      → slice_get (verdicts_of claims) place ≡ Some (verdict.Credited pair output)
  credit_stays place pair output at =
      let defect = defect_there place (verdict.Credited pair output) at in
      (stays place defect.0 (Credited pair output) (record { is_defect = defect.1; is_verdict = at }) (λ other on. on)).is_verdict

  -- a credit was one
  credit_was : (place pair output : ℕ) (defect : ChipDefect) → HasVerdict task (verdicts_of claims) place defect (verdict.Credited pair output)
      → HasVerdict task verdicts place defect (verdict.Credited pair output)
  credit_was place pair output defect has = elim (was place defect (verdict.Credited pair output) has) [ inl old ↦ old | inr now ↦ let e = now.is in cc ]

  credited_to : (pair place : ℕ) → IsCreditedTo (verdicts_of claims) pair place → IsCreditedTo verdicts pair place
  credited_to pair place credit =
      let below = slice_get_within (verdicts_of claims) place (verdict.Credited pair credit.output) credit.credited in
      let mapped = length-map claims verdict_of in
      let one_each = good.one_each in
      let defect = some_at task.defects place (omega (arith, below, mapped, counted, one_each)) in
      record {
        output = credit.output;
        credited = (credit_was place pair credit.output defect.0 (record { is_defect = defect.1; is_verdict = credit.credited })).is_verdict;
      }

  undetected : (defect : ChipDefect) → IsUntestable task.chip defect → NoneDetects task.chip defect pairs
  undetected defect none = All-from_get_or (λ pair. ¬ (Detects task.chip defect pair)) pairs [] (λ k within.
      none (get_or pairs k []) (All-get_or (λ pair. length pair ≡ bit_count task.chip) pairs k [] within (pairs_whole task pairs aims (own_targets task refl) good.aims_are)))

  -- the verdicts that the claims give are good
  pub claimed_good : IsGood task pairs aims (verdicts_of claims)
  claimed_good = record {
    one_each = length-map claims verdict_of ∙ counted ∙ good.one_each;
    credited = λ place pair output defect has. good.credited place pair output defect (credit_was place pair output defect has);
    unexposable = λ place defect has. elim (was place defect verdict.Unexposable has) [
      | inl old ↦ good.unexposable place defect old
      | inr now ↦ let e = now.is in cc
    ];
    named_unexposable = λ place defect at none. stays place defect Unexposable (good.named_unexposable place defect at none) (λ other on. on);
    untestable = λ place defect has. elim (was place defect verdict.Untestable has) [
      | inl old ↦ good.untestable place defect old
      | inr now ↦ good.untestable place defect now.untestable
    ];
    aborted = λ place defect code has. elim (was place defect (verdict.Aborted code) has) [
      | inl old ↦ good.aborted place defect code old
      | inr now ↦ record {
        exposable = now.exposable;
        undetected = undetected defect (good.untestable place defect now.untestable);
        spent = (now_spent place defect code now).spent;
      }
    ];
    few = good.few;
    needed = λ pair within.
        let need = good.needed pair within in
        record { place = need.place; output = need.output; credited = credit_stays need.place pair need.output need.credited };
    aims_are = good.aims_are;
    aims_credited = λ pair aim at.
        let credit = good.aims_credited pair aim at in
        record { output = credit.output; credited = credit_stays aim pair credit.output credit.credited };
    aims_least = λ ample pair aim place at credit. good.aims_least ample pair aim place at (credited_to pair place credit);
    checked = λ place defect code has. elim (was place defect (verdict.Aborted code) has) [
      | inl old ↦ good.checked place defect code old
      | inr now ↦ (now_spent place defect code now).checked
    ];
  }
    where
      now_spent : (place : ℕ) (defect : ChipDefect) (code : List Token) → IsNowAborted task verdicts place defect (verdict.Aborted code)
          → IsSpentSearch task.chip task.budget defect code
      now_spent place defect code now =
          let e : verdict.Aborted code ≡ verdict.Aborted now.code = now.is in
          let same : code ≡ now.code = cc in
          subst (IsSpentSearch task.chip task.budget defect) (sym same) now.spent

  -- each claim that a defect is untestable is proven
  pub claimed_proven : AreProven task claims
  claimed_proven place defect code has =
      let below = slice_get_within claims place (Untestable code) has.is_claim in
      let old = some_at verdicts place (omega (arith, below, counted)) in
      by old.0 (are.each place defect old.0 (Untestable code) has.is_defect old.1 has.is_claim)
    where
      by : (old : Verdict) → IsClaimOn task.chip task.budget defect old (Untestable code) → IsProvenUntestable task.chip defect code
      by (verdict.Credited pair output) on = let e : Untestable code ≡ Credited pair output = on in cc
      by verdict.Unexposable on = let e : Untestable code ≡ Unexposable = on in cc
      by (verdict.Aborted other) on = let e : Untestable code ≡ Aborted other = on in cc
      by verdict.Untestable on = record {
        exposable = on.exposable;
        whole = (search_codes_are_claimed_lem task.chip defect code).whole on.searched;
      }

  pub claimed_stand : AllStand task pairs claims
  claimed_stand = own_claims_stand chip defects budget pairs aims claims claimed_good claimed_proven

-- what good verdicts say of each defect
pub good_are_known : (chip : Chip) (defects : List ChipDefect) (budget : ℕ) (pairs : List (List Bool)) (aims : List ℕ) (verdicts : List Verdict)
    → bit_count chip ≤ MOST_PATTERN_BITS → IsGood (own_task chip defects budget) pairs aims verdicts → AreKnown chip defects verdicts
good_are_known chip defects budget pairs aims verdicts few good place defect (verdict.Credited pair output) at is = tt
good_are_known chip defects budget pairs aims verdicts few good place defect verdict.Unexposable at is = tt
good_are_known chip defects budget pairs aims verdicts few good place defect verdict.Untestable at is = record {
  exposable = λ none.
      let e : ◌≡◌ {A = Option Verdict} (Some verdict.Untestable) (Some verdict.Unexposable) = sym is ∙ (good.named_unexposable place defect at none).is_verdict in
      cc;
  untestable = good.untestable place defect (record { is_defect = at; is_verdict = is });
}
good_are_known chip defects budget pairs aims verdicts few good place defect (verdict.Aborted code) at is =
    let spent = good.checked place defect code (record { is_defect = at; is_verdict = is }) in
    narrow_tokens chip defect code (At (unset_pair chip) []) (At spent.pair spent.front.later) few spent.front.reads

-- one claim more
pub claims_more : (chip : Chip) (budget : ℕ) (defects : List ChipDefect) (verdicts : List Verdict) (claims : List Claim) (place : ℕ)
    (defect : ChipDefect) (verdict : Verdict) (claim : Claim) → AreClaimsOn chip budget defects verdicts claims → length claims ≡ place
    → slice_get defects place ≡ Some defect → slice_get verdicts place ≡ Some verdict → IsClaimOn chip budget defect verdict claim
    → AreClaimsOn chip budget defects verdicts (claims ++ claim ∷ [])
claims_more chip budget defects verdicts claims place defect verdict claim are counted at is on = record {
  within = let grown = length-append claims (claim ∷ []) in let below = slice_get_within verdicts place verdict is in omega (arith, grown, below, counted);
  each = λ k d v c d_at v_at c_at. elim (entry_is claims claim k c c_at) [
    | inl old ↦ are.each k d v c d_at v_at old
    | inr new ↦
        let here : k ≡ place = new.0 ∙ counted in
        let same_defect = one_entry defects place defect d at (subst (λ (n : ℕ). slice_get defects n ≡ Some d) here d_at) in
        let same_verdict = one_entry verdicts place verdict v is (subst (λ (n : ℕ). slice_get verdicts n ≡ Some v) here v_at) in
        subst (λ (x : Claim). IsClaimOn chip budget d v x) (sym new.1)
        (subst (λ (x : Verdict). IsClaimOn chip budget d x claim) same_verdict
        (subst (λ (x : ChipDefect). IsClaimOn chip budget x verdict claim) same_defect on))
  ];
}

-- no claims
pub claims_none : (chip : Chip) (budget : ℕ) (defects : List ChipDefect) (verdicts : List Verdict) → AreClaimsOn chip budget defects verdicts []
claims_none chip budget defects verdicts = record { within = omega arith; each = λ k d v c d_at v_at c_at. cc }
