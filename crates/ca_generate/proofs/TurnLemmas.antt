-- What the turn of a defect makes of the work.
use Rattle.std.proofs.Common.{◌≡◌, ℕ, ◌+◌, ◌<◌, ◌≤◌, List, [], ◌∷◌, ◌++◌, length, Bool, inl, inr, refl, sym}
use Rattle.std.proofs.Common.{◌∙◌, ap, subst, arith, Some, None, Option}
use native.Mathlib.Decide.{ℕ_discrete}
use Rattle.std.specs.Prelude.{slice_get, slice_set}
use Rattle.std.proofs.lemmas.Bool.{cases_lt}
use Rattle.std.proofs.lemmas.List.{append_assoc, append-nil, length-append, length-set}
use Rattle.std.proofs.lemmas.List.Elements.{All-push, All-nil}
use Rattle.std.proofs.lemmas.Option.{slice_get_within}
use Rattle.ca_flat.specs.declared.chip_defect.ChipDefect.{ChipDefect}
use Rattle.ca_flat.specs.declared.token.Token.{Token}
use Rattle.ca_flat.specs.Chip.{Chip}
use Rattle.ca_flat.specs.Codes.{IsWholeCode, IsSpentCode}
use Rattle.ca_flat.specs.Pair.{bit_count}
use Rattle.ca_credit.specs.declared.verdict.Verdict.{Verdict}
use Rattle.ca_credit.specs.declared.verdict.Verdict.TheVariants.{Credited, Unexposable, Untestable, Aborted}
use Rattle.ca_credit.specs.Defects.{Task, IsDefectAt, IsExposableIn}
use Rattle.ca_credit.specs.Detection.{Detects, NoneDetects, IsFirstOutput, IsFirstDetection}
use Rattle.ca_credit.specs.Detection.{IsUntestable}
use Rattle.ca_credit.specs.Listed.{IsFoundAt, IsAim, AreAims}
use Rattle.ca_credit.specs.Good.{IsAmple, IsCheckedSpent}
use Rattle.ca_credit.specs.Table.{verdict_at, IsCredit, IsAfterPair, CreditsIn}
use Rattle.ca_credit.proofs.LawLemmas.{not_ample}
use Rattle.ca_credit.proofs.TableLemmas.{same_defect, verdict_at-set, verdict_at-other}
use Rattle.ca_credit.specs.declared.limit.TheConstants.{MOST_PAIRS}
use Rattle.ca_generate.specs.code.Progress.{IsWaiting, IsEntry, IsCreditAt, StandsAfter, StandsUpTo, IsScreenedEntry}
use Rattle.ca_generate.specs.code.Progress.{IsScreened}
use Rattle.ca_generate.proofs.ListLemmas.{entry_stays, entry_new, entry_is, some_within, some_stays, some_new}
use Rattle.ca_generate.proofs.ListLemmas.{first_stays, first_new, next_of, whole_of}
use Rattle.ca_generate.proofs.FoundLemmas.{found_detects, whole_is_untestable}

-- a defect that has no verdict when its turn comes
waiting_of : (task : Task) (turns edge : ℕ) (done : List (List Bool)) (table : List (Option Verdict)) (pairs : List (List Bool)) (aims : List ℕ) (place : ℕ) (defect : ChipDefect)
    → StandsUpTo task turns edge done table pairs aims → place < edge → verdict_at table place ≡ None → IsDefectAt task place defect → IsWaiting task turns pairs place defect
waiting_of task turns edge done table pairs aims place defect stands below none is =
    subst (IsEntry task turns pairs aims place defect) none (stands.near place defect below is)

-- the others, when one more had its turn
entry_next : (task : Task) (turns : ℕ) (pairs : List (List Bool)) (aims : List ℕ) (place : ℕ) (defect : ChipDefect) (verdict : Option Verdict)
    → (verdict ≡ None → place ≡ turns → ⊥) → IsEntry task turns pairs aims place defect verdict
    → IsEntry task (turns + 1) pairs aims place defect verdict
entry_next task turns pairs aims place defect None other is =
    record { to_come = (let far : place ≡ turns → ⊥ = other refl in let from = is.to_come in omega arith); exposable = is.exposable; undetected = is.undetected }
entry_next task turns pairs aims place defect (Some (Credited pair output)) other is = is
entry_next task turns pairs aims place defect (Some Unexposable) other is = is
entry_next task turns pairs aims place defect (Some Untestable) other is = is
entry_next task turns pairs aims place defect (Some (Aborted code)) other is = is

-- the turn of a defect that has a verdict
pub turn_skipped : (task : Task) (place edge : ℕ) (done : List (List Bool)) (table : List (Option Verdict)) (pairs : List (List Bool)) (aims : List ℕ)
    → place < edge → (verdict_at table place ≡ None → ⊥) → StandsUpTo task place edge done table pairs aims → StandsUpTo task (place + 1) edge done table pairs aims
turn_skipped task place edge done table pairs aims ahead known stands = record {
  as_many = stands.as_many;
  near = λ other defect below is. entry_next task place pairs aims other defect (verdict_at table other)
      (λ none e. known (subst (λ (k : ℕ). verdict_at table k ≡ None) e none)) (stands.near other defect below is);
  far = λ other defect from is. entry_next task place done aims other defect (verdict_at table other)
      (λ none e. absurd (omega arith)) (stands.far other defect from is);
  ahead = omega arith;
  edge_within = stands.edge_within;
  rest = stands.rest;
  pairs_are = stands.pairs_are;
  within = stands.within;
  bits = stands.bits;
  aims_are = stands.aims_are;
  aims_before = λ pair aim is. let before = stands.aims_before pair aim is in omega arith;
  aims_credited = stands.aims_credited;
}

-- the turn of a defect that gets a verdict other than a credit
turn_settled : (task : Task) (place edge : ℕ) (done : List (List Bool)) (table : List (Option Verdict)) (pairs : List (List Bool)) (aims : List ℕ) (defect : ChipDefect) (verdict : Verdict)
    → place < edge → StandsUpTo task place edge done table pairs aims → IsDefectAt task place defect
    → IsEntry task (place + 1) pairs aims place defect (Some verdict)
    → StandsUpTo task (place + 1) edge done (slice_set table place (Some verdict)) pairs aims
turn_settled task place edge done table pairs aims defect verdict ahead stands is_defect entry =
    let within : place < length table = let lt = slice_get_within (task.defects) place defect is_defect in let e = stands.as_many in omega arith in
    record {
      as_many = length-set table place (Some verdict) ∙ stands.as_many;
      near = λ other d below is. elim (ℕ_discrete other place) [
        | yes e ↦
            let same : defect ≡ d = same_defect task place defect d is_defect (subst (λ (k : ℕ). IsDefectAt task k d) e is) in
            subst (λ (k : ℕ). IsEntry task (place + 1) pairs aims k d (verdict_at (slice_set table place (Some verdict)) k)) (sym e)
            (subst (IsEntry task (place + 1) pairs aims place d) (sym (verdict_at-set table place (Some verdict) within))
            (subst (λ (x : ChipDefect). IsEntry task (place + 1) pairs aims place x (Some verdict)) same entry))
        | no differ ↦ subst (IsEntry task (place + 1) pairs aims other d) (sym (verdict_at-other table place other (Some verdict) differ))
            (entry_next task place pairs aims other d (verdict_at table other) (λ none e. differ e) (stands.near other d below is))
      ];
      far = λ other d from is.
          let differ : other ≡ place → ⊥ = λ e. absurd (omega arith) in
          subst (IsEntry task (place + 1) done aims other d) (sym (verdict_at-other table place other (Some verdict) differ))
          (entry_next task place done aims other d (verdict_at table other) (λ none e. differ e) (stands.far other d from is));
      ahead = omega arith;
      edge_within = let few = stands.edge_within in let e = length-set table place (Some verdict) in omega arith;
      rest = stands.rest;
      pairs_are = stands.pairs_are;
      within = stands.within;
      bits = stands.bits;
      aims_are = stands.aims_are;
      aims_before = λ pair aim is. let before = stands.aims_before pair aim is in omega arith;
      aims_credited = λ pair aim is.
          let before = stands.aims_before pair aim is in
          let credit = stands.aims_credited pair aim is in
          let differ : aim ≡ place → ⊥ = λ e. absurd (omega arith) in
          record { output = credit.output; credited = verdict_at-other table place aim (Some verdict) differ ∙ credit.credited };
    }

-- the turn of a defect that is known to be untestable
pub turn_untestable : (task : Task) (place edge : ℕ) (done : List (List Bool)) (table : List (Option Verdict)) (pairs : List (List Bool)) (aims : List ℕ) (defect : ChipDefect)
    → place < edge → StandsUpTo task place edge done table pairs aims → verdict_at table place ≡ None → IsDefectAt task place defect → IsUntestable (task.chip_of place) defect
    → StandsUpTo task (place + 1) edge done (slice_set table place (Some Untestable)) pairs aims
turn_untestable task place edge done table pairs aims defect ahead stands none is untestable =
    let waiting = waiting_of task place edge done table pairs aims place defect stands ahead none is in
    turn_settled task place edge done table pairs aims defect Untestable ahead stands is
    (record { exposable = waiting.exposable; untestable = untestable })

-- the turn of a defect for which the search was exhausted
pub turn_exhausted : (task : Task) (place edge : ℕ) (done : List (List Bool)) (table : List (Option Verdict)) (pairs : List (List Bool)) (aims : List ℕ) (defect : ChipDefect) (code : List Token)
    → place < edge → StandsUpTo task place edge done table pairs aims → verdict_at table place ≡ None → IsDefectAt task place defect → IsWholeCode (task.chip_of place) defect code
    → StandsUpTo task (place + 1) edge done (slice_set table place (Some Untestable)) pairs aims
turn_exhausted task place edge done table pairs aims defect code ahead stands none is whole =
    turn_untestable task place edge done table pairs aims defect ahead stands none is (whole_is_untestable (task.chip_of place) defect code whole)

-- the turn of a defect for which the search spent its budget
pub turn_spent : (task : Task) (place edge : ℕ) (done : List (List Bool)) (table : List (Option Verdict)) (pairs : List (List Bool)) (aims : List ℕ) (defect : ChipDefect) (code : List Token)
    → place < edge → StandsUpTo task place edge done table pairs aims → verdict_at table place ≡ None → IsDefectAt task place defect → IsSpentCode (task.chip_of place) defect task.budget code → IsCheckedSpent (task.chip_of place) defect task.budget code
    → StandsUpTo task (place + 1) edge done (slice_set table place (Some (Aborted code))) pairs aims
turn_spent task place edge done table pairs aims defect code ahead stands none is spent checked =
    let waiting = waiting_of task place edge done table pairs aims place defect stands ahead none is in
    turn_settled task place edge done table pairs aims defect (Aborted code) ahead stands is
    (record {
      rightly = record { exposable = waiting.exposable; undetected = waiting.undetected; spent = spent };
      checked = checked;
    })

-- a credit to an earlier pair stays the first
detection_stays : (chip : Chip) (defect : ChipDefect) (pairs more : List (List Bool)) (pair output : ℕ) → IsFirstDetection chip defect pairs pair output
    → IsFirstDetection chip defect (pairs ++ more) pair output
detection_stays chip defect pairs more pair output first = record {
  first_pair = first_stays (Detects chip defect) pairs more pair first.first_pair;
  first_output = some_stays pairs more (IsFirstOutput chip defect output) pair first.first_output;
}

-- one to the new pair, where no earlier one detected the defect
credited_new : (task : Task) (place : ℕ) (pairs : List (List Bool)) (aims : List ℕ) (pair : List Bool) (other : ℕ) (defect : ChipDefect) (new : Option Verdict)
    → length aims ≡ length pairs → IsExposableIn (task.chip_of other) defect → NoneDetects (task.chip_of other) defect pairs → (IsAmple task → place ≤ other)
    → IsCredit (task.chip_of other) pair (length pairs) defect new
    → IsEntry task (place + 1) (pairs ++ pair ∷ []) (aims ++ place ∷ []) other defect new
credited_new task place pairs aims pair other defect new one_each exposable none from credit =
    subst (IsEntry task (place + 1) (pairs ++ pair ∷ []) (aims ++ place ∷ []) other defect) (sym credit.credited) (record {
      exposable = exposable;
      first = record {
        first_pair = first_new (Detects (task.chip_of other) defect) pairs pair none credit.detects;
        first_output = some_new pairs pair (IsFirstOutput (task.chip_of other) defect credit.output) credit.first;
      };
      least = λ ample aim is. elim (entry_is aims place (length pairs) aim is) [
        | inl old ↦ let lt = slice_get_within aims (length pairs) aim old in absurd (omega arith)
        | inr new_aim ↦ let e : aim ≡ place = new_aim.1 in let le = from ample in omega arith
      ];
    })

-- one to a pair that is listed, at a place past all aims
credited_past : (task : Task) (turns : ℕ) (done : List (List Bool)) (aims : List ℕ) (pair : List Bool) (other : ℕ) (defect : ChipDefect) (new : Option Verdict)
    → ((number aim : ℕ) → slice_get aims number ≡ Some aim → aim ≤ other) → IsExposableIn (task.chip_of other) defect → NoneDetects (task.chip_of other) defect done
    → IsCredit (task.chip_of other) pair (length done) defect new → IsEntry task turns (done ++ pair ∷ []) aims other defect new
credited_past task turns done aims pair other defect new below exposable none credit =
    subst (IsEntry task turns (done ++ pair ∷ []) aims other defect) (sym credit.credited) (record {
      exposable = exposable;
      first = record {
        first_pair = first_new (Detects (task.chip_of other) defect) done pair none credit.detects;
        first_output = some_new done pair (IsFirstOutput (task.chip_of other) defect credit.output) credit.first;
      };
      least = λ ample aim is. below (length done) aim is;
    })

-- what the new pair makes of each entry
entry_found : (task : Task) (place : ℕ) (pairs : List (List Bool)) (aims : List ℕ) (pair : List Bool) (other : ℕ) (defect : ChipDefect) (old new : Option Verdict)
    → length aims ≡ length pairs → IsDefectAt task other defect → (other ≡ place → Detects (task.chip_of other) defect pair)
    → IsEntry task place pairs aims other defect old → IsAfterPair (task.chip_of other) pair (length pairs) defect old new
    → IsEntry task (place + 1) (pairs ++ pair ∷ []) (aims ++ place ∷ []) other defect new
entry_found task place pairs aims pair other defect None new one_each is here entry after = elim after [
  | inl credit ↦ credited_new task place pairs aims pair other defect new one_each entry.exposable entry.undetected (λ ample. entry.to_come) credit
  | inr kept ↦ subst (IsEntry task (place + 1) (pairs ++ pair ∷ []) (aims ++ place ∷ []) other defect) (sym kept.same) (record {
    to_come = (let far : other ≡ place → ⊥ = λ e. kept.undetected (here e) in let from = entry.to_come in omega arith);
    exposable = entry.exposable;
    undetected = All-push (λ x. ¬ (Detects (task.chip_of other) defect x)) pairs pair entry.undetected kept.undetected;
  })
]
entry_found task place pairs aims pair other defect (Some (Credited before output)) new one_each is here entry after =
    subst (IsEntry task (place + 1) (pairs ++ pair ∷ []) (aims ++ place ∷ []) other defect) (sym after) (record {
      exposable = entry.exposable;
      first = detection_stays (task.chip_of other) defect pairs (pair ∷ []) before output entry.first;
      least = λ ample aim is_aim. elim (entry_is aims place before aim is_aim) [
        | inl old ↦ entry.least ample aim old
        | inr past ↦ absurd (let lt = some_within pairs _ before entry.first.first_output in let e : before ≡ length aims = past.0 in omega arith)
      ];
    })
entry_found task place pairs aims pair other defect (Some Unexposable) new one_each is here entry after =
    subst (IsEntry task (place + 1) (pairs ++ pair ∷ []) (aims ++ place ∷ []) other defect) (sym after) entry
entry_found task place pairs aims pair other defect (Some Untestable) new one_each is here entry after =
    subst (IsEntry task (place + 1) (pairs ++ pair ∷ []) (aims ++ place ∷ []) other defect) (sym after) entry
entry_found task place pairs aims pair other defect (Some (Aborted code)) new one_each is here entry after = elim after [
  | inl credit ↦ credited_new task place pairs aims pair other defect new one_each entry.rightly.exposable entry.rightly.undetected
      (λ ample. absurd (not_ample task other defect code is entry.rightly.spent ample)) credit
  | inr kept ↦ subst (IsEntry task (place + 1) (pairs ++ pair ∷ []) (aims ++ place ∷ []) other defect) (sym kept.same) (record {
    rightly = record {
      exposable = entry.rightly.exposable;
      undetected = All-push (λ x. ¬ (Detects (task.chip_of other) defect x)) pairs pair entry.rightly.undetected kept.undetected;
      spent = entry.rightly.spent;
    };
    checked = entry.checked;
  })
]

-- the aims, with that of the new pair
pub aims_found : (task : Task) (place edge : ℕ) (done : List (List Bool)) (table : List (Option Verdict)) (pairs : List (List Bool)) (aims : List ℕ) (pair : List Bool)
    → place < edge → StandsUpTo task place edge done table pairs aims → verdict_at table place ≡ None → IsFoundAt task place pair
    → AreAims task (pairs ++ pair ∷ []) (aims ++ place ∷ [])
aims_found task place edge done table pairs aims pair ahead stands none found =
    let waiting = waiting_of task place edge done table pairs aims place found.defect stands ahead none found.is_defect in
    let detects = found_detects (task.chip_of place) task.budget found.defect pair found.found in
    let before = stands.aims_are in
    let one_each : length aims ≡ length pairs = before.one_each in
    record {
      one_each = length-append aims (place ∷ []) ∙ ap (λ (n : ℕ). n + 1) before.one_each ∙ sym (length-append pairs (pair ∷ []));
      ascending = λ k l low high lt is_low is_high. elim (entry_is aims place l high is_high) [
        | inl old ↦
            let l_within = slice_get_within aims l high old in
            elim (entry_is aims place k low is_low) [
              | inl also ↦ before.ascending k l low high lt also old
              | inr past ↦ absurd (let e : k ≡ length aims = past.0 in omega arith)
            ]
        | inr new ↦ elim (entry_is aims place k low is_low) [
          | inl also ↦ let e : high ≡ place = new.1 in let b = stands.aims_before k low also in omega arith
          | inr past ↦ absurd (let e : k ≡ length aims = past.0 in let f : l ≡ length aims = new.0 in omega arith)
        ]
      ];
      each = λ number aim is. elim (entry_is aims place number aim is) [
        | inl old ↦
            let aimed = before.each number aim old in
            record {
              pair = aimed.pair;
              is_pair = entry_stays pairs (pair ∷ []) number aimed.pair aimed.is_pair;
              found_at = aimed.found_at;
              first = first_stays (Detects (task.chip_of aim) aimed.found_at.defect) pairs (pair ∷ []) number aimed.first;
            }
        | inr new ↦
            subst (λ (n : ℕ). IsAim task (pairs ++ pair ∷ []) n aim) (sym (new.0 ∙ one_each))
            (subst (λ (a : ℕ). IsAim task (pairs ++ pair ∷ []) (length pairs) a) (sym new.1) (record {
              pair = pair;
              is_pair = entry_new pairs pair;
              found_at = found;
              first = first_new (Detects (task.chip_of place) found.defect) pairs pair waiting.undetected detects;
            }))
      ];
    }

-- a place that wasn't tried with the pair, when that was listed
entry_listed : (task : Task) (place : ℕ) (done : List (List Bool)) (aims : List ℕ) (other : ℕ) (defect : ChipDefect) (verdict : Option Verdict)
    → length done ≤ length aims → place < other → IsEntry task place done aims other defect verdict
    → IsEntry task (place + 1) done (aims ++ place ∷ []) other defect verdict
entry_listed task place done aims other defect None few past is = record { to_come = omega arith; exposable = is.exposable; undetected = is.undetected }
entry_listed task place done aims other defect (Some (Credited pair output)) few past is = record {
  exposable = is.exposable;
  first = is.first;
  least = λ ample aim is_aim. elim (entry_is aims place pair aim is_aim) [
    | inl old ↦ is.least ample aim old
    | inr new ↦ absurd (let lt = some_within done _ pair is.first.first_output in let e : pair ≡ length aims = new.0 in omega arith)
  ];
}
entry_listed task place done aims other defect (Some Unexposable) few past is = is
entry_listed task place done aims other defect (Some Untestable) few past is = is
entry_listed task place done aims other defect (Some (Aborted code)) few past is = is

-- the turn of a defect for which a pair was found, once that was credited before the edge
pub turn_found : (task : Task) (place edge : ℕ) (done : List (List Bool)) (table new : List (Option Verdict)) (pairs : List (List Bool)) (aims : List ℕ) (pair : List Bool)
    → place < edge → StandsUpTo task place edge done table pairs aims → verdict_at table place ≡ None → IsFoundAt task place pair
    → length pair ≡ bit_count task.chip → length pairs < MOST_PAIRS → CreditsIn task pair (length pairs) 0 edge table new
    → StandsUpTo task (place + 1) edge done new (pairs ++ pair ∷ []) (aims ++ place ∷ [])
turn_found task place edge done table new pairs aims pair ahead stands none found bits few credits =
    let detects = found_detects (task.chip_of place) task.budget found.defect pair found.found in
    let one_each : length aims ≡ length pairs = stands.aims_are.one_each in
    let some_done : length done ≤ length aims =
    (let l = ap length stands.pairs_are in let m = length-append done stands.rest in let e = one_each in omega arith) in
    record {
      as_many = credits.as_many ∙ stands.as_many;
      near = λ other d below is. entry_found task place pairs aims pair other d (verdict_at table other) (verdict_at new other) one_each is
          (λ e. subst (λ (k : ℕ). Detects (task.chip_of k) d pair) (sym e) (subst (λ (x : ChipDefect). Detects (task.chip_of place) x pair)
          (same_defect task place found.defect d found.is_defect (subst (λ (k : ℕ). IsDefectAt task k d) e is)) detects))
          (stands.near other d below is) (credits.each other d (omega arith) below is);
      far = λ other d from is. subst (IsEntry task (place + 1) done (aims ++ place ∷ []) other d) (sym (credits.others other (inr from)))
          (entry_listed task place done aims other d (verdict_at table other) some_done (omega arith) (stands.far other d from is));
      ahead = omega arith;
      edge_within = let few_edge = stands.edge_within in let e = credits.as_many in omega arith;
      rest = stands.rest ++ pair ∷ [];
      pairs_are = ap (λ (list : List (List Bool)). list ++ pair ∷ []) stands.pairs_are ∙ append_assoc done stands.rest (pair ∷ []);
      within = (let l = length-append pairs (pair ∷ []) in omega arith);
      bits = All-push (λ x. length x ≡ bit_count task.chip) pairs pair stands.bits bits;
      aims_are = aims_found task place edge done table pairs aims pair ahead stands none found;
      aims_before = λ number aim is. elim (entry_is aims place number aim is) [
        | inl old ↦ let b = stands.aims_before number aim old in omega arith
        | inr past ↦ let e : aim ≡ place = past.1 in omega arith
      ];
      aims_credited = λ number aim is. elim (entry_is aims place number aim is) [
        | inl old ↦
            let credit = stands.aims_credited number aim old in
            let aimed = (stands.aims_are.each number aim old).found_at in
            let before = stands.aims_before number aim old in
            record {
              output = credit.output;
              credited = subst (λ (v : Option Verdict). IsAfterPair (task.chip_of aim) pair (length pairs) aimed.defect v (verdict_at new aim)) credit.credited
                  (credits.each aim aimed.defect (omega arith) (omega arith) aimed.is_defect);
            }
        | inr past ↦
            let after = subst (λ (v : Option Verdict). IsAfterPair (task.chip_of place) pair (length pairs) found.defect v (verdict_at new place)) none
            (credits.each place found.defect (omega arith) ahead found.is_defect) in
            subst (λ (n : ℕ). IsCreditAt new n aim) (sym (past.0 ∙ one_each))
            (subst (λ (a : ℕ). IsCreditAt new (length pairs) a) (sym past.1)
            (elim after [
              | inl credit ↦ record { output = credit.output; credited = credit.credited }
              | inr kept ↦ absurd (kept.undetected detects)
            ]))
      ];
    }

-- what a pair makes of a place past the edge, which was tried with the pairs before it
entry_caught_up : (task : Task) (turns : ℕ) (done : List (List Bool)) (aims : List ℕ) (pair : List Bool) (other : ℕ) (defect : ChipDefect) (old new : Option Verdict)
    → ((number aim : ℕ) → slice_get aims number ≡ Some aim → aim ≤ other) → IsEntry task turns done aims other defect old
    → IsAfterPair (task.chip_of other) pair (length done) defect old new → IsEntry task turns (done ++ pair ∷ []) aims other defect new
entry_caught_up task turns done aims pair other defect None new below entry after = elim after [
  | inl credit ↦ credited_past task turns done aims pair other defect new below entry.exposable entry.undetected credit
  | inr kept ↦ subst (IsEntry task turns (done ++ pair ∷ []) aims other defect) (sym kept.same) (record {
    to_come = entry.to_come;
    exposable = entry.exposable;
    undetected = All-push (λ x. ¬ (Detects (task.chip_of other) defect x)) done pair entry.undetected kept.undetected;
  })
]
entry_caught_up task turns done aims pair other defect (Some (Credited before output)) new below entry after =
    subst (IsEntry task turns (done ++ pair ∷ []) aims other defect) (sym after) (record {
      exposable = entry.exposable;
      first = detection_stays (task.chip_of other) defect done (pair ∷ []) before output entry.first;
      least = entry.least;
    })
entry_caught_up task turns done aims pair other defect (Some Unexposable) new below entry after =
    subst (IsEntry task turns (done ++ pair ∷ []) aims other defect) (sym after) entry
entry_caught_up task turns done aims pair other defect (Some Untestable) new below entry after =
    subst (IsEntry task turns (done ++ pair ∷ []) aims other defect) (sym after) entry
entry_caught_up task turns done aims pair other defect (Some (Aborted code)) new below entry after = elim after [
  | inl credit ↦ credited_past task turns done aims pair other defect new below entry.rightly.exposable entry.rightly.undetected credit
  | inr kept ↦ subst (IsEntry task turns (done ++ pair ∷ []) aims other defect) (sym kept.same) (record {
    rightly = record {
      exposable = entry.rightly.exposable;
      undetected = All-push (λ x. ¬ (Detects (task.chip_of other) defect x)) done pair entry.rightly.undetected kept.undetected;
      spent = entry.rightly.spent;
    };
    checked = entry.checked;
  })
]

-- the places past the edge are tried with one listed pair more
pub caught_up : (task : Task) (turns edge : ℕ) (done : List (List Bool)) (table new : List (Option Verdict)) (pairs : List (List Bool)) (aims : List ℕ) (pair : List Bool)
    → StandsUpTo task turns edge done table pairs aims → slice_get pairs (length done) ≡ Some pair → CreditsIn task pair (length done) edge (length table) table new
    → StandsUpTo task turns edge (done ++ pair ∷ []) new pairs aims
caught_up task turns edge done table new pairs aims pair stands at credits =
    let next = next_of done stands.rest pair (sym (ap (λ (list : List (List Bool)). slice_get list (length done)) stands.pairs_are) ∙ at) in
    record {
      as_many = credits.as_many ∙ stands.as_many;
      near = λ other d below is. subst (IsEntry task turns pairs aims other d) (sym (credits.others other (inl below))) (stands.near other d below is);
      far = λ other d from is. entry_caught_up task turns done aims pair other d (verdict_at table other) (verdict_at new other)
          (λ number aim is_aim. let before = stands.aims_before number aim is_aim in let ahead = stands.ahead in omega arith)
          (stands.far other d from is)
          (credits.each other d from (let lt = slice_get_within (task.defects) other d is in let e = stands.as_many in omega arith) is);
      ahead = stands.ahead;
      edge_within = let few = stands.edge_within in let e = credits.as_many in omega arith;
      rest = next.0;
      pairs_are = stands.pairs_are ∙ ap (λ (list : List (List Bool)). done ++ list) next.1 ∙ sym (append_assoc done (pair ∷ []) next.0);
      within = stands.within;
      bits = stands.bits;
      aims_are = stands.aims_are;
      aims_before = stands.aims_before;
      aims_credited = λ number aim is.
          let credit = stands.aims_credited number aim is in
          let before = stands.aims_before number aim is in
          let ahead = stands.ahead in
          record { output = credit.output; credited = credits.others aim (inl (omega arith)) ∙ credit.credited };
    }

-- where all listed pairs were tried everywhere, it holds so of all places
pub stands_whole : (task : Task) (turns edge : ℕ) (done : List (List Bool)) (table : List (Option Verdict)) (pairs : List (List Bool)) (aims : List ℕ)
    → StandsUpTo task turns edge done table pairs aims → length done ≡ length pairs → StandsAfter task turns table pairs aims
stands_whole task turns edge done table pairs aims stands all =
    let same : done ≡ pairs = whole_of done stands.rest pairs stands.pairs_are all in
    record {
      as_many = stands.as_many;
      entries = λ place defect is. elim (cases_lt place edge) [
        | inl below ↦ stands.near place defect below is
        | inr from ↦ subst (λ (list : List (List Bool)). IsEntry task turns list aims place defect (verdict_at table place)) same (stands.far place defect from is)
      ];
      within = stands.within;
      bits = stands.bits;
      aims_are = stands.aims_are;
      aims_before = stands.aims_before;
      aims_credited = stands.aims_credited;
    }

-- then any edge will do
pub stands_split : (task : Task) (turns edge : ℕ) (table : List (Option Verdict)) (pairs : List (List Bool)) (aims : List ℕ)
    → StandsAfter task turns table pairs aims → turns ≤ edge → edge ≤ length table → StandsUpTo task turns edge pairs table pairs aims
stands_split task turns edge table pairs aims stands ahead within = record {
  as_many = stands.as_many;
  near = λ place defect below is. stands.entries place defect is;
  far = λ place defect from is. stands.entries place defect is;
  ahead = ahead;
  edge_within = within;
  rest = [];
  pairs_are = sym (append-nil pairs);
  within = stands.within;
  bits = stands.bits;
  aims_are = stands.aims_are;
  aims_before = stands.aims_before;
  aims_credited = stands.aims_credited;
}

-- before the first turn
screened_entry : (task : Task) (place : ℕ) (defect : ChipDefect) (verdict : Option Verdict) → IsScreenedEntry (task.chip_of place) defect verdict
    → IsEntry task 0 [] [] place defect verdict
screened_entry task place defect None is = record { to_come = omega arith; exposable = is; undetected = All-nil _ }
screened_entry task place defect (Some (Credited pair output)) is = absurd is
screened_entry task place defect (Some Unexposable) is = is
screened_entry task place defect (Some Untestable) is = absurd is
screened_entry task place defect (Some (Aborted code)) is = absurd is

pub no_turn : (task : Task) (table : List (Option Verdict)) → IsScreened task (length (task.defects)) table
    → StandsAfter task 0 table [] []
no_turn task table screened = record {
  as_many = screened.as_many;
  entries = λ place defect is. screened_entry task place defect (verdict_at table place)
      (screened.entries place defect (slice_get_within (task.defects) place defect is) is);
  within = omega arith;
  bits = All-nil _;
  aims_are = record { one_each = refl; ascending = λ k l low high lt is_low is_high. (let e : None ≡ Some low = is_low in cc); each = λ number aim is. cc };
  aims_before = λ pair aim is. cc;
  aims_credited = λ pair aim is. cc;
}
