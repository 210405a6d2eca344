-- The open candidates, pair by pair.
use Rattle.std.proofs.Common.{◌≡◌, ◌≢◌, ℕ, zero, suc, ◌+◌, ◌<◌, ◌≤◌, ◌^◌, ◌==◌, Bool, true, false, List, [], ◌∷◌, ◌∙◌}
use Rattle.std.proofs.Common.{length, ap, arith, refl, sym, subst, get_or, inl, inr}
use Rattle.std.specs.Prelude.{Some, None, slice_get, if◌then◌else◌}
use Rattle.std.specs.List.{All, AllPairs, Contains}
use Rattle.std.proofs.lemmas.Bool.{cases_eq, eqb-true, eqb-false, eq-eqb}
use Rattle.std.proofs.lemmas.List.Elements.{All-nil, All-cons, All-head, All-tail}
use Rattle.std.proofs.lemmas.Option.{slice_get-get_or, slice_get_within, get_or_from_slice_get}
use Rattle.ca_flat.specs.declared.chip_defect.ChipDefect.{ChipDefect}
use Rattle.ca_flat.specs.Detection.{trits_of}
use Rattle.ca_credit.specs.Defects.{Task, IsDefectAt}
use Rattle.ca_log.specs.declared.record.LogRecord.{LogRecord}
use Rattle.ca_diag.specs.declared.candidate.Candidate.{Candidate}
use Rattle.ca_diag.specs.Diagnosis.{IsContradicted, IsCandidate, Explains, IsPlaceOf}
use Rattle.ca_diag.specs.Candidates.{AreSoMany, Has, AreCandidates}
use Rattle.ca_diag.specs.code.Failing.{outputs_at}
use Rattle.ca_diag.specs.code.Judged.{FailsAt, IsAgainstSome, IsJudged}
use Rattle.ca_diag.specs.code.Pass.{IsContradictedBy, ExplainsBy, IsOpen, AreOpen, IsKept, IsPass, AreAll}
use Rattle.ca_diag.proofs.FailingLemmas.{at_within}
use Rattle.ca_diag.proofs.LawLemmas.{before_all, first_or, is_first, is_after}

-- what was logged for a pair
logged_at : (n : ℕ) (log : List LogRecord) (output : ℕ) → Contains (outputs_at n log) output
    → (here : LogRecord) × Contains log here × (here.pair ≡ n) × (here.output ≡ output)
logged_at n [] output has = absurd (let lt = has.1 in omega (arith, lt))
logged_at n (first ∷ log) output has = by (first.pair == n) refl (logged_at n log output) has
  where
    later : (here : LogRecord) × Contains log here × (here.pair ≡ n) × (here.output ≡ output)
        → (here : LogRecord) × Contains (first ∷ log) here × (here.pair ≡ n) × (here.output ≡ output)
    later found = (found.0, (suc found.1.0, (let lt = found.1.1 in omega (arith, lt)), found.1.2), found.2, found.3)

    by : (test : Bool) → (first.pair == n) ≡ test
        → (Contains (outputs_at n log) output → (here : LogRecord) × Contains log here × (here.pair ≡ n) × (here.output ≡ output))
        → Contains (if test then first.output ∷ outputs_at n log else outputs_at n log) output
        → (here : LogRecord) × Contains (first ∷ log) here × (here.pair ≡ n) × (here.output ≡ output)
    by true is rest (zero, lt, same) = (first, (0, omega arith, refl), eqb-true first.pair n is, same)
    by true is rest (suc k, lt, same) = later (rest (k, (let l = lt in omega (arith, l)), same))
    by false is rest has = later (rest has)

at_logged : (log : List LogRecord) (here : LogRecord) → Contains log here → Contains (outputs_at here.pair log) here.output
at_logged [] here has = absurd (let lt = has.1 in omega (arith, lt))
at_logged (first ∷ log) here (zero, lt, same) =
    by (first.pair == here.pair) (eq-eqb first.pair here.pair (ap (λ (r : LogRecord). r.pair) same))
  where
    by : (test : Bool) → test ≡ true → Contains (if test then first.output ∷ outputs_at here.pair log else outputs_at here.pair log) here.output
    by true is = (0, omega arith, ap (λ (r : LogRecord). r.output) same)
    by false is = absurd cc
at_logged (first ∷ log) here (suc k, lt, same) =
    by (first.pair == here.pair) (at_logged log here (k, (let l = lt in omega (arith, l)), same))
  where
    by : (test : Bool) → Contains (outputs_at here.pair log) here.output
        → Contains (if test then first.output ∷ outputs_at here.pair log else outputs_at here.pair log) here.output
    by true has = (suc has.0, (let l = has.1 in omega (arith, l)), has.2)
    by false has = has

-- a record of these two numbers
place : ℕ → ℕ → LogRecord
place pair output = record { pair = pair; output = output }

module _ (task : Task) (pairs : List (List Bool)) (log : List LogRecord) (n : ℕ) (pair : List Bool)
    (at : slice_get pairs n ≡ Some pair) where
  -- what is against the defect under the pair contradicts it
  contradicts : (defect : ChipDefect) → IsAgainstSome task.chip (trits_of pair) (outputs_at n log) defect
      → IsContradictedBy (n + 1) task.chip pairs log defect
  unfolding place
  contradicts defect some = record {
    contradicted = record {
      here = place n some.output;
      pair = pair;
      place = record { listed = at; observed = some.within };
      against = elim some.against [
        | inl (has, passes) ↦ inl (
          (
              let found = logged_at n log some.output has in
              let same : found.0 ≡ place n some.output = (λ j. record { pair = found.2 j; output = found.3 j }) in
              subst (Contains log) same found.1),
          passes,
        )
        | inr (hasnt, fails) ↦ inr ((λ has. hasnt (at_logged log (place n some.output) has)), fails)
      ];
    };
    before = omega arith;
  }

  -- where nothing is, it isn't contradicted by the pair either
  stands : (defect : ChipDefect) → ¬ (IsAgainstSome task.chip (trits_of pair) (outputs_at n log) defect)
      → ¬ (IsContradictedBy n task.chip pairs log defect) → ¬ (IsContradictedBy (n + 1) task.chip pairs log defect)
  stands defect none before not = elim (cases_eq not.contradicted.here.pair n) [
    | inl same ↦ none (here same)
    | inr differs ↦ before (record {
      contradicted = not.contradicted;
      before = let lt = not.before in omega (arith, lt, differs);
    })
  ]
    where
      here : not.contradicted.here.pair ≡ n → IsAgainstSome task.chip (trits_of pair) (outputs_at n log) defect
      here same =
          let both : Some not.contradicted.pair ≡ Some pair = sym not.contradicted.place.listed ∙ ap (slice_get pairs) same ∙ at in
          let one : not.contradicted.pair ≡ pair = cc in
          record {
            output = not.contradicted.here.output;
            within = not.contradicted.place.observed;
            against = elim not.contradicted.against [
              | inl (has, passes) ↦ inl (
                subst (λ (k : ℕ). Contains (outputs_at k log) not.contradicted.here.output) same (at_logged log not.contradicted.here has),
                subst (λ (p : List Bool). Rattle.ca_diag.specs.Diagnosis.PredictsPass task.chip defect p not.contradicted.here.output) one passes,
              )
              | inr (hasnt, fails) ↦ inr (
                (λ has.
                    let found = logged_at n log not.contradicted.here.output has in
                    let is : found.0 ≡ not.contradicted.here = (λ j. record { pair = (found.2 ∙ sym same) j; output = found.3 j }) in
                    hasnt (subst (Contains log) is found.1)),
                subst (λ (p : List Bool). Rattle.ca_diag.specs.Diagnosis.PredictsFail task.chip defect p not.contradicted.here.output) one fails,
              )
            ];
          }

  -- what the pair adds to the records that are explained
  counted : (defect : ChipDefect) (records : List LogRecord) (count more : ℕ)
      → All (λ here. here.output < length task.chip.outputs) records
      → AreSoMany (ExplainsBy n task.chip pairs defect) records count
      → AreSoMany (FailsAt task.chip defect (trits_of pair)) (outputs_at n records) more
      → AreSoMany (ExplainsBy (n + 1) task.chip pairs defect) records (count + more)
  counted defect [] count more within before adds = omega (arith, before, adds)
  counted defect (here ∷ records) count more within before adds =
      by (here.pair == n) refl
      (λ c m. counted defect records c m (All-tail (λ one. one.output < length task.chip.outputs) here records within)) before adds
    where
      observed : here.output < length task.chip.outputs
      observed = All-head (λ one. one.output < length task.chip.outputs) here records within

      later : ExplainsBy n task.chip pairs defect here → ExplainsBy (n + 1) task.chip pairs defect here
      later has = ((let lt = has.0 in omega (arith, lt)), has.1)

      back : here.pair ≢ n → ExplainsBy (n + 1) task.chip pairs defect here → ExplainsBy n task.chip pairs defect here
      back differs has = ((let lt = has.0 in omega (arith, lt, differs)), has.1)

      shown : here.pair ≡ n → FailsAt task.chip defect (trits_of pair) here.output → ExplainsBy (n + 1) task.chip pairs defect here
      shown is fails = (
        omega (arith, is),
        record {
          pair = pair;
          place = record { listed = ap (slice_get pairs) is ∙ at; observed = observed };
          fails = fails;
        },
      )

      hidden : here.pair ≡ n → ExplainsBy (n + 1) task.chip pairs defect here → FailsAt task.chip defect (trits_of pair) here.output
      hidden is has =
          let both : Some has.1.pair ≡ Some pair = sym has.1.place.listed ∙ ap (slice_get pairs) is ∙ at in
          let one : has.1.pair ≡ pair = cc in
          subst (λ (p : List Bool). FailsAt task.chip defect (trits_of p) here.output) one has.1.fails

      by : (test : Bool) → (here.pair == n) ≡ test
          → ((c m : ℕ) → AreSoMany (ExplainsBy n task.chip pairs defect) records c
          → AreSoMany (FailsAt task.chip defect (trits_of pair)) (outputs_at n records) m
          → AreSoMany (ExplainsBy (n + 1) task.chip pairs defect) records (c + m))
          → AreSoMany (ExplainsBy n task.chip pairs defect) (here ∷ records) count
          → AreSoMany (FailsAt task.chip defect (trits_of pair)) (if test then here.output ∷ outputs_at n records else outputs_at n records) more
          → AreSoMany (ExplainsBy (n + 1) task.chip pairs defect) (here ∷ records) (count + more)
      by true is rest (inl (has, k, next, some)) adds =
          absurd (let lt = has.0 in let same = eqb-true here.pair n is in omega (arith, lt, same))
      by true is rest (inr (hasnt, some)) (inl (fails, m, next, others)) =
          inl (shown (eqb-true here.pair n is) fails, count + m, omega (arith, next), rest count m some others)
      by true is rest (inr (hasnt, some)) (inr (passes, others)) =
          inr ((λ has. passes (hidden (eqb-true here.pair n is) has)), rest count more some others)
      by false is rest (inl (has, k, next, some)) adds = inl (later has, k + more, omega (arith, next), rest k more some adds)
      by false is rest (inr (hasnt, some)) adds =
          inr ((λ has. hasnt (back (eqb-false here.pair n is) has)), rest count more some adds)

  -- the records of the pair aren't explained yet
  explained_few : (defect : ChipDefect) (records : List LogRecord) (count : ℕ)
      → AreSoMany (ExplainsBy n task.chip pairs defect) records count → count + length (outputs_at n records) ≤ length records
  explained_few defect [] count before = omega (arith, before)
  explained_few defect (here ∷ records) count before = by (here.pair == n) refl (explained_few defect records) before
    where
      by : (test : Bool) → (here.pair == n) ≡ test
          → ((c : ℕ) → AreSoMany (ExplainsBy n task.chip pairs defect) records c → c + length (outputs_at n records) ≤ length records)
          → AreSoMany (ExplainsBy n task.chip pairs defect) (here ∷ records) count
          → count + length (if test then here.output ∷ outputs_at n records else outputs_at n records) ≤ length (here ∷ records)
      by true is rest (inl (has, k, next, some)) = absurd (let lt = has.0 in let same = eqb-true here.pair n is in omega (arith, lt, same))
      by true is rest (inr (hasnt, some)) = let few = rest count some in omega (arith, few)
      by false is rest (inl (has, k, next, some)) = let few = rest k some in omega (arith, few, next)
      by false is rest (inr (hasnt, some)) = let few = rest count some in omega (arith, few)

  -- one place has one defect
  one_defect : (given : ℕ) (one other : ChipDefect) → IsDefectAt task given one → IsDefectAt task given other → one ≡ other
  one_defect given one other first second =
      let both : Some one ≡ Some other = sym first ∙ second in cc

  -- what is kept is open after the pair too
  still_open : (one last : Candidate) → All (λ here. here.output < length task.chip.outputs) log → IsOpen n task pairs log one
      → IsKept task (trits_of pair) (outputs_at n log) one last → IsOpen (n + 1) task pairs log last
  still_open one last within is_open kept =
      let same = one_defect one.defect kept.defect is_open.defect kept.at is_open.at in
      let judged = subst (λ (d : ChipDefect). IsJudged task.chip (trits_of pair) (outputs_at n log) d (Some kept.more)) same kept.judged in
      record {
        defect = is_open.defect;
        at = ap (slice_get task.defects) kept.same ∙ is_open.at;
        stands = stands is_open.defect judged.0 is_open.stands;
        explains = subst (AreSoMany (ExplainsBy (n + 1) task.chip pairs is_open.defect) log) (sym kept.adds)
            (counted is_open.defect log one.explained kept.more within is_open.explains judged.1);
      }

  module _ (within : All (λ here. here.output < length task.chip.outputs) log) where
    abbrev Passes : List Candidate → List Candidate → Type 0
    Passes old new = IsPass task (trits_of pair) (outputs_at n log) old new

    pass_each : (old new : List Candidate) → All (IsOpen n task pairs log) old → Passes old new → All (IsOpen (n + 1) task pairs log) new
    pass_each [] new all pass = subst (All (IsOpen (n + 1) task pairs log)) (sym pass) (All-nil (IsOpen (n + 1) task pairs log))
    pass_each (one ∷ old) new all (inl (left, pass)) = pass_each old new (All-tail (IsOpen n task pairs log) one old all) pass
    pass_each (one ∷ old) new all (inr (kept, others, is, stays, pass)) =
        subst (All (IsOpen (n + 1) task pairs log)) (sym is)
        (All-cons (IsOpen (n + 1) task pairs log) kept others
        (still_open one kept within (All-head (IsOpen n task pairs log) one old all) stays)
        (pass_each old others (All-tail (IsOpen n task pairs log) one old all) pass))

    pass_has : (old new : List Candidate) (given : ℕ) → Passes old new → Has new given → Has old given
    pass_has [] new given pass has = subst (λ (list : List Candidate). Has list given) pass has
    pass_has (one ∷ old) new given (inl (left, pass)) has = is_after one old given (pass_has old new given pass has)
    pass_has (one ∷ old) new given (inr (kept, others, is, stays, pass)) has =
        first_or kept others given (subst (λ (list : List Candidate). Has list given) is has)
        (λ here. subst (Has (one ∷ old)) (sym stays.same ∙ here) (is_first one old))
        (λ later. is_after one old given (pass_has old others given pass later))

    -- one that comes before all others
    ordered_cons : (first : Candidate) (others : List Candidate) → ((given : ℕ) → Has others given → first.defect < given)
        → AllPairs (λ one other. one.defect < other.defect) others → AllPairs (λ one other. one.defect < other.defect) (first ∷ others)
    ordered_cons first others before rest zero zero d less below = absurd (omega (arith, less))
    ordered_cons first others before rest zero (suc j) d less below =
        before (get_or others j d).defect (record {
          k = j;
          one = get_or others j d;
          at = slice_get-get_or others j d (omega (arith, below));
          is = refl;
        })
    ordered_cons first others before rest (suc i) zero d less below = absurd (omega (arith, less))
    ordered_cons first others before rest (suc i) (suc j) d less below = rest i j d (omega (arith, less)) (omega (arith, below))

    pass_ordered : (old new : List Candidate) → AllPairs (λ one other. one.defect < other.defect) old → Passes old new
        → AllPairs (λ one other. one.defect < other.defect) new
    pass_ordered [] new ordered pass =
        subst (λ (list : List Candidate). AllPairs (λ one other. one.defect < other.defect) list) (sym pass) ordered
    pass_ordered (one ∷ old) new ordered (inl (left, pass)) =
        pass_ordered old new (λ i j d less below. ordered (suc i) (suc j) d (omega (arith, less)) (omega (arith, below))) pass
    pass_ordered (one ∷ old) new ordered (inr (kept, others, is, stays, pass)) =
        subst (λ (list : List Candidate). AllPairs (λ one other. one.defect < other.defect) list) (sym is)
        (ordered_cons kept others
        (λ given has.
        let before = before_all one old given ordered (pass_has old others given pass has) in
        subst (λ (d : ℕ). d < given) (sym stays.same) before)
        (pass_ordered old others (λ i j d less below. ordered (suc i) (suc j) d (omega (arith, less)) (omega (arith, below))) pass))

    pass_all : (old new : List Candidate) (given : ℕ) (defect : ChipDefect) → IsDefectAt task given defect
        → ¬ (IsContradictedBy (n + 1) task.chip pairs log defect) → Passes old new → Has old given → Has new given
    pass_all [] new given defect is stand pass has = absurd (let clash : None ≡ Some has.one = has.at in cc)
    pass_all (one ∷ old) new given defect is stand (inl (left, pass)) has =
        first_or one old given has
        (λ here.
        let same = one_defect given left.defect defect (subst (λ (p : ℕ). IsDefectAt task p left.defect) here left.at) is in
        absurd (stand (subst (IsContradictedBy (n + 1) task.chip pairs log) same (contradicts left.defect left.judged))))
        (λ later. pass_all old new given defect is stand pass later)
    pass_all (one ∷ old) new given defect is stand (inr (kept, others, made, stays, pass)) has =
        subst (λ (list : List Candidate). Has list given) (sym made)
        (first_or one old given has
        (λ here. subst (Has (kept ∷ others)) (stays.same ∙ here) (is_first kept others))
        (λ later. is_after kept others given (pass_all old others given defect is stand pass later)))

    -- after a pass with the pair
    pub pass_open : (old new : List Candidate) → AreOpen n task pairs log old → Passes old new → AreOpen (n + 1) task pairs log new
    pass_open old new are pass = record {
      each = pass_each old new are.each pass;
      all = λ given defect is stand.
          pass_all old new given defect is stand pass
          (are.all given defect is (λ not. stand (record {
            contradicted = not.contradicted;
            before = let lt = not.before in omega (arith, lt);
          })));
      in_order = pass_ordered old new are.in_order pass;
    }

  -- what a pass asks of the open candidates
  pub open_within : (list : List Candidate) → AreOpen n task pairs log list → All (λ one. one.defect < length task.defects) list
  open_within list are k d below =
      let one = are.each k d below in slice_get_within task.defects (get_or list k d).defect one.defect one.at

  pub open_few : (list : List Candidate) → length log < 2 ^ 32 → AreOpen n task pairs log list
      → All (λ one. one.explained + length (outputs_at n log) < 2 ^ 32) list
  open_few list few are k d below =
      let one = are.each k d below in
      let most = explained_few one.defect log (get_or list k d).explained one.explains in
      omega (arith, few, most)

-- so many have a property that is the same
count_same : (P Q : LogRecord → Type 0) (log : List LogRecord) (count : ℕ) → ((here : LogRecord) → P here → Q here)
    → ((here : LogRecord) → Q here → P here) → AreSoMany P log count → AreSoMany Q log count
count_same P Q [] count there back some = some
count_same P Q (here ∷ log) count there back (inl (has, others, is, rest)) =
    inl (there here has, others, is, count_same P Q log others there back rest)
count_same P Q (here ∷ log) count there back (inr (hasnt, rest)) =
    inr ((λ has. hasnt (back here has)), count_same P Q log count there back rest)

-- none has a property that none can have
count_none : (P : LogRecord → Type 0) (log : List LogRecord) → ((here : LogRecord) → ¬ (P here)) → AreSoMany P log 0
count_none P [] none = refl
count_none P (here ∷ log) none = inr (none here, count_none P log none)

module _ (task : Task) (pairs : List (List Bool)) (log : List LogRecord) where
  -- after all pairs
  pub all_passed : (list : List Candidate) → AreOpen (length pairs) task pairs log list → AreCandidates task pairs log list
  all_passed list are = record {
    each = λ k d below.
        let one = are.each k d below in
        record {
          defect = one.defect;
          at = one.at;
          stands = λ not. one.stands (record {
            contradicted = not;
            before = slice_get_within pairs not.here.pair not.pair not.place.listed;
          });
          explains = count_same (ExplainsBy (length pairs) task.chip pairs one.defect) (Explains task.chip pairs one.defect) log
              (get_or list k d).explained (λ here has. has.1)
              (λ here has. (slice_get_within pairs here.pair has.pair has.place.listed, has)) one.explains;
        };
    all = λ given defect is stand. are.all given defect is (λ not. stand not.contradicted);
    in_order = are.in_order;
  }

  -- before all pairs
  pub none_passed : (list : List Candidate) → AreAll (length task.defects) list → AreOpen 0 task pairs log list
  none_passed list are = record {
    each = λ k d below.
        let many = are.as_many in
        let at = are.each k (omega (arith, below, many)) in
        let is : get_or list k d ≡ record { defect = k; explained = 0 } = get_or_from_slice_get list k (record { defect = k; explained = 0 }) d at in
        let some = at_within task.defects k (omega (arith, below, many)) in
        subst (IsOpen 0 task pairs log) (sym is) (record {
          defect = some.0;
          at = some.1;
          stands = λ not. let lt = not.before in omega (arith, lt);
          explains = count_none (ExplainsBy 0 task.chip pairs some.0) log (λ here has. let lt = has.0 in omega (arith, lt));
        });
    all = λ given defect is stand.
        let within = slice_get_within task.defects given defect is in
        record { k = given; one = record { defect = given; explained = 0 }; at = are.each given within; is = refl };
    in_order = λ i j d less below.
        let many = are.as_many in
        let first : get_or list i d ≡ record { defect = i; explained = 0 } =
        get_or_from_slice_get list i (record { defect = i; explained = 0 }) d (are.each i (omega (arith, less, below, many))) in
        let second : get_or list j d ≡ record { defect = j; explained = 0 } =
        get_or_from_slice_get list j (record { defect = j; explained = 0 }) d (are.each j (omega (arith, below, many))) in
        subst (λ (one : Candidate). one.defect < (get_or list j d).defect) (sym first)
        (subst (λ (other : Candidate). i < other.defect) (sym second) less);
  }
