-- The outputs that were logged, pair by pair, and their marks.
use Rattle.std.proofs.Common.{◌≡◌, ◌≢◌, ℕ, zero, suc, ◌+◌, ◌<◌, ◌≤◌, ◌==◌, Bool, true, false, List, [], ◌∷◌, ◌++◌, ◌∙◌}
use Rattle.std.proofs.Common.{length, take, ap, arith, refl, sym, subst, get_or, inl, inr}
use Rattle.std.specs.Prelude.{Some, slice_get, slice_set, slice_index_or, if◌then◌else◌}
use Rattle.std.specs.List.{All, Contains}
use Rattle.std.proofs.lemmas.Bool.{eq-eqb, ne_eqb}
use Rattle.std.proofs.lemmas.List.{take_more, take_all, length-set, get_or-set_same, get_or-set_other}
use Rattle.std.proofs.lemmas.List.Elements.{All-nil, All-cons, All-head, All-tail, Contains-push, Contains-push_cases, Contains-append_left}
use Rattle.std.proofs.lemmas.Option.{slice_get_within, get_or_from_slice_get}
use native.Mathlib.Decide.{ℕ_discrete}
use Rattle.ca_log.specs.declared.record.LogRecord.{LogRecord}
use Rattle.ca_diag.specs.code.Failing.{outputs_at, AreByPair, AreMarked}
use Rattle.ca_diag.specs.Candidates.{AreLoggedWithin}

-- one record more
at_push : (pair : ℕ) (log : List LogRecord) (here : LogRecord)
    → outputs_at pair (log ++ here ∷ []) ≡ (if here.pair == pair then outputs_at pair log ++ here.output ∷ [] else outputs_at pair log)
at_push pair [] here = refl
at_push pair (first ∷ log) here = by (first.pair == pair) (here.pair == pair) (at_push pair log here)
  where
    by : (one other : Bool)
        → outputs_at pair (log ++ here ∷ []) ≡ (if other then outputs_at pair log ++ here.output ∷ [] else outputs_at pair log)
        → (if one then first.output ∷ outputs_at pair (log ++ here ∷ []) else outputs_at pair (log ++ here ∷ []))
        ≡ (if other then (if one then first.output ∷ outputs_at pair log else outputs_at pair log) ++ here.output ∷ []
        else (if one then first.output ∷ outputs_at pair log else outputs_at pair log))
    by true true rest = ap (λ (xs : List ℕ). first.output ∷ xs) rest
    by true false rest = ap (λ (xs : List ℕ). first.output ∷ xs) rest
    by false true rest = rest
    by false false rest = rest

-- a record of the pair comes last, and one of another pair adds nothing
at_same : (pair : ℕ) (log : List LogRecord) (here : LogRecord) → here.pair ≡ pair
    → outputs_at pair (log ++ here ∷ []) ≡ outputs_at pair log ++ here.output ∷ []
at_same pair log here is =
    at_push pair log here
    ∙ ap (λ (test : Bool). if test then outputs_at pair log ++ here.output ∷ [] else outputs_at pair log) (eq-eqb here.pair pair is)

at_other : (pair : ℕ) (log : List LogRecord) (here : LogRecord) → here.pair ≢ pair
    → outputs_at pair (log ++ here ∷ []) ≡ outputs_at pair log
at_other pair log here differs =
    at_push pair log here
    ∙ ap (λ (test : Bool). if test then outputs_at pair log ++ here.output ∷ [] else outputs_at pair log) (ne_eqb here.pair pair differs)

-- a further record is put to those of its pair
pub row_more : (pairs k : ℕ) (log : List LogRecord) (here : LogRecord) (old new : List (List ℕ)) → slice_get log k ≡ Some here
    → here.pair < pairs → AreByPair pairs (take k log) old
    → new ≡ slice_set old here.pair (slice_index_or old here.pair [] ++ here.output ∷ []) → AreByPair pairs (take (k + 1) log) new
row_more pairs k log here old new at within are is = record {
  as_many = ap length is ∙ (length-set old here.pair (slice_index_or old here.pair [] ++ here.output ∷ []) ∙ are.as_many);
  each = λ pair below.
      ap (λ (rows : List (List ℕ)). get_or rows pair []) is
      ∙ (by pair below ∙ ap (outputs_at pair) (sym one_more));
}
  where
    one_more : take (k + 1) log ≡ take k log ++ here ∷ []
    one_more = take_more log k here (slice_get_within log k here at)
        ∙ ap (λ (one : LogRecord). take k log ++ one ∷ []) (get_or_from_slice_get log k here here at)

    value : List ℕ
    value = get_or old here.pair [] ++ here.output ∷ []

    by : (pair : ℕ) → pair < pairs
        → get_or (slice_set old here.pair (get_or old here.pair [] ++ here.output ∷ [])) pair [] ≡ outputs_at pair (take k log ++ here ∷ [])
    by pair below = elim (ℕ_discrete here.pair pair) [
      | yes same ↦
          let many = are.as_many in
          ap (λ (p : ℕ). get_or (slice_set old here.pair (get_or old here.pair [] ++ here.output ∷ [])) p []) (sym same)
          ∙ (get_or-set_same old here.pair (get_or old here.pair [] ++ here.output ∷ []) [] (omega (arith, within, many))
          ∙ ap (λ (xs : List ℕ). xs ++ here.output ∷ []) (ap (λ (p : ℕ). get_or old p []) same ∙ are.each pair below)
          ∙ sym (at_same pair (take k log) here same))
      | no differs ↦
          get_or-set_other old here.pair pair (get_or old here.pair [] ++ here.output ∷ []) [] (λ is. differs (sym is))
          ∙ (are.each pair below ∙ sym (at_other pair (take k log) here differs))
    ]

-- one more output is marked
pub mark_more : (k output : ℕ) (outputs : List ℕ) (marks : List Bool) → slice_get outputs k ≡ Some output
    → output < length marks → AreMarked (take k outputs) marks
    → AreMarked (take (k + 1) outputs) (slice_set marks output true)
mark_more k output outputs marks at within are other below = elim (ℕ_discrete other output) [
  | yes same ↦ (
    λ marked. subst (Contains (take (k + 1) outputs)) (sym same) (subst (λ (xs : List ℕ). Contains xs output) (sym one_more) (Contains-push (take k outputs) output)),
    λ has. ap (λ (o : ℕ). get_or (slice_set marks output true) o false) same ∙ get_or-set_same marks output true false within,
  )
  | no differs ↦
      let kept = get_or-set_other marks output other true false differs in
      let long = length-set marks output true in
      let was = are other (omega (arith, below, long)) in (
        λ marked. subst (λ (xs : List ℕ). Contains xs other) (sym one_more) (Contains-append_left (take k outputs) (output ∷ []) other (was.0 (sym kept ∙ marked))),
        λ has. kept ∙ elim (Contains-push_cases (take k outputs) output other (subst (λ (xs : List ℕ). Contains xs other) one_more has)) [
          | inl before ↦ was.1 before
          | inr is ↦ absurd (differs (sym is))
        ],
      )
]
  where
    one_more : take (k + 1) outputs ≡ take k outputs ++ output ∷ []
    one_more = take_more outputs k output (slice_get_within outputs k output at)
        ∙ ap (λ (one : ℕ). take k outputs ++ one ∷ []) (get_or_from_slice_get outputs k output output at)

pub all_marked : (k : ℕ) (outputs : List ℕ) (marks : List Bool) → length outputs ≤ k → AreMarked (take k outputs) marks
    → AreMarked outputs marks
all_marked k outputs marks past are = subst (λ (xs : List ℕ). AreMarked xs marks) (take_all k outputs past) are

-- what all entries keep, the one at a place keeps
pub of_get : {T : Type 0} (P : T → Type 0) (xs : List T) (k : ℕ) (x : T) → All P xs → slice_get xs k ≡ Some x → P x
of_get {T} P xs k x all at = subst P (get_or_from_slice_get xs k x x at) (all k x (slice_get_within xs k x at))

-- there is an entry at each place within
pub at_within : {T : Type 0} (xs : List T) (k : ℕ) → k < length xs → (x : T) × (slice_get xs k ≡ Some x)
at_within [] k below = absurd (omega (arith, below))
at_within (x ∷ xs) zero below = (x, refl)
at_within (x ∷ xs) (suc k) below = at_within xs k (omega (arith, below))

-- what was logged for a pair is an output
pub outputs_within : (pairs outputs pair : ℕ) (log : List LogRecord) → AreLoggedWithin pairs outputs log
    → All (λ output. output < outputs) (outputs_at pair log)
outputs_within pairs outputs pair [] all = All-nil (λ output. output < outputs)
outputs_within pairs outputs pair (here ∷ log) all =
    by (here.pair == pair)
    (outputs_within pairs outputs pair log (All-tail (λ one. (one.pair < pairs) × (one.output < outputs)) here log all))
  where
    by : (test : Bool) → All (λ output. output < outputs) (outputs_at pair log)
        → All (λ output. output < outputs) (if test then here.output ∷ outputs_at pair log else outputs_at pair log)
    by true rest = All-cons (λ output. output < outputs) here.output (outputs_at pair log)
        (All-head (λ one. (one.pair < pairs) × (one.output < outputs)) here log all).1 rest
    by false rest = rest
