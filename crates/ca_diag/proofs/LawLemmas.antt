-- The cause of a log is a candidate, and there is one list of candidates.
use Rattle.std.proofs.Common.{◌≡◌, ◌≢◌, ℕ, zero, suc, ◌<◌, Bool, List, [], ◌∷◌, ◌∙◌, ap, arith}
use Rattle.std.proofs.Common.{refl, sym, subst, get_or, inl, inr}
use Rattle.std.specs.Prelude.{Some, None, slice_get}
use Rattle.std.specs.List.{All, AllPairs}
use Rattle.std.proofs.lemmas.List.Elements.{All-head, All-tail}
use Rattle.std.proofs.lemmas.Option.{slice_get_within, get_or_from_slice_get}
use Rattle.ca_net.specs.declared.trit.Trit.{Trit}
use Rattle.ca_net.specs.declared.trit.Trit.TheVariants.{Zero, One, X}
use Rattle.ca_cell.specs.Exposes.{opposite_of}
use Rattle.ca_flat.specs.declared.chip_defect.ChipDefect.{ChipDefect}
use Rattle.ca_flat.specs.Chip.{Chip}
use Rattle.ca_credit.specs.Defects.{Task, IsDefectAt}
use Rattle.ca_log.specs.declared.record.LogRecord.{LogRecord}
use Rattle.ca_diag.specs.declared.candidate.Candidate.{Candidate}
use Rattle.ca_diag.specs.Diagnosis.{IsCandidate, Explains}
use Rattle.ca_diag.specs.Candidates.{AreSoMany, IsListed, Has, AreCandidates}
use Rattle.ca_diag.specs.Laws.{AreRuns, IsLogOf}

-- a definite value isn't its opposite
opposite_differs : (value : Trit) → value ≢ X → opposite_of value ≢ value
opposite_differs Zero definite same = let clash : One ≡ Zero = same in cc
opposite_differs One definite same = let clash : Zero ≡ One = same in cc
opposite_differs X definite same = definite refl

pub cause_stands : (chip : Chip) (pairs : List (List Bool)) (defect : ChipDefect) (ends : ℕ → List Trit) (log : List LogRecord)
    → AreRuns chip pairs defect ends → IsLogOf chip pairs ends log → IsCandidate chip pairs log defect
cause_stands chip pairs defect ends log runs logs not = elim not.against [
  | inl (has, passes) ↦
      (logs not.here not.pair passes.value not.place passes.good).0 has
      (passes.faulty.every_run (ends not.here.pair) (runs not.here.pair not.pair not.place.listed))
  | inr (hasnt, fails) ↦
      hasnt ((logs not.here not.pair fails.value not.place fails.good).1 (λ same.
      opposite_differs fails.value fails.good.definite
      (sym (fails.faulty.every_run (ends not.here.pair) (runs not.here.pair not.pair not.place.listed)) ∙ same)))
]

-- so many is one number
pub one_count : {T : Type 0} (P : T → Type 0) (xs : List T) (one other : ℕ) → AreSoMany P xs one → AreSoMany P xs other → one ≡ other
one_count P [] one other first second = first ∙ sym second
one_count P (x ∷ xs) one other (inl (has, n, is, rest)) (inl (also, m, too, more)) =
    is ∙ ap suc (one_count P xs n m rest more) ∙ sym too
one_count P (x ∷ xs) one other (inl (has, n, is, rest)) (inr (hasnt, more)) = absurd (hasnt has)
one_count P (x ∷ xs) one other (inr (hasnt, rest)) (inl (has, m, too, more)) = absurd (hasnt has)
one_count P (x ∷ xs) one other (inr (hasnt, rest)) (inr (nor, more)) = one_count P xs one other rest more

-- the first comes before each that is listed after it
pub before_all : (first : Candidate) (others : List Candidate) (place : ℕ)
    → AllPairs (λ one other. one.defect < other.defect) (first ∷ others) → Has others place → first.defect < place
before_all first others place ordered has =
    let below = slice_get_within others has.k has.one has.at in
    let less = ordered 0 (suc has.k) has.one (omega arith) (omega (arith, below)) in
    let same : get_or others has.k has.one ≡ has.one = get_or_from_slice_get others has.k has.one has.one has.at in
    subst (λ (p : ℕ). first.defect < p) (ap (λ (c : Candidate). c.defect) same ∙ has.is) less

-- what is listed is the first or after it
pub first_or : {T : Type 0} (first : Candidate) (others : List Candidate) (place : ℕ) → Has (first ∷ others) place
    → (first.defect ≡ place → T) → (Has others place → T) → T
first_or {T} first others place has here later = by has.k has.at
  where
    by : (k : ℕ) → slice_get (first ∷ others) k ≡ Some has.one → T
    by zero at = here (let same : first ≡ has.one = cc in ap (λ (c : Candidate). c.defect) same ∙ has.is)
    by (suc k) at = later (record { k = k; one = has.one; at = at; is = has.is })

pub is_first : (first : Candidate) (others : List Candidate) → Has (first ∷ others) first.defect
is_first first others = record { k = 0; one = first; at = refl; is = refl }

pub is_after : (first : Candidate) (others : List Candidate) (place : ℕ) → Has others place → Has (first ∷ others) place
is_after first others place has = record { k = suc has.k; one = has.one; at = has.at; is = has.is }

module _ (task : Task) (pairs : List (List Bool)) (log : List LogRecord) where
  -- of one defect there is one candidate
  same_candidate : (one other : Candidate) → IsListed task pairs log one → IsListed task pairs log other
      → one.defect ≡ other.defect → one ≡ other
  same_candidate one other first second same =
      let both : Some first.defect ≡ Some second.defect = sym first.at ∙ ap (slice_get task.defects) same ∙ second.at in
      let defect : first.defect ≡ second.defect = cc in
      let count = one_count (Explains task.chip pairs first.defect) log one.explained other.explained first.explains
      (subst (λ (d : ChipDefect). AreSoMany (Explains task.chip pairs d) log other.explained) (sym defect) second.explains) in
      (λ j. record { defect = same j; explained = count j })

  -- lists in order of the same defects are one
  same_lists : (one other : List Candidate) → All (IsListed task pairs log) one → All (IsListed task pairs log) other
      → AllPairs (λ one other. one.defect < other.defect) one → AllPairs (λ one other. one.defect < other.defect) other
      → ((place : ℕ) → Has one place → Has other place) → ((place : ℕ) → Has other place → Has one place) → one ≡ other
  same_lists [] [] first second ordered also there back = refl
  same_lists [] (b ∷ bs) first second ordered also there back =
      let has = back b.defect (is_first b bs) in absurd (let clash : None ≡ Some has.one = has.at in cc)
  same_lists (a ∷ one) [] first second ordered also there back =
      let has = there a.defect (is_first a one) in absurd (let clash : None ≡ Some has.one = has.at in cc)
  same_lists (a ∷ one) (b ∷ bs) first second ordered also there back =
      let same = heads in
      let head = same_candidate a b (All-head (IsListed task pairs log) a one first) (All-head (IsListed task pairs log) b bs second) same in
      let tail = same_lists one bs (All-tail (IsListed task pairs log) a one first) (All-tail (IsListed task pairs log) b bs second)
      (λ i j d less below. ordered (suc i) (suc j) d (omega (arith, less)) (omega (arith, below)))
      (λ i j d less below. also (suc i) (suc j) d (omega (arith, less)) (omega (arith, below)))
      (λ place has. first_or b bs place (there place (is_after a one place has))
      (λ is. absurd (let less = before_all a one place ordered has in omega (arith, less, is, same))) (λ later. later))
      (λ place has. first_or a one place (back place (is_after b bs place has))
      (λ is. absurd (let less = before_all b bs place also has in omega (arith, less, is, same))) (λ later. later)) in
      (λ j. head j ∷ tail j)
    where
      heads : a.defect ≡ b.defect
      heads =
          first_or b bs a.defect (there a.defect (is_first a one)) (λ is. sym is) (λ later.
          let less = before_all b bs a.defect also later in
          first_or a one b.defect (back b.defect (is_first b bs)) (λ is. is) (λ after.
          let more = before_all a one b.defect ordered after in absurd (omega (arith, less, more))))

  pub one_list : (one other : List Candidate) → AreCandidates task pairs log one → AreCandidates task pairs log other → one ≡ other
  one_list one other first second =
      same_lists one other first.each second.each first.in_order second.in_order (from one other first second) (from other one second first)
    where
      from : (one other : List Candidate) → AreCandidates task pairs log one → AreCandidates task pairs log other
          → (place : ℕ) → Has one place → Has other place
      from one other first second place has =
          let within = slice_get_within one has.k has.one has.at in
          let listed : IsListed task pairs log has.one =
          subst (IsListed task pairs log) (get_or_from_slice_get one has.k has.one has.one has.at) (first.each has.k has.one within) in
          second.all place listed.defect (subst (λ (p : ℕ). IsDefectAt task p listed.defect) has.is listed.at) listed.stands
