-- One more wire is numbered.
use Rattle.std.proofs.Common.{◌≡◌, ℕ, ◌+◌, ◌<◌, [], ◌∷◌, ◌++◌, length, inl, inr, refl, sym, ◌∙◌, ap, subst}
use Rattle.std.proofs.Common.{arith, get_or, length-append}
use Rattle.std.specs.Prelude.{Some, slice_get}
use Rattle.std.specs.List.{Contains}
use Rattle.std.proofs.lemmas.List.{get_or_append_left, get_or-append-add}
use Rattle.std.proofs.lemmas.List.Elements.{Contains-append_left, Contains-append_right}
use Rattle.std.proofs.lemmas.List.Quantifiers.{all_pairs_push}
use Rattle.std.proofs.lemmas.Option.{slice_get_within, slice_get-get_or}
use native.Mathlib.Decide.{ℕ_discrete}
use Rattle.ca_wiring.specs.Numbers.{WireMarks, NetNumbers, earliest_of, IsUsed, IsKnownBy, LeadsToEarliest}
use Rattle.ca_wiring.specs.Numbers.{AreNumbered}
use Rattle.ca_linked.proofs.WalkLemmas.{get-push_old, get-push_last, get-push_cases}

-- nothing is numbered yet
pub numbered_none : (marks : WireMarks) → AreNumbered marks 0 (record { nets = []; numbers = [] })
numbered_none marks = record {
  room = refl;
  few = omega arith;
  ascending = λ i j d less lt. absurd (omega (arith, lt));
  known = λ k w at. absurd (let lt = slice_get_within [] k w at in omega (arith, lt));
  has = λ w lt. absurd (omega (arith, lt));
  numbered = λ w lt. absurd (omega (arith, lt));
}

module _ (marks : WireMarks) (is : LeadsToEarliest marks) (w : ℕ) (within : w < length marks.earliest) (old : NetNumbers) (before : AreNumbered marks w old) where
  number_old : (number x : ℕ) → x < w → get_or (old.numbers ++ number ∷ []) x 0 ≡ get_or old.numbers x 0
  number_old number x lt = get_or_append_left old.numbers (number ∷ []) 0 x (let r = before.room in omega arith)

  number_new : (number : ℕ) → get_or (old.numbers ++ number ∷ []) w 0 ≡ number
  number_new number =
      ap (λ k. get_or (old.numbers ++ number ∷ []) k 0) (let r = before.room in let e : w ≡ length old.numbers + 0 = omega arith in e)
      ∙ get_or-append-add old.numbers (number ∷ []) 0 0

  length_new : (number : ℕ) → length (old.numbers ++ number ∷ []) ≡ w + 1
  length_new number = length-append old.numbers (number ∷ []) ∙ (let r = before.room in omega arith)

  -- a wire that is joined with an earlier one has its number
  pub numbered_joined : (first : ℕ) → first ≡ earliest_of marks w → first < w
      → AreNumbered marks (w + 1) (record { nets = old.nets; numbers = old.numbers ++ get_or old.numbers first 0 ∷ [] })
  numbered_joined first is_first lt = record {
    room = length_new (get_or old.numbers first 0);
    few = (let f = before.few in omega arith);
    ascending = before.ascending;
    known = λ k x at. let was = before.known k x at in ((let l = was.0 in omega arith), was.1);
    has = λ x less known. elim (ℕ_discrete x w) [
      | yes e ↦ absurd (let own : earliest_of marks w ≡ w = subst (λ y. earliest_of marks y ≡ y) e known.own in omega arith)
      | no ne ↦ before.has x (omega arith) known
    ];
    numbered = λ x less used. elim (ℕ_discrete x w) [
      | yes e ↦
          let own : earliest_of marks first ≡ first = ap (earliest_of marks) is_first ∙ is.own w within ∙ sym is_first in
          let same : earliest_of marks x ≡ first = ap (earliest_of marks) e ∙ sym is_first in
          let at = before.numbered first lt (subst (IsUsed marks) (same ∙ sym own) used) in
          ap (λ k. slice_get old.nets (get_or (old.numbers ++ get_or old.numbers first 0 ∷ []) k 0)) e
          ∙ ap (slice_get old.nets) (number_new (get_or old.numbers first 0))
          ∙ at ∙ ap Some (own ∙ sym same)
      | no ne ↦ ap (slice_get old.nets) (number_old (get_or old.numbers first 0) x (omega arith)) ∙ before.numbered x (omega arith) used
    ];
  }

  -- a wire that is its own earliest, and isn't used, is on no net
  pub numbered_unused : (number : ℕ) → earliest_of marks w ≡ w → (IsUsed marks w → ⊥)
      → AreNumbered marks (w + 1) (record { nets = old.nets; numbers = old.numbers ++ number ∷ [] })
  numbered_unused number own unused = record {
    room = length_new number;
    few = (let f = before.few in omega arith);
    ascending = before.ascending;
    known = λ k x at. let was = before.known k x at in ((let l = was.0 in omega arith), was.1);
    has = λ x less known. elim (ℕ_discrete x w) [
      | yes e ↦ absurd (unused (subst (IsUsed marks) e known.used))
      | no ne ↦ before.has x (omega arith) known
    ];
    numbered = λ x less used. elim (ℕ_discrete x w) [
      | yes e ↦ absurd (unused (subst (IsUsed marks) (ap (earliest_of marks) e ∙ own) used))
      | no ne ↦ ap (slice_get old.nets) (number_old number x (omega arith)) ∙ before.numbered x (omega arith) used
    ];
  }

  -- a wire that is its own earliest, and is used, is the next net
  pub numbered_net : earliest_of marks w ≡ w → IsUsed marks w
      → AreNumbered marks (w + 1) (record { nets = old.nets ++ w ∷ []; numbers = old.numbers ++ length old.nets ∷ [] })
  numbered_net own used = record {
    room = length_new (length old.nets);
    few = (let f = before.few in let l = length-append old.nets (w ∷ []) in omega arith);
    ascending = all_pairs_push (λ a b. a < b) old.nets w before.ascending (λ k d lt.
        let at = slice_get-get_or old.nets k d lt in (before.known k (get_or old.nets k d) at).0);
    known = λ k x at. elim (get-push_cases old.nets w k x at) [
      | inl there ↦ let was = before.known k x there in ((let l = was.0 in omega arith), was.1)
      | inr new ↦ ((let e = new.1 in omega arith), subst (IsKnownBy marks) new.1 (record { own = own; used = used }))
    ];
    has = λ x less known. elim (ℕ_discrete x w) [
      | yes e ↦ subst (Contains (old.nets ++ w ∷ [])) (sym e) (Contains-append_right old.nets (w ∷ []) w (0, omega arith, refl))
      | no ne ↦ Contains-append_left old.nets (w ∷ []) x (before.has x (omega arith) known)
    ];
    numbered = λ x less is_used. elim (ℕ_discrete x w) [
      | yes e ↦
          ap (λ k. slice_get (old.nets ++ w ∷ []) (get_or (old.numbers ++ length old.nets ∷ []) k 0)) e
          ∙ ap (slice_get (old.nets ++ w ∷ [])) (number_new (length old.nets))
          ∙ get-push_last old.nets w ∙ ap Some (sym (ap (earliest_of marks) e ∙ own))
      | no ne ↦
          ap (slice_get (old.nets ++ w ∷ [])) (number_old (length old.nets) x (omega arith))
          ∙ get-push_old old.nets w (get_or old.numbers x 0) (earliest_of marks x) (before.numbered x (omega arith) is_used)
    ];
  }
