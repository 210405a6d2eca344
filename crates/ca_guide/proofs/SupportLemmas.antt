-- What is added to the outputs and to the bits.
use Rattle.std.proofs.Common.{ℕ, ◌+◌, ◌≡◌, ◌<◌, ◌⊎◌, inl, inr, Bool, true, false, List, [], ◌∷◌, ◌++◌, length}
use Rattle.std.proofs.Common.{get_or, take, Some, refl, sym, ◌∙◌, ap, subst, arith, eqb, eqb-true}
use Rattle.std.specs.Prelude.{slice_get}
use Rattle.std.specs.List.{Contains}
use Rattle.std.proofs.lemmas.List.{take_more}
use Rattle.std.proofs.lemmas.List.Elements.{Contains-push, Contains-push_cases, Contains-append_left}
use Rattle.ca_guide.specs.NumberSet.{Numbers, IsInsert}
use Rattle.ca_guide.specs.code.NumberSet.{AddsIf}
use Rattle.ca_guide.specs.code.Support.{AreObserved, AreSupportBits, IsLeadingBit, IsBitAfter, AddsBits}
use Rattle.std.proofs.lemmas.Option.{slice_get_within, slice_get-get_or, get_or_from_slice_get}
use Rattle.std.proofs.lemmas.Bool.{eqb-false}

pub adds : (is_new : Bool) (condition : Type 0) (number : ℕ) (old new : Numbers) → condition → IsInsert is_new old new number → AddsIf condition number old new
adds true condition number old new holds insert = record {
  bound = ap (λ set. set.bound) insert.1;
  members = λ other. (
    (λ there. elim (Contains-push_cases old.members number other (subst (λ l. Contains l other) longer there)) [
      | inl was ↦ inl was
      | inr same ↦ inr (same, holds)
    ]),
    (λ which. elim which [
      | inl was ↦ subst (λ l. Contains l other) (sym longer) (Contains-append_left old.members (number ∷ []) other was)
      | inr both ↦ subst (λ l. Contains l other) (sym longer) (subst (Contains (old.members ++ number ∷ [])) both.0 (Contains-push old.members number))
    ]),
  );
}
  where
    longer : new.members ≡ old.members ++ number ∷ []
    longer = ap (λ set. set.members) insert.1
adds false condition number old new holds insert = record {
  bound = ap (λ set. set.bound) insert.1;
  members = λ other. (
    (λ there. inl (subst (λ l. Contains l other) same there)),
    (λ which. elim which [
      | inl was ↦ subst (λ l. Contains l other) (sym same) was
      | inr both ↦ subst (λ l. Contains l other) (sym same) (subst (Contains old.members) both.0 insert.0)
    ]),
  );
}
  where
    same : new.members ≡ old.members
    same = ap (λ set. set.members) insert.1

pub observed_more : (observed : List Bool) (reached : List ℕ) (place net : ℕ) (old new : Numbers) → slice_get reached place ≡ Some net
    → AreObserved observed (take place reached) old.members → AddsIf (get_or observed net false ≡ true) net old new
    → AreObserved observed (take (place + 1) reached) new.members
observed_more observed reached place net old new here are added other = (to, from)
  where
    within : place < length reached
    within = slice_get_within reached place net here

    more : take (place + 1) reached ≡ take place reached ++ net ∷ []
    more = take_more reached place 0 within ∙ ap (λ n. take place reached ++ n ∷ []) (get_or_from_slice_get reached place net 0 here)

    to : Contains new.members other → Contains (take (place + 1) reached) other × (get_or observed other false ≡ true)
    to there = elim ((added.members other).0 there) [
      | inl was ↦ let both = (are other).0 was in
          (subst (λ l. Contains l other) (sym more) (Contains-append_left (take place reached) (net ∷ []) other both.0), both.1)
      | inr both ↦ (
        subst (λ l. Contains l other) (sym more) (subst (Contains (take place reached ++ net ∷ [])) both.0 (Contains-push (take place reached) net)),
        subst (λ n. get_or observed n false ≡ true) both.0 both.1,
      )
    ]

    from : Contains (take (place + 1) reached) other × (get_or observed other false ≡ true) → Contains new.members other
    from both = elim (Contains-push_cases (take place reached) net other (subst (λ l. Contains l other) more both.0)) [
      | inl was ↦ (added.members other).1 (inl ((are other).1 (was, both.1)))
      | inr same ↦ (added.members other).1 (inr (same, subst (λ n. get_or observed n false ≡ true) (sym same) both.1))
    ]

pub bits_none : (inputs leading : List ℕ) (from : ℕ) (old : List ℕ) → AddsBits inputs leading from 0 old old
bits_none inputs leading from old bit = (
  (λ there. inl there),
  (λ which. elim which [
    | inl there ↦ there
    | inr following ↦ absurd (let none : following.place < 0 = following.before in omega arith)
  ]),
)

pub bits_more : (inputs leading : List ℕ) (from place net bit : ℕ) (start : List ℕ) (old new : Numbers) → net ≡ get_or inputs place 0 → bit ≡ from + place
    → AddsBits inputs leading from place start old.members → AddsIf (Contains leading net) bit old new
    → AddsBits inputs leading from (place + 1) start new.members
bits_more inputs leading from place net bit start old new e at are added other = (to, back)
  where
    to : Contains new.members other → Contains start other ⊎ IsBitAfter inputs leading from (place + 1) other
    to there = elim ((added.members other).0 there) [
      | inl was ↦ elim ((are other).0 was) [
        | inl first ↦ inl first
        | inr following ↦ inr (record { place = following.place; before = (let before = following.before in omega arith); is_bit = following.is_bit; leads = following.leads })
      ]
      | inr both ↦ inr (record { place = place; before = omega arith; is_bit = sym both.0 ∙ at; leads = subst (Contains leading) e both.1 })
    ]

    back : Contains start other ⊎ IsBitAfter inputs leading from (place + 1) other → Contains new.members other
    back which = elim which [
      | inl first ↦ (added.members other).1 (inl ((are other).1 (inl first)))
      | inr following ↦ here following (eqb following.place place) refl
    ]
      where
        here : (following : IsBitAfter inputs leading from (place + 1) other) → (b : Bool) → eqb following.place place ≡ b → Contains new.members other
        here following true test =
            let same = eqb-true following.place place test in
            (added.members other).1 (inr (
              at ∙ ap (λ n. from + n) (sym same) ∙ sym following.is_bit,
              subst (Contains leading) (ap (λ n. get_or inputs n 0) same ∙ sym e) following.leads,
            ))
        here following false test =
            let differ = eqb-false following.place place test in
            let before : following.place < place + 1 = following.before in
            (added.members other).1 (inl ((are other).1 (inr (record {
              place = following.place;
              before = below following.place place before differ;
              is_bit = following.is_bit;
              leads = following.leads;
            }))))
          where
            below : (a b : ℕ) → a < b + 1 → (a ≡ b → ⊥) → a < b
            below a b less differ = omega (arith, differ)

-- the bits of both vectors are all
pub both_halves : (inputs leading mid bits : List ℕ) → AddsBits inputs leading 0 (length inputs) [] mid
    → AddsBits inputs leading (length inputs) (length inputs) mid bits → AreSupportBits inputs leading bits
both_halves inputs leading mid bits firsts lasts bit = (to, from)
  where
    to : Contains bits bit → IsLeadingBit inputs leading bit
    to there = elim ((lasts bit).0 there) [
      | inl was ↦ elim ((firsts bit).0 was) [
        | inl none ↦ absurd (let no : none.0 < 0 = none.1 in omega arith)
        | inr following ↦ record {
          place = following.place;
          net = get_or inputs following.place 0;
          is_input = slice_get-get_or inputs following.place 0 following.before;
          is_bit = inl (following.is_bit ∙ (omega arith));
          leads = following.leads;
        }
      ]
      | inr following ↦ record {
        place = following.place;
        net = get_or inputs following.place 0;
        is_input = slice_get-get_or inputs following.place 0 following.before;
        is_bit = inr following.is_bit;
        leads = following.leads;
      }
    ]

    from : IsLeadingBit inputs leading bit → Contains bits bit
    from of =
        let within = slice_get_within inputs of.place of.net of.is_input in
        let leads : Contains leading (get_or inputs of.place 0) = subst (Contains leading) (sym (get_or_from_slice_get inputs of.place of.net 0 of.is_input)) of.leads in
        elim of.is_bit [
          | inl first ↦ (lasts bit).1 (inl ((firsts bit).1 (inr (record { place = of.place; before = within; is_bit = first ∙ (omega arith); leads = leads }))))
          | inr last ↦ (lasts bit).1 (inr (record { place = of.place; before = within; is_bit = last; leads = leads }))
        ]
