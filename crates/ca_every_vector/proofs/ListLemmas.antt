-- Lists of values that are the same but at listed nets.
use Rattle.std.specs.List.{Contains}
use Rattle.std.proofs.Common.{◌≡◌, ℕ, ◌+◌, ◌<◌, ◌≤◌, ◌⊎◌, List, length, inl, inr, sym, ◌∙◌, ap, arith, get_or, slice_set, Some}
use Rattle.std.specs.Prelude.{slice_get}
use Rattle.std.proofs.lemmas.Bool.{cases_eq}
use Rattle.std.proofs.lemmas.List.{get_or-set_same, get_or-set_other, get_or_default, same_lists}
use Rattle.std.proofs.lemmas.Option.{get_or_from_slice_get}
use Rattle.ca_net.specs.declared.trit.Trit.{Trit}
use Rattle.ca_net.specs.declared.trit.Trit.TheVariants.{X}
use Rattle.ca_net.specs.State.{value_at}

-- the net is at a place of the list from this one on
pub record IsListedFrom (nets : List ℕ) (from net : ℕ) : Type 0 where
  pub place : ℕ
  pub past : from ≤ place
  pub within : place < length nets
  pub on : get_or nets place net ≡ net

-- the values differ at listed nets alone
abbrev pub AreSameTo : List Trit → List Trit → List ℕ → ℕ → Type 0
AreSameTo values from nets place = (net : ℕ) → (value_at values net ≡ value_at from net) ⊎ IsListedFrom nets place net

pub same_first : (values from : List Trit) (nets : List ℕ) → ((net : ℕ) → (value_at values net ≡ value_at from net) ⊎ Contains nets net) → AreSameTo values from nets 0
same_first values from nets same net = elim (same net) [
  | inl e ↦ inl e
  | inr has ↦ inr (record { place = has.0; past = omega arith; within = has.1; on = has.2 })
]

pub same_more : (values new from : List Trit) (nets : List ℕ) (place net : ℕ) (value : Trit) → slice_get nets place ≡ Some net → new ≡ slice_set values net value → value ≡ value_at from net
    → net < length values → AreSameTo values from nets place → AreSameTo new from nets (place + 1)
same_more values new from nets place net value at put is known same n = elim (cases_eq n net) [
  | inl e ↦ inl (ap (λ list. value_at list n) put ∙ ap (value_at (slice_set values net value)) e ∙ get_or-set_same values net value X known ∙ is ∙ ap (value_at from) (sym e))
  | inr other ↦ elim (same n) [
    | inl e ↦ inl (ap (λ list. value_at list n) put ∙ get_or-set_other values net n value X other ∙ e)
    | inr listed ↦ elim (cases_eq listed.place place) [
      | inl e ↦ absurd (other (sym listed.on ∙ ap (λ k. get_or nets k n) e ∙ get_or_from_slice_get nets place net n at))
      | inr past ↦ inr (record { place = listed.place; past = (let p = listed.past in omega (arith, past)); within = listed.within; on = listed.on })
    ]
  ]
]

pub same_all : (values from : List Trit) (nets : List ℕ) (place : ℕ) → length nets ≤ place → length values ≡ length from → AreSameTo values from nets place → values ≡ from
same_all values from nets place past room same = same_lists values from room (λ k d low. elim (same k) [
  | inl e ↦ get_or_default values k d X low ∙ e ∙ sym (get_or_default from k d X (omega arith))
  | inr listed ↦ absurd (let p = listed.past in let w = listed.within in omega arith)
])
