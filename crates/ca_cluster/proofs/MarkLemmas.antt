-- Marks along an order, and chains.
use Rattle.std.proofs.Common.{◌≡◌, ℕ, zero, suc, ◌+◌, ◌<◌, ◌≤◌, ◌⊎◌, List, length, replicate, Bool, true, false}
use Rattle.std.proofs.Common.{inl, inr, refl, sym, ◌∙◌, ap, subst, arith}
use Rattle.std.specs.Prelude.{slice_get, Some}
use Rattle.std.proofs.lemmas.Bool.{cases_lt, false≢true}
use Rattle.std.proofs.lemmas.List.{length-replicate}
use Rattle.std.proofs.lemmas.Option.{slice_get_within}
use Rattle.ca_linked.specs.Linked.{LinkedChip, IsWired, IsLibrary, Feeds}
use Rattle.ca_linked.specs.Paths.{mark_at}
use Rattle.ca_linked.proofs.OrderLemmas.{place_of, contained_at}
use Rattle.ca_cluster.specs.code.Marks.{Spreads, AreLed, Onward, Back, IsAmongFirst, IsAmongLast, IsHot}

-- with one instance more that was seen: it leads to none that was seen before, nor to itself
module _ (Leads : ℕ → ℕ → Type 0) (Seen Now : ℕ → Type 0) (at old new : List Bool) (v : ℕ)
    (led : AreLed Leads Seen at old)
    (kept : (w : ℕ) → Seen w → Now w) (here : Now v) (only : (w : ℕ) → Now w → Seen w ⊎ (w ≡ v))
    (forward : (w : ℕ) → Now w → Leads v w → ⊥)
    (spread : Spreads (λ x. IsHot at old v × Leads v x) old new) where
  grown : (w : ℕ) → mark_at old w ≡ true → mark_at new w ≡ true
  grown w h = (spread.each w).1 (inl h)

  -- an instance that was seen is marked as before
  same_mark : (w : ℕ) → Now w → mark_at new w ≡ true → mark_at old w ≡ true
  same_mark w seen h = elim ((spread.each w).0 h) [ inl o ↦ o | inr n ↦ absurd (forward w seen n.1) ]

  pub led_more : AreLed Leads Now at new
  led_more = record {
    room = spread.room ∙ led.room;
    each = λ x. (
      λ h. elim ((spread.each x).0 h) [
        | inl o ↦
            let l = (led.each x).0 o in
            record {
              from = l.from;
              seen = kept l.from l.seen;
              leads = l.leads;
              marked = elim l.marked [ inl a ↦ inl a | inr m ↦ inr (grown l.from m) ];
            }
        | inr n ↦ record {
          from = v;
          seen = here;
          leads = n.1;
          marked = elim n.0 [ inl a ↦ inl a | inr m ↦ inr (grown v m) ];
        }
      ],
      λ l.
          let hot : IsHot at old l.from = elim l.marked [ inl a ↦ inl a | inr m ↦ inr (same_mark l.from l.seen m) ] in
          elim (only l.from l.seen) [
            | inl seen ↦ grown x ((led.each x).1 (record { from = l.from; seen = seen; leads = l.leads; marked = hot }))
            | inr e ↦ (spread.each x).1 (inr (subst (λ w. IsHot at old w × Leads w x) e (hot, l.leads)))
          ],
    );
  }

-- no instance was seen
pub led_none : (Leads : ℕ → ℕ → Type 0) (Seen : ℕ → Type 0) (at marks : List Bool) → length marks ≡ length at → ((x : ℕ) → mark_at marks x ≡ false)
    → ((w : ℕ) → Seen w → ⊥) → AreLed Leads Seen at marks
led_none Leads Seen at marks room none unseen = record {
  room = room;
  each = λ x. (
    λ h. absurd (false≢true (sym (none x) ∙ h)),
    λ l. absurd (unseen l.from l.seen),
  );
}

pub unmarked : (count x : ℕ) → mark_at (replicate count false) x ≡ false
unmarked zero x = refl
unmarked (suc count) zero = refl
unmarked (suc count) (suc x) = unmarked count x

-- the same were seen
pub led_same : (Leads : ℕ → ℕ → Type 0) (Seen Now : ℕ → Type 0) (at marks : List Bool) → ((w : ℕ) → Seen w → Now w) → ((w x : ℕ) → Leads w x → Now w → Seen w)
    → AreLed Leads Seen at marks → AreLed Leads Now at marks
led_same Leads Seen Now at marks into out led = record {
  room = led.room;
  each = λ x. (
    λ h. let l = (led.each x).0 h in record { from = l.from; seen = into l.from l.seen; leads = l.leads; marked = l.marked },
    λ l. (led.each x).1 (record { from = l.from; seen = out l.from x l.leads l.seen; leads = l.leads; marked = l.marked }),
  );
}

module _ (chip : LinkedChip) (is : IsWired chip) where
  -- an instance that feeds another is before it
  before : (k u w : ℕ) → slice_get chip.order k ≡ Some u → Feeds chip w u → (j : ℕ) → slice_get chip.order j ≡ Some w → j < k
  before k u w at feeds j here =
      let a = is.ordered.after k u w at feeds in
      let lt = a.1 in
      let e = is.ordered.once j a.0 w here a.2 in
      omega arith

  same_some : (a b : ℕ) → Some a ≡ Some b → a ≡ b
  same_some a b e = cc

  -- the order from its first on
  module _ (at old new : List Bool) (k v : ℕ) (here : slice_get chip.order k ≡ Some v)
      (led : AreLed (Onward chip) (IsAmongFirst chip k) at old) (spread : Spreads (λ x. IsHot at old v × Onward chip v x) old new) where
    pub onward_more : AreLed (Onward chip) (IsAmongFirst chip (k + 1)) at new
    onward_more = led_more (Onward chip) (IsAmongFirst chip k) (IsAmongFirst chip (k + 1)) at old new v led
        (λ w s. record { place = s.place; before = (let lt = s.before in omega arith); at = s.at })
        (record { place = k; before = omega arith; at = here })
        (λ w s. elim (cases_lt s.place k) [
          | inl lt ↦ inl (record { place = s.place; before = lt; at = s.at })
          | inr ge ↦
              let e : s.place ≡ k = let lt = s.before in omega arith in
              inr (same_some w v (sym s.at ∙ ap (slice_get chip.order) e ∙ here))
        ])
        (λ w s leads. let lt = before s.place w v s.at leads k here in let b = s.before in omega arith)
        spread

  -- the order from its last on
  module _ (at old new : List Bool) (k j v : ℕ) (sum : k + 1 + j ≡ length chip.order) (here : slice_get chip.order j ≡ Some v)
      (led : AreLed (Back chip) (IsAmongLast chip k) at old) (spread : Spreads (λ x. IsHot at old v × Back chip v x) old new) where
    pub back_more : AreLed (Back chip) (IsAmongLast chip (k + 1)) at new
    back_more = led_more (Back chip) (IsAmongLast chip k) (IsAmongLast chip (k + 1)) at old new v led
        (λ w s. record { place = s.place; past = (let le = s.past in omega arith); at = s.at })
        (record { place = j; past = omega arith; at = here })
        (λ w s. elim (cases_lt j s.place) [
          | inl lt ↦ inl (record { place = s.place; past = omega arith; at = s.at })
          | inr ge ↦
              let e : s.place ≡ j = let le = s.past in omega arith in
              inr (same_some w v (sym s.at ∙ ap (slice_get chip.order) e ∙ here))
        ])
        (λ w s leads. let lt = before j v w here leads s.place s.at in let b = s.past in omega arith)
        spread

  pub first_none : (at marks : List Bool) (n : ℕ) → length at ≡ n → marks ≡ replicate n false → AreLed (Onward chip) (IsAmongFirst chip 0) at marks
  first_none at marks n room none = led_none (Onward chip) (IsAmongFirst chip 0) at marks
      (ap (λ ms. length ms) none ∙ length-replicate n false ∙ sym room)
      (λ x. ap (λ ms. mark_at ms x) none ∙ unmarked n x) (λ w s. let lt = s.before in omega arith)

  pub last_none : (at marks : List Bool) (n : ℕ) → length at ≡ n → marks ≡ replicate n false → AreLed (Back chip) (IsAmongLast chip 0) at marks
  last_none at marks n room none = led_none (Back chip) (IsAmongLast chip 0) at marks
      (ap (λ ms. length ms) none ∙ length-replicate n false ∙ sym room)
      (λ x. ap (λ ms. mark_at ms x) none ∙ unmarked n x)
      (λ w s. let le = s.past in let lt = slice_get_within chip.order s.place w s.at in omega arith)

  -- each instance of the library was seen at the end
  pub onward_all : (at marks : List Bool) (k : ℕ) → length chip.order ≤ k → AreLed (Onward chip) (IsAmongFirst chip k) at marks → AreLed (Onward chip) (IsLibrary chip) at marks
  onward_all at marks k past led = led_same (Onward chip) (IsAmongFirst chip k) (IsLibrary chip) at marks
      (λ w s. (is.ordered.has w).0 (contained_at chip.order s.place w s.at))
      (λ w x leads library.
      let has = (is.ordered.has w).1 library in
      record { place = has.0; before = (let lt = has.1 in omega arith); at = place_of chip.order w has })
      led

  pub back_all : (at marks : List Bool) (k : ℕ) → length chip.order ≤ k → AreLed (Back chip) (IsAmongLast chip k) at marks → AreLed (Back chip) (IsLibrary chip) at marks
  back_all at marks k past led = led_same (Back chip) (IsAmongLast chip k) (IsLibrary chip) at marks
      (λ w s. (is.ordered.has w).0 (contained_at chip.order s.place w s.at))
      (λ w x leads library.
      let has = (is.ordered.has w).1 library in
      record { place = has.0; past = omega arith; at = place_of chip.order w has })
      led
