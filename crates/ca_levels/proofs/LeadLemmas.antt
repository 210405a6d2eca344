-- What one link leads on.
use Rattle.std.proofs.Common.{◌≡◌, ℕ, zero, suc, [], ◌∷◌, ◌+◌, ◌-◌, ◌*◌, ◌<◌, ◌≤◌, ◌^◌, ◌⊎◌, ◌&&◌, ◌||◌, not, List, Bool, true, false}
use Rattle.std.proofs.Common.{length, inl, inr, refl, sym, ◌∙◌, ap, subst, arith, get_or, set, get_or-set_same}
use Rattle.std.proofs.Common.{get_or-set_other, length-set}
use Rattle.std.specs.Prelude.{Some, slice_get}
use Rattle.std.specs.List.{sum, All}
use Rattle.std.proofs.lemmas.Option.{slice_get-get_or, get_or_from_slice_get}
use Rattle.ca_net.specs.declared.device.DeviceKind.TheVariants.{N}
use Rattle.ca_net.specs.Circuit.{NamesWithin}
use Rattle.std.proofs.lemmas.List.Sums.{sum_by-set, sum_by-le}
use Rattle.std.proofs.lemmas.List.Elements.{All-from_get_or}
use native.Mathlib.Decide.{ℕ_discrete}
use Rattle.ca_net.specs.declared.device.Device.{Device}
use Rattle.ca_net.specs.Conduction.{Links}
use Rattle.ca_planes.specs.Plane.{has_lane, lane_at}
use Rattle.ca_levels.specs.code.Come.{Comes, Onward, Leads, RaisesSome, Raises, IsClosedAt, LeadsNoMore, IsRound, RaiseBoth}

-- what stands for no device
abbrev pub no_device : Device
no_device = record { kind = N; strength = 0; gate = record { 0 = 0 }; a = record { 0 = 0 }; b = record { 0 = 0 } }

-- a lane that is there was there, or came
came : (a b c d : Bool) → (a || (b && (c && not d))) ≡ true → (a ≡ true) ⊎ ((b ≡ true) × (c ≡ true) × (d ≡ false))
came true b c d e = inl refl
came false true true false e = inr (refl, refl, refl)
came false true true true e = absurd (let no : ⊥ = cc in no)
came false true false d e = absurd (let no : ⊥ = cc in no)
came false false c d e = absurd (let no : ⊥ = cc in no)

stayed : (a b c d : Bool) → a ≡ true → (a || (b && (c && not d))) ≡ true
stayed true b c d e = refl
stayed false b c d e = cc

comes_by : (a b c d : Bool) → b ≡ true → c ≡ true → d ≡ false → (a || (b && (c && not d))) ≡ true
comes_by true b c d e f g = refl
comes_by false true true false e f g = refl
comes_by false false c d e f g = cc
comes_by false true false d e f g = cc
comes_by false true true true e f g = cc

-- a list in which an entry is put where it stands
pub set_back : (xs : List ℕ) (n : ℕ) → set xs n (get_or xs n 0) ≡ xs
set_back [] n = refl
set_back (x ∷ xs) zero = refl
set_back (x ∷ xs) (suc n) = ap (λ ys. x ∷ ys) (set_back xs n)

module _ (devices : List Device) (links blocked : List ℕ) where
  pub raises_some_none : (old : List ℕ) → RaisesSome devices links blocked old old
  raises_some_none old = record { room = refl; kept = λ lane n h. h; come = λ first are. are; more = omega arith }

  pub raises_none : (old : List ℕ) → Raises devices links blocked old old false
  raises_none old = record { some = raises_some_none old; rises = λ e. cc; same = λ e. refl }

  pub raises_some_more : (old mid new : List ℕ) → RaisesSome devices links blocked old mid → RaisesSome devices links blocked mid new
      → RaisesSome devices links blocked old new
  raises_some_more old mid new h q =
      let low : sum old ≤ sum mid = h.more in
      let up : sum mid ≤ sum new = q.more in
      record {
        room = q.room ∙ h.room;
        kept = λ lane n has. q.kept lane n (h.kept lane n has);
        come = λ first are. q.come first (h.come first are);
        more = omega arith;
      }

  -- strengths that rose, or didn't, twice
  pub raises_more : (old mid new : List ℕ) (a b : Bool) → Raises devices links blocked old mid a → Raises devices links blocked mid new b
      → Raises devices links blocked old new (a || b)
  raises_more old mid new true b h q = record {
    some = raises_some_more old mid new h.some q.some;
    rises = λ _. let less : sum old < sum mid = h.rises refl in let up : sum mid ≤ sum new = q.some.more in omega arith;
    same = λ e. cc;
  }
  raises_more old mid new false b h q = record {
    some = raises_some_more old mid new h.some q.some;
    rises = λ e. let low : sum old ≤ sum mid = h.some.more in let less : sum mid < sum new = q.rises e in omega arith;
    same = λ e. q.same e ∙ h.same refl;
  }

  module _ (i : ℕ) (d : Device) (is_device : slice_get devices i ≡ Some d) (from to : ℕ) (links_ends : Links d from to)
      (old new : List ℕ) (rose : Bool) (within : to < length old) (h : Leads (get_or links i 0) from to blocked old new rose) where
    put_same : get_or new to 0 ≡ h.word
    put_same = ap (λ xs. get_or xs to 0) h.put ∙ get_or-set_same old to h.word 0 within

    put_other : (n : ℕ) → (n ≡ to → ⊥) → get_or new n 0 ≡ get_or old n 0
    put_other n ne = ap (λ xs. get_or xs n 0) h.put ∙ get_or-set_other old to n h.word 0 ne

    more_at : sum old + h.word ≡ sum new + get_or old to 0
    more_at =
        let e : sum (set old to h.word) + get_or old to 0 ≡ sum old + h.word = sum_by-set (λ x. x) old to h.word 0 within in
        let is : sum new ≡ sum (set old to h.word) = ap sum h.put in omega arith

    pub leads_raises : Raises devices links blocked old new rose
    leads_raises = record {
      some = record {
        room = ap length h.put ∙ length-set old to h.word;
        kept = λ lane n has. elim (ℕ_discrete n to) [
          | yes e ↦
              let was : lane_at old to lane ≡ true = subst (λ m. lane_at old m lane ≡ true) e has in
              subst (λ m. lane_at new m lane ≡ true) (sym e)
              (ap (λ w. has_lane w lane) put_same ∙ h.lanes lane
              ∙ stayed (lane_at old to lane) (lane_at old from lane) (lane_at links i lane) (lane_at blocked to lane) was)
          | no ne ↦ ap (λ w. has_lane w lane) (put_other n ne) ∙ has
        ];
        come = λ first are lane n has. elim (ℕ_discrete n to) [
          | yes e ↦
              let at : lane_at new to lane ≡ true = subst (λ m. lane_at new m lane ≡ true) e has in
              subst (Comes devices links blocked first lane) (sym e)
              (elim (came (lane_at old to lane) (lane_at old from lane) (lane_at links i lane) (lane_at blocked to lane)
              (sym (h.lanes lane) ∙ sym (ap (λ w. has_lane w lane) put_same) ∙ at)) [
                | inl was ↦ are lane to was
                | inr by ↦ Onward from i d (are lane from by.0) is_device by.1 links_ends by.2
              ])
          | no ne ↦ are lane n (sym (ap (λ w. has_lane w lane) (put_other n ne)) ∙ has)
        ];
        more = let le : get_or old to 0 ≤ h.word = h.more in let e = more_at in omega (arith, e, le);
      };
      rises = λ t. let lt : get_or old to 0 < h.word = h.rises t in let e = more_at in omega (arith, e, lt);
      same = λ f. h.put ∙ ap (set old to) (h.same f) ∙ set_back old to;
    }

    -- where nothing rose, what the link leads to is there
    pub leads_closed : rose ≡ false → (lane : ℕ) → lane_at links i lane ≡ true → lane_at blocked to lane ≡ false → lane_at old from lane ≡ true
        → lane_at old to lane ≡ true
    leads_closed still lane has free there =
        sym (ap (λ w. has_lane w lane) (h.same still)) ∙ h.lanes lane
        ∙ comes_by (lane_at old to lane) (lane_at old from lane) (lane_at links i lane) (lane_at blocked to lane) there has free

-- two planes of each node rise, or neither has more
pub pair_raises : (devices : List Device) (links blocked zeros new_zeros ones new_ones : List ℕ) (a b : Bool) (count : ℕ) → length devices ≤ count
    → Raises devices links blocked zeros new_zeros a → Raises devices links blocked ones new_ones b
    → ((i : ℕ) → i < count → LeadsNoMore devices links blocked zeros a i) → ((i : ℕ) → i < count → LeadsNoMore devices links blocked ones b i)
    → RaiseBoth devices links blocked zeros new_zeros ones new_ones (a || b)
pair_raises devices links blocked zeros new_zeros ones new_ones true b count all z o z_still o_still = record {
  zeros_raise = z.some;
  ones_raise = o.some;
  rises = λ e. let less : sum zeros < sum new_zeros = z.rises refl in let le : sum ones ≤ sum new_ones = o.some.more in omega arith;
  zeros_closed = λ e. cc;
  ones_closed = λ e. cc;
}
pair_raises devices links blocked zeros new_zeros ones new_ones false true count all z o z_still o_still = record {
  zeros_raise = z.some;
  ones_raise = o.some;
  rises = λ e. let less : sum ones < sum new_ones = o.rises refl in let le : sum zeros ≤ sum new_zeros = z.some.more in omega arith;
  zeros_closed = λ e. cc;
  ones_closed = λ e. cc;
}
pair_raises devices links blocked zeros new_zeros ones new_ones false false count all z o z_still o_still = record {
  zeros_raise = z.some;
  ones_raise = o.some;
  rises = λ e. cc;
  zeros_closed = λ e i lt. subst (λ xs. IsClosedAt devices links blocked xs i) (sym (z.same refl)) (z_still i (omega (arith, lt, all)) refl);
  ones_closed = λ e i lt. subst (λ xs. IsClosedAt devices links blocked xs i) (sym (o.same refl)) (o_still i (omega (arith, lt, all)) refl);
}

-- a sweep that raised nothing
pub round_still : (devices : List Device) (links blocked old new : List ℕ) (rose : Bool) → rose ≡ false → Raises devices links blocked old new rose
    → ((i : ℕ) → i < length devices → LeadsNoMore devices links blocked old rose i) → IsRound devices links blocked old new false
round_still devices links blocked old new rose still h settled = record {
  some = h.some;
  rises = λ e. cc;
  closed = λ e i lt. subst (λ xs. IsClosedAt devices links blocked xs i) (sym (h.same still)) (settled i lt still);
}

-- one that raised something, and one back
pub round_back : (devices : List Device) (links blocked old mid new : List ℕ) (rose again : Bool) → rose ≡ true → Raises devices links blocked old mid rose
    → Raises devices links blocked mid new again → ((i : ℕ) → i < length devices → LeadsNoMore devices links blocked mid again i)
    → IsRound devices links blocked old new again
round_back devices links blocked old mid new rose again risen h q settled = record {
  some = raises_some_more devices links blocked old mid new h.some q.some;
  rises = λ e. let first : sum old < sum mid = h.rises risen in let second : sum mid < sum new = q.rises e in omega arith;
  closed = λ e i lt. subst (λ xs. IsClosedAt devices links blocked xs i) (sym (q.same e)) (settled i lt e);
}

-- the same of two planes
pub round_pair_back : (devices : List Device) (links blocked zeros mid_zeros new_zeros ones mid_ones new_ones : List ℕ) (rose again : Bool) → rose ≡ true
    → RaiseBoth devices links blocked zeros mid_zeros ones mid_ones rose → RaiseBoth devices links blocked mid_zeros new_zeros mid_ones new_ones again
    → RaiseBoth devices links blocked zeros new_zeros ones new_ones again
round_pair_back devices links blocked zeros mid_zeros new_zeros ones mid_ones new_ones rose again risen h q = record {
  zeros_raise = raises_some_more devices links blocked zeros mid_zeros new_zeros h.zeros_raise q.zeros_raise;
  ones_raise = raises_some_more devices links blocked ones mid_ones new_ones h.ones_raise q.ones_raise;
  rises = λ e. let first : sum zeros + sum ones < sum mid_zeros + sum mid_ones = h.rises risen in
      let second : sum mid_zeros + sum mid_ones < sum new_zeros + sum new_ones = q.rises e in omega arith;
  zeros_closed = q.zeros_closed;
  ones_closed = q.ones_closed;
}

-- what isn't yet reached falls where something rises
pub slack_falls : (old new : List ℕ) → length new ≡ length old → ((i : ℕ) → get_or new i 0 < 2 ^ 64) → sum old < sum new
    → 2 ^ 64 * length new - sum new < 2 ^ 64 * length old - sum old
slack_falls old new room below less =
    let le : sum new ≤ length new * 2 ^ 64 =
    sum_by-le (λ x. x) (2 ^ 64) new (All-from_get_or (λ x. x ≤ 2 ^ 64) new 0 (λ i _. let lt : get_or new i 0 < 2 ^ 64 = below i in omega arith)) in
    omega arith

pub pair_slack_falls : (zeros new_zeros ones new_ones : List ℕ) → length new_zeros ≡ length zeros → length new_ones ≡ length ones
    → ((i : ℕ) → get_or new_zeros i 0 < 2 ^ 64) → ((i : ℕ) → get_or new_ones i 0 < 2 ^ 64) → sum zeros + sum ones < sum new_zeros + sum new_ones
    → 2 ^ 64 * (length new_zeros + length new_ones) - (sum new_zeros + sum new_ones) < 2 ^ 64 * (length zeros + length ones) - (sum zeros + sum ones)
pair_slack_falls zeros new_zeros ones new_ones zero_room one_room zero_below one_below less =
    let zero_le : sum new_zeros ≤ length new_zeros * 2 ^ 64 =
    sum_by-le (λ x. x) (2 ^ 64) new_zeros (All-from_get_or (λ x. x ≤ 2 ^ 64) new_zeros 0 (λ i _. let lt : get_or new_zeros i 0 < 2 ^ 64 = zero_below i in omega arith)) in
    let one_le : sum new_ones ≤ length new_ones * 2 ^ 64 =
    sum_by-le (λ x. x) (2 ^ 64) new_ones (All-from_get_or (λ x. x ≤ 2 ^ 64) new_ones 0 (λ i _. let lt : get_or new_ones i 0 < 2 ^ 64 = one_below i in omega arith)) in
    omega arith

-- a link that led both ways
module _ (devices : List Device) (links blocked : List ℕ) (i : ℕ) (old mid new : List ℕ) (forth back : Bool)
    (named : All (NamesWithin (length old)) devices) (within : i < length devices)
    (there : Leads (get_or links i 0) (get_or devices i no_device).a.0 (get_or devices i no_device).b.0 blocked old mid forth)
    (again : Leads (get_or links i 0) (get_or devices i no_device).b.0 (get_or devices i no_device).a.0 blocked mid new back) where
  d : Device
  d = get_or devices i no_device

  is_device : slice_get devices i ≡ Some d
  unfolding d
  is_device = slice_get-get_or devices i no_device within

  ends_within : NamesWithin (length old) d
  unfolding d
  ends_within = named i no_device within

  first : Raises devices links blocked old mid forth
  unfolding d
  first = leads_raises devices links blocked i d is_device d.a.0 d.b.0 (inl (refl, refl)) old mid forth ends_within.2 there

  second : Raises devices links blocked mid new back
  unfolding d
  second = leads_raises devices links blocked i d is_device d.b.0 d.a.0 (inr (refl, refl)) mid new back
      (subst (λ k. d.a.0 < k) (sym first.some.room) ends_within.1) again

  pub both_raise : Raises devices links blocked old new (forth || back)
  both_raise = raises_more devices links blocked old mid new forth back first second

  pub both_closed : forth ≡ false → back ≡ false → IsClosedAt devices links blocked old i
  unfolding d
  both_closed still quiet e lane m n is linked ends free from =
      let same : get_or devices i no_device ≡ e = get_or_from_slice_get devices i e no_device is in
      let mid_is : mid ≡ old = first.same still in
      elim (subst (λ x. Links x m n) (sym same) ends) [
        | inl l ↦
            subst (λ k. lane_at old k lane ≡ true) l.1 (leads_closed devices links blocked i d is_device d.a.0 d.b.0 (inl (refl, refl)) old mid forth ends_within.2 there still lane linked
            (subst (λ k. lane_at blocked k lane ≡ false) (sym l.1) free) (subst (λ k. lane_at old k lane ≡ true) (sym l.0) from))
        | inr l ↦
            subst (λ k. lane_at old k lane ≡ true) l.1 (subst (λ xs. lane_at xs d.a.0 lane ≡ true) mid_is
            (leads_closed devices links blocked i d is_device d.b.0 d.a.0 (inr (refl, refl)) mid new back (subst (λ k. d.a.0 < k) (sym first.some.room) ends_within.1) again quiet lane linked
            (subst (λ k. lane_at blocked k lane ≡ false) (sym l.1) free) (subst (λ xs. lane_at xs d.b.0 lane ≡ true) (sym mid_is) (subst (λ k. lane_at old k lane ≡ true) (sym l.0) from))))
      ]
