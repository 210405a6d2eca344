-- The test for closed waves.
use Rattle.std.proofs.Common.{◌≡◌, ◌≢◌, ◌⊎◌, inl, inr, Bool, true, false, not, ◌&&◌, ◌||◌, refl, sym, ◌∙◌, ap}
use Rattle.std.proofs.Common.{subst}
use Rattle.ca_net.specs.declared.trit.Trit.{Trit}
use Rattle.ca_net.specs.declared.trit.Trit.TheVariants.{Zero, One, X}
use Rattle.ca_net.specs.declared.wave.Wave.{Wave}
use Rattle.ca_flat.specs.RuleOut.{IsClosed}
use Rattle.ca_flat.proofs.Clashes.{wave_ext}
use Rattle.ca_examiner.specs.code.OpenNets.{is_known, is_same, is_closed_wave}

known_to : (a : Trit) → is_known a ≡ true → a ≢ X
known_to Zero e f = cc
known_to One e f = cc
known_to X e f = cc

known_from : (a : Trit) → a ≢ X → is_known a ≡ true
known_from Zero e = refl
known_from One e = refl
known_from X e = absurd (e refl)

same_to : (a b : Trit) → is_same a b ≡ true → a ≡ b
same_to Zero Zero e = refl
same_to One One e = refl
same_to X X e = refl
same_to Zero One e = absurd (cc)
same_to Zero X e = absurd (cc)
same_to One Zero e = absurd (cc)
same_to One X e = absurd (cc)
same_to X Zero e = absurd (cc)
same_to X One e = absurd (cc)

same_itself : (a : Trit) → is_same a a ≡ true
same_itself Zero = refl
same_itself One = refl
same_itself X = refl

same_from : (a b : Trit) → a ≡ b → is_same a b ≡ true
same_from a b e = subst (λ x. is_same a x ≡ true) e (same_itself a)

other_from : (a b : Trit) → (a ≡ b → ⊥) → not (is_same a b) ≡ true
other_from a b other = at (is_same a b) refl
  where
    at : (test : Bool) → is_same a b ≡ test → not test ≡ true
    at true e = absurd (other (same_to a b e))
    at false e = refl

other_to : (a b : Trit) → not (is_same a b) ≡ true → a ≢ b
other_to a b e same = let is = same_from a b same in let clash : false ≡ true = sym (ap not is) ∙ e in cc

both_to : (a b : Bool) → (a && b) ≡ true → (a ≡ true) × (b ≡ true)
both_to true b e = (refl, e)
both_to false b e = absurd (let clash : false ≡ true = e in cc)

both_from : (a b : Bool) → a ≡ true → b ≡ true → (a && b) ≡ true
both_from true b p q = q
both_from false b p q = absurd (let clash : false ≡ true = p in cc)

either_to : (a b : Bool) → (a || b) ≡ true → (a ≡ true) ⊎ (b ≡ true)
either_to true b e = inl refl
either_to false b e = inr e

either_left : (a b : Bool) → a ≡ true → (a || b) ≡ true
either_left true b e = refl
either_left false b e = absurd (let clash : false ≡ true = e in cc)

either_right : (a b : Bool) → b ≡ true → (a || b) ≡ true
either_right true b e = refl
either_right false b e = e

pub closed_to : (good faulty : Wave) → is_closed_wave good faulty ≡ true → IsClosed good faulty
closed_to good faulty e =
    let parts = both_to (is_same good.first faulty.first && (is_same good.mid faulty.mid && is_same good.last faulty.last))
    ((is_known good.first && is_known good.last) && (is_known good.mid || not (is_same good.first good.last))) e in
    let ones = both_to (is_same good.first faulty.first) (is_same good.mid faulty.mid && is_same good.last faulty.last) parts.0 in
    let later = both_to (is_same good.mid faulty.mid) (is_same good.last faulty.last) ones.1 in
    let rest = both_to (is_known good.first && is_known good.last) (is_known good.mid || not (is_same good.first good.last)) parts.1 in
    let ends = both_to (is_known good.first) (is_known good.last) rest.0 in
    record {
      same = wave_ext good faulty (same_to good.first faulty.first ones.0) (same_to good.mid faulty.mid later.0) (same_to good.last faulty.last later.1);
      first_definite = known_to good.first ends.0;
      last_definite = known_to good.last ends.1;
      middle_known = elim (either_to (is_known good.mid) (not (is_same good.first good.last)) rest.1) [
        | inl known ↦ inl (known_to good.mid known)
        | inr other ↦ inr (other_to good.first good.last other)
      ];
    }

pub closed_from : (good faulty : Wave) → IsClosed good faulty → is_closed_wave good faulty ≡ true
closed_from good faulty closed =
    both_from (is_same good.first faulty.first && (is_same good.mid faulty.mid && is_same good.last faulty.last))
    ((is_known good.first && is_known good.last) && (is_known good.mid || not (is_same good.first good.last)))
    (both_from (is_same good.first faulty.first) (is_same good.mid faulty.mid && is_same good.last faulty.last)
    (same_from good.first faulty.first (ap (λ w. w.first) closed.same))
    (both_from (is_same good.mid faulty.mid) (is_same good.last faulty.last) (same_from good.mid faulty.mid (ap (λ w. w.mid) closed.same))
    (same_from good.last faulty.last (ap (λ w. w.last) closed.same))))
    (both_from (is_known good.first && is_known good.last) (is_known good.mid || not (is_same good.first good.last))
    (both_from (is_known good.first) (is_known good.last) (known_from good.first closed.first_definite) (known_from good.last closed.last_definite))
    (elim closed.middle_known [
      | inl known ↦ either_left (is_known good.mid) (not (is_same good.first good.last)) (known_from good.mid known)
      | inr differ ↦ either_right (is_known good.mid) (not (is_same good.first good.last)) (other_from good.first good.last differ)
    ]))

pub not_closed_to : (good faulty : Wave) → not (is_closed_wave good faulty) ≡ true → IsClosed good faulty → ⊥
not_closed_to good faulty e closed = let is = closed_from good faulty closed in let clash : false ≡ true = sym (ap not is) ∙ e in cc

pub not_closed_from : (good faulty : Wave) → (IsClosed good faulty → ⊥) → not (is_closed_wave good faulty) ≡ true
not_closed_from good faulty is_open = at (is_closed_wave good faulty) refl
  where
    at : (test : Bool) → is_closed_wave good faulty ≡ test → not test ≡ true
    at true e = absurd (is_open (closed_to good faulty e))
    at false e = refl
