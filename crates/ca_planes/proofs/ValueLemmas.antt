-- Values as two planes.
use Rattle.std.proofs.Common.{◌≡◌, ◌≢◌, ℕ, zero, suc, ◌<◌, ◌&&◌, ◌||◌, not, Bool, true, false, List, [], ◌∷◌, length}
use Rattle.std.proofs.Common.{refl, ap, arith, ◌↔◌, get_or, set}
use Rattle.ca_net.specs.declared.trit.Trit.TheVariants.{Zero, One}
use Rattle.ca_net.specs.State.{value_at}
use Rattle.ca_net.specs.Trit.{meet_of}
use Rattle.ca_planes.specs.Trits.{trit_for, value_in, values_in}

-- whether two values differ, by what they may be
abbrev pub differs : Bool → Bool → Bool → Bool → Bool
differs z o y p = ((o && not p) || (p && not o)) || (o && ((z && not y) || (y && not z)))

pub differs_decides : (z o y p : Bool) → (differs z o y p ≡ false) ↔ (trit_for z o ≡ trit_for y p)
differs_decides true true true true = (λ e. refl, λ e. refl)
differs_decides true true true false = (λ e. cc, λ e. cc)
differs_decides true true false true = (λ e. cc, λ e. cc)
differs_decides true true false false = (λ e. cc, λ e. cc)
differs_decides true false true true = (λ e. cc, λ e. cc)
differs_decides true false true false = (λ e. refl, λ e. refl)
differs_decides true false false true = (λ e. cc, λ e. cc)
differs_decides true false false false = (λ e. refl, λ e. refl)
differs_decides false true true true = (λ e. cc, λ e. cc)
differs_decides false true true false = (λ e. cc, λ e. cc)
differs_decides false true false true = (λ e. refl, λ e. refl)
differs_decides false true false false = (λ e. cc, λ e. cc)
differs_decides false false true true = (λ e. cc, λ e. cc)
differs_decides false false true false = (λ e. refl, λ e. refl)
differs_decides false false false true = (λ e. cc, λ e. cc)
differs_decides false false false false = (λ e. refl, λ e. refl)

pub length-values_in : (zeros ones : List ℕ) (lane : ℕ) → length ones ≡ length zeros → length (values_in zeros ones lane) ≡ length zeros
length-values_in [] ones lane same = refl
length-values_in (z ∷ zeros) [] lane same = absurd (omega (arith, same))
length-values_in (z ∷ zeros) (o ∷ ones) lane same = ap suc (length-values_in zeros ones lane (omega (arith, same)))

-- the value of a node in a lane
pub value_at-values_in : (zeros ones : List ℕ) (lane n : ℕ) → length ones ≡ length zeros → n < length zeros
    → value_at (values_in zeros ones lane) n ≡ value_in (get_or zeros n 0) (get_or ones n 0) lane
value_at-values_in [] ones lane n same lt = absurd (omega arith)
value_at-values_in (z ∷ zeros) [] lane n same lt = absurd (omega (arith, same))
value_at-values_in (z ∷ zeros) (o ∷ ones) lane zero same lt = refl
value_at-values_in (z ∷ zeros) (o ∷ ones) lane (suc n) same lt = value_at-values_in zeros ones lane n (omega (arith, same)) (omega arith)

pub not_one_decides : (z o : Bool) → ((z || (true && not o)) ≡ true) ↔ (trit_for z o ≢ One)
not_one_decides true true = (λ e f. cc, λ e. refl)
not_one_decides true false = (λ e f. cc, λ e. refl)
not_one_decides false true = (λ e. cc, λ f. absurd (f refl))
not_one_decides false false = (λ e f. cc, λ e. refl)

pub one_decides : (z o : Bool) → ((o && not z) ≡ true) ↔ (trit_for z o ≡ One)
one_decides true true = (λ e. cc, λ e. cc)
one_decides true false = (λ e. cc, λ e. cc)
one_decides false true = (λ e. refl, λ e. refl)
one_decides false false = (λ e. cc, λ e. cc)

pub zero_decides : (z o : Bool) → ((true && not o) ≡ true) ↔ (trit_for z o ≡ Zero)
zero_decides true true = (λ e. cc, λ e. cc)
zero_decides true false = (λ e. refl, λ e. refl)
zero_decides false true = (λ e. cc, λ e. cc)
zero_decides false false = (λ e. refl, λ e. refl)

-- a value isn't 0 exactly where it may be 1
pub may_be_one : (z o : Bool) → (o ≡ true) ↔ (trit_for z o ≢ Zero)
may_be_one true true = (λ e f. cc, λ e. refl)
may_be_one true false = (λ e. cc, λ f. absurd (f refl))
may_be_one false true = (λ e f. cc, λ e. refl)
may_be_one false false = (λ e. cc, λ f. absurd (f refl))

-- a value that is written in each lane
pub values_in-set : (zeros ones : List ℕ) (n z o lane : ℕ) → values_in (set zeros n z) (set ones n o) lane ≡ set (values_in zeros ones lane) n (value_in z o lane)
values_in-set [] ones n z o lane = refl
values_in-set (y ∷ zeros) [] n z o lane = set_none y zeros n z
  where
    set_none : (y : ℕ) (zeros : List ℕ) (n z : ℕ) → values_in (set (y ∷ zeros) n z) [] lane ≡ []
    set_none y zeros zero z = refl
    set_none y zeros (suc n) z = refl
values_in-set (y ∷ zeros) (p ∷ ones) zero z o lane = refl
values_in-set (y ∷ zeros) (p ∷ ones) (suc n) z o lane = ap (λ vs. value_in y p lane ∷ vs) (values_in-set zeros ones n z o lane)

-- the meet of two values, by what they may be
pub meet_is : (z o y p : Bool) → trit_for ((z || y) || ((o && not p) || (p && not o))) (o || p) ≡ meet_of (trit_for z o) (trit_for y p)
meet_is true true true true = refl
meet_is true true true false = refl
meet_is true true false true = refl
meet_is true true false false = refl
meet_is true false true true = refl
meet_is true false true false = refl
meet_is true false false true = refl
meet_is true false false false = refl
meet_is false true true true = refl
meet_is false true true false = refl
meet_is false true false true = refl
meet_is false true false false = refl
meet_is false false true true = refl
meet_is false false true false = refl
meet_is false false false true = refl
meet_is false false false false = refl
