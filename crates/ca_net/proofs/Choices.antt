-- What can be decided, and marks of nodes.
use Rattle.std.proofs.Common.{◌≡◌, ℕ, zero, suc, ◌+◌, ◌<◌, ◌≤◌, ◌⊎◌, List, Bool, true, false, inl, inr, refl}
use Rattle.std.proofs.Common.{sym, ◌∙◌, subst, arith, get_or, slice_get, set, get_or-set_same}
use Rattle.std.proofs.Common.{get_or-set_other, replicate}
use Rattle.std.specs.Prelude.{Some}
use Rattle.std.proofs.Math.Decide.{dec_le}
use native.Mathlib.Decide.{ℕ_discrete}
use Rattle.std.proofs.lemmas.Option.{slice_get_within}
use Rattle.std.proofs.lemmas.List.{get_or-replicate, length-replicate, get_or_past}
use Rattle.ca_net.specs.declared.trit.Trit.{Trit}
use Rattle.ca_net.specs.declared.trit.Trit.TheVariants.{Zero, One, X}
use Rattle.ca_net.specs.declared.device.DeviceKind.{DeviceKind}
use Rattle.ca_net.specs.declared.device.DeviceKind.TheVariants.{N, P, D}
use Rattle.ca_net.specs.Conduction.{ConductsAt}

-- the node is marked
abbrev pub IsMarked : List Bool → ℕ → Type 0
IsMarked on n = get_or on n false ≡ true

-- a truth value is one or the other
pub true_or_false : (b : Bool) → (b ≡ true) ⊎ (b ≡ false)
true_or_false true = inl refl
true_or_false false = inr refl

-- whether a device of this kind conducts
pub conducts_or_not : (k : DeviceKind) (v : Trit) → ConductsAt k v ⊎ (ConductsAt k v → ⊥)
conducts_or_not N Zero = inr (λ e. cc)
conducts_or_not N One = inl refl
conducts_or_not N X = inr (λ e. cc)
conducts_or_not P Zero = inl refl
conducts_or_not P One = inr (λ e. cc)
conducts_or_not P X = inr (λ e. cc)
conducts_or_not D v = inl tt

-- some place gives what is sought, or each of the first j has Q
pub some_or_all : {G : Type 0} (Q : ℕ → Type 0) → ((i : ℕ) → G ⊎ Q i) → (j : ℕ) → G ⊎ ((i : ℕ) → i < j → Q i)
some_or_all Q each zero = inr (λ i lt. absurd (omega arith))
some_or_all Q each (suc j) = elim (some_or_all Q each j) [
  | inl g ↦ inl g
  | inr all ↦ elim (each j) [
    | inl g ↦ inl g
    | inr q ↦ inr (λ i lt. elim (ℕ_discrete i j) [ yes e ↦ subst Q (sym e) q | no ne ↦ all i (omega arith) ])
  ]
]

-- a mark that was set
pub marked_now : (on : List Bool) (n : ℕ) → slice_get on n ≡ Some false → IsMarked (set on n true) n
marked_now on n e = get_or-set_same on n true false (slice_get_within on n false e)

-- and those that were there stay
pub marked_still : (on : List Bool) (n m : ℕ) → slice_get on n ≡ Some false → IsMarked on m → IsMarked (set on n true) m
marked_still on n m e h = elim (ℕ_discrete m n) [
  | yes same ↦ subst (IsMarked (set on n true)) (sym same) (marked_now on n e)
  | no ne ↦ get_or-set_other on n m true false ne ∙ h
]

-- at first no node is marked
pub none_marked : (k n : ℕ) → IsMarked (replicate k false) n → ⊥
none_marked k n h = elim (dec_le (n + 1) k) [
  | yes lt ↦ let e : get_or (replicate k false) n false ≡ false = get_or-replicate k n false false (omega arith) in cc
  | no ge ↦
      let e : get_or (replicate k false) n false ≡ false =
      get_or_past (replicate k false) n false (subst (λ x. x ≤ n) (sym (length-replicate k false)) (omega arith)) in cc
]
