-- A step of the guide is one that a search takes.
use Rattle.std.proofs.Common.{◌≡◌, ◌<◌, ℕ, zero, suc, inl, inr, List, [], ◌∷◌, length, None, Some, refl}
use Rattle.std.proofs.Common.{arith}
use Rattle.std.specs.Prelude.{◌⊎◌, slice_index_or}
use Rattle.std.specs.List.{Contains}
use native.Mathlib.Decide.{ℕ_discrete}
use Rattle.ca_net.specs.declared.trit.Trit.{Trit}
use Rattle.ca_net.specs.declared.trit.Trit.TheVariants.{Zero, One, X}
use Rattle.ca_net.specs.State.{value_at}
use Rattle.ca_flat.specs.declared.chip_defect.ChipDefect.{ChipDefect}
use Rattle.ca_flat.specs.Chip.{Chip}
use Rattle.ca_flat.specs.Waves.{FlatWaves, IsFlatChip}
use Rattle.ca_flat.specs.CheckedCode.{IsPlain, IsCheckedBranch}
use Rattle.ca_flat.specs.Pair.{IsOpenPair}
use Rattle.ca_flat.proofs.CheckedCodes.{plain_is_of_pair_lem}
use Rattle.ca_flat.proofs.Detected.{some_good, some_faulty}
use Rattle.ca_guide.specs.declared.guide.Step.{Step}
use Rattle.ca_guide.specs.declared.guide.Step.TheVariants.{Branch, RuledOut}
use Rattle.ca_guide.specs.Guide.{IsSupport}
use Rattle.ca_guide.specs.Guide as guide
use Rattle.ca_code.specs.SearchRules.{IsPlainPair, MayDecide}

-- a list has a number or doesn't
has_or_not : (xs : List ℕ) (x : ℕ) → Contains xs x ⊎ (Contains xs x → ⊥)
has_or_not [] x = inr (λ at. let lt = at.1 in omega arith)
has_or_not (y ∷ xs) x = elim (ℕ_discrete y x) [
  | yes same ↦ inl (0, omega arith, same)
  | no other ↦ elim (has_or_not xs x) [
    | inl at ↦ inl (suc at.0, (let lt = at.1 in omega arith), at.2)
    | inr none ↦ inr (λ at. following y xs x other none at.0 at.1 at.2)
  ]
]
  where
    following : (y : ℕ) (xs : List ℕ) (x : ℕ) → (y ≡ x → ⊥) → (Contains xs x → ⊥) → (k : ℕ) → k < length (y ∷ xs)
        → slice_index_or (y ∷ xs) k x ≡ x → ⊥
    following y xs x other none zero lt is = other is
    following y xs x other none (suc k) lt is = none (k, omega arith, is)

-- what can't be missing is there
stable_in : (xs : List ℕ) (x : ℕ) → ((Contains xs x → ⊥) → ⊥) → Contains xs x
stable_in xs x not_none = elim (has_or_not xs x) [
  | inl at ↦ at
  | inr none ↦ absurd (not_none none)
]

stable_unset : (t : Trit) → ((t ≡ X → ⊥) → ⊥) → t ≡ X
stable_unset Zero not_set = absurd (not_set (λ e. cc))
stable_unset One not_set = absurd (not_set (λ e. cc))
stable_unset X not_set = refl

-- the step is one of a search
abbrev pub IsSearchStep : Chip → ChipDefect → List Trit → Step → Type 0
IsSearchStep chip defect pair (Branch bit first) = MayDecide chip defect pair bit
IsSearchStep chip defect pair RuledOut = IsPlainPair chip defect pair

module _ (chip : Chip) (rank : ℕ → ℕ) (defect : ChipDefect) (is : IsFlatChip chip rank defect) (pair : List Trit)
    (support : List ℕ) (is_support : IsSupport chip defect support) (is_open : IsOpenPair chip defect pair) where
  -- what holds under some limits, where it holds under all, can't fail
  under : (Q : Type 0) → (FlatWaves chip None pair → FlatWaves chip (Some defect) pair → Q) → (Q → ⊥) → ⊥
  under Q each out = some_good chip rank defect is pair (λ good. some_faulty chip rank defect is pair (λ faulty.
      out (each good faulty)))

  branch_of : (bit : ℕ) → (FlatWaves chip None pair → FlatWaves chip (Some defect) pair → IsCheckedBranch chip defect pair bit)
      → MayDecide chip defect pair bit
  branch_of bit each = record {
    may = record {
      is_open = is_open;
      supports = (is_support bit).0 (stable_in support bit (λ none. under (IsCheckedBranch chip defect pair bit) each
          (λ checked. none ((is_support bit).1 checked.may.supports))));
      unset = stable_unset (value_at pair bit) (λ set. under (IsCheckedBranch chip defect pair bit) each
          (λ checked. set checked.may.unset));
    };
    not_plain = λ plain. some_good chip rank defect is pair (λ good. some_faulty chip rank defect is pair (λ faulty.
        (each good faulty).not_plain (record { good = good; faulty = faulty; plain = plain good faulty })));
  }

  plain_of : (FlatWaves chip None pair → FlatWaves chip (Some defect) pair → IsPlain chip defect pair)
      → IsPlainPair chip defect pair
  plain_of each good faulty =
      let plain = each good faulty in
      plain_is_of_pair_lem chip defect pair plain.good good plain.faulty faulty plain.plain

  pub search_step : (step : Step)
      → (FlatWaves chip None pair → FlatWaves chip (Some defect) pair → guide.IsStep chip defect pair step)
      → IsSearchStep chip defect pair step
  search_step (Branch bit first) each = branch_of bit each
  search_step RuledOut each = plain_of each
