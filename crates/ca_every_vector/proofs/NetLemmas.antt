-- Lists to which nets and instances are added.
use Rattle.std.proofs.Common.{◌≡◌, ◌<◌, ◌+◌, ◌++◌, ◌∷◌, [], ℕ, List, arith, inl, inr, sym, subst, Some}
use Rattle.std.specs.List.{All, Contains}
use Rattle.std.specs.Prelude.{slice_get, slice_index}
use Rattle.std.proofs.lemmas.Bool.{cases_eq}
use Rattle.std.proofs.lemmas.List.Elements.{All-get_or, All-push, Contains-append_left, Contains-push}
use Rattle.std.proofs.lemmas.Option.{get_or_from_slice_get, slice_get_within}
use Rattle.ca_flat.specs.Chip.{Chip, output_net}
use Rattle.ca_every_vector.specs.code.Region.{AreInputsIn, IsLonger, input_at}

module _ (old new : List ℕ) (net : ℕ) (is : new ≡ old ++ net ∷ []) where
  pub all_push : (P : ℕ → Type 0) → P net → All P old → All P new
  all_push P here all = subst (All P) (sym is) (All-push P old net all here)

  has_push : Contains new net
  has_push = subst (λ list. Contains list net) (sym is) (Contains-push old net)

  pub longer_push : IsLonger old new
  longer_push n had = subst (λ list. Contains list n) (sym is) (Contains-append_left old (net ∷ []) n had)

  pub inputs_push : (chip : Chip) (inputs : List ℕ) (place : ℕ) → net ≡ slice_index chip.inputs (input_at inputs place) → AreInputsIn chip inputs old place
      → AreInputsIn chip inputs new (place + 1)
  inputs_push chip inputs place on before j less = elim (cases_eq j place) [
    | inl e ↦ subst (λ k. Contains new (slice_index chip.inputs (input_at inputs k))) (sym e) (subst (Contains new) on has_push)
    | inr other ↦ longer_push _ (before j (omega (arith, other)))
  ]

  pub outputs_push : (chip : Chip) (w output : ℕ) → net ≡ output_net chip w output → ((k : ℕ) → k < output → Contains old (output_net chip w k))
      → (k : ℕ) → k < output + 1 → Contains new (output_net chip w k)
  outputs_push chip w output on before k less = elim (cases_eq k output) [
    | inl e ↦ subst (λ n. Contains new (output_net chip w n)) (sym e) (subst (Contains new) on has_push)
    | inr other ↦ longer_push _ (before k (omega (arith, other)))
  ]

-- what holds of all holds of an entry
pub entry_has : (P : ℕ → Type 0) (list : List ℕ) (place x : ℕ) → slice_get list place ≡ Some x → All P list → P x
entry_has P list place x at all = subst P (get_or_from_slice_get list place x x at) (All-get_or P list place x (slice_get_within list place x at) all)
