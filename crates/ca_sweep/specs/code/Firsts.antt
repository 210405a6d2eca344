-- What only proofs of code cite: the first observed outputs of nets, and the least of those with a flip.
use Rattle.std.specs.Prelude.{ℕ, ◌≡◌, ◌<◌, ◌≤◌, List, length, slice_index}
use Rattle.ca_net.specs.declared.trit.Trit.{Trit}
use Rattle.ca_flat.specs.Chip.{Chip, outputs_at, output_net}
use Rattle.ca_flips.specs.Flips.{IsOpposite}
use Rattle.ca_sweep.specs.Seen.{IsOppositeAt}

-- for each net a number: among the outputs from `start` on the first that is on the net, or no output
pub record AreFirstsFrom (outputs : List ℕ) (nets start : ℕ) (firsts : List ℕ) : Type 0 where
  pub room : length firsts ≡ nets
  pub least : (output : ℕ) → start ≤ output → output < length outputs
      → slice_index firsts (slice_index outputs output) ≤ output
  pub on : (net : ℕ) → net < nets → slice_index firsts net < length outputs
      → slice_index outputs (slice_index firsts net) ≡ net

-- so among all outputs
abbrev pub AreFirsts : List ℕ → ℕ → List ℕ → Type 0
AreFirsts outputs nets firsts = AreFirstsFrom outputs nets 0 firsts

-- the number is no output, or the values are opposite there
abbrev pub IsOppositeIf : (ℕ → Trit) → (ℕ → Trit) → List ℕ → ℕ → Type 0
IsOppositeIf goods values outputs number =
    number < length outputs → IsOppositeAt goods values outputs number

-- the number is none of later outputs than the first ones of these output nets of w with opposite values
abbrev pub IsLeastOf : Chip → (ℕ → Trit) → (ℕ → Trit) → List ℕ → ℕ → ℕ → ℕ → Type 0
IsLeastOf chip goods values firsts w count number =
    (output : ℕ) → output < count
    → IsOpposite (goods (output_net chip w output)) (values (output_net chip w output))
    → number ≤ slice_index firsts (output_net chip w output)

-- a number is lessened to the least of it and the first observed outputs of the nets of the first `count`
-- output pins of w with opposite values
pub record IsLessenedTo (chip : Chip) (goods values : ℕ → Trit) (firsts : List ℕ) (w count old new : ℕ)
    : Type 0 where
  pub least : new ≤ old
  pub each : IsLeastOf chip goods values firsts w count new
  pub opposite : IsOppositeIf goods values chip.outputs old → IsOppositeIf goods values chip.outputs new

-- so with those of all its output pins
abbrev pub IsLessened : Chip → (ℕ → Trit) → (ℕ → Trit) → List ℕ → ℕ → ℕ → ℕ → Type 0
IsLessened chip goods values firsts w old new =
    IsLessenedTo chip goods values firsts w (outputs_at chip w) old new
