-- What is kept of cells with a defect, and what is found of them.
use Rattle.std.proofs.Common.{◌≡◌, ℕ, zero, suc, ◌+◌, ◌<◌, ◌≤◌, Bool, true, false, List, [], ◌∷◌, ◌++◌, length, set, Option, Some, refl, sym, ◌∙◌, ap, subst, arith, below_more}
use Rattle.std.specs.List.{All}
use Rattle.std.proofs.lemmas.List.{get_or_push, get_or_append_left}
use Rattle.std.proofs.lemmas.List.Elements.{All-set}
use Rattle.ca_net.specs.declared.wave.Wave.{Wave}
use Rattle.ca_net.specs.declared.trit.Trit.{Trit}
use Rattle.ca_cell.specs.declared.raw.RawCell.{RawCell}
use Rattle.ca_cell.specs.List.{faulty_of}
use Rattle.ca_response.specs.Gives.{Gives, wave_at, unknown_wave}
use Rattle.ca_flat.specs.Chip.{Chip, cell_at, outputs_at}
use Rattle.ca_view.specs.Linked.{IsLinked, IsPlaced}
use Rattle.ca_sweep.specs.declared.faulty.Entry.{Entry}
use Rattle.ca_sweep.specs.code.Faulty.{HoldsTrue, code_of, IsFlippedAt, AreFlipsOf}

-- what the cell of one instance gives is kept for each with its number
pub entry_true : (chip : Chip) (place_of number_of : ℕ → ℕ) (u : ℕ) (entry : Entry) (outputs : List Wave) → IsLinked chip place_of number_of → IsPlaced chip place_of u
    → entry.number ≡ number_of u → Gives (cell_at chip u) (faulty_of (cell_at chip u) entry.defect) entry.pins.items outputs → entry.outputs.items ≡ outputs
    → HoldsTrue chip place_of number_of (Some entry)
entry_true chip place_of number_of u entry outputs linked placed number_is gives outputs_are = λ w w_placed at.
    subst (λ (raw : RawCell). Gives raw (faulty_of raw entry.defect) entry.pins.items entry.outputs.items) (linked.numbered u w placed w_placed (sym number_is ∙ sym at))
    (subst (Gives (cell_at chip u) (faulty_of (cell_at chip u) entry.defect) entry.pins.items) (sym outputs_are) gives)

-- one entry more is kept
pub kept_more : (chip : Chip) (place_of number_of : ℕ → ℕ) (old new : List (Option Entry)) (slot : ℕ) (entry : Entry) → All (HoldsTrue chip place_of number_of) old
    → new ≡ old → HoldsTrue chip place_of number_of (Some entry) → All (HoldsTrue chip place_of number_of) (set new slot (Some entry))
kept_more chip place_of number_of old new slot entry all same holds =
    All-set (HoldsTrue chip place_of number_of) new slot (Some entry) holds (subst (All (HoldsTrue chip place_of number_of)) (sym same) all)

-- a choice of output pins is that of its number
pub same_code : (a b c d : Bool) → code_of a b ≡ code_of c d → (a ≡ c) × (b ≡ d)
same_code false false false false e = (refl, refl)
same_code false false true false e = absurd (omega arith)
same_code false false false true e = absurd (omega arith)
same_code false false true true e = absurd (omega arith)
same_code true false false false e = absurd (omega arith)
same_code true false true false e = (refl, refl)
same_code true false false true e = absurd (omega arith)
same_code true false true true e = absurd (omega arith)
same_code false true false false e = absurd (omega arith)
same_code false true true false e = absurd (omega arith)
same_code false true false true e = (refl, refl)
same_code false true true true e = absurd (omega arith)
same_code true true false false e = absurd (omega arith)
same_code true true true false e = absurd (omega arith)
same_code true true false true e = absurd (omega arith)
same_code true true true true e = (refl, refl)

pub code_small : (a b : Bool) → code_of a b < 4
code_small false false = omega arith
code_small true false = omega arith
code_small false true = omega arith
code_small true true = omega arith

-- two output pins are all
pub flips_are : (chip : Chip) (goods : ℕ → Trit) (u : ℕ) (outputs : List Wave) (first second : Bool) → outputs_at chip u ≤ 2
    → IsFlippedAt chip goods u outputs 0 first → IsFlippedAt chip goods u outputs 1 second → AreFlipsOf chip goods u outputs (record { first = first; second = second })
flips_are chip goods u outputs first second few is_first is_second zero within = is_first within
flips_are chip goods u outputs first second few is_first is_second (suc zero) within = is_second within
flips_are chip goods u outputs first second few is_first is_second (suc (suc more)) within = absurd (omega arith)

-- one wave more
pub pins_more : (P : ℕ → Wave → Type 0) (old new : List Wave) (wave : Wave) (pin : ℕ) → length old ≡ pin → new ≡ old ++ wave ∷ []
    → ((k : ℕ) → k < pin → P k (wave_at old k)) → P pin wave → (k : ℕ) → k < pin + 1 → P k (wave_at new k)
pins_more P old new wave pin count is each here = below_more (λ k. P k (wave_at new k)) pin
    (λ k less. subst (P k) (sym (ap (λ list. wave_at list k) is ∙ get_or_append_left old (wave ∷ []) unknown_wave k (omega arith))) (each k less))
    (subst (P pin) (sym (ap (λ list. wave_at list pin) is ∙ get_or_push old wave unknown_wave pin (omega arith))) here)
