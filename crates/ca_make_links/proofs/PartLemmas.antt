-- The instances of a generated chip, one by one.
use Rattle.std.proofs.Common.{◌≡◌, ℕ, zero, suc, ◌+◌, true, List, [], ◌∷◌, Some, None, refl, sym, ap, ◌∙◌}
use Rattle.std.proofs.Common.{subst, arith, codes}
use Rattle.std.specs.Prelude.{slice_get}
use Rattle.std.specs.List.{AllByRecursion}
use Rattle.ca_names.specs.Names.{has_name}
use Rattle.ca_cell.specs.declared.raw.RawCell.{RawCell}
use Rattle.ca_verilog.specs.declared.raw.RawUse.{RawUse}
use Rattle.ca_wiring.specs.Wiring.{Library, WiredPart, meaning_of, input_names, bit_on, wired_parts}
use Rattle.ca_wiring.specs.InstanceRules.{pin_names, IsSound}
use Rattle.ca_make.specs.declared.gate.Gate.{Gate}
use Rattle.ca_make.specs.declared.gate.Gate.TheVariants as gate
use Rattle.ca_make.specs.NetlistText.{numbered, cell_of}
use Rattle.ca_make_laws.specs.Cells.{inv, nand2, nor2, sound_library}
use Rattle.ca_make_laws.specs.ChipNetlist.{candidate_bit, wire_bit, gate_instance, each_from}

-- what is given at a place
pub record IsGivenAt {X Y : Type 0} (give : ℕ → X → Y) (from : ℕ) (xs : List X) (place : ℕ) (y : Y) : Type 0 where
  pub entry : X
  pub at : slice_get xs place ≡ Some entry
  pub is : y ≡ give (from + place) entry

pub given_at : {X Y : Type 0} (give : ℕ → X → Y) (from : ℕ) (xs : List X) (place : ℕ) (y : Y)
    → slice_get (each_from give from xs) place ≡ Some y → IsGivenAt give from xs place y
given_at give from [] place y is = absurd cc
given_at give from (x ∷ xs) zero y is = record {
  entry = x;
  at = refl;
  is =
      let same : give from x ≡ y = cc in
      sym same ∙ ap (λ n. give n x) (let e : from ≡ from + 0 = omega arith in e);
}
given_at give from (x ∷ xs) (suc place) y is =
    let later = given_at give (from + 1) xs place y is in
    record {
      entry = later.entry;
      at = later.at;
      is = later.is ∙ ap (λ n. give n later.entry) (let e : from + 1 + place ≡ from + suc place = omega arith in e);
    }

-- what each of a list has, that at a place has
at_has : {T : Type 0} (P : T → Type 0) (xs : List T) → AllByRecursion P xs → (place : ℕ) (x : T) → slice_get xs place ≡ Some x → P x
at_has P [] all place x is = absurd cc
at_has P (first ∷ xs) all zero x is = subst P (let same : first ≡ x = cc in same) all.0
at_has P (first ∷ xs) all (suc place) x is = at_has P xs all.1 place x is

-- the pins of a cell are known, and its inputs are on bits
pins_sound : (raw : RawCell) (uses : List RawUse)
    → AllByRecursion (λ used. has_name used.pin (pin_names (Library raw)) ≡ true) uses
    → AllByRecursion (λ name. bit_on uses name ≡ None → ⊥) (input_names (Library raw)) → IsSound (Library raw) uses
pins_sound raw uses named on = record {
  known = tt;
  no_stray = λ place pin stray.
      let has = at_has (λ used. has_name used.pin (pin_names (Library raw)) ≡ true) uses named place stray.used stray.at in
      absurd (let clash = sym has ∙ ap (λ name. has_name name (pin_names (Library raw))) stray.named ∙ stray.stray in cc);
  no_open = λ place pin lacks.
      at_has (λ name. bit_on uses name ≡ None → ⊥) (input_names (Library raw)) on place pin lacks.at lacks.is_open;
}

pub gate_sound : (outputs k : ℕ) (it : Gate)
    → IsSound (meaning_of sound_library [] (gate_instance outputs k it).cell) (gate_instance outputs k it).pins
gate_sound outputs k (gate.Inv a) =
    pins_sound inv (gate_instance outputs k (gate.Inv a)).pins (refl, (refl, tt)) (λ is. absurd cc, tt)
gate_sound outputs k (gate.Nand2 a b) =
    pins_sound nand2 (gate_instance outputs k (gate.Nand2 a b)).pins (refl, (refl, (refl, tt))) (λ is. absurd cc, (λ is. absurd cc, tt))
gate_sound outputs k (gate.Nor2 a b) =
    pins_sound nor2 (gate_instance outputs k (gate.Nor2 a b)).pins (refl, (refl, (refl, tt))) (λ is. absurd cc, (λ is. absurd cc, tt))

-- the subcircuit of a gate, and the wires of its input pins
abbrev pub raw_of_gate : Gate → RawCell
raw_of_gate (gate.Inv a) = inv
raw_of_gate (gate.Nand2 a b) = nand2
raw_of_gate (gate.Nor2 a b) = nor2

abbrev pub gate_wires : ℕ → Gate → List ℕ
gate_wires outputs (gate.Inv a) = candidate_bit outputs a ∷ []
gate_wires outputs (gate.Nand2 a b) = candidate_bit outputs a ∷ candidate_bit outputs b ∷ []
gate_wires outputs (gate.Nor2 a b) = candidate_bit outputs a ∷ candidate_bit outputs b ∷ []

-- an instance with its wires
abbrev pub chip_part : ℕ → ℕ → Gate → WiredPart
chip_part outputs k it = record {
  name = numbered (codes "u") k;
  cell = cell_of it;
  meaning = Library (raw_of_gate it);
  inputs = gate_wires outputs it;
  outputs = wire_bit outputs k ∷ [];
}

pub parts_are : (bits own outputs from : ℕ) (gates : List Gate)
    → wired_parts sound_library [] bits own (each_from (gate_instance outputs) from gates) ≡ each_from (chip_part outputs) from gates
parts_are bits own outputs from [] = refl
parts_are bits own outputs from (gate.Inv a ∷ gates) =
    ap (λ (list : List WiredPart). chip_part outputs from (gate.Inv a) ∷ list) (parts_are bits (own + 0) outputs (from + 1) gates)
parts_are bits own outputs from (gate.Nand2 a b ∷ gates) =
    ap (λ (list : List WiredPart). chip_part outputs from (gate.Nand2 a b) ∷ list) (parts_are bits (own + 0) outputs (from + 1) gates)
parts_are bits own outputs from (gate.Nor2 a b ∷ gates) =
    ap (λ (list : List WiredPart). chip_part outputs from (gate.Nor2 a b) ∷ list) (parts_are bits (own + 0) outputs (from + 1) gates)
