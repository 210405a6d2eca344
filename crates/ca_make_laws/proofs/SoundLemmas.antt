-- The cells of generated chips keep the rules of cells, and so a library that their text reads as has each as
-- a cell.
use Rattle.std.proofs.Common.{◌≡◌, ℕ, zero, suc, List, [], ◌∷◌, map, ap, subst, arith, codes, inl, inr}
use Rattle.std.specs.Prelude.{IsSome, IsSomeAnd, slice_get}
use Rattle.std.specs.List.{All, AllByRecursion}
use Rattle.ca_cell.specs.declared.library.Entry.{Entry}
use Rattle.ca_cell.specs.declared.library.Entry.TheVariants.{Sound, Refused}
use Rattle.ca_cell.specs.declared.raw.RawDevice.{RawDevice}
use Rattle.ca_cell.specs.declared.raw.RawCell.{RawCell}
use Rattle.ca_cell.specs.declared.rule.CellRule.TheVariants as rule
use Rattle.ca_cell.specs.Library.{Named, raw_of, IsEntry}
use Rattle.ca_cell.specs.Rules.{Breaks, KeepsRules, channel_pin}
use Rattle.ca_spice.specs.Views.{subcircuit_seen}
use Rattle.ca_spice.specs.Writing.{kept_as}
use Rattle.ca_make_laws.specs.Cells.{inv, nand2, nor2, cells, sound_library}

-- what none of a list has, none at a place has
none_at : {T : Type 0} (P : T → Type 0) (xs : List T) → AllByRecursion (λ x. P x → ⊥) xs → (place : ℕ)
    → IsSomeAnd (slice_get xs place) P → ⊥
none_at P [] none place here = here
none_at P (x ∷ xs) none zero here = none.0 here
none_at P (x ∷ xs) none (suc place) here = none_at P xs none.1 place here

abbrev OnChannel : RawCell → RawDevice → Type 0
OnChannel raw device = IsSome (channel_pin raw.pins device)

inv_keeps : KeepsRules inv
inv_keeps rule.NoRail broken = elim broken [ inl none ↦ absurd (omega (arith, none)) | inr none ↦ absurd (omega (arith, none)) ]
inv_keeps (rule.TooManyDevices count) broken = let is = broken.0 in let many = broken.1 in absurd (omega (arith, is, many))
inv_keeps (rule.TooManyNodes count) broken = let is = broken.0 in let many = broken.1 in absurd (omega (arith, is, many))
inv_keeps (rule.TooManyInputs count) broken = let is = broken.0 in let many = broken.1 in absurd (omega (arith, is, many))
inv_keeps rule.NoOutput broken = absurd (omega (arith, broken))
inv_keeps (rule.TooManyOutputs count) broken = let is = broken.0 in let many = broken.1 in absurd (omega (arith, is, many))
inv_keeps (rule.InputDrivesChannel pin device) broken =
    none_at (OnChannel inv) inv.devices (λ on. absurd cc, (λ on. absurd cc, tt)) device.0 broken.first.here

nand2_keeps : KeepsRules nand2
nand2_keeps rule.NoRail broken = elim broken [ inl none ↦ absurd (omega (arith, none)) | inr none ↦ absurd (omega (arith, none)) ]
nand2_keeps (rule.TooManyDevices count) broken = let is = broken.0 in let many = broken.1 in absurd (omega (arith, is, many))
nand2_keeps (rule.TooManyNodes count) broken = let is = broken.0 in let many = broken.1 in absurd (omega (arith, is, many))
nand2_keeps (rule.TooManyInputs count) broken = let is = broken.0 in let many = broken.1 in absurd (omega (arith, is, many))
nand2_keeps rule.NoOutput broken = absurd (omega (arith, broken))
nand2_keeps (rule.TooManyOutputs count) broken = let is = broken.0 in let many = broken.1 in absurd (omega (arith, is, many))
nand2_keeps (rule.InputDrivesChannel pin device) broken =
    none_at (OnChannel nand2) nand2.devices (λ on. absurd cc, (λ on. absurd cc, (λ on. absurd cc, (λ on. absurd cc, tt)))) device.0 broken.first.here

nor2_keeps : KeepsRules nor2
nor2_keeps rule.NoRail broken = elim broken [ inl none ↦ absurd (omega (arith, none)) | inr none ↦ absurd (omega (arith, none)) ]
nor2_keeps (rule.TooManyDevices count) broken = let is = broken.0 in let many = broken.1 in absurd (omega (arith, is, many))
nor2_keeps (rule.TooManyNodes count) broken = let is = broken.0 in let many = broken.1 in absurd (omega (arith, is, many))
nor2_keeps (rule.TooManyInputs count) broken = let is = broken.0 in let many = broken.1 in absurd (omega (arith, is, many))
nor2_keeps rule.NoOutput broken = absurd (omega (arith, broken))
nor2_keeps (rule.TooManyOutputs count) broken = let is = broken.0 in let many = broken.1 in absurd (omega (arith, is, many))
nor2_keeps (rule.InputDrivesChannel pin device) broken =
    none_at (OnChannel nor2) nor2.devices (λ on. absurd cc, (λ on. absurd cc, (λ on. absurd cc, (λ on. absurd cc, tt)))) device.0 broken.first.here

-- an entry of a subcircuit that keeps the rules is a cell
sound_entry : (raw : RawCell) (entry : Entry) → KeepsRules raw → raw_of entry ≡ raw → IsEntry entry → entry ≡ Sound raw
sound_entry raw (Sound other) keeps is it = ap Sound is
sound_entry raw (Refused other broken) keeps is it =
    absurd (keeps broken (subst (λ (r : RawCell). Breaks r broken) is it.1.broken))

head_same : {T : Type 0} (x y : T) (xs ys : List T) → x ∷ xs ≡ y ∷ ys → x ≡ y
head_same x y xs ys is = cc

tail_same : {T : Type 0} (x y : T) (xs ys : List T) → x ∷ xs ≡ y ∷ ys → xs ≡ ys
tail_same x y xs ys is = cc

-- so is one that is seen as such a subcircuit under a name
sound_named : (name : List ℕ) (raw : RawCell) (named : Named) → KeepsRules raw → subcircuit_seen named ≡ kept_as name raw
    → IsEntry named.entry → named ≡ record { name = (kept_as name raw).name; entry = Sound raw }
sound_named name raw named keeps is it =
    λ i. record { name = (is i).name; entry = sound_entry raw named.entry keeps (λ j. (is j).raw) it i }

pub sound_cells : (library : List Named) → map subcircuit_seen library ≡ map (λ cell. kept_as cell.0 cell.1) cells
    → All (λ named. IsEntry named.entry) library → library ≡ sound_library
sound_cells [] is all = absurd cc
sound_cells (a ∷ []) is all = absurd (let e = tail_same _ _ _ _ is in cc)
sound_cells (a ∷ b ∷ []) is all = absurd (let e = tail_same _ _ _ _ (tail_same _ _ _ _ is) in cc)
sound_cells (a ∷ b ∷ c ∷ []) is all =
    let second = tail_same _ _ _ _ is in
    let third = tail_same _ _ _ _ second in
    λ i. sound_named (codes "INV") inv a inv_keeps (head_same _ _ _ _ is) (all 0 a (omega arith)) i
    ∷ sound_named (codes "NAND2") nand2 b nand2_keeps (head_same _ _ _ _ second) (all 1 b (omega arith)) i
    ∷ sound_named (codes "NOR2") nor2 c nor2_keeps (head_same _ _ _ _ third) (all 2 c (omega arith)) i
    ∷ []
sound_cells (a ∷ b ∷ c ∷ d ∷ more) is all =
    absurd (let e = tail_same _ _ _ _ (tail_same _ _ _ _ (tail_same _ _ _ _ is)) in cc)
