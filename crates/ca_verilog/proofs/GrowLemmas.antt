-- Operands of declared names stay such when further names are declared.
use Rattle.std.proofs.Common.{◌≡◌, ℕ, zero, suc, ◌<◌, ◌≤◌, List, [], ◌∷◌, ◌++◌, length}
use Rattle.std.proofs.Common.{Option, Some, None, arith, refl, sym, ap, ◌∙◌, subst, length-append}
use Rattle.std.specs.Prelude.{slice_get, slice_set}
use Rattle.std.specs.List.{All}
use Rattle.std.proofs.lemmas.List.Elements.{All-weaker}
use Rattle.ca_verilog.specs.declared.bus.Bus.{Bus}
use Rattle.ca_verilog.specs.declared.instance.Operand.{Operand}
use Rattle.ca_verilog.specs.declared.instance.Operand.TheVariants.{Whole, Bit, Constant}
use Rattle.ca_verilog.specs.declared.instance.Join.{Join}
use Rattle.ca_verilog.specs.declared.instance.Use.{Use}
use Rattle.ca_verilog.specs.declared.instance.Instance.{Instance}
use Rattle.ca_verilog.specs.Bus.{range_at}
use Rattle.ca_verilog.specs.code.Kept.{IsIndexOf, IsOperand, IsUsed, IsJoin, AreUses, AreInstances, IsHand}
use Rattle.ca_verilog.specs.Reading.{Hand, width_in, width_of}

-- the declared names have their places and ranges among the grown ones
pub record Grows (buses grown : List Bus) : Type 0 where
  pub longer : length buses ≤ length grown
  pub ranges : (place : ℕ) → place < length buses → range_at place grown ≡ range_at place buses

pushed_range : (buses : List Bus) (bus : Bus) (place : ℕ) → place < length buses → range_at place (buses ++ bus ∷ []) ≡ range_at place buses
pushed_range [] bus place within = absurd (omega arith)
pushed_range (first ∷ more) bus zero within = refl
pushed_range (first ∷ more) bus (suc place) within = pushed_range more bus place (omega arith)

-- a further name
pub pushed : (buses : List Bus) (bus : Bus) → Grows buses (buses ++ bus ∷ [])
pushed buses bus = record { longer = omega (arith, length-append buses (bus ∷ [])); ranges = pushed_range buses bus }

set_range : (buses : List Bus) (here : ℕ) (old new : Bus) → slice_get buses here ≡ Some old → new.range ≡ old.range
    → (place : ℕ) → range_at place (slice_set buses here new) ≡ range_at place buses
set_range [] here old new there same place = absurd cc
set_range (first ∷ more) zero old new there same zero =
    let is : first ≡ old = cc in
    same ∙ ap (λ (bus : Bus). bus.range) (sym is)
set_range (first ∷ more) zero old new there same (suc place) = refl
set_range (first ∷ more) (suc here) old new there same zero = refl
set_range (first ∷ more) (suc here) old new there same (suc place) = set_range more here old new there same place

set_length : (buses : List Bus) (here : ℕ) (new : Bus) → length (slice_set buses here new) ≡ length buses
set_length [] here new = refl
set_length (first ∷ more) zero new = refl
set_length (first ∷ more) (suc here) new = ap (λ (count : ℕ). suc count) (set_length more here new)

-- a name that is declared again with its range
pub set_again : (buses : List Bus) (here : ℕ) (old new : Bus) → slice_get buses here ≡ Some old → new.range ≡ old.range
    → Grows buses (slice_set buses here new)
set_again buses here old new there same = record {
  longer = omega (arith, set_length buses here new);
  ranges = λ place within. set_range buses here old new there same place;
}

pub itself : (buses : List Bus) → Grows buses buses
itself buses = record { longer = omega arith; ranges = λ place within. refl }

pub operand_grown : (buses grown : List Bus) → Grows buses grown → (operand : Operand) → IsOperand buses operand → IsOperand grown operand
operand_grown buses grown grows (Whole place) is = omega (arith, grows.longer)
operand_grown buses grown grows (Bit place index) is =
    (omega (arith, grows.longer, is.0), subst (IsIndexOf index) (sym (grows.ranges place is.0)) is.1)
operand_grown buses grown grows (Constant value) is = tt

pub width_grown : (buses grown : List Bus) → Grows buses grown → (operand : Operand) → IsOperand buses operand
    → width_of grown operand ≡ width_of buses operand
width_grown buses grown grows (Whole place) is = ap width_in (grows.ranges place is)
width_grown buses grown grows (Bit place index) is = refl
width_grown buses grown grows (Constant value) is = refl

pub join_grown : (buses grown : List Bus) → Grows buses grown → (join : Join) → IsJoin buses join → IsJoin grown join
join_grown buses grown grows join is = record {
  left_side = operand_grown buses grown grows join.left is.left_side;
  right_side = operand_grown buses grown grows join.right is.right_side;
  same_width = width_grown buses grown grows join.left is.left_side ∙ is.same_width
      ∙ sym (width_grown buses grown grows join.right is.right_side);
}

pub joins_grown : (buses grown : List Bus) → Grows buses grown → (joins : List Join) → All (IsJoin buses) joins → All (IsJoin grown) joins
joins_grown buses grown grows joins are = All-weaker (IsJoin buses) (IsJoin grown) (join_grown buses grown grows) joins are

used_grown : (buses grown : List Bus) → Grows buses grown → (on : Option Operand) → IsUsed buses on → IsUsed grown on
used_grown buses grown grows None is = tt
used_grown buses grown grows (Some operand) is = operand_grown buses grown grows operand is

pub uses_grown : (buses grown : List Bus) → Grows buses grown → (uses : List Use) → AreUses buses uses → AreUses grown uses
uses_grown buses grown grows uses are = record {
  distinct = are.distinct;
  used = All-weaker (λ (used : Use). IsUsed buses used.operand) (λ (used : Use). IsUsed grown used.operand)
      (λ used. used_grown buses grown grows used.operand) uses are.used;
}

pub instances_grown : (buses grown : List Bus) → Grows buses grown → (instances : List Instance) → AreInstances buses instances
    → AreInstances grown instances
instances_grown buses grown grows instances are = record {
  distinct = are.distinct;
  each = All-weaker (λ (instance : Instance). AreUses buses instance.uses) (λ (instance : Instance). AreUses grown instance.uses)
      (λ instance. uses_grown buses grown grows instance.uses) instances are.each;
}

pub hand_grown : (buses grown : List Bus) → Grows buses grown → (hand : Hand) → IsHand buses hand → IsHand grown hand
hand_grown buses grown grows hand is = record {
  uses = uses_grown buses grown grows hand.uses is.uses;
  left_side = operand_grown buses grown grows hand.left is.left_side;
  operand = operand_grown buses grown grows hand.operand is.operand;
}
