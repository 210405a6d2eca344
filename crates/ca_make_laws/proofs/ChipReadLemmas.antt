-- The text of a generated chip is read, and nothing else is answered about it.
use Rattle.std.proofs.Common.{◌≡◌, ℕ, List, Ok, Err, Result, ap, ◌∙◌}
use Rattle.ca_make.specs.Chip.{gates_of, unloaded}
use Rattle.ca_make.specs.NetlistText.{netlist_text}
use Rattle.ca_syntax.proofs.NetlistLemmas.{right_read}
use Rattle.ca_make_laws.specs.ChipTree.{chip_tree}
use Rattle.ca_verilog.specs.declared.raw.RawNetlist.{RawNetlist}
use Rattle.ca_make_laws.proofs.NumberLemmas.{in_numbers}
use Rattle.ca_make_laws.specs.Laws.{NetlistIsRead, ChipHasTree}
use Rattle.ca_make_laws.proofs.SpelledLemmas.{chip_spelled}
use Rattle.ca_make_laws.proofs.ChipLemmas.{are_spelled}
use Rattle.ca_make_laws.proofs.RightLemmas.{tree_right, few_bits}

pub chip_has_tree : ChipHasTree
unfolding netlist_text
chip_has_tree n le =
    let gates = gates_of n in
    let outputs = unloaded (gates_of n) in
    let are = are_spelled n le in
    record {
      spelled = chip_spelled gates outputs are;
      right = tree_right gates outputs are;
      few_bits = few_bits gates outputs are;
      same = in_numbers gates outputs are;
    }

pub chip_read : NetlistIsRead
chip_read n le =
    let it = chip_has_tree n le in
    right_read (netlist_text n) (chip_tree n) it.spelled it.right it.few_bits ∙ ap (λ (raw : RawNetlist). Ok raw) it.same

-- what a text is read as is what it has to be
pub same_reading : {Value Fault : Type 0} (reading : List ℕ → Result Value Fault) (bytes text : List ℕ) (one other : Value)
    → bytes ≡ text → reading text ≡ Ok other → reading bytes ≡ Ok one → one ≡ other
same_reading reading bytes text one other same read is =
    let here : reading bytes ≡ Ok other = ap reading same ∙ read in cc

-- and it isn't refused
pub no_fault : {Value Fault : Type 0} (reading : List ℕ → Result Value Fault) (bytes text : List ℕ) (fault : Fault) (other : Value)
    → bytes ≡ text → reading text ≡ Ok other → reading bytes ≡ Err fault → ⊥
no_fault reading bytes text fault other same read is =
    let here : reading bytes ≡ Ok other = ap reading same ∙ read in cc
