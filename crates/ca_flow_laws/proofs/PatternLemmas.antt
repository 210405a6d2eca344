-- The text of the pairs of an answer of `atpg` reads back.
use Rattle.std.proofs.Common.{ℕ, ◌≡◌, ◌∙◌, ◌≤◌, List, length, Option, Some, None, refl, sym, ap, subst}
use Rattle.std.specs.Prelude.{IfSome, IsSome, IsSomeAnd, Ok}
use Rattle.ca_store.specs.Store.{Files}
use Rattle.ca_linked.specs.Linked.{LinkedChip}
use Rattle.ca_verilog.specs.Text.{netlist_of}
use Rattle.ca_stil_form.specs.Tokens.{tokens_of}
use Rattle.ca_stil_form.specs.Reading.{whole}
use Rattle.ca_stil_form.specs.Whole.{stil_form}
use Rattle.ca_stil_laws.specs.Laws.{IsNamedLink, ChipTextIsRead}
use Rattle.ca_stil_laws.specs.Names.{PortsAreNamed}
use Rattle.ca_chip_stil.specs.ChipStil.{stil_chip}
use Rattle.ca_stil_pairs.specs.Laws.{IsReadBack}
use Rattle.ca_chip_pairs.specs.Laws.{WrittenChipIsReadBack}
use Rattle.ca_atpg.proofs.AtpgLemmas.{task_pairs_fit, are_of_chip}
use Rattle.ca_load.specs.Texts.{Inputs}
use Rattle.ca_load.specs.Chips.{IsChipOf}
use Rattle.ca_words.specs.Words.{chip_files}
use Rattle.ca_on_chip.specs.OnChip.{IsChipOfFiles}
use Rattle.ca_flow.specs.declared.finished.Done.{Done}
use Rattle.ca_flow.specs.declared.finished.Done.TheVariants.{Atpg}
use Rattle.ca_flow.specs.Ends.{IsAsked}
use Rattle.ca_flow_laws.specs.Patterns.{AtpgTextIsRead}

-- the netlist of the inputs is what some text reads as, so the ports of their chip have names of the form
pub named : PortsAreNamed → (inputs : Inputs) (chip : LinkedChip) → IsChipOf inputs chip → (there : Option (List ℕ)) (most : ℕ)
    → IsSomeAnd there (λ bytes. (length bytes ≤ most) × (netlist_of bytes ≡ Ok inputs.netlist))
    → IsNamedLink inputs.netlist inputs.library inputs.rows chip
named ports inputs chip is None most held = absurd held
named ports inputs chip is (Some bytes) most held = record {
  kept = is.kept;
  link = is.link;
  few_parts = is.wired.few_parts;
  named = ports bytes inputs.netlist inputs.library inputs.rows chip held.1 is.link;
}

-- the inputs that a store's files read as
with_inputs : (files : Option Files) (words : List (List ℕ)) (chip : LinkedChip) → PortsAreNamed → IsSome files
    → IsChipOfFiles files (chip_files words) chip
    → (inputs : Inputs) × IsNamedLink inputs.netlist inputs.library inputs.rows chip
with_inputs None words chip ports some held = absurd cc
with_inputs (Some reported) words chip ports some held =
    let found = held reported refl in
    (found.0, named ports found.0 chip found.1.1 (reported (chip_files words).netlist) _ found.1.0.netlist)

-- what is done is what was asked
asked_of : (words : List (List ℕ)) (files : Option Files) (done : Option Done) (it : Done) → done ≡ Some it
    → IfSome done (IsAsked words files) → IsAsked words files it
asked_of words files done it at held = subst (λ (o : Option Done). IfSome o (IsAsked words files)) at held

pub text_is_read : ChipTextIsRead → PortsAreNamed → WrittenChipIsReadBack → AtpgTextIsRead
text_is_read reads ports written words before after end chip chains pairs aims verdicts text some ends at is =
    let asked = asked_of words before.files end.done (Atpg chip chains pairs aims verdicts) at ends.asked in
    let link = with_inputs before.files words chip ports some asked.1.1.0 in
    let tests = asked.1.1.1 in
    let of_chip = are_of_chip chip chains pairs is.expected asked.1.0
    (task_pairs_fit chip tests.budget pairs aims verdicts tests.good) is.are_expected in
    record {
      expected = is.expected;
      are_expected = is.are_expected;
      reads = ap (λ (bytes : List ℕ). whole stil_form (tokens_of bytes)) is.is
          ∙ reads link.0.netlist link.0.library link.0.rows chip chains pairs is.expected link.1 of_chip;
      back = subst (λ (bytes : List ℕ). IsReadBack (stil_chip chip chains) bytes pairs is.expected) (sym is.is)
          (written link.0.netlist link.0.library link.0.rows chip chains pairs is.expected link.1 of_chip);
    }
