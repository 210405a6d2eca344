-- The patterns that `atpg` writes read back.
use Rattle.std.specs.Prelude.{ℕ, ◌≡◌, Bool, List, Some, IsSome, Ok}
use Rattle.ca_net.specs.declared.trit.Trit.{Trit}
use Rattle.ca_linked.specs.Linked.{LinkedChip}
use Rattle.ca_view.specs.Core.{core_of}
use Rattle.ca_credit.specs.declared.verdict.Verdict.{Verdict}
use Rattle.ca_expected.specs.Expected.{AreExpected}
use Rattle.ca_stil_form.specs.Tokens.{tokens_of}
use Rattle.ca_stil_form.specs.Reading.{whole}
use Rattle.ca_stil_form.specs.Whole.{stil_form}
use Rattle.ca_stil_form.specs.Value.{stil_value}
use Rattle.ca_chip_stil.specs.ChipStil.{stil_chip}
use Rattle.ca_stil_pairs.specs.Laws.{IsReadBack}
use Rattle.ca_atpg.specs.Atpg.{IsStil}
use Rattle.ca_flow.specs.declared.finished.Done.TheVariants.{Atpg}
use Rattle.ca_flow.specs.declared.finished.Finished.{Finished}
use Rattle.ca_flow.specs.Fault.{Outside}
use Rattle.ca_flow.specs.Ends.{Ends}

-- the text reads, by the grammar of the form, as the chip's signals, groups and chains with these pairs and
-- what the good chip ends with under each; so a file with this text gives `grade`, `diagnose` and `verify`
-- these pairs and values, and has no fault
pub record ReadsBack (chip : LinkedChip) (chains : List (List ℕ)) (pairs : List (List Bool)) (text : List ℕ)
    : Type 0 where
  pub expected : List (List Trit)
  pub are_expected : AreExpected (core_of chip) pairs expected
  pub reads : whole stil_form (tokens_of text) ≡ Ok (stil_value (stil_chip chip chains) pairs expected)
  pub back : IsReadBack (stil_chip chip chains) text pairs expected

-- where `atpg` does its work, and the store's files are known, the text of the pairs reads back: that is the
-- text which STIL holds after status 0
abbrev pub AtpgTextIsRead : Type 0
AtpgTextIsRead =
    (words : List (List ℕ)) (before after : Outside) (end : Finished) (chip : LinkedChip)
    (chains : List (List ℕ))
    (pairs : List (List Bool)) (aims : List ℕ) (verdicts : List Verdict) (text : List ℕ)
    → IsSome before.files → Ends words before after end
    → end.done ≡ Some (Atpg chip chains pairs aims verdicts) → IsStil chip chains pairs text
    → ReadsBack chip chains pairs text
