-- The line that says how many defects have which verdict, and how many pairs there are.
use Rattle.std.specs.Prelude.{ℕ, Bool, true, false, List, [], ◌++◌, length, codes, decimal}
use Rattle.std.specs.List.{filter}
use Rattle.ca_credit.specs.declared.verdict.Verdict.{Verdict}
use Rattle.ca_credit.specs.declared.verdict.Verdict.TheVariants.{Credited, Unexposable, Untestable, Aborted}
use Rattle.ca_chip_report.specs.declared.summary.Kind.{Kind}
use Rattle.ca_chip_report.specs.declared.summary.Kind.TheVariants as kind
use Rattle.ca_chip_report.specs.declared.summary.Summary.{Summary}

-- whether the verdict is of the kind
abbrev pub is_kind : Kind → Verdict → Bool
is_kind kind.Credited (Credited pair output) = true
is_kind kind.Unexposable Unexposable = true
is_kind kind.Untestable Untestable = true
is_kind kind.Aborted (Aborted code) = true
is_kind _ _ = false

-- how many of the verdicts are of the kind
abbrev pub count_of : Kind → List Verdict → ℕ
count_of kind verdicts = length (filter (is_kind kind) verdicts)

-- the numbers of all defects, of those with each verdict, and of the pairs
abbrev pub summary_of : List Verdict → ℕ → Summary
summary_of verdicts pairs = record {
  defects = length verdicts;
  credited = count_of kind.Credited verdicts;
  unexposable = count_of kind.Unexposable verdicts;
  untestable = count_of kind.Untestable verdicts;
  aborted = count_of kind.Aborted verdicts;
  pairs = pairs;
}

-- the text with a label and a number after it
abbrev pub with_count : List ℕ → List ℕ → ℕ → List ℕ
with_count text label count = (text ++ label) ++ decimal count

-- the line of a summary
abbrev pub summary_line : Summary → List ℕ
summary_line summary =
    let defects = with_count [] (codes "defects ") summary.defects in
    let credited = with_count defects (codes ", credited ") summary.credited in
    let unexposable = with_count credited (codes ", unexposable ") summary.unexposable in
    let untestable = with_count unexposable (codes ", untestable ") summary.untestable in
    let aborted = with_count untestable (codes ", aborted ") summary.aborted in
    with_count aborted (codes ", pairs ") summary.pairs ++ codes "\n"
