-- The text of a chip's pairs is read back.
use Rattle.std.proofs.Common.{◌≡◌, ℕ, ◌∙◌, ap, sym, refl, Bool, List, Ok}
use Rattle.ca_net.specs.declared.trit.Trit.{Trit}
use Rattle.ca_stil.specs.declared.chip.StilChip.{StilChip}
use Rattle.ca_stil.specs.Chip.{AreOf}
use Rattle.ca_stil.specs.Text.{stil_text}
use Rattle.ca_stil_form.specs.Reading.{whole}
use Rattle.ca_stil_form.specs.Tokens.{tokens_of}
use Rattle.ca_stil_form.specs.Value.{stil_value}
use Rattle.ca_stil_form.specs.Whole.{stil_form}
use Rattle.ca_stil_pairs.specs.declared.read.StilFault.{StilFault}
use Rattle.ca_stil_pairs.specs.declared.read.StilFault.TheVariants as fault
use Rattle.ca_stil_pairs.specs.Chip.{chip_part, IsCovered}
use Rattle.ca_stil_pairs.specs.File.{IsCause}
use Rattle.ca_stil_pairs.specs.Laws.{IsReadBack}
use Rattle.ca_stil_pairs.proofs.UniqueLemmas.{one_file}

no_cause : (chip : StilChip) (bytes : List ℕ) (pairs : List (List Bool)) (expected : List (List Trit)) (why : StilFault)
    → whole stil_form (tokens_of bytes) ≡ Ok (stil_value chip pairs expected) → IsCause chip bytes why → why ≡ fault.NoMemory
no_cause chip bytes pairs expected (fault.At line) reads cause =
    let both = sym reads ∙ cause.faulty in absurd cc
no_cause chip bytes pairs expected fault.OtherChip reads cause =
    let both = sym reads ∙ cause.reads in
    let same : stil_value chip pairs expected ≡ cause.value = cc in
    absurd (cause.other (ap chip_part (sym same)))
no_cause chip bytes pairs expected fault.NoMemory reads cause = refl

pub read_back : (chip : StilChip) (pairs : List (List Bool)) (expected : List (List Trit)) → IsCovered chip → AreOf chip pairs expected
    → whole stil_form (tokens_of (stil_text chip pairs expected)) ≡ Ok (stil_value chip pairs expected)
    → IsReadBack chip (stil_text chip pairs expected) pairs expected
read_back chip pairs expected covered are reads = record {
  files = λ file is.
      let both = sym is.reads ∙ reads in
      let same : stil_value chip file.pairs file.expected ≡ stil_value chip pairs expected = cc in
      one_file chip file pairs expected covered is.are are same;
  faults = λ why cause. no_cause chip (stil_text chip pairs expected) pairs expected why reads cause;
}
