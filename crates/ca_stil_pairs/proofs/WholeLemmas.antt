-- A whole text of a chip has the values that its pairs by place make.
use Rattle.std.proofs.Common.{◌≡◌, ℕ, ◌+◌, ◌<◌, ◌^◌, Bool, true, false, ◌&&◌, List, [], ◌∷◌, length, map, ap}
use Rattle.std.proofs.Common.{sym, ◌∙◌, arith, refl, subst}
use Rattle.std.specs.Prelude.{Option, Some, None, Ok}
use Rattle.std.specs.List.{All, AllByRecursion}
use Rattle.std.proofs.lemmas.List.{length-map}
use Rattle.ca_net.specs.declared.trit.Trit.{Trit}
use Rattle.ca_stil.specs.declared.chip.StilChip.{StilChip}
use Rattle.ca_stil.specs.Chip.{IsPairOf, AreValuesOf, IsStilChip}
use Rattle.ca_stil.specs.Chip as model
use Rattle.ca_stil_form.specs.Form.{all_allowed, all_each, allowed_maybe}
use Rattle.ca_stil_form.specs.Frame.{Frame, longest}
use Rattle.ca_stil_form.specs.Pattern.{PairValues, pair_form}
use Rattle.ca_stil_form.specs.Whole.{Stil, signal_form, chain_form, ports_of, frame_of, stil_form, inputs_part}
use Rattle.ca_stil_form.specs.Whole.{outputs_part, scan_part, rest_form}
use Rattle.ca_stil_form.specs.Value.{all_values, stil_value}
use Rattle.ca_stil_form.proofs.FormLemmas.{left_true, right_true}
use Rattle.ca_stil_form.proofs.PairTexts.{chain_seen, frame_seen, frame_same, longest_same, all_up_to}
use Rattle.ca_stil_read.specs.declared.pair.TextPair.{TextPair}
use Rattle.ca_stil_read.specs.declared.read.StilText.{StilText}
use Rattle.ca_stil_read.specs.Kept.{pair_seen}
use Rattle.ca_stil_read.specs.Plan.{flat_pair}
use Rattle.ca_stil_read.specs.Text.{ReadsAs}
use Rattle.ca_stil_read.specs.Whole.{FlatStil}
use Rattle.ca_stil_pairs.specs.Chip.{ChipPart, chip_part, part_of, order_of, IsCovered}
use Rattle.ca_stil_pairs.specs.code.Places.{AreSites, chip_bits, chip_levels, IsPairFor}
use Rattle.ca_stil_pairs.specs.File.{IsFileOf, IsOfOther}
use Rattle.ca_stil_pairs.specs.code.File.{IsMadeFrom}
use Rattle.ca_stil_pairs.specs.declared.file.StilFile.{StilFile}
use Rattle.ca_stil_pairs.specs.code.Same.{text_eq}
use Rattle.ca_stil_pairs.proofs.ListLemmas.{all_of}
use Rattle.ca_stil_pairs.proofs.OrderLemmas.{longest_within}
use Rattle.ca_stil_pairs.proofs.PairLemmas.{bits_of_chip, levels_of_chip, pair_for, pair_is}
use Rattle.ca_stil_pairs.proofs.SameLemmas.{text_part, part_true, part_is}
use Rattle.ca_stil_pairs.proofs.ShapeLemmas.{shape_of}

-- what follows a form that may be left out is allowed
maybe_second : {First Second : Type 0} (possible : Bool) (first : First → Bool) (second : Option First → Second → Bool)
    (value : Option First) (rest : Second) → allowed_maybe possible first second value rest ≡ true → second value rest ≡ true
maybe_second possible first second None rest is = is
maybe_second possible first second (Some value) rest is =
    right_true (first value) (second (Some value) rest) (right_true possible (first value && second (Some value) rest) is)

-- the frame that a text's values give
abbrev frame_in : ChipPart → Frame
frame_in part = frame_of part.1.0 part.1.1.0 part.1.1.1.0 part.1.1.1.1

abbrev pub pairs_in : Stil → List PairValues
pairs_in value = value.1.1.1.1.1

-- the pairs of an allowed value are allowed
pairs_allowed : (value : Stil) → stil_form.allowed value ≡ true
    → all_allowed (λ number. (pair_form (frame_in (chip_part value)) number).allowed) 0 (pairs_in value) ≡ true
pairs_allowed value is =
    let inputs : Bool = (inputs_part value.0).allowed value.1 in
    let after_signals : inputs ≡ true = right_true (all_allowed (λ number. signal_form.allowed) 0 value.0) inputs is in
    let after_inputs = maybe_second _ _ (λ one. (outputs_part value.0 one).allowed) value.1.0 value.1.1 after_signals in
    let after_outputs = maybe_second _ _ (λ one. (scan_part value.0 value.1.0 one).allowed) value.1.1.0 value.1.1.1 after_inputs in
    let after_scan = maybe_second _ _ (λ one. (rest_form value.1.0 value.1.1.0 one).allowed) value.1.1.1.0 value.1.1.1.1 after_outputs in
    right_true (all_each (λ ports. (chain_form ports).allowed) (ports_of value.1.1.1.0) value.1.1.1.1.0)
    (all_allowed (λ number. (pair_form (frame_in (chip_part value)) number).allowed) 0 (pairs_in value)) after_scan

-- no chain has more cells than all together
few_cells : (chip : StilChip) → length (order_of chip.chains) < 2 ^ 64 → model.longest chip.chains < 2 ^ 64
few_cells chip small =
    let is = longest_same chip.chains in
    let within = longest_within chip.chains in
    omega (arith, is, within, small)

-- the frame of a chip
chip_frame : (chip : StilChip) → model.longest chip.chains < 2 ^ 64 → frame_in (part_of chip) ≡ frame_seen chip
chip_frame chip small =
    let is = longest_same chip.chains in
    let below = all_up_to chip.chains (longest (map chain_seen chip.chains)) (omega (arith, is)) in
    frame_same chip (longest (map chain_seen chip.chains)) below (omega (arith, is, small))

-- the pairs of a text of the chip
pub chip_pairs_allowed : (chip : StilChip) (value : Stil) → model.longest chip.chains < 2 ^ 64 → stil_form.allowed value ≡ true
    → chip_part value ≡ part_of chip
    → all_allowed (λ number. (pair_form (frame_seen chip) number).allowed) 0 (pairs_in value) ≡ true
chip_pairs_allowed chip value small is same =
    subst (λ (frame : Frame). all_allowed (λ number. (pair_form frame number).allowed) 0 (pairs_in value) ≡ true)
    (ap frame_in same ∙ chip_frame chip small) (pairs_allowed value is)

pub pairs_for : (chip : StilChip) (number : ℕ) (values : List PairValues) (pairs : List TextPair)
    → all_allowed (λ number. (pair_form (frame_seen chip) number).allowed) number values ≡ true
    → map flat_pair values ≡ map pair_seen pairs → AllByRecursion (IsPairFor chip) pairs
unfolding all_allowed
pairs_for chip number [] [] is same = tt
pairs_for chip number [] (pair ∷ pairs) is same = absurd cc
pairs_for chip number (value ∷ values) [] is same = absurd cc
pairs_for chip number (value ∷ values) (pair ∷ pairs) is same =
    let rest : Bool = all_allowed (λ number. (pair_form (frame_seen chip) number).allowed) (number + 1) values in
    let here = left_true ((pair_form (frame_seen chip) number).allowed value) rest is in
    let later = right_true ((pair_form (frame_seen chip) number).allowed value) rest is in (
      pair_for chip number value pair (shape_of (frame_seen chip) number value here) cc,
      pairs_for chip (number + 1) values pairs later cc,
    )

pub pairs_are : (chip : StilChip) (sites : List ℕ) (number : ℕ) (values : List PairValues) (pairs : List TextPair) → IsCovered chip
    → AreSites (order_of chip.chains) chip.scan_count sites
    → all_allowed (λ number. (pair_form (frame_seen chip) number).allowed) number values ≡ true
    → map flat_pair values ≡ map pair_seen pairs
    → values ≡ all_values chip (map (chip_bits chip sites) pairs) (map (chip_levels chip sites) pairs)
unfolding all_allowed all_values
pairs_are chip sites number [] [] covered are is same = refl
pairs_are chip sites number [] (pair ∷ pairs) covered are is same = absurd cc
pairs_are chip sites number (value ∷ values) [] covered are is same = absurd cc
pairs_are chip sites number (value ∷ values) (pair ∷ pairs) covered are is same =
    let rest : Bool = all_allowed (λ number. (pair_form (frame_seen chip) number).allowed) (number + 1) values in
    let here = left_true ((pair_form (frame_seen chip) number).allowed value) rest is in
    let later = right_true ((pair_form (frame_seen chip) number).allowed value) rest is in
    let first = pair_is chip sites number value pair covered are (shape_of (frame_seen chip) number value here) cc in
    let more = pairs_are chip sites (number + 1) values pairs covered are later cc in
    λ j. first j ∷ more j

-- the pairs and the expected values are of the chip
pub all_bits : (chip : StilChip) (sites : List ℕ) (pairs : List TextPair) → AreSites (order_of chip.chains) chip.scan_count sites
    → AllByRecursion (IsPairFor chip) pairs → AllByRecursion (IsPairOf chip) (map (chip_bits chip sites) pairs)
all_bits chip sites [] are for = tt
all_bits chip sites (pair ∷ pairs) are for = (bits_of_chip chip sites pair are for.0, all_bits chip sites pairs are for.1)

pub all_levels : (chip : StilChip) (sites : List ℕ) (pairs : List TextPair) → AreSites (order_of chip.chains) chip.scan_count sites
    → AllByRecursion (IsPairFor chip) pairs → AllByRecursion (AreValuesOf chip) (map (chip_levels chip sites) pairs)
all_levels chip sites [] are for = tt
all_levels chip sites (pair ∷ pairs) are for = (levels_of_chip chip sites pair are for.0, all_levels chip sites pairs are for.1)

-- what a text that was read says of its chip
part_seen : (bytes : List ℕ) (text : StilText) (reads : ReadsAs bytes text) → text_part text ≡ chip_part reads.value
part_seen bytes text reads =
    ap (λ (seen : FlatStil). (seen.0, (seen.1.0, (seen.1.1.0, (seen.1.1.1.0, seen.1.1.1.1.0))))) reads.same

pairs_seen : (bytes : List ℕ) (text : StilText) (reads : ReadsAs bytes text) → map flat_pair (pairs_in reads.value) ≡ map pair_seen text.pairs
pairs_seen bytes text reads = sym (ap (λ (seen : FlatStil). seen.1.1.1.1.1) reads.same)

-- it is of another chip
pub other_chip : (chip : StilChip) (bytes : List ℕ) (text : StilText) → ReadsAs bytes text → text_eq text chip ≡ false → IsOfOther chip bytes
other_chip chip bytes text reads differs = record {
  value = reads.value;
  reads = reads.reads;
  other = λ same.
      let both : false ≡ true = sym differs ∙ part_is text chip (part_seen bytes text reads ∙ same) in absurd cc;
}

-- it is of the chip
allowed_in : (chip : StilChip) (bytes : List ℕ) (text : StilText) (reads : ReadsAs bytes text) → stil_form.allowed reads.value ≡ true
    → text_eq text chip ≡ true → length (order_of chip.chains) < 2 ^ 64
    → all_allowed (λ number. (pair_form (frame_seen chip) number).allowed) 0 (pairs_in reads.value) ≡ true
allowed_in chip bytes text reads is same small =
    chip_pairs_allowed chip reads.value (few_cells chip small) is (sym (part_seen bytes text reads) ∙ part_true text chip same)

pub text_pairs_for : (chip : StilChip) (bytes : List ℕ) (text : StilText) (reads : ReadsAs bytes text)
    → stil_form.allowed reads.value ≡ true → text_eq text chip ≡ true → length (order_of chip.chains) < 2 ^ 64
    → All (IsPairFor chip) text.pairs
text_pairs_for chip bytes text reads is same small =
    all_of (IsPairFor chip) text.pairs
    (pairs_for chip 0 (pairs_in reads.value) text.pairs (allowed_in chip bytes text reads is same small) (pairs_seen bytes text reads))

pub value_is : (chip : StilChip) (value : Stil) (pairs : List (List Bool)) (expected : List (List Trit)) → chip_part value ≡ part_of chip
    → pairs_in value ≡ all_values chip pairs expected → value ≡ stil_value chip pairs expected
value_is chip value pairs expected part all =
    λ j. ((part j).0, ((part j).1.0, ((part j).1.1.0, ((part j).1.1.1.0, ((part j).1.1.1.1, all j)))))

pub file_is : (chip : StilChip) (bytes : List ℕ) (text : StilText) (file : StilFile) (reads : ReadsAs bytes text) → IsCovered chip
    → IsStilChip chip → stil_form.allowed reads.value ≡ true → text_eq text chip ≡ true → length (order_of chip.chains) < 2 ^ 64
    → IsMadeFrom chip text.pairs file → IsFileOf chip bytes file
file_is chip bytes text file reads covered within is same small made =
    let sites : List ℕ = made.sites in
    let allowed = allowed_in chip bytes text reads is same small in
    let seen = pairs_seen bytes text reads in
    let for = pairs_for chip 0 (pairs_in reads.value) text.pairs allowed seen in
    let bits = all_of (IsPairOf chip) (map (chip_bits chip sites) text.pairs) (all_bits chip sites text.pairs made.are_sites for) in
    let levels = all_of (AreValuesOf chip) (map (chip_levels chip sites) text.pairs) (all_levels chip sites text.pairs made.are_sites for) in
    let all : pairs_in reads.value ≡ all_values chip (map (chip_bits chip sites) text.pairs) (map (chip_levels chip sites) text.pairs) =
    pairs_are chip sites 0 (pairs_in reads.value) text.pairs covered made.are_sites allowed seen in
    let part = sym (part_seen bytes text reads) ∙ part_true text chip same in
    let pairs = made.made.pairs_are in
    let expected = made.made.expected_are in
    record {
      are = record {
        chains = within;
        bits = subst (λ given. All (IsPairOf chip) given) (sym pairs) bits;
        values = subst (λ given. All (AreValuesOf chip) given) (sym expected) levels;
        counted = ap length pairs ∙ length-map text.pairs (chip_bits chip sites)
            ∙ sym (ap length expected ∙ length-map text.pairs (chip_levels chip sites));
      };
      reads = reads.reads
          ∙ ap (λ (value : Stil). Ok value) (value_is chip reads.value _ _ part all)
          ∙ (λ j. Ok (stil_value chip (sym pairs j) (sym expected j)));
    }
