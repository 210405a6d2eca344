-- The values of a chip are those of one list of pairs, with one list of expected values.
use Rattle.std.proofs.Common.{◌≡◌, ℕ, ◌+◌, ◌<◌, Bool, false, List, [], ◌∷◌, ◌++◌, length, map, get_or, ap, sym}
use Rattle.std.proofs.Common.{◌∙◌, arith, refl}
use Rattle.std.specs.List.{AllByRecursion}
use Rattle.std.proofs.lemmas.List.{get_or-map, ext_get_or}
use Rattle.std.proofs.lemmas.Option.{slice_get_within, get_or_from_slice_get}
use Rattle.ca_net.specs.declared.trit.Trit.{Trit}
use Rattle.ca_net.specs.declared.trit.Trit.TheVariants.{X}
use Rattle.ca_stil.specs.declared.chip.StilChip.{StilChip}
use Rattle.ca_stil.specs.Chip.{part, width_of, IsPairOf, AreValuesOf, AreOf}
use Rattle.ca_stil_form.specs.Pattern.{PairValues}
use Rattle.ca_stil_form.specs.Value.{in_chain, values_of, pair_values, all_values, stil_value}
use Rattle.ca_stil_form.specs.Whole.{Stil}
use Rattle.ca_stil_form.proofs.ValueLemmas.{by_recursion}
use Rattle.ca_stil_read.specs.Plan.{flat}
use Rattle.ca_stil_pairs.specs.declared.file.StilFile.{StilFile}
use Rattle.ca_stil_pairs.specs.Chip.{order_of, IsCovered}
use Rattle.ca_stil_pairs.specs.Laws.{Has}
use Rattle.ca_stil_pairs.proofs.ListLemmas.{long_part, cut_two, cut_four}
use Rattle.ca_stil_pairs.proofs.OrderLemmas.{flat_in_chains, flat_values}

-- values that are the same in each cell are the same
same_state : {Value : Type 0} (chip : StilChip) (other : Value) (one two : List Value) → IsCovered chip
    → length one ≡ chip.scan_count → length two ≡ chip.scan_count
    → map (in_chain other one) chip.chains ≡ map (in_chain other two) chip.chains → one ≡ two
same_state {Value} chip other one two covered one_long two_long same =
    ext_get_or other one two (one_long ∙ sym two_long) each
  where
    read : List Value → ℕ → Value
    read list place = get_or list place other

    seen : map (read one) (order_of chip.chains) ≡ map (read two) (order_of chip.chains)
    seen =
        sym (flat_in_chains other one chip.chains) ∙ ap flat same ∙ flat_in_chains other two chip.chains

    each : (place : ℕ) → place < length one → get_or one place other ≡ get_or two place other
    each place below =
        let found = covered.each place (omega (arith, below, one_long)) in
        let i : ℕ = found.0 in
        let inside : i < length (order_of chip.chains) = slice_get_within (order_of chip.chains) i place found.1 in
        let is : get_or (order_of chip.chains) i 0 ≡ place = get_or_from_slice_get (order_of chip.chains) i place 0 found.1 in
        ap (read one) (sym is)
        ∙ sym (get_or-map (read one) (order_of chip.chains) i 0 other inside)
        ∙ ap (λ (list : List Value). get_or list i other) seen
        ∙ get_or-map (read two) (order_of chip.chains) i 0 other inside
        ∙ ap (read two) is

same_ports : {Value : Type 0} (one two : List Value) → values_of one ≡ values_of two → one ≡ two
same_ports one two same = sym (flat_values one) ∙ ap flat same ∙ flat_values two

same_bits : (chip : StilChip) (pair other : List Bool) (expected values : List Trit) → IsCovered chip → IsPairOf chip pair
    → IsPairOf chip other → pair_values chip pair expected ≡ pair_values chip other values → pair ≡ other
same_bits chip pair other expected values covered pair_of other_of same =
    let ports : ℕ = length chip.inputs in
    let scans : ℕ = chip.scan_count in
    let width : ℕ = width_of chip in
    let first = same_ports (part 0 ports pair) (part 0 ports other) (ap (λ (all : PairValues). all.1.0) same) in
    let first_state = same_state chip false (part ports scans pair) (part ports scans other) covered
    (long_part ports scans pair (omega (arith, pair_of))) (long_part ports scans other (omega (arith, other_of)))
    (ap (λ (all : PairValues). all.0) same) in
    let last = same_ports (part width ports pair) (part width ports other) (ap (λ (all : PairValues). all.1.1.1.0) same) in
    let last_state = same_state chip false (part (width + ports) scans pair) (part (width + ports) scans other) covered
    (long_part (width + ports) scans pair (omega (arith, pair_of))) (long_part (width + ports) scans other (omega (arith, other_of)))
    (ap (λ (all : PairValues). all.1.1.0) same) in
    cut_four ports scans ports scans pair (omega (arith, pair_of))
    ∙ (λ j. first j ++ (first_state j ++ (last j ++ last_state j)))
    ∙ sym (cut_four ports scans ports scans other (omega (arith, other_of)))

same_levels : (chip : StilChip) (pair other : List Bool) (expected values : List Trit) → IsCovered chip → AreValuesOf chip expected
    → AreValuesOf chip values → pair_values chip pair expected ≡ pair_values chip other values → expected ≡ values
same_levels chip pair other expected values covered expected_of values_for same =
    let outputs : ℕ = length chip.outputs in
    let scans : ℕ = chip.scan_count in
    let due = same_ports (part 0 outputs expected) (part 0 outputs values) (ap (λ (all : PairValues). all.1.1.1.1.0) same) in
    let captured = same_state chip X (part outputs scans expected) (part outputs scans values) covered
    (long_part outputs scans expected (omega (arith, expected_of))) (long_part outputs scans values (omega (arith, values_for)))
    (ap (λ (all : PairValues). all.1.1.1.1.1) same) in
    cut_two outputs scans expected expected_of
    ∙ (λ j. due j ++ captured j)
    ∙ sym (cut_two outputs scans values values_for)

-- lists of pairs with their expected values
record AreSame (pairs others : List (List Bool)) (expected values : List (List Trit)) : Type 0 where
  pub pairs_same : pairs ≡ others
  pub expected_same : expected ≡ values

same_all : (chip : StilChip) (pairs others : List (List Bool)) (expected values : List (List Trit)) → IsCovered chip
    → AllByRecursion (IsPairOf chip) pairs → AllByRecursion (IsPairOf chip) others
    → AllByRecursion (AreValuesOf chip) expected → AllByRecursion (AreValuesOf chip) values
    → length pairs ≡ length expected → length others ≡ length values
    → all_values chip pairs expected ≡ all_values chip others values → AreSame pairs others expected values
unfolding all_values
same_all chip [] [] [] [] covered a b c d e f same = record { pairs_same = refl; expected_same = refl }
same_all chip [] [] [] (value ∷ values) covered a b c d e f same = absurd (omega (arith, f))
same_all chip [] [] (one ∷ expected) values covered a b c d e f same = absurd (omega (arith, e))
same_all chip [] (other ∷ others) expected [] covered a b c d e f same = absurd (omega (arith, f))
same_all chip [] (other ∷ others) expected (value ∷ values) covered a b c d e f same = absurd cc
same_all chip (pair ∷ pairs) others [] values covered a b c d e f same = absurd (omega (arith, e))
same_all chip (pair ∷ pairs) [] (one ∷ expected) values covered a b c d e f same = absurd cc
same_all chip (pair ∷ pairs) (other ∷ others) (one ∷ expected) [] covered a b c d e f same = absurd (omega (arith, f))
same_all chip (pair ∷ pairs) (other ∷ others) (one ∷ expected) (value ∷ values) covered a b c d e f same =
    let here : pair_values chip pair one ≡ pair_values chip other value = cc in
    let there : all_values chip pairs expected ≡ all_values chip others values = cc in
    let bits = same_bits chip pair other one value covered a.0 b.0 here in
    let levels = same_levels chip pair other one value covered c.0 d.0 here in
    let later = same_all chip pairs others expected values covered a.1 b.1 c.1 d.1 (omega (arith, e)) (omega (arith, f)) there in
    record {
      pairs_same = λ j. bits j ∷ later.pairs_same j;
      expected_same = λ j. levels j ∷ later.expected_same j;
    }

-- the same values are of one file
pub one_file : (chip : StilChip) (file : StilFile) (pairs : List (List Bool)) (expected : List (List Trit)) → IsCovered chip
    → AreOf chip file.pairs file.expected → AreOf chip pairs expected
    → stil_value chip file.pairs file.expected ≡ stil_value chip pairs expected → Has file pairs expected
one_file chip file pairs expected covered are others same =
    let all = same_all chip file.pairs pairs file.expected expected covered
    (by_recursion (IsPairOf chip) file.pairs are.bits) (by_recursion (IsPairOf chip) pairs others.bits)
    (by_recursion (AreValuesOf chip) file.expected are.values) (by_recursion (AreValuesOf chip) expected others.values)
    are.counted others.counted (ap (λ (value : Stil). value.1.1.1.1.1) same) in
    record { pairs_are = all.pairs_same; expected_are = all.expected_same }
