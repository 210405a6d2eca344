-- A text's pair by place has the values that the text has.
use Rattle.std.proofs.Common.{◌≡◌, ℕ, ◌+◌, Bool, false, List, [], ◌++◌, length, map, ap, sym}
use Rattle.std.proofs.Common.{◌∙◌, arith, append-nil, append_assoc, refl, length-append}
use Rattle.std.specs.Prelude.{replicate}
use Rattle.std.proofs.lemmas.List.{length-map, length-replicate}
use Rattle.ca_net.specs.declared.trit.Trit.{Trit}
use Rattle.ca_net.specs.declared.trit.Trit.TheVariants.{X}
use Rattle.ca_stil.specs.declared.chip.StilChip.{StilChip}
use Rattle.ca_stil.specs.Chip.{part, width_of, IsPairOf, AreValuesOf}
use Rattle.ca_stil_form.specs.Pattern.{PairValues}
use Rattle.ca_stil_form.specs.Value.{in_chain, values_of, pair_values}
use Rattle.ca_stil_form.proofs.PairTexts.{frame_seen}
use Rattle.ca_stil_form.proofs.ValueLemmas.{pair_allowed}
use Rattle.ca_stil_read.specs.declared.pair.TextPair.{TextPair}
use Rattle.ca_stil_read.specs.Kept.{pair_seen}
use Rattle.ca_stil_read.specs.Plan.{flat, flat_pair}
use Rattle.ca_stil_pairs.specs.Chip.{order_of, IsCovered}
use Rattle.ca_stil_pairs.specs.code.Places.{AreSites, cell_count, sited, chip_bits}
use Rattle.ca_stil_pairs.specs.code.Places.{chip_levels, IsPairFor}
use Rattle.ca_stil_pairs.proofs.ListLemmas.{part_seam, long_part, cut_two, cut_four}
use Rattle.ca_stil_pairs.proofs.OrderLemmas.{flat_in_chains, flat_values, gathered}
use Rattle.ca_stil_pairs.proofs.ShapeLemmas.{HasShape, shape_of, same_pair, same_long}

-- the bits by place are as many as the chip's, and so are the values
pub bits_of_chip : (chip : StilChip) (sites : List ℕ) (pair : TextPair) → AreSites (order_of chip.chains) chip.scan_count sites
    → IsPairFor chip pair → IsPairOf chip (chip_bits chip sites pair)
bits_of_chip chip sites pair are for =
    let ports : ℕ = length chip.inputs in
    let cells : ℕ = cell_count chip in
    let bits : List Bool = pair.bits in
    let long = for.bits in
    let a : List Bool = part cells ports bits in
    let b : List Bool = sited false 0 sites bits in
    let c : List Bool = part (cells + ports + cells) ports bits in
    let d : List Bool = sited false (cells + ports) sites bits in
    let a_long : length a ≡ ports = long_part cells ports bits (omega (arith, long)) in
    let c_long : length c ≡ ports = long_part (cells + ports + cells) ports bits (omega (arith, long)) in
    let b_long : length b ≡ length sites = length-map sites _ in
    let d_long : length d ≡ length sites = length-map sites _ in
    let room = are.room in
    omega (arith, a_long, b_long, c_long, d_long, room, length-append a (b ++ (c ++ d)), length-append b (c ++ d), length-append c d)

pub levels_of_chip : (chip : StilChip) (sites : List ℕ) (pair : TextPair) → AreSites (order_of chip.chains) chip.scan_count sites
    → IsPairFor chip pair → AreValuesOf chip (chip_levels chip sites pair)
levels_of_chip chip sites pair are for =
    let outputs : ℕ = length chip.outputs in
    let long = for.levels in
    let a : List Trit = part 0 outputs pair.levels in
    let b : List Trit = sited X outputs sites pair.levels in
    let a_long : length a ≡ outputs = long_part 0 outputs pair.levels (omega (arith, long)) in
    let b_long : length b ≡ length sites = length-map sites _ in
    let room = are.room in
    omega (arith, a_long, b_long, room, length-append a b)

-- the bits by place, in their parts
pub record HasParts (chip : StilChip) (sites : List ℕ) (pair : TextPair) : Type 0 where
  pub first : part 0 (length chip.inputs) (chip_bits chip sites pair) ≡ part (cell_count chip) (length chip.inputs) pair.bits
  pub first_state : part (length chip.inputs) chip.scan_count (chip_bits chip sites pair) ≡ sited false 0 sites pair.bits
  pub last : part (width_of chip) (length chip.inputs) (chip_bits chip sites pair)
      ≡ part (cell_count chip + length chip.inputs + cell_count chip) (length chip.inputs) pair.bits
  pub last_state : part (width_of chip + length chip.inputs) chip.scan_count (chip_bits chip sites pair)
      ≡ sited false (cell_count chip + length chip.inputs) sites pair.bits
  pub expected : part 0 (length chip.outputs) (chip_levels chip sites pair) ≡ part 0 (length chip.outputs) pair.levels
  pub captured : part (length chip.outputs) chip.scan_count (chip_levels chip sites pair)
      ≡ sited X (length chip.outputs) sites pair.levels

parts_of_pair : (chip : StilChip) (sites : List ℕ) (pair : TextPair) → AreSites (order_of chip.chains) chip.scan_count sites
    → IsPairFor chip pair → HasParts chip sites pair
parts_of_pair chip sites pair are for =
    let ports : ℕ = length chip.inputs in
    let outputs : ℕ = length chip.outputs in
    let cells : ℕ = cell_count chip in
    let bits : List Bool = pair.bits in
    let long = for.bits in
    let levels_long = for.levels in
    let room = are.room in
    let a : List Bool = part cells ports bits in
    let b : List Bool = sited false 0 sites bits in
    let c : List Bool = part (cells + ports + cells) ports bits in
    let d : List Bool = sited false (cells + ports) sites bits in
    let a_long : length a ≡ ports = long_part cells ports bits (omega (arith, long)) in
    let c_long : length c ≡ ports = long_part (cells + ports + cells) ports bits (omega (arith, long)) in
    let b_long : length b ≡ length sites = length-map sites _ in
    let d_long : length d ≡ length sites = length-map sites _ in
    let e : List Trit = part 0 outputs pair.levels in
    let f : List Trit = sited X outputs sites pair.levels in
    let e_long : length e ≡ outputs = long_part 0 outputs pair.levels (omega (arith, levels_long)) in
    let f_long : length f ≡ length sites = length-map sites _ in
    let ab : length (a ++ b) ≡ length a + length b = length-append a b in
    let abc : length ((a ++ b) ++ c) ≡ length (a ++ b) + length c = length-append (a ++ b) c in
    record {
      first = part_seam 0 ports [] a (b ++ (c ++ d)) (a ++ (b ++ (c ++ d))) refl (sym a_long) refl;
      first_state = part_seam ports chip.scan_count a b (c ++ d) (a ++ (b ++ (c ++ d))) (sym a_long) (omega (arith, b_long, room)) refl;
      last = part_seam (width_of chip) ports (a ++ b) c d (a ++ (b ++ (c ++ d))) (omega (arith, ab, a_long, b_long, room)) (sym c_long)
          (sym (append_assoc a b (c ++ d)));
      last_state = part_seam (width_of chip + ports) chip.scan_count ((a ++ b) ++ c) d [] (a ++ (b ++ (c ++ d)))
          (omega (arith, abc, ab, a_long, b_long, c_long, room)) (omega (arith, d_long, room))
          (sym (append_assoc a b (c ++ d)) ∙ sym (append_assoc (a ++ b) c d)
          ∙ ap (λ (rest : List Bool). ((a ++ b) ++ c) ++ rest) (sym (append-nil d)));
      expected = part_seam 0 outputs [] e f (e ++ f) refl (sym e_long) refl;
      captured = part_seam outputs chip.scan_count e f [] (e ++ f) (sym e_long) (omega (arith, f_long, room))
          (ap (λ (rest : List Trit). e ++ rest) (sym (append-nil f)));
    }

-- the values of the pair by place, one after another, are those of the text
pub flat_by_place : (chip : StilChip) (sites : List ℕ) (pair : TextPair) → IsCovered chip
    → AreSites (order_of chip.chains) chip.scan_count sites → IsPairFor chip pair
    → flat_pair (pair_values chip (chip_bits chip sites pair) (chip_levels chip sites pair)) ≡ pair_seen pair
flat_by_place chip sites pair covered are for =
    let ports : ℕ = length chip.inputs in
    let outputs : ℕ = length chip.outputs in
    let order : List ℕ = order_of chip.chains in
    let cells : ℕ = cell_count chip in
    let bits : List Bool = pair.bits in
    let levels : List Trit = pair.levels in
    let long = for.bits in
    let levels_long = for.levels in
    let has = parts_of_pair chip sites pair are for in
    let one : flat (map (in_chain false (part ports chip.scan_count (chip_bits chip sites pair))) chip.chains) ≡ part 0 cells bits =
    ap (λ (state : List Bool). flat (map (in_chain false state) chip.chains)) has.first_state
    ∙ flat_in_chains false (sited false 0 sites bits) chip.chains
    ∙ gathered false 0 order chip.scan_count sites bits are covered.within (omega (arith, long)) in
    let two : flat (values_of (part 0 ports (chip_bits chip sites pair))) ≡ part cells ports bits =
    flat_values (part 0 ports (chip_bits chip sites pair)) ∙ has.first in
    let three : flat (map (in_chain false (part (width_of chip + ports) chip.scan_count (chip_bits chip sites pair))) chip.chains)
    ≡ part (cells + ports) cells bits =
    ap (λ (state : List Bool). flat (map (in_chain false state) chip.chains)) has.last_state
    ∙ flat_in_chains false (sited false (cells + ports) sites bits) chip.chains
    ∙ gathered false (cells + ports) order chip.scan_count sites bits are covered.within (omega (arith, long)) in
    let four : flat (values_of (part (width_of chip) ports (chip_bits chip sites pair))) ≡ part (cells + ports + cells) ports bits =
    flat_values (part (width_of chip) ports (chip_bits chip sites pair)) ∙ has.last in
    let five : flat (values_of (part 0 outputs (chip_levels chip sites pair))) ≡ part 0 outputs levels =
    flat_values (part 0 outputs (chip_levels chip sites pair)) ∙ has.expected in
    let six : flat (map (in_chain X (part outputs chip.scan_count (chip_levels chip sites pair))) chip.chains) ≡ part outputs cells levels =
    ap (λ (state : List Trit). flat (map (in_chain X state) chip.chains)) has.captured
    ∙ flat_in_chains X (sited X outputs sites levels) chip.chains
    ∙ gathered X outputs order chip.scan_count sites levels are covered.within (omega (arith, levels_long)) in
    let all_bits = cut_four cells ports cells ports bits (omega (arith, long)) in
    let all_levels = cut_two outputs cells levels levels_long in
    (λ j. (one j ++ (two j ++ (three j ++ append-nil (four j) j)), five j ++ six j))
    ∙ (λ j. (sym all_bits j, sym all_levels j))

-- a pair of the form has as many bits and values as the chip's
pub pair_for : (chip : StilChip) (number : ℕ) (values : PairValues) (pair : TextPair) → HasShape (frame_seen chip) values
    → flat_pair values ≡ pair_seen pair → IsPairFor chip pair
pair_for chip number values pair shape same =
    let ports : ℕ = length chip.inputs in
    let outputs : ℕ = length chip.outputs in
    let width : ℕ = width_of chip in
    let zeros : List Bool = replicate (width + width) false in
    let none : List Trit = replicate (outputs + chip.scan_count) X in
    let zeros_long : length zeros ≡ width + width = length-replicate (width + width) false in
    let none_long : length none ≡ outputs + chip.scan_count = length-replicate (outputs + chip.scan_count) X in
    let model : PairValues = pair_values chip zeros none in
    let model_shape = shape_of (frame_seen chip) number model (pair_allowed chip number zeros none zeros_long none_long) in
    let long = same_long (frame_seen chip) values model shape model_shape in
    let bits : length (flat_pair values).0 ≡ length pair.bits = ap (λ (both : List Bool × List Trit). length both.0) same in
    let levels : length (flat_pair values).1 ≡ length pair.levels = ap (λ (both : List Bool × List Trit). length both.1) same in
    let one : length (flat model.0) ≡ cell_count chip = ap length (flat_in_chains false _ chip.chains) ∙ length-map (order_of chip.chains) _ in
    let two : length (flat model.1.0) ≡ ports = ap length (flat_values (part 0 ports zeros)) ∙ long_part 0 ports zeros (omega (arith, zeros_long)) in
    let three : length (flat model.1.1.0) ≡ cell_count chip = ap length (flat_in_chains false _ chip.chains) ∙ length-map (order_of chip.chains) _ in
    let four : length (flat model.1.1.1.0) ≡ ports = ap length (flat_values (part width ports zeros)) ∙ long_part width ports zeros (omega (arith, zeros_long)) in
    let five : length (flat model.1.1.1.1.0) ≡ outputs = ap length (flat_values (part 0 outputs none)) ∙ long_part 0 outputs none (omega (arith, none_long)) in
    let six : length (flat model.1.1.1.1.1) ≡ cell_count chip = ap length (flat_in_chains X _ chip.chains) ∙ length-map (order_of chip.chains) _ in
    let all_bits : length (flat_pair model).0 ≡ cell_count chip + (ports + (cell_count chip + (ports + 0))) =
    long_four (flat model.0) (flat model.1.0) (flat model.1.1.0) (flat model.1.1.1.0) (cell_count chip) ports (cell_count chip) ports one two three four in
    let all_levels : length (flat_pair model).1 ≡ outputs + cell_count chip =
    length-append (flat model.1.1.1.1.0) (flat model.1.1.1.1.1) ∙ (λ j. five j + six j) in
    record {
      bits = omega (arith, sym bits, long.0, all_bits);
      levels = sym levels ∙ long.1 ∙ all_levels;
    }
  where
    long_four : (a b c d : List Bool) (e f g h : ℕ) → length a ≡ e → length b ≡ f → length c ≡ g → length d ≡ h
        → length (a ++ (b ++ (c ++ (d ++ [])))) ≡ e + (f + (g + (h + 0)))
    long_four a b c d e f g h one two three four =
        omega (
          arith,
          one,
          two,
          three,
          four,
          length-append a (b ++ (c ++ (d ++ []))),
          length-append b (c ++ (d ++ [])),
          length-append c (d ++ []),
          length-append d [],
        )

-- so it is the pair by place
pub pair_is : (chip : StilChip) (sites : List ℕ) (number : ℕ) (values : PairValues) (pair : TextPair) → IsCovered chip
    → AreSites (order_of chip.chains) chip.scan_count sites → HasShape (frame_seen chip) values
    → flat_pair values ≡ pair_seen pair → values ≡ pair_values chip (chip_bits chip sites pair) (chip_levels chip sites pair)
pair_is chip sites number values pair covered are shape same =
    let for = pair_for chip number values pair shape same in
    let bits : List Bool = chip_bits chip sites pair in
    let levels : List Trit = chip_levels chip sites pair in
    same_pair (frame_seen chip) values (pair_values chip bits levels) shape
    (shape_of (frame_seen chip) number (pair_values chip bits levels)
    (pair_allowed chip number bits levels (bits_of_chip chip sites pair are for) (levels_of_chip chip sites pair are for)))
    (same ∙ sym (flat_by_place chip sites pair covered are for))
