-- The port bits of a generated chip: the inputs and then the outputs, each on the wire of its own number.
use Rattle.std.proofs.Common.{◌≡◌, ℕ, zero, suc, ◌+◌, ◌-◌, ◌<◌, ◌≤◌, Bool, true, false, List, [], ◌∷◌, ◌++◌}
use Rattle.std.proofs.Common.{length, map, flat_map, take, nat_lt}
use Rattle.std.proofs.Common.{if◌then◌else◌, Some, None, refl, sym, ap, ◌∙◌, arith, codes}
use Rattle.std.specs.Prelude.{slice_get}
use Rattle.std.specs.List.{AllByRecursion, range_with_len}
use Rattle.std.proofs.lemmas.Bool.{ltb-true, ltb-false}
use Rattle.std.proofs.lemmas.List.{append-nil, length-append}
use Rattle.std.proofs.lemmas.List.FromFn.{length-map-range_with_len}
use Rattle.ca_verilog.specs.declared.raw.RawBus.{RawBus}
use Rattle.ca_verilog.specs.declared.table.Direction.{Direction}
use Rattle.ca_verilog.specs.declared.table.Direction.TheVariants.{Input, Output, Inner}
use Rattle.ca_verilog.specs.IsNetlist.{range_width, bit_count}
use Rattle.ca_wiring.specs.Wiring.{HeaderBit, header_bits_of, header_bits}
use Rattle.ca_make.specs.declared.gate.TheConstants.{INPUTS}
use Rattle.ca_make.specs.NetlistText.{numbered}
use Rattle.ca_make_laws.specs.ChipTree.{names_of}
use Rattle.ca_make_laws.specs.ChipNetlist.{bus}
use Rattle.ca_make_links.proofs.JoinLemmas.{bits_with}

-- the entry of a mapped range
pub mapped_at : {T : Type 0} (f : ℕ → T) (from count k : ℕ) → k < count → slice_get (map f (range_with_len from count)) k ≡ Some (f (from + k))
mapped_at f from zero k lt = absurd (omega (arith, lt))
mapped_at f from (suc count) zero lt = ap (λ n. Some (f n)) (let e : from ≡ from + 0 = omega arith in e)
mapped_at f from (suc count) (suc k) lt =
    mapped_at f (from + 1) count k (omega (arith, lt))
    ∙ ap (λ n. Some (f n)) (let e : from + 1 + k ≡ from + suc k = omega arith in e)

-- and what is there is one
pub mapped_only : {T : Type 0} (f : ℕ → T) (from count k : ℕ) (x : T) → slice_get (map f (range_with_len from count)) k ≡ Some x
    → (k < count) × (x ≡ f (from + k))
mapped_only f from zero k x at = absurd cc
mapped_only f from (suc count) zero x at =
    (omega arith, (let same : f from ≡ x = cc in sym same) ∙ ap f (let e : from ≡ from + 0 = omega arith in e))
mapped_only f from (suc count) (suc k) x at =
    let later = mapped_only f (from + 1) count k x at in
    ((let lt = later.0 in omega (arith, lt)), later.1 ∙ ap f (let e : from + 1 + k ≡ from + suc k = omega arith in e))

get_after : {T : Type 0} (xs ys : List T) (k : ℕ) → slice_get (xs ++ ys) (length xs + k) ≡ slice_get ys k
get_after [] ys k = ap (slice_get ys) (let e : 0 + k ≡ k = omega arith in e)
get_after (x ∷ xs) ys k =
    ap (slice_get (x ∷ (xs ++ ys))) (let e : length (x ∷ xs) + k ≡ suc (length xs + k) = omega arith in e) ∙ get_after xs ys k

get_before : {T : Type 0} (xs ys : List T) (k : ℕ) (x : T) → slice_get xs k ≡ Some x → slice_get (xs ++ ys) k ≡ Some x
get_before [] ys k x at = absurd cc
get_before (y ∷ xs) ys zero x at = at
get_before (y ∷ xs) ys (suc k) x at = get_before xs ys k x at

-- names of one bit each have as many bits as there are
plain_bits : (buses : List RawBus) → AllByRecursion (λ it. it.range ≡ None) buses → (k : ℕ) → k ≤ length buses
    → bit_count (take k buses) ≡ k
plain_bits buses plain zero le = refl
plain_bits [] plain (suc k) le = absurd (omega (arith, le))
plain_bits (it ∷ buses) plain (suc k) le =
    ap (λ range. range_width range + bit_count (take k buses)) plain.0
    ∙ ap (λ n. 1 + n) (plain_bits buses plain.1 k (omega (arith, le)))
    ∙ (let e : 1 + k ≡ suc k = omega arith in e)

plain_names : (direction : Direction) (names : List (List ℕ)) (rest : List RawBus) → AllByRecursion (λ it. it.range ≡ None) rest
    → AllByRecursion (λ it. it.range ≡ None) (map (bus direction) names ++ rest)
plain_names direction [] rest plain = plain
plain_names direction (name ∷ names) rest plain = (refl, plain_names direction names rest plain)

plain_last : (direction : Direction) (names : List (List ℕ)) → AllByRecursion (λ it. it.range ≡ None) (map (bus direction) names)
plain_last direction [] = tt
plain_last direction (name ∷ names) = (refl, plain_last direction names)

mapped_twice : {S T : Type 0} (g : S → T) (f : ℕ → S) (from count k : ℕ) → k < count
    → slice_get (map g (map f (range_with_len from count))) k ≡ Some (g (f (from + k)))
mapped_twice g f from zero k lt = absurd (omega (arith, lt))
mapped_twice g f from (suc count) zero lt = ap (λ n. Some (g (f n))) (let e : from ≡ from + 0 = omega arith in e)
mapped_twice g f from (suc count) (suc k) lt =
    mapped_twice g f (from + 1) count k (omega (arith, lt))
    ∙ ap (λ n. Some (g (f n))) (let e : from + 1 + k ≡ from + suc k = omega arith in e)

buses_named : (direction : Direction) (letters : List ℕ) (count : ℕ) → length (map (bus direction) (names_of letters count)) ≡ count
buses_named direction letters count = by 0 count
  where
    by : (from count : ℕ) → length (map (bus direction) (map (numbered letters) (range_with_len from count))) ≡ count
    by from zero = let e : 0 ≡ 0 = omega arith in e
    by from (suc count) = let e = by (from + 1) count in omega (arith, e)

-- single entries, one after another
flat_singles : {T : Type 0} (f : ℕ → List T) (g : ℕ → T) (from count most : ℕ) → from + count ≤ most → ((k : ℕ) → k < most → f k ≡ g k ∷ [])
    → flat_map f (range_with_len from count) ≡ map g (range_with_len from count)
flat_singles f g from zero most le each = refl
flat_singles f g from (suc count) most le each =
    λ i. each from (omega (arith, le)) i ++ flat_singles f g (from + 1) count most (omega (arith, le)) each i

module _ (outputs gates : ℕ) where
  abbrev pub buses : List RawBus
  buses = map (bus Input) (names_of (codes "i") INPUTS)
      ++ (map (bus Output) (names_of (codes "o") outputs) ++ map (bus Inner) (names_of (codes "w") gates))

  plain : AllByRecursion (λ it. it.range ≡ None) buses
  plain = plain_names Input (names_of (codes "i") INPUTS) _
      (plain_names Output (names_of (codes "o") outputs) _ (plain_last Inner (names_of (codes "w") gates)))

  -- the port bit of a number
  abbrev pub port_name : ℕ → List ℕ
  port_name p = if nat_lt p INPUTS then numbered (codes "i") p else numbered (codes "o") (p - INPUTS)

  abbrev pub port_bit : ℕ → HeaderBit
  port_bit p = record { name = port_name p; is_input = nat_lt p INPUTS; wire = p }

  abbrev i_buses : List RawBus
  i_buses = map (bus Input) (names_of (codes "i") INPUTS)

  abbrev o_buses : List RawBus
  o_buses = map (bus Output) (names_of (codes "o") outputs)

  abbrev w_buses : List RawBus
  w_buses = map (bus Inner) (names_of (codes "w") gates)

  input_bus : (p : ℕ) → p < INPUTS → slice_get buses p ≡ Some (bus Input (numbered (codes "i") p))
  input_bus p lt =
      get_before i_buses (o_buses ++ w_buses) p (bus Input (numbered (codes "i") p))
      (mapped_twice (bus Input) (numbered (codes "i")) 0 INPUTS p lt
      ∙ ap (λ n. Some (bus Input (numbered (codes "i") n))) (let e : 0 + p ≡ p = omega arith in e))

  output_bus : (j : ℕ) → j < outputs → slice_get buses (INPUTS + j) ≡ Some (bus Output (numbered (codes "o") j))
  output_bus j lt =
      ap (slice_get buses) (let e = buses_named Input (codes "i") INPUTS in let f : INPUTS + j ≡ length i_buses + j = omega (arith, e) in f)
      ∙ get_after i_buses (o_buses ++ w_buses) j
      ∙ get_before o_buses w_buses j (bus Output (numbered (codes "o") j))
      (mapped_twice (bus Output) (numbered (codes "o")) 0 outputs j lt
      ∙ ap (λ n. Some (bus Output (numbered (codes "o") n))) (let e : 0 + j ≡ j = omega arith in e))

  few_buses : length buses ≡ INPUTS + (outputs + gates)
  few_buses =
      let first = length-append i_buses (o_buses ++ w_buses) in
      let second = length-append o_buses w_buses in
      let inputs = buses_named Input (codes "i") INPUTS in
      let ports = buses_named Output (codes "o") outputs in
      let wires = buses_named Inner (codes "w") gates in
      omega (arith, first, second, inputs, ports, wires)

  pub bits_are : bit_count buses ≡ INPUTS + (outputs + gates)
  bits_are =
      let first = bits_with Input (names_of (codes "i") INPUTS) (o_buses ++ w_buses) in
      let second = bits_with Output (names_of (codes "o") outputs) w_buses in
      let third = ap bit_count (sym (append-nil w_buses)) ∙ bits_with Inner (names_of (codes "w") gates) [] in
      let inputs = length-map-range_with_len (numbered (codes "i")) 0 INPUTS in
      let ports = length-map-range_with_len (numbered (codes "o")) 0 outputs in
      let wires = length-map-range_with_len (numbered (codes "w")) 0 gates in
      omega (arith, first, second, third, inputs, ports, wires)

  wire_is : (p : ℕ) → p ≤ INPUTS + outputs → bit_count (take p buses) + 0 ≡ p
  wire_is p le =
      let few = few_buses in
      let bits = plain_bits buses plain p (omega (arith, le, few)) in
      omega (arith, bits)

  one_bit : (p : ℕ) → p < INPUTS + outputs → header_bits_of buses p (slice_get buses p) ≡ port_bit p ∷ []
  one_bit p lt = by (nat_lt p INPUTS) refl
    where
      by : (b : Bool) → nat_lt p INPUTS ≡ b → header_bits_of buses p (slice_get buses p) ≡ port_bit p ∷ []
      by true is =
          ap (header_bits_of buses p) (input_bus p (ltb-true p INPUTS is))
          ∙ λ i. record {
            name = ap (λ (b : Bool). if b then numbered (codes "i") p else numbered (codes "o") (p - INPUTS)) (sym is) i;
            is_input = sym is i;
            wire = wire_is p (omega (arith, lt)) i;
          } ∷ []
      by false is =
          let above = ltb-false p INPUTS is in
          ap (λ q. header_bits_of buses p (slice_get buses q)) (let e : p ≡ INPUTS + (p - INPUTS) = omega (arith, above) in e)
          ∙ ap (header_bits_of buses p) (output_bus (p - INPUTS) (omega (arith, above, lt)))
          ∙ λ i. record {
            name = ap (λ (b : Bool). if b then numbered (codes "i") p else numbered (codes "o") (p - INPUTS)) (sym is) i;
            is_input = sym is i;
            wire = wire_is p (omega (arith, lt)) i;
          } ∷ []

  pub header_is : header_bits buses (range_with_len 0 (INPUTS + outputs)) ≡ map port_bit (range_with_len 0 (INPUTS + outputs))
  header_is =
      flat_singles (λ place. header_bits_of buses place (slice_get buses place)) port_bit 0 (INPUTS + outputs) (INPUTS + outputs)
      (omega arith) one_bit
