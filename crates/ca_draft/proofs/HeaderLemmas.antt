-- The declared bits, and the port bits among them.
use Rattle.std.proofs.Common.{◌≡◌, ℕ, zero, suc, ◌+◌, ◌-◌, ◌<◌, ◌≤◌, List, [], ◌∷◌, ◌++◌, length, map, refl}
use Rattle.std.proofs.Common.{sym, ◌∙◌, ap, ap₂, subst, arith, get_or}
use Rattle.std.specs.Prelude.{Option, Some, None, slice_get, take}
use Rattle.std.specs.List.{All}
use Rattle.std.proofs.lemmas.List.{append_assoc, append-nil, map-append, length_push, get_or_push}
use Rattle.std.proofs.lemmas.List.{get_or_append_left}
use native.Mathlib.Decide.{ℕ_discrete}
use Rattle.std.proofs.lemmas.Grind.{flat_map-append}
use Rattle.std.proofs.lemmas.List.Elements.{All-append, All-nil, All-cons}
use Rattle.std.proofs.lemmas.Option.{slice_get_within}
use Rattle.ca_verilog.specs.declared.raw.RawBus.{RawBus}
use Rattle.ca_verilog.specs.IsNetlist.{range_width, bit_count, IsPort}
use Rattle.ca_linked.specs.declared.parts.PortBit.{PortBit}
use Rattle.ca_wiring.specs.Wiring.{bit_name, is_input_port, HeaderBit, header_bits_from, header_bits_of}
use Rattle.ca_wiring.specs.Wiring.{header_bits}
use Rattle.ca_draft.specs.OnWires.{AreFirsts}
use Rattle.ca_draft.specs.code.OnWires.{header_of}
use Rattle.ca_linked.proofs.EndLemmas.{take_more}

-- the bits of some names, and of others after them
pub count_append : (buses more : List RawBus) → bit_count (buses ++ more) ≡ bit_count buses + bit_count more
count_append [] more = omega arith
count_append (bus ∷ buses) more = let e = count_append buses more in omega (arith, e)

-- the bits of the first names, with those of the next
pub count_more : (buses : List RawBus) (k : ℕ) (bus : RawBus) → slice_get buses k ≡ Some bus
    → bit_count (take (k + 1) buses) ≡ bit_count (take k buses) + range_width bus.range
count_more buses k bus at =
    ap bit_count (take_more buses k bus at) ∙ count_append (take k buses) (bus ∷ [])
    ∙ (let e : bit_count (take k buses) + (range_width bus.range + 0) ≡ bit_count (take k buses) + range_width bus.range = omega arith in e)

-- they are among all bits
pub count_within : (buses : List RawBus) (k : ℕ) (bus : RawBus) → slice_get buses k ≡ Some bus
    → bit_count (take k buses) + range_width bus.range ≤ bit_count buses
count_within [] k bus at = absurd (let lt = slice_get_within [] k bus at in omega (arith, lt))
count_within (first ∷ buses) zero bus at =
    let same : first ≡ bus = cc in
    let e = ap (λ (b : RawBus). range_width b.range) same in
    omega (arith, e)
count_within (first ∷ buses) (suc k) bus at = let le = count_within buses k bus at in omega (arith, le)

pub count_all : (buses : List RawBus) (k : ℕ) → length buses ≤ k → bit_count (take k buses) ≡ bit_count buses
count_all [] k le = by k
  where
    by : (n : ℕ) → bit_count (take n []) ≡ 0
    by zero = refl
    by (suc n) = refl
count_all (bus ∷ buses) zero le = absurd (omega (arith, le))
count_all (bus ∷ buses) (suc k) le = ap (λ n. range_width bus.range + n) (count_all buses k (omega (arith, le)))

module _ (buses : List RawBus) where
  pub firsts_none : AreFirsts buses 0 []
  firsts_none = record { count = refl; at = λ place lt. absurd (omega (arith, lt)) }

  pub firsts_more : (k count : ℕ) (old new : List ℕ) → AreFirsts buses k old → count ≡ bit_count (take k buses)
      → new ≡ old ++ count ∷ [] → AreFirsts buses (k + 1) new
  firsts_more k count old new are is push = subst (AreFirsts buses (k + 1)) (sym push) (record {
    count = let c = are.count in let l = length_push old count in omega (arith, c, l);
    at = λ place lt. elim (ℕ_discrete place k) [
      | yes e ↦
          ap (λ n. get_or (old ++ count ∷ []) n 0) e ∙ get_or_push old count 0 k (let c = are.count in omega (arith, c))
          ∙ is ∙ ap (λ n. bit_count (take n buses)) (sym e)
      | no ne ↦
          get_or_append_left old (count ∷ []) 0 place (let c = are.count in omega (arith, c, lt))
          ∙ are.at place (omega arith)
    ];
  })

-- the next bit of a port
pub bits_step : (bus : RawBus) (first k count : ℕ) → k < count
    → header_bits_from bus first k (count - k)
    ≡ record { name = bit_name bus bus.range k; is_input = is_input_port bus.direction; wire = first + k }
    ∷ header_bits_from bus first (k + 1) (count - (k + 1))
bits_step bus first k count lt = ap (header_bits_from bus first k) (let e : count - k ≡ suc (count - (k + 1)) = omega arith in e)

pub port_more : (bus : RawBus) (first k count : ℕ) (port : PortBit) (old new : List PortBit) (all : List HeaderBit) → k < count
    → all ≡ map header_of old ++ header_bits_from bus first k (count - k)
    → port.name ≡ bit_name bus bus.range k → port.is_input ≡ is_input_port bus.direction → port.net ≡ first + k
    → new ≡ old ++ port ∷ []
    → all ≡ map header_of new ++ header_bits_from bus first (k + 1) (count - (k + 1))
port_more bus first k count port old new all lt before name is_input net push =
    before ∙ ap (λ l. map header_of old ++ l) (bits_step bus first k count lt)
    ∙ ap (λ (b : HeaderBit). map header_of old ++ b ∷ rest) (sym same)
    ∙ sym (append_assoc (map header_of old) (header_of port ∷ []) rest)
    ∙ ap (λ l. l ++ rest) (sym (map-append header_of old (port ∷ [])))
    ∙ ap (λ (l : List PortBit). map header_of l ++ rest) (sym push)
  where
    rest : List HeaderBit
    rest = header_bits_from bus first (k + 1) (count - (k + 1))

    same : header_of port ≡ record { name = bit_name bus bus.range k; is_input = is_input_port bus.direction; wire = first + k }
    same =
        ap (λ (n : List ℕ). let made : HeaderBit = record { name = n; is_input = port.is_input; wire = port.net } in made) name
        ∙ ap (λ i. let made : HeaderBit = record { name = bit_name bus bus.range k; is_input = i; wire = port.net } in made) is_input
        ∙ ap (λ (w : ℕ). let made : HeaderBit = record { name = bit_name bus bus.range k; is_input = is_input_port bus.direction; wire = w } in made) net

pub bits_end : (bus : RawBus) (first k count : ℕ) (l : List HeaderBit) → count ≤ k → l ++ header_bits_from bus first k (count - k) ≡ l
bits_end bus first k count l le =
    ap (λ n. l ++ header_bits_from bus first k n) (let e : count - k ≡ 0 = omega arith in e) ∙ append-nil l

module _ (buses : List RawBus) where
  -- the bits of the first ports, with those of the next
  pub header_more : (places : List ℕ) (p place : ℕ) (bus : RawBus) (first : ℕ) (old new : List HeaderBit) → slice_get places p ≡ Some place
      → slice_get buses place ≡ Some bus → first ≡ bit_count (take place buses)
      → old ≡ header_bits buses (take p places)
      → new ≡ old ++ header_bits_from bus first 0 (range_width bus.range)
      → new ≡ header_bits buses (take (p + 1) places)
  header_more places p place bus first old new at bus_at is before more =
      more ∙ ap₂ (λ l n. l ++ header_bits_from bus n 0 (range_width bus.range)) before is
      ∙ ap (λ o. header_bits buses (take p places) ++ header_bits_of buses place o) (sym bus_at)
      ∙ ap (λ l. header_bits buses (take p places) ++ l) (sym (append-nil (header_bits_of buses place (slice_get buses place))))
      ∙ sym (flat_map-append (λ n. header_bits_of buses n (slice_get buses n)) (take p places) (place ∷ []))
      ∙ ap (header_bits buses) (sym (take_more places p place at))

  -- each port bit is a declared one
  from_within : (bus : RawBus) (first k count most : ℕ) → first + (k + count) ≤ most
      → All (λ (bit : HeaderBit). bit.wire < most) (header_bits_from bus first k count)
  from_within bus first k zero most le = All-nil (λ (bit : HeaderBit). bit.wire < most)
  from_within bus first k (suc count) most le =
      All-cons (λ (bit : HeaderBit). bit.wire < most) _ _ (omega (arith, le)) (from_within bus first (k + 1) count most (omega (arith, le)))

  of_within : (place : ℕ) (o : Option RawBus) → slice_get buses place ≡ o
      → All (λ (bit : HeaderBit). bit.wire < bit_count buses) (header_bits_of buses place o)
  of_within place None at = All-nil (λ (bit : HeaderBit). bit.wire < bit_count buses)
  of_within place (Some bus) at =
      from_within bus (bit_count (take place buses)) 0 (range_width bus.range) (bit_count buses)
      (let le = count_within buses place bus at in omega (arith, le))

  pub header_within : (places : List ℕ) → All (λ (bit : HeaderBit). bit.wire < bit_count buses) (header_bits buses places)
  header_within [] = All-nil (λ (bit : HeaderBit). bit.wire < bit_count buses)
  header_within (place ∷ places) =
      All-append (λ (bit : HeaderBit). bit.wire < bit_count buses) (header_bits_of buses place (slice_get buses place)) (header_bits buses places)
      (of_within place (slice_get buses place) refl) (header_within places)

  -- the name of a port is declared
  pub port_within : (places : List ℕ) (p d : ℕ) → All (IsPort buses) places → p < length places → get_or places p d < length buses
  port_within places p d are lt = let is = are p d lt in slice_get_within buses (get_or places p d) is.0 is.1
