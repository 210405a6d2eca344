-- How the wires that nets stand on are listed.
use Rattle.std.proofs.Common.{◌≡◌, ℕ, zero, suc, ◌+◌, ◌-◌, ◌<◌, ◌≤◌, List, [], ◌∷◌, ◌++◌, map, refl, sym}
use Rattle.std.proofs.Common.{◌∙◌, ap, ap₂, arith}
use Rattle.std.specs.Prelude.{Some, slice_get, take}
use Rattle.std.proofs.lemmas.List.{append_assoc, append-nil, map-append}
use Rattle.std.proofs.lemmas.Grind.{flat_map-append}
use Rattle.ca_verilog.specs.declared.raw.RawBus.{RawBus}
use Rattle.ca_verilog.specs.IsNetlist.{range_width, bit_count}
use Rattle.ca_wiring.specs.Wiring.{HeaderBit, header_bits, header_bits_from, header_bits_of}
use Rattle.ca_linked.proofs.EndLemmas.{take_more}
use Rattle.ca_fault_place.specs.code.Touched.{wires_from}

-- the next of this many wires
pub from_step : (first k count : ℕ) → k < count
    → wires_from (first + k) (count - k) ≡ (first + k) ∷ wires_from (first + (k + 1)) (count - (k + 1))
from_step first k count lt =
    ap (wires_from (first + k)) (let e : count - k ≡ suc (count - (k + 1)) = omega arith in e)
    ∙ ap (λ n. (first + k) ∷ wires_from n (count - (k + 1))) (let e : first + k + 1 ≡ first + (k + 1) = omega arith in e)

pub from_more : (first k count : ℕ) (old new all : List ℕ) → k < count
    → old ++ wires_from (first + k) (count - k) ≡ all → new ≡ old ++ (first + k) ∷ []
    → new ++ wires_from (first + (k + 1)) (count - (k + 1)) ≡ all
from_more first k count old new all lt before push =
    ap (λ l. l ++ wires_from (first + (k + 1)) (count - (k + 1))) push
    ∙ append_assoc old ((first + k) ∷ []) (wires_from (first + (k + 1)) (count - (k + 1)))
    ∙ ap (λ l. old ++ l) (sym (from_step first k count lt)) ∙ before

pub from_end : (first k count : ℕ) (wires all : List ℕ) → count ≤ k
    → wires ++ wires_from (first + k) (count - k) ≡ all → wires ≡ all
from_end first k count wires all le before =
    sym (append-nil wires)
    ∙ ap (λ n. wires ++ wires_from (first + k) n) (let e : 0 ≡ count - k = omega arith in e) ∙ before

-- the wires of a port's bits
pub from_bits : (bus : RawBus) (first k count : ℕ)
    → map (λ (bit : HeaderBit). bit.wire) (header_bits_from bus first k count) ≡ wires_from (first + k) count
from_bits bus first k zero = refl
from_bits bus first k (suc count) =
    ap (λ l. (first + k) ∷ l) (from_bits bus first (k + 1) count
    ∙ ap (λ n. wires_from n count) (let e : first + (k + 1) ≡ first + k + 1 = omega arith in e))

-- the bits of one more port
pub ports_more : (buses : List RawBus) (places : List ℕ) (p place : ℕ) (bus : RawBus) (first width : ℕ) (start old new : List ℕ)
    → slice_get places p ≡ Some place → slice_get buses place ≡ Some bus → first ≡ bit_count (take place buses)
    → width ≡ range_width bus.range
    → old ≡ start ++ map (λ (bit : HeaderBit). bit.wire) (header_bits buses (take p places))
    → new ≡ old ++ wires_from first width
    → new ≡ start ++ map (λ (bit : HeaderBit). bit.wire) (header_bits buses (take (p + 1) places))
ports_more buses places p place bus first width start old new at bus_at is wide before push =
    push ∙ ap (λ l. l ++ wires_from first width) before
    ∙ append_assoc start (map (λ (bit : HeaderBit). bit.wire) (header_bits buses (take p places))) (wires_from first width)
    ∙ ap (λ l. start ++ (map (λ (bit : HeaderBit). bit.wire) (header_bits buses (take p places)) ++ l)) port
    ∙ ap (λ l. start ++ l) (sym (map-append (λ (bit : HeaderBit). bit.wire) (header_bits buses (take p places))
    (header_bits_from bus (bit_count (take place buses)) 0 (range_width bus.range))))
    ∙ ap (λ l. start ++ map (λ (bit : HeaderBit). bit.wire) l) more
  where
    port : wires_from first width
        ≡ map (λ (bit : HeaderBit). bit.wire) (header_bits_from bus (bit_count (take place buses)) 0 (range_width bus.range))
    port =
        ap₂ wires_from (let e : first ≡ bit_count (take place buses) + 0 = omega (arith, is) in e) wide
        ∙ sym (from_bits bus (bit_count (take place buses)) 0 (range_width bus.range))

    more : header_bits buses (take p places) ++ header_bits_from bus (bit_count (take place buses)) 0 (range_width bus.range)
        ≡ header_bits buses (take (p + 1) places)
    more =
        ap (λ o. header_bits buses (take p places) ++ header_bits_of buses place o) (sym bus_at)
        ∙ ap (λ l. header_bits buses (take p places) ++ l) (sym (append-nil (header_bits_of buses place (slice_get buses place))))
        ∙ sym (flat_map-append (λ n. header_bits_of buses n (slice_get buses n)) (take p places) (place ∷ []))
        ∙ ap (header_bits buses) (sym (take_more places p place at))
