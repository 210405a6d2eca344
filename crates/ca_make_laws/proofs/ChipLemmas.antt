-- The gates and the outputs of a generated chip are in range.
use Rattle.std.proofs.Common.{◌≡◌, ℕ, zero, suc, ◌+◌, ◌<◌, ◌≤◌, ◌==◌, ◌%◌, Bool, true, false, not, List, []}
use Rattle.std.proofs.Common.{◌∷◌}
use Rattle.std.proofs.Common.{if◌then◌else◌, length, cond, filter, arith}
use Rattle.std.specs.List.{All, range_with_len}
use Rattle.std.proofs.lemmas.List.Elements.{All-nil, All-cons, All-filter}
use Rattle.std.proofs.lemmas.List.FromFn.{length-range_with_len}
use Rattle.ca_make.specs.declared.gate.Gate.{Gate}
use Rattle.ca_make.specs.declared.gate.Gate.TheVariants as gate
use Rattle.ca_make.specs.declared.gate.TheConstants.{INPUTS, MOST_GATES}
use Rattle.ca_make.specs.Draw.{next_state, drawn, place_from, gate_of_kind, gate_from, state_after}
use Rattle.ca_make.specs.Draw.{gates_from}
use Rattle.ca_make.specs.Chip.{is_loaded, gates_of, unloaded}
use Rattle.ca_make.specs.code.Chip.{IsWithin}
use Rattle.ca_make_laws.proofs.SpelledLemmas.{AreSpelled}

-- as many gates as are drawn
pub length_gates : (state candidates count : ℕ) → length (gates_from state candidates count) ≡ count
length_gates state candidates zero = let e : 0 ≡ 0 = omega arith in e
length_gates state candidates (suc count) =
    let e = length_gates (state_after (gate_from state candidates) state) (candidates + 1) count in omega (arith, e)

-- a place is among the candidates
place_within : (state candidates : ℕ) → 0 < candidates → place_from state candidates < candidates
place_within state candidates some = omega (arith, some)

kind_within : (kind state candidates : ℕ) → 0 < candidates → IsWithin candidates (gate_of_kind kind state candidates)
kind_within kind state candidates some = by (kind == 0) (kind == 1)
  where
    by : (b c : Bool) → IsWithin candidates (if b then gate.Inv (place_from state candidates)
        else if c then gate.Nand2 (place_from state candidates) (place_from (next_state state) candidates)
        else gate.Nor2 (place_from state candidates) (place_from (next_state state) candidates))
    by true c = place_within state candidates some
    by false true = (place_within state candidates some, place_within (next_state state) candidates some)
    by false false = (place_within state candidates some, place_within (next_state state) candidates some)

pub gate_within : (state candidates : ℕ) → 0 < candidates → IsWithin candidates (gate_from state candidates)
unfolding gate_from
gate_within state candidates some = kind_within (drawn (next_state state) % 3) (next_state state) candidates some

-- a gate among some candidates is among more
pub within_more : (few many : ℕ) (it : Gate) → few ≤ many → IsWithin few it → IsWithin many it
within_more few many (gate.Inv a) le within = omega (arith, le, within)
within_more few many (gate.Nand2 a b) le within =
    (let first = within.0 in omega (arith, le, first), let second = within.1 in omega (arith, le, second))
within_more few many (gate.Nor2 a b) le within =
    (let first = within.0 in omega (arith, le, first), let second = within.1 in omega (arith, le, second))

gates_within : (state candidates count most : ℕ) → 0 < candidates → candidates + count ≤ most
    → All (IsWithin most) (gates_from state candidates count)
gates_within state candidates zero most some le = All-nil (IsWithin most)
gates_within state candidates (suc count) most some le =
    All-cons (IsWithin most) (gate_from state candidates) _
    (within_more candidates most (gate_from state candidates) (omega (arith, le)) (gate_within state candidates some))
    (gates_within (state_after (gate_from state candidates) state) (candidates + 1) count most (omega arith) (omega (arith, le)))

range_below : (from count most : ℕ) → from + count ≤ most → All (λ k. k < most) (range_with_len from count)
range_below from zero most le = All-nil (λ k. k < most)
range_below from (suc count) most le =
    All-cons (λ k. k < most) from (range_with_len (from + 1) count) (omega (arith, le))
    (range_below (from + 1) count most (omega (arith, le)))

fewer : (test : ℕ → Bool) (xs : List ℕ) → length (filter test xs) ≤ length xs
fewer test [] = omega arith
fewer test (x ∷ xs) = by (test x) (fewer test xs)
  where
    by : (b : Bool) → length (filter test xs) ≤ length xs
        → length (cond b (x ∷ filter test xs) (filter test xs)) ≤ length (x ∷ xs)
    by true le = omega (arith, le)
    by false le = omega (arith, le)

pub are_spelled : (n : ℕ) → n ≤ MOST_GATES → AreSpelled (gates_of n) (unloaded (gates_of n))
unfolding gates_of
are_spelled n le =
    let count : length (gates_from n INPUTS n) ≡ n = length_gates n INPUTS n in
    let gates = gates_from n INPUTS n in
    let test : ℕ → Bool = λ k. not (is_loaded gates (INPUTS + k)) in
    record {
      few = omega (arith, count, le);
      few_outputs =
          let few = fewer test (range_with_len 0 (length gates)) in
          let len = length-range_with_len 0 (length gates) in
          omega (arith, few, len);
      within = gates_within n INPUTS n (INPUTS + length gates) (omega arith) (omega (arith, count));
      driven = All-filter test (λ k. k < length gates) (range_with_len 0 (length gates))
          (range_below 0 (length gates) (length gates) (omega arith));
    }
