-- The gates that are drawn, one after another.
use Rattle.std.proofs.Common.{◌≡◌, ℕ, zero, suc, ◌+◌, ◌-◌, ◌<◌, ◌≤◌, List, [], ◌∷◌, ◌++◌, sym, ◌∙◌, ap, subst}
use Rattle.std.proofs.Common.{arith, append_assoc}
use Rattle.std.specs.List.{All}
use Rattle.std.proofs.lemmas.List.{append-nil}
use Rattle.std.proofs.lemmas.List.Elements.{All-push}
use Rattle.ca_make.specs.declared.gate.TheConstants.{INPUTS}
use Rattle.ca_make.specs.declared.gate.Gate.{Gate}
use Rattle.ca_make.specs.declared.gate.Gate.TheVariants as gate
use Rattle.ca_make.specs.Draw.{gate_from, state_after, gates_from}
use Rattle.ca_make.specs.code.Chip.{IsWithin}

-- a gate among some candidates is among more
within_more : (few many : ℕ) (it : Gate) → few ≤ many → IsWithin few it → IsWithin many it
within_more few many (gate.Inv a) le within = omega (arith, le, within)
within_more few many (gate.Nand2 a b) le within =
    (let first = within.0 in omega (arith, le, first), let second = within.1 in omega (arith, le, second))
within_more few many (gate.Nor2 a b) le within =
    (let first = within.0 in omega (arith, le, first), let second = within.1 in omega (arith, le, second))

-- gates that are all those of a list with those that are still drawn are so with the next as well
gates_more : (state next candidates left : ℕ) (gates : List Gate) (it : Gate) (all : List Gate)
    → 0 < left → it ≡ gate_from state candidates → next ≡ state_after it state
    → gates ++ gates_from state candidates left ≡ all
    → (gates ++ it ∷ []) ++ gates_from next (candidates + 1) (left - 1) ≡ all
gates_more state next candidates zero gates it all lt is following so_far = absurd (omega (arith, lt))
gates_more state next candidates (suc left) gates it all lt is following so_far =
    append_assoc gates (it ∷ []) (gates_from next (candidates + 1) (suc left - 1))
    ∙ ap (λ s. gates ++ (it ∷ gates_from s (candidates + 1) (suc left - 1))) following
    ∙ ap (λ g. gates ++ (g ∷ gates_from (state_after g state) (candidates + 1) (suc left - 1))) is
    ∙ ap (λ n. gates ++ (gate_from state candidates ∷ gates_from (state_after (gate_from state candidates) state) (candidates + 1) n))
    (let e : suc left - 1 ≡ left = omega arith in e)
    ∙ so_far

-- the same along the numbers of the gates
pub gates_next : (k n state next : ℕ) (gates after : List Gate) (it : Gate) (all : List Gate)
    → k < n → after ≡ gates ++ it ∷ [] → it ≡ gate_from state (INPUTS + k) → next ≡ state_after it state
    → gates ++ gates_from state (INPUTS + k) (n - k) ≡ all
    → after ++ gates_from next (INPUTS + (k + 1)) (n - (k + 1)) ≡ all
gates_next k n state next gates after it all lt more is following so_far =
    ap (λ list. list ++ gates_from next (INPUTS + (k + 1)) (n - (k + 1))) more
    ∙ ap (λ c. (gates ++ it ∷ []) ++ gates_from next c (n - (k + 1)))
    (let e : INPUTS + (k + 1) ≡ INPUTS + k + 1 = omega arith in e)
    ∙ ap (λ left. (gates ++ it ∷ []) ++ gates_from next (INPUTS + k + 1) left)
    (let e : n - (k + 1) ≡ n - k - 1 = omega arith in e)
    ∙ gates_more state next (INPUTS + k) (n - k) gates it all (omega (arith, lt)) is following so_far

-- with none left they are all
pub gates_end : (k n state candidates : ℕ) (gates all : List Gate) → n ≤ k
    → gates ++ gates_from state candidates (n - k) ≡ all → gates ≡ all
gates_end k n state candidates gates all le so_far =
    sym (append-nil gates)
    ∙ ap (λ left. gates ++ gates_from state candidates left) (let e : 0 ≡ n - k = omega (arith, le) in e)
    ∙ so_far

-- all of them are among the candidates
pub all_next : (k n : ℕ) (gates after : List Gate) (it : Gate) → k < n → after ≡ gates ++ it ∷ []
    → IsWithin (INPUTS + k) it → All (IsWithin (INPUTS + n)) gates → All (IsWithin (INPUTS + n)) after
all_next k n gates after it lt more within all =
    subst (All (IsWithin (INPUTS + n))) (sym more)
    (All-push (IsWithin (INPUTS + n)) gates it all
    (within_more (INPUTS + k) (INPUTS + n) it (omega (arith, lt)) within))
