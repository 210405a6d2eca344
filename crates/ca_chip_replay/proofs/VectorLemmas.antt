-- Vectors of a flat network: one node after another is given its value.
use Rattle.std.proofs.Common.{◌≡◌, ℕ, zero, suc, ◌+◌, ◌<◌, ◌≤◌, ◌==◌, List, ◌∷◌, length, drop, replicate}
use Rattle.std.proofs.Common.{slice_set, Some, inl, inr, refl, sym, ◌∙◌, ap, arith, eq-eqb}
use Rattle.std.specs.Prelude.{cond, slice_get, slice_index}
use Rattle.std.proofs.lemmas.Bool.{cases_eq, cases_lt, cond-true, cond-false}
use Rattle.std.proofs.lemmas.List.{get_or-replicate, get_or_past, length-replicate, length-set}
use Rattle.std.proofs.lemmas.List.{get_or-set_same, get_or-set_other}
use Rattle.std.proofs.lemmas.Option.{get_or_from_slice_get, slice_get_within}
use Rattle.std.proofs.Math.Seq.{drop-cons}
use Rattle.ca_net.specs.declared.trit.Trit.{Trit}
use Rattle.ca_net.specs.declared.trit.Trit.TheVariants.{Zero, One, X}
use Rattle.ca_net.specs.State.{value_at}
use Rattle.ca_flat.specs.Chip.{Chip, Constant}
use Rattle.ca_flat.specs.Pair.{input_value, constant_value, values_from, values_of, flat_vector}
use Rattle.ca_flat.proofs.PairLemmas.{vector_value}
use Rattle.ca_sim.proofs.Feeding.{neq-eqb}
use Rattle.ca_chip_replay.specs.code.Kept.{unknown_nets, IsVector, HaveOneValue}

-- power and ground alone
pub rails_known : (nodes : ℕ) (old power new : List Trit) → 2 ≤ nodes → old ≡ replicate nodes X → power ≡ slice_set old 0 One
    → new ≡ slice_set power 1 Zero → IsVector nodes 0 unknown_nets new
rails_known nodes old power new two old_is power_is new_is = record {
  count = count;
  power = ap (λ l. value_at l 0) new_is ∙ get_or-set_other power 1 0 Zero X (λ e. absurd (omega (arith, e)))
      ∙ ap (λ l. value_at l 0) power_is ∙ get_or-set_same old 0 One X (let l = old_count in omega (arith, l, two));
  ground = ap (λ l. value_at l 1) new_is ∙ get_or-set_same power 1 Zero X (let l = power_count in omega (arith, l, two));
  each = λ net lt. absurd (omega (arith, lt));
  past = λ n far.
      ap (λ l. value_at l n) new_is ∙ get_or-set_other power 1 n Zero X (λ e. absurd (omega (arith, e, far)))
      ∙ ap (λ l. value_at l n) power_is ∙ get_or-set_other old 0 n One X (λ e. absurd (omega (arith, e, far)))
      ∙ ap (λ l. value_at l n) old_is ∙ unset n;
}
  where
    old_count : length old ≡ nodes
    old_count = ap length old_is ∙ length-replicate nodes X

    power_count : length power ≡ nodes
    power_count = ap length power_is ∙ length-set old 0 One ∙ old_count

    count : length new ≡ nodes
    count = ap length new_is ∙ length-set power 1 Zero ∙ power_count

    unset : (n : ℕ) → value_at (replicate nodes X) n ≡ X
    unset n = elim (cases_lt n nodes) [
      | inl within ↦ get_or-replicate nodes n X X within
      | inr far ↦ get_or_past (replicate nodes X) n X (let l = length-replicate nodes X in omega arith)
    ]

-- then nothing is known of the nets
pub nets_unknown : (nodes nets : ℕ) (vector : List Trit) → IsVector nodes 0 unknown_nets vector → IsVector nodes nets unknown_nets vector
nets_unknown nodes nets vector is = record {
  count = is.count;
  power = is.power;
  ground = is.ground;
  each = λ net lt. is.past (2 + net) (omega arith);
  past = λ n far. is.past n (omega arith);
}

-- one net is given a value
pub net_set : (nodes nets net : ℕ) (v : Trit) (old_value new_value : ℕ → Trit) (old new : List Trit) → 2 + nets ≤ nodes → net < nets
    → new ≡ slice_set old (2 + net) v → ((m : ℕ) → new_value m ≡ cond (m == net) v (old_value m))
    → IsVector nodes nets old_value old → IsVector nodes nets new_value new
net_set nodes nets net v old_value new_value old new fits lt new_is value_is is = record {
  count = ap length new_is ∙ length-set old (2 + net) v ∙ is.count;
  power = other 0 (λ e. absurd (omega (arith, e))) ∙ is.power;
  ground = other 1 (λ e. absurd (omega (arith, e))) ∙ is.ground;
  each = λ m within. elim (cases_eq m net) [
    | inl e ↦
        ap (λ k. value_at new (2 + k)) e ∙ ap (λ l. value_at l (2 + net)) new_is
        ∙ get_or-set_same old (2 + net) v X (let count = is.count in omega arith)
        ∙ sym (cond-true (m == net) v (old_value m) (eq-eqb m net e)) ∙ sym (value_is m)
    | inr apart ↦
        other (2 + m) (λ e. apart (omega (arith, e))) ∙ is.each m within
        ∙ sym (cond-false (m == net) v (old_value m) (neq-eqb m net apart)) ∙ sym (value_is m)
  ];
  past = λ n far. other n (λ e. absurd (omega (arith, e, far))) ∙ is.past n far;
}
  where
    other : (n : ℕ) → (n ≡ 2 + net → ⊥) → value_at new n ≡ value_at old n
    other n apart = ap (λ l. value_at l n) new_is ∙ get_or-set_other old (2 + net) n v X apart

length-values_from : (value : ℕ → Trit) (j k : ℕ) → length (values_from value j k) ≡ k
unfolding values_from
length-values_from value j zero = refl
length-values_from value j (suc k) = ap suc (length-values_from value (j + 1) k)

-- the vector is that of the flat network
pub one_value : (chip : Chip) (value : ℕ → Trit) (nodes : ℕ) (vector : List Trit) → IsVector nodes (length chip.nets) value vector
    → HaveOneValue vector (flat_vector (values_of chip value))
one_value chip value nodes vector is zero = is.power
one_value chip value nodes vector is (suc zero) = is.ground
one_value chip value nodes vector is (suc (suc n)) = elim (cases_lt n (length chip.nets)) [
  | inl within ↦
      let e : suc (suc n) ≡ 2 + n = omega arith in
      ap (value_at vector) e ∙ is.each n within ∙ sym (ap (value_at (flat_vector (values_of chip value))) e ∙ vector_value chip value n within)
  | inr far ↦ is.past (suc (suc n)) (omega arith) ∙ sym (get_or_past (flat_vector (values_of chip value)) (suc (suc n)) X
      (let l = length-values_from value 0 (length chip.nets) in omega arith))
]

module _ (nodes nets : ℕ) (fits : 2 + nets ≤ nodes) where
  -- one input more, which stands before the others
  pub input_set : (inputs : List ℕ) (bits : List Trit) (from k net : ℕ) (v : Trit) (old new : List Trit) → k < length inputs → net ≡ slice_index inputs k
      → net < nets → v ≡ value_at bits (from + k) → new ≡ slice_set old (2 + net) v
      → IsVector nodes nets (input_value (drop (suc k) inputs) bits (from + suc k)) old
      → IsVector nodes nets (input_value (drop k inputs) bits (from + k)) new
  input_set inputs bits from k net v old new lt net_is within v_is new_is is =
      net_set nodes nets net v _ _ old new fits within new_is (λ m.
      ap (λ l. input_value l bits (from + k) m) (drop-cons inputs k 0 lt)
      ∙ ap (λ (x : ℕ). cond (m == x) (value_at bits (from + k)) (input_value (drop (suc k) inputs) bits (from + k + 1) m)) (sym net_is)
      ∙ ap (λ (x : Trit). cond (m == net) x (input_value (drop (suc k) inputs) bits (from + k + 1) m)) (sym v_is)
      ∙ ap (λ (b : ℕ). cond (m == net) v (input_value (drop (suc k) inputs) bits b m)) (let e : from + k + 1 ≡ from + suc k = omega arith in e)) is

  -- one constant more, which stands before the others
  pub constant_set : (constants : List Constant) (other : ℕ → Trit) (k : ℕ) (constant : Constant) (old new : List Trit) → slice_get constants k ≡ Some constant
      → constant.net < nets → new ≡ slice_set old (2 + constant.net) constant.value
      → IsVector nodes nets (λ net. constant_value (drop (suc k) constants) (other net) net) old
      → IsVector nodes nets (λ net. constant_value (drop k constants) (other net) net) new
  constant_set constants other k constant old new at within new_is is =
      net_set nodes nets constant.net constant.value _ _ old new fits within new_is (λ m. ap (λ l. constant_value l (other m) m) split) is
    where
      split : drop k constants ≡ constant ∷ drop (suc k) constants
      split = drop-cons constants k constant (slice_get_within constants k constant at)
          ∙ ap (λ c. c ∷ drop (suc k) constants) (get_or_from_slice_get constants k constant constant at)
