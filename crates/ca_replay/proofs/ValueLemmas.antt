-- States in which nodes take the values of another state.
use Rattle.std.proofs.Common.{◌≡◌, ℕ, zero, suc, ◌<◌, ◌⊎◌, List, [], ◌∷◌, length, inl, inr, refl, sym, ◌∙◌}
use Rattle.std.proofs.Common.{ap, subst, arith, get_or-set_same, get_or-set_other, length-set}
use Rattle.std.specs.Prelude.{slice_index_or, slice_set}
use Rattle.std.specs.List.{All, Contains}
use Rattle.std.proofs.lemmas.List.Elements.{All-nil, All-cons, All-head, All-tail}
use native.Mathlib.Decide.{ℕ_discrete}
use Rattle.ca_net.specs.declared.trit.Trit.{Trit}
use Rattle.ca_net.specs.declared.trit.Trit.TheVariants.{Zero, One, X}
use Rattle.ca_net.specs.declared.node.NodeId.{NodeId}
use Rattle.ca_net.specs.Trit.{meet_of}
use Rattle.ca_net.specs.State.{value_at}
use Rattle.ca_net.proofs.ReachingRun.{Trit-stable}
use Rattle.ca_order.specs.Allowed.{numbers}
use Rattle.ca_replay.specs.code.Kept.{with_values, met_with, IsWithin}

pub contains_head : (x : ℕ) (xs : List ℕ) → Contains (x ∷ xs) x
contains_head x xs = (0, omega arith, refl)

pub contains_tail : (x : ℕ) (xs : List ℕ) (n : ℕ) → Contains xs n → Contains (x ∷ xs) n
contains_tail x xs n has = (suc has.0, let lt = has.1 in omega arith, has.2)

pub contains_cons : (x : ℕ) (xs : List ℕ) (n : ℕ) → Contains (x ∷ xs) n → (x ≡ n) ⊎ Contains xs n
contains_cons x xs n has = by has.0 has.1 has.2
  where
    by : (k : ℕ) → k < length (x ∷ xs) → slice_index_or (x ∷ xs) k n ≡ n → (x ≡ n) ⊎ Contains xs n
    by zero lt is = inl is
    by (suc k) lt is = inr (k, omega arith, is)

-- nodes that are all in range
pub are_within : (count : ℕ) (nodes : List NodeId) → ((n : ℕ) → Contains (numbers nodes) n → n < count) → All (IsWithin count) nodes
are_within count [] given = All-nil (IsWithin count)
are_within count (node ∷ nodes) given =
    All-cons (IsWithin count) node nodes (given node.0 (contains_head node.0 (numbers nodes)))
    (are_within count nodes (λ n has. given n (contains_tail node.0 (numbers nodes) n has)))

-- the nodes after the first are in range after a value was written
pub later_within : (s : List Trit) (node : NodeId) (nodes : List NodeId) (v : Trit) → All (IsWithin (length s)) (node ∷ nodes)
    → All (IsWithin (length (slice_set s node.0 v))) nodes
later_within s node nodes v within =
    subst (λ count. All (IsWithin count) nodes) (sym (length-set s node.0 v)) (All-tail (IsWithin (length s)) node nodes within)

pub length-with_values : (from : List Trit) (nodes : List NodeId) (s : List Trit) → length (with_values from nodes s) ≡ length s
length-with_values from [] s = refl
length-with_values from (node ∷ nodes) s =
    length-with_values from nodes (slice_set s node.0 (value_at from node.0)) ∙ length-set s node.0 (value_at from node.0)

-- other nodes keep their values
pub with_others : (from : List Trit) (nodes : List NodeId) (s : List Trit) (n : ℕ) → (Contains (numbers nodes) n → ⊥)
    → value_at (with_values from nodes s) n ≡ value_at s n
with_others from [] s n out = refl
with_others from (node ∷ nodes) s n out =
    with_others from nodes (slice_set s node.0 (value_at from node.0)) n (λ has. out (contains_tail node.0 (numbers nodes) n has))
    ∙ get_or-set_other s node.0 n (value_at from node.0) X
    (λ e. out (subst (λ x. Contains (node.0 ∷ numbers nodes) x) (sym e) (contains_head node.0 (numbers nodes))))

-- the nodes have the values of the other state
pub with_listed : (from : List Trit) (nodes : List NodeId) (s : List Trit) → All (IsWithin (length s)) nodes → (n : ℕ)
    → Contains (numbers nodes) n → value_at (with_values from nodes s) n ≡ value_at from n
with_listed from [] s within n has = let lt = has.1 in absurd (omega arith)
with_listed from (node ∷ nodes) s within n has = Trit-stable _ _ (λ no.
    let next = slice_set s node.0 (value_at from node.0) in
    let not_later : Contains (numbers nodes) n → ⊥ = λ later.
    no (with_listed from nodes next (later_within s node nodes (value_at from node.0) within) n later) in
    elim (contains_cons node.0 (numbers nodes) n has) [
      | inl e ↦ no (with_others from nodes next n not_later
          ∙ subst (λ x. value_at next x ≡ value_at from x) e
          (get_or-set_same s node.0 (value_at from node.0) X (All-head (IsWithin (length s)) node nodes within)))
      | inr later ↦ not_later later
    ])

pub meet_differs : (a b : Trit) → (a ≡ b → ⊥) → meet_of a b ≡ X
meet_differs Zero Zero differ = absurd (differ refl)
meet_differs Zero One differ = refl
meet_differs Zero X differ = refl
meet_differs One Zero differ = refl
meet_differs One One differ = absurd (differ refl)
meet_differs One X differ = refl
meet_differs X b differ = refl

pub meet_same : (a : Trit) → meet_of a a ≡ a
meet_same Zero = refl
meet_same One = refl
meet_same X = refl

meet_again : (a b : Trit) → meet_of (meet_of a b) b ≡ meet_of a b
meet_again Zero Zero = refl
meet_again Zero One = refl
meet_again Zero X = refl
meet_again One Zero = refl
meet_again One One = refl
meet_again One X = refl
meet_again X b = refl

pub length-met_with : (from : List Trit) (nodes : List NodeId) (s : List Trit) → length (met_with from nodes s) ≡ length s
length-met_with from [] s = refl
length-met_with from (node ∷ nodes) s =
    length-met_with from nodes (slice_set s node.0 (meet_of (value_at s node.0) (value_at from node.0)))
    ∙ length-set s node.0 (meet_of (value_at s node.0) (value_at from node.0))

pub met_others : (from : List Trit) (nodes : List NodeId) (s : List Trit) (n : ℕ) → (Contains (numbers nodes) n → ⊥)
    → value_at (met_with from nodes s) n ≡ value_at s n
met_others from [] s n out = refl
met_others from (node ∷ nodes) s n out =
    met_others from nodes (slice_set s node.0 (meet_of (value_at s node.0) (value_at from node.0))) n
    (λ has. out (contains_tail node.0 (numbers nodes) n has))
    ∙ get_or-set_other s node.0 n (meet_of (value_at s node.0) (value_at from node.0)) X
    (λ e. out (subst (λ x. Contains (node.0 ∷ numbers nodes) x) (sym e) (contains_head node.0 (numbers nodes))))

-- the nodes have the meets of both values
pub met_listed : (from : List Trit) (nodes : List NodeId) (s : List Trit) → All (IsWithin (length s)) nodes → (n : ℕ)
    → Contains (numbers nodes) n → value_at (met_with from nodes s) n ≡ meet_of (value_at s n) (value_at from n)
met_listed from [] s within n has = let lt = has.1 in absurd (omega arith)
met_listed from (node ∷ nodes) s within n has =
    let met = meet_of (value_at s node.0) (value_at from node.0) in
    let next = slice_set s node.0 met in
    let later_in = later_within s node nodes met within in
    elim (ℕ_discrete n node.0) [
      | yes e ↦
          let here : value_at next n ≡ meet_of (value_at s n) (value_at from n) =
          subst (λ x. value_at next x ≡ meet_of (value_at s x) (value_at from x)) (sym e)
          (get_or-set_same s node.0 met X (All-head (IsWithin (length s)) node nodes within)) in
          Trit-stable _ _ (λ no.
          let not_later : Contains (numbers nodes) n → ⊥ = λ later.
          no (met_listed from nodes next later_in n later ∙ (ap (λ x. meet_of x (value_at from n)) here ∙ meet_again (value_at s n) (value_at from n))) in
          no (met_others from nodes next n not_later ∙ here))
      | no ne ↦ elim (contains_cons node.0 (numbers nodes) n has) [
        | inl e ↦ absurd (ne (sym e))
        | inr later ↦ met_listed from nodes next later_in n later
            ∙ ap (λ x. meet_of x (value_at from n)) (get_or-set_other s node.0 n met X ne)
      ]
    ]
